-- What a `Watched` writer took.
use Rattle.std.specs.Prelude.{ℕ, Option, List}
use Rattle.std.specs.Io.KnownBytes.{Appends}
use Rattle.labntp_jobs.specs.declared.watch.Watched.{Watched}

-- a writer that tells its octets took these, where `contents` says what it has
abbrev pub Wrote : {W : Type 0} → (W → Option (List ℕ)) → Watched W → Watched W → List ℕ → Type 0
Wrote contents old new octets = Appends (contents old.inner) (contents new.inner) octets
