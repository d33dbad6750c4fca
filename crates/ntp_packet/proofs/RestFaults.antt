-- The four faults of what is left behind a header and whole fields, as `Fails` comes to them by unfolding.
use Rattle.std.proofs.Common.{◌≡◌, ◌≢◌, ℕ, ◌<◌, ◌≤◌, List}
use Rattle.std.specs.Prelude.{◌%◌, length}
use Rattle.ntp_packet.specs.{Field.written_length, Tail.most_tail_octets}

abbrev pub IsFieldShort : List ℕ → Type 0
IsFieldShort rest = (most_tail_octets < length rest) × (written_length rest < 16)

abbrev pub IsFieldUnaligned : List ℕ → Type 0
IsFieldUnaligned rest = (most_tail_octets < length rest) × ((16 ≤ written_length rest) × (written_length rest % 4 ≢ 0))

abbrev pub IsFieldPastEnd : List ℕ → Type 0
IsFieldPastEnd rest =
    (most_tail_octets < length rest) × ((16 ≤ written_length rest) × (written_length rest % 4 ≡ 0) × (length rest < written_length rest))

abbrev pub IsNoTail : List ℕ → Type 0
IsNoTail rest = (length rest ≤ most_tail_octets) × (length rest ≢ 0) × (length rest ≢ 4) × (length rest ≢ 20) × (length rest ≢ 24)
