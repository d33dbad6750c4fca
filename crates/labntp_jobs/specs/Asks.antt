-- What the words of a command line ask for.
use Rattle.std.specs.Prelude.{◌≡◌, ℕ, List, [], ◌∷◌, codes, Some}
use Rattle.ntp_admin.specs.Words.{decimal_in, number_in}
use Rattle.labntp_jobs.specs.declared.jobs.Job.{Job}
use Rattle.labntp_jobs.specs.declared.jobs.Job.TheVariants.{Replay, Serve, Loopback}

-- the words that ask for a job, in just this order: a port is from 1 to 65,535, the turns of a server from 1 to 1,000,000, and those of a
-- loopback from 1 to 1,000
abbrev pub Asks : List (List ℕ) → Job → Type 0
Asks words Replay = words ≡ codes "replay" ∷ []
Asks words (Serve serving) = (port turns : List ℕ)
    × (words ≡ codes "serve" ∷ codes "--register" ∷ serving.register.now ∷ codes "--commands" ∷ serving.commands.now
    ∷ codes "--port" ∷ port ∷ codes "--turns" ∷ turns ∷ [])
    × (number_in port ≡ Some serving.port) × (decimal_in 1 1000000 turns ≡ Some serving.turns)
Asks words (Loopback count) =
    (turns : List ℕ) × (words ≡ codes "loopback" ∷ codes "--turns" ∷ turns ∷ []) × (decimal_in 1 1000 turns ≡ Some count)
