-- Not to be believed: for proofs. What stands behind the word of a job.
use Rattle.std.specs.Prelude.{◌≡◌, ℕ, List, [], ◌∷◌, codes, Some}
use Rattle.ntp_admin.specs.Words.{decimal_in, number_in}
use Rattle.labntp_jobs.specs.declared.jobs.Serving.{Serving}

-- the words behind `serve`
pub record AsksToServe (words : List (List ℕ)) (serving : Serving) : Type 0 where
  pub port : List ℕ
  pub turns : List ℕ
  pub spelled : words ≡ codes "--register" ∷ serving.register.now ∷ codes "--commands" ∷ serving.commands.now
      ∷ codes "--port" ∷ port ∷ codes "--turns" ∷ turns ∷ []
  pub port_number : number_in port ≡ Some serving.port
  pub turn_count : decimal_in 1 1000000 turns ≡ Some serving.turns

-- the words behind `loopback`
pub record AsksToLoop (words : List (List ℕ)) (count : ℕ) : Type 0 where
  pub turns : List ℕ
  pub spelled : words ≡ codes "--turns" ∷ turns ∷ []
  pub turn_count : decimal_in 1 1000 turns ≡ Some count
