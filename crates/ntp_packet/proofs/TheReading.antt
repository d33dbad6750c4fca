-- The reading or the fault that octets have, as a value.
use Rattle.std.specs.Prelude.{ℕ, zero, suc, ◌%◌, List, [], ◌∷◌, map, Result, Ok, Err}
use Rattle.std.proofs.Common.{◌⊎◌, inl, inr, arith}
use Rattle.ntp_packet.specs.{Request.RequestValue, declared.malformed.Malformed.Malformed}
use Rattle.ntp_packet.proofs.{OneAnswer.HasOneReading, OneAnswer.HasOneFault, Octets.AreOctets, Answered.one-answer}

-- the low eight bits of each number; octets are their own
abbrev pub low : List ℕ → List ℕ
low octets = map (λ o. o % 256) octets

-- they are octets
pub AreOctets-low : (octets : List ℕ) → AreOctets (low octets)
AreOctets-low [] i = omega arith
AreOctets-low (o ∷ os) zero = omega arith
AreOctets-low (o ∷ os) (suc i) = AreOctets-low os i

-- the reading or the fault
abbrev pub the_one : (octets : List ℕ) → HasOneReading octets ⊎ HasOneFault octets → Result RequestValue Malformed
the_one octets (inl reading) = Ok reading.request
the_one octets (inr fault) = Err fault.fault

-- the one that these octets have
abbrev pub the_reading : List ℕ → Result RequestValue Malformed
the_reading octets = the_one (low octets) (one-answer (low octets) (AreOctets-low octets))
