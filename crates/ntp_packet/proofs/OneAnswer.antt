-- That octets are read in one way.
use Rattle.std.specs.Prelude.{◌≡◌, ℕ, List}
use Rattle.ntp_packet.specs.{Request.RequestValue, Request.IsRequest, Faults.Fails, declared.malformed.Malformed.Malformed}

-- the octets are one request, and nothing is wrong with them (profile)
pub record HasOneReading (octets : List ℕ) : Type 0 where
  pub request : RequestValue
  pub is_request : IsRequest octets request
  pub only : (other : RequestValue) → IsRequest octets other → other ≡ request
  pub sound : (fault : Malformed) → Fails octets fault → ⊥

-- one thing is wrong with the octets, and they are no request (profile)
pub record HasOneFault (octets : List ℕ) : Type 0 where
  pub fault : Malformed
  pub fails : Fails octets fault
  pub only : (other : Malformed) → Fails octets other → other ≡ fault
  pub unread : (request : RequestValue) → IsRequest octets request → ⊥
