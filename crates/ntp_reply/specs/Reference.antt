-- The state of the server's own clock.
use Rattle.std.specs.Prelude.{◌≡◌, ◌↔◌, ◌≤◌, ◌==◌, ◌&&◌, Bool, not, nat_le, if◌then◌else◌, Result, IsOk, is_ok, IfOk}
use Rattle.ntp_packet.specs.declared.clock_fields.ClockFields.{ClockFields}
use Rattle.ntp_reply.specs.declared.reference.BadReference.{BadReference}

-- the state of a server's clock as it is kept: where it is unsynchronised it has stratum 16, which a packet shows as 0; the code's
-- `Reference` hides its fields, so that each `IsReference` (RFC 5905, 7.3)
abbrev pub ReferenceState : Type 0
ReferenceState = ClockFields

-- leap 0 to 3, stratum 1 to 16, and unsynchronised in both or in neither (RFC 5905, 7.3; together: profile)
pub record IsReference (r : ReferenceState) : Type 0 where
  pub leap : r.leap ≤ 3
  pub stratum_from : 1 ≤ r.stratum
  pub stratum_to : r.stratum ≤ 16
  pub together : (r.leap ≡ 3) ↔ (r.stratum ≡ 16)

-- the same as a test (RFC 5905, 7.3; together: profile)
abbrev pub is_reference : ReferenceState → Bool
is_reference r =
    nat_le r.leap 3 && nat_le 1 r.stratum && nat_le r.stratum 16
    && (if r.leap == 3 then r.stratum == 16 else not (r.stratum == 16))

-- fields make a state exactly where they are one, and it has just these (profile)
pub record MakesState (fields : ClockFields) (result : Result ReferenceState BadReference) : Type 0 where
  pub accepted : IsOk result ↔ IsReference fields
  pub test : is_ok result ≡ is_reference fields
  pub value : IfOk result (λ state. state ≡ fields)
