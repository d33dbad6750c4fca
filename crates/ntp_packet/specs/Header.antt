-- The header of a packet, and its octets.
use Rattle.std.specs.Prelude.{◌≡◌, ℕ, ℤ, pos, ◌+◌, ◌*◌, ◌^◌, ◌<◌, List, [], ◌∷◌, ◌++◌, length, All, FitsSigned}
use Rattle.std.specs.Int.{w8, w32, w64, cast_unsigned, to_be_bytes}
use Rattle.ntp_packet.specs.{declared.stamp.Stamp.Stamp, declared.stamp.Short.Short}
use Rattle.ntp_packet.specs.declared.clock_fields.ClockFields.{ClockFields}

-- how many octets a header has (RFC 5905, 7.3)
abbrev pub header_length : ℕ
header_length = 48

-- the fields of a header, those of the server's clock as one record; the code's `Header` hides its own (RFC 5905, 7.3)
pub record HeaderFields : Type 0 where
  pub version : ℕ
  pub mode : ℕ
  pub poll : ℤ
  pub clock : ClockFields
  pub origin : Stamp
  pub receive : Stamp
  pub transmit : Stamp

-- the stamp of unknown time (RFC 5905, 6)
abbrev pub no_stamp : Stamp
no_stamp = record { 0 = 0 }

-- no delay and no dispersion (RFC 5905, 6)
abbrev pub no_short : Short
no_short = record { 0 = 0 }

-- the fields of a clock, all 0 (profile)
abbrev pub blank_clock : ClockFields
blank_clock = record {
  leap = 0;
  stratum = 0;
  precision = pos 0;
  root_delay = no_short;
  root_dispersion = no_short;
  reference_id = 0 ∷ 0 ∷ 0 ∷ 0 ∷ [];
  reference = no_stamp;
}

-- the header of a version and a mode; all else in it is 0 (profile)
abbrev pub blank_header : ℕ → ℕ → HeaderFields
blank_header version mode = record {
  version = version;
  mode = mode;
  poll = pos 0;
  clock = blank_clock;
  origin = no_stamp;
  receive = no_stamp;
  transmit = no_stamp;
}

-- the first four octets: leap, version and mode in one, and signed numbers in two's complement (RFC 5905, 7.3)
abbrev pub first_octets : HeaderFields → List ℕ
first_octets h =
    (h.clock.leap * 64 + h.version * 8 + h.mode) ∷ h.clock.stratum ∷ cast_unsigned w8 h.poll ∷ cast_unsigned w8 h.clock.precision ∷ []

-- the octets of a header (RFC 5905, 7.3): all numbers are big-endian
unfoldable pub header_octets : HeaderFields → List ℕ
header_octets h =
    first_octets h ++ to_be_bytes w32 h.clock.root_delay.0 ++ to_be_bytes w32 h.clock.root_dispersion.0 ++ h.clock.reference_id
    ++ to_be_bytes w64 h.clock.reference.0 ++ to_be_bytes w64 h.origin.0 ++ to_be_bytes w64 h.receive.0 ++ to_be_bytes w64 h.transmit.0

-- the fields have the widths of the packet (RFC 5905, 7.3)
pub record IsHeader (h : HeaderFields) : Type 0 where
  pub leap : h.clock.leap < 2 ^ 2
  pub version : h.version < 2 ^ 3
  pub mode : h.mode < 2 ^ 3
  pub stratum : h.clock.stratum < 2 ^ 8
  pub poll : FitsSigned w8 h.poll
  pub precision : FitsSigned w8 h.clock.precision
  pub root_delay : h.clock.root_delay.0 < 2 ^ 32
  pub root_dispersion : h.clock.root_dispersion.0 < 2 ^ 32
  pub reference_id : (length h.clock.reference_id ≡ 4) × All (λ octet. octet < 256) h.clock.reference_id
  pub reference : h.clock.reference.0 < 2 ^ 64
  pub origin : h.origin.0 < 2 ^ 64
  pub receive : h.receive.0 < 2 ^ 64
  pub transmit : h.transmit.0 < 2 ^ 64
