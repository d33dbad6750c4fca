-- Addresses: their order, by which a finite map tells them apart.
use Rattle.std.specs.Prelude.{Bool, nat_eq}
use Rattle.std.specs.{declared.cmp.Ordering.Ordering, Ordering.nat_cmp, Cmp.Lexicographic.slice_cmp, Cmp.Lexicographic.pointwise}
use Rattle.ntp_service.specs.declared.address.Address.{Address}

-- by the octets, the first one first
abbrev pub address_cmp : Address → Address → Ordering
address_cmp a b = slice_cmp nat_cmp a.0 b.0

-- whether the octets are the same
abbrev pub address_eq : Address → Address → Bool
address_eq a b = pointwise nat_eq a.0 b.0
