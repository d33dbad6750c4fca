-- What is seen of customers: all but the octets of their keys.
use Rattle.std.specs.Prelude.{◌≡◌, Option, Some, None, option_map, length}
use Rattle.std.specs.{Int.NonZero.non_zero_u16_get}
use Rattle.ntp_customer.specs.{declared.numbered_key.NumberedKey.NumberedKey, Customer.CustomerState, Customer.enrolment_at}
use Rattle.ntp_clerk.specs.{declared.wanted.Terms.Terms, Leading.key_given, Leading.enrolment_with}
use Rattle.ntp_clerk.specs.declared.seen.{SeenKey.SeenKey, SeenTerms.SeenTerms, Seen.Seen}
use Rattle.ntp_clerk.specs.declared.seen.Seen.TheVariants.{Nothing, Revoked, Enrolled}

-- what is seen of a key, and of terms
abbrev pub seen_key : NumberedKey → SeenKey
seen_key k = record { number = k.number; algorithm = k.key.algorithm; octets = length k.key.octets }

abbrev pub seen_terms : Terms → SeenTerms
seen_terms terms = record {
  older = seen_key (key_given terms.older);
  newer = option_map (λ newer. seen_key (key_given newer)) terms.newer;
  budget = non_zero_u16_get terms.budget;
}

-- what is seen of an address, by the customer that it has, if it was ever enrolled
abbrev pub IsSeen : Option CustomerState → Seen → Type 0
IsSeen None seen = seen ≡ Nothing
IsSeen (Some c) Nothing = ⊥
IsSeen (Some c) Revoked = enrolment_at c ≡ None
IsSeen (Some c) (Enrolled seen) = (terms : Terms) × (enrolment_at c ≡ Some (enrolment_with terms)) × (seen ≡ seen_terms terms)
