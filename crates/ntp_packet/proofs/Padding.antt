-- The zeros behind a value.
use Rattle.std.proofs.Common.{◌≡◌, ℕ, ◌+◌, ◌%◌, ◌^◌, ◌<◌, ◌≤◌, List, ◌++◌, length, replicate, ap, ◌∙◌, append_assoc, arith, rules}
use Rattle.std.proofs.{lemmas.Grind.common_steps, lemmas.List.length-append, lemmas.List.length-replicate}
use Rattle.std.specs.Int.{w16, to_be_bytes}
use Rattle.ntp_packet.specs.Field.{field_octets, IsField, padding, padded_field}
use Rattle.ntp_packet.proofs.Spelling.{length-field_octets}

length-value : (kind : ℕ) (value : List ℕ) → length (padded_field kind value).value ≡ length value + padding (length value)
length-value kind value = grind (arith, length-append, length-replicate)

pub length_padded_field : (kind : ℕ) (value : List ℕ)
    → length (field_octets (padded_field kind value)) ≡ 4 + (length value + padding (length value))
length_padded_field kind value = length-field_octets (padded_field kind value) ∙ ap (λ n. 4 + n) (length-value kind value)

padding-aligned : (n : ℕ) → (4 + (n + padding n)) % 4 ≡ 0
padding-aligned n = omega arith

padding-least : (n : ℕ) → 16 ≤ 4 + (n + padding n)
padding-least n = omega arith

pub IsField_padded : (kind : ℕ) (value : List ℕ) → kind < 2 ^ 16
    → 4 + (length value + padding (length value)) < 2 ^ 16 → IsField (padded_field kind value)
IsField_padded kind value k fits = search (rules, length-value, padding-aligned, padding-least)

appended : (old kind len value zeros a b c d : List ℕ) → a ≡ old ++ kind → b ≡ a ++ len → c ≡ b ++ value → d ≡ c ++ zeros
    → d ≡ old ++ (kind ++ len ++ (value ++ zeros))
appended old kind len value zeros a b c d p q r s = rw (s, r, q, p) (simp append_assoc)

-- the four parts of a padded field, one behind another
pub put-field : (kind n : ℕ) (value zeros old a b c d : List ℕ) → n ≡ 4 + length value + padding (length value)
    → zeros ≡ replicate (padding (length value)) 0
    → a ≡ old ++ to_be_bytes w16 kind → b ≡ a ++ to_be_bytes w16 n → c ≡ b ++ value → d ≡ c ++ zeros
    → d ≡ old ++ field_octets (padded_field kind value)
unfolding field_octets
put-field kind n value zeros old a b c d n-is zeros-is p q r s = grind (arith, common_steps, length-value, appended)
