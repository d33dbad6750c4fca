-- The form of a key, by what stands in front of it.
use Rattle.std.proofs.Common.{◌≡◌, ℕ, false, List, Option, Some, None, Ok, sym, refl}
use Rattle.std.specs.{Prelude.nat_eq, Option.ok_or, Option.option_map, List.starts_with, Str.Pattern.FindsTextPrefix}
use Rattle.ntp_packet.specs.FirstCase.{◌>>=◌}
use Rattle.ntp_mac.specs.{Key.SymmetricKey, declared.key.Algorithm.Algorithm}
use Rattle.ntp_query.specs.declared.key_file.KeyLineFault.TheVariants as line_fault
use Rattle.ntp_query.specs.KeyFile.{key_octets, key_of}
use Rattle.std.proofs.lemmas.Str.Pattern.{starts_text}

-- a text that has no such prefix
pub no-prefix : (prefix text : List ℕ) → FindsTextPrefix prefix text None → starts_with nat_eq text prefix ≡ false
no-prefix prefix text none = sym (starts_text false prefix text none)

abbrev keyed : Algorithm → List ℕ → SymmetricKey
keyed algorithm octets = record { algorithm = algorithm; octets = octets }

-- the key of a word, or that it writes none
pub key-or-fault : (algorithm : Algorithm) (word : List ℕ) → ok_or (option_map (keyed algorithm) (key_octets word)) line_fault.Key ≡ key_of algorithm word
key-or-fault algorithm word = either algorithm (key_octets word)
  where
    either : (algorithm : Algorithm) (found : Option (List ℕ)) → ok_or (option_map (keyed algorithm) found) line_fault.Key
        ≡ (ok_or found line_fault.Key >>= (λ octets. Ok (keyed algorithm octets)))
    either algorithm None = refl
    either algorithm (Some octets) = refl
