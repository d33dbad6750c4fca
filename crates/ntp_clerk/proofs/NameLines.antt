-- The line of a name says it, and the daemon passes over that of a record.
use Rattle.std.proofs.Common.{◌≡◌, ℕ, ◌+◌, ◌==◌, Bool, true, List, [], ◌∷◌, ◌++◌, length, drop, take, Option, Some, None, refl, sym, ap, ◌∙◌, arith, append_assoc}
use Rattle.std.specs.Prelude.{codes, option_map, if◌then◌else◌}
use Rattle.std.specs.List.{position_or_len, before_first, after_first}
use Rattle.std.proofs.lemmas.Bool.{and_parts, ne_eqb, not-true}
use Rattle.std.proofs.Math.Seq.{take-append_seam, drop-append-add}
use Rattle.ntp_service.specs.declared.address.Address.{Address}
use Rattle.ntp_admin.specs.{Spells.is_passed_over, Words.address_in, Words.address_text, Words.parts}
use Rattle.ntp_clerk.specs.CommandText.{name_behind, name_in, IsAddress, IsName}
use Rattle.ntp_clerk.proofs.Joined.{lacks, lacks-both, parts-first-line}
use Rattle.ntp_clerk.proofs.Spelled.{reads-address, lacks-address}

abbrev is_space : ℕ → Bool
is_space c = c == 32

at-space : (word name : List ℕ) → lacks 32 word ≡ true → position_or_len is_space (word ++ (32 ∷ name)) ≡ length word
at-space [] name lack = refl
at-space (x ∷ word) name lack =
    let both = and_parts _ (lacks 32 word) lack in
    let rest = at-space word name both.1 in
    rw (not-true (x == 32) both.0) (omega (arith, rest))

abbrev said : Bool → List ℕ → Option Address → Option (Address × List ℕ)
said none after address = if none then None else option_map (λ address. (address, after)) address

behind-address : (a : Address) (name : List ℕ) → IsAddress a → IsName name → name_behind (address_text a ++ (32 ∷ name)) ≡ Some (a, name)
behind-address a name address is =
    let word = address_text a in
    let at = at-space word name (lacks-address 32 refl refl a address) in
    parts-say (before_first is_space (word ++ (32 ∷ name))) (after_first is_space (word ++ (32 ∷ name)))
    (ap (λ n. take n (word ++ (32 ∷ name))) at ∙ take-append_seam word (32 ∷ name))
    (ap (λ n. drop (n + 1) (word ++ (32 ∷ name))) at ∙ drop-append-add word (32 ∷ name) 1)
  where
    parts-say : (before after : List ℕ) → before ≡ address_text a → after ≡ name
        → said (length after == 0) after (address_in before) ≡ Some (a, name)
    parts-say before after is_word is_name = grind (arith, ne_eqb, reads-address)

pub name-says : (a : Address) (name text : List ℕ) → IsAddress a → IsName name → text ≡ codes "# name " ++ (address_text a ++ (codes " " ++ (name ++ 10 ∷ [])))
    → (line : List ℕ) × (parts 10 text ≡ line ∷ [] ∷ []) × (name_in line ≡ Some (a, name))
name-says a name text address is whole =
    let line = codes "# name " ++ (address_text a ++ (32 ∷ name)) in
    let lack = lacks-both 10 (codes "# name ") (address_text a ++ (32 ∷ name)) refl
    (lacks-both 10 (address_text a) (32 ∷ name) (lacks-address 10 refl refl a address) (lacks-both 10 (32 ∷ []) name refl is.1)) in
    let ended : address_text a ++ (codes " " ++ (name ++ 10 ∷ [])) ≡ (address_text a ++ (32 ∷ name)) ++ 10 ∷ [] = sym (append_assoc (address_text a) (32 ∷ name) (10 ∷ [])) in
    (line, ap (parts 10) (whole ∙ ap (λ end. codes "# name " ++ end) ended) ∙ parts-first-line line [] lack, behind-address a name address is)

pub record-passed : (time user text : List ℕ) → IsName time → IsName user → text ≡ codes "# " ++ (time ++ (codes " " ++ (user ++ 10 ∷ [])))
    → (line : List ℕ) × (parts 10 text ≡ line ∷ [] ∷ []) × (is_passed_over line ≡ true)
record-passed time user text is_time is_user whole =
    let line = codes "# " ++ (time ++ (32 ∷ user)) in
    let lack = lacks-both 10 (codes "# ") (time ++ (32 ∷ user)) refl
    (lacks-both 10 time (32 ∷ user) is_time.1 (lacks-both 10 (32 ∷ []) user refl is_user.1)) in
    let ended : time ++ (codes " " ++ (user ++ 10 ∷ [])) ≡ (time ++ (32 ∷ user)) ++ 10 ∷ [] = sym (append_assoc time (32 ∷ user) (10 ∷ [])) in
    (line, ap (parts 10) (whole ∙ ap (λ end. codes "# " ++ end) ended) ∙ parts-first-line line [] lack, refl)
