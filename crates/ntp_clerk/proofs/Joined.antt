-- Words that are joined are read apart again.
use Rattle.std.proofs.Common.{◌≡◌, ℕ, ◌<◌, ◌==◌, Bool, true, false, List, [], ◌∷◌, ◌++◌, get_or, length, refl, ap, ◌∙◌, sym, arith}
use Rattle.std.specs.{Prelude.not, List.join_with_byte, List.list_all, List.All}
use Rattle.std.proofs.lemmas.Bool.{and_from, and_parts, ne_eqb, not-true, not_from_false, true≢false}
use Rattle.std.proofs.{lemmas.Bool.Decides.nat_tests, lemmas.List.Folds.list_all-append, lemmas.List.Sums.AllPass-from_list_all}
use Rattle.std.proofs.lemmas.List.Splits.{slice_split_none, slice_split_at}
use Rattle.ntp_admin.specs.Words.{parts}

-- whether a word has no such octet
abbrev pub lacks : ℕ → List ℕ → Bool
lacks c word = list_all (λ x. not (x == c)) word

-- no word has one
abbrev pub AllLack : ℕ → List (List ℕ) → Type 0
AllLack c [] = Unit {0}
AllLack c (word ∷ words) = (lacks c word ≡ true) × AllLack c words

all-other : (c : ℕ) (word : List ℕ) → lacks c word ≡ true → All (λ x. (x == c) ≡ false) word
all-other c word h = λ k d inside. not-true (get_or word k d == c) (AllPass-from_list_all (λ x. not (x == c)) word h k d inside)

-- they are the parts of what they are joined to
parts-joined : (c : ℕ) (word : List ℕ) (words : List (List ℕ)) → AllLack c (word ∷ words) → parts c (join_with_byte c (word ∷ words)) ≡ word ∷ words
parts-joined c word [] lack = slice_split_none (λ b. b == c) word (all-other c word lack.0)
parts-joined c word (next ∷ words) lack =
    slice_split_at (λ b. b == c) word c (join_with_byte c (next ∷ words)) (all-other c word lack.0) (grind (arith, nat_tests))
    ∙ ap (λ (rest : List (List ℕ)). word ∷ rest) (parts-joined c next words lack.1)

-- two pieces of a word have no octet that neither has
pub lacks-both : (c : ℕ) (word more : List ℕ) → lacks c word ≡ true → lacks c more ≡ true → lacks c (word ++ more) ≡ true
lacks-both c word more few rest = list_all-append (λ x. not (x == c)) word more ∙ and_from (lacks c word) (lacks c more) few rest

-- what they are joined to has no octet that neither they nor the separator have
lacks-joined : (c d : ℕ) → not (d == c) ≡ true → (word : List ℕ) (words : List (List ℕ)) → AllLack c (word ∷ words)
    → lacks c (join_with_byte d (word ∷ words)) ≡ true
lacks-joined c d other word [] lack = lack.0
lacks-joined c d other word (next ∷ words) lack =
    lacks-both c word (d ∷ join_with_byte d (next ∷ words)) lack.0
    (and_from (not (d == c)) (lacks c (join_with_byte d (next ∷ words))) other (lacks-joined c d other next words lack.1))

-- a word of such octets has no other
pub lacks-by : (p : ℕ → Bool) (c : ℕ) → p c ≡ false → (word : List ℕ) → list_all p word ≡ true → lacks c word ≡ true
lacks-by p c none [] all = refl
lacks-by p c none (x ∷ word) all =
    let parts = and_parts (p x) (list_all p word) all in
    let other = ne_eqb x c (λ same. true≢false (sym parts.0 ∙ ap p same ∙ none)) in
    and_from (not (x == c)) (lacks c word) (not_from_false (x == c) other) (lacks-by p c none word parts.1)

-- the same of one word or more
pub parts-all : (c : ℕ) (words : List (List ℕ)) → 0 < length words → AllLack c words → parts c (join_with_byte c words) ≡ words
parts-all c [] some lack = absurd (omega arith)
parts-all c (word ∷ words) some lack = parts-joined c word words lack

pub lacks-all : (c d : ℕ) → not (d == c) ≡ true → (words : List (List ℕ)) → 0 < length words → AllLack c words → lacks c (join_with_byte d words) ≡ true
lacks-all c d other [] some lack = absurd (omega arith)
lacks-all c d other (word ∷ words) some lack = lacks-joined c d other word words lack

-- a first line, and what stands behind it
pub parts-first-line : (line rest : List ℕ) → lacks 10 line ≡ true → parts 10 (line ++ (10 ∷ rest)) ≡ line ∷ parts 10 rest
parts-first-line line rest lack = slice_split_at (λ b. b == 10) line 10 rest (all-other 10 line lack) refl
