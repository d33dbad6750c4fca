-- The words and the lines of a key file, cut off from the left.
use Rattle.std.proofs.Common.{◌≡◌, ℕ, ◌+◌, ◌<◌, Bool, true, false, List, [], ◌∷◌, length, Some, None, Bor, Result, Err, ap, ◌∙◌, arith, lit<, length-append}
use Rattle.std.specs.{Prelude.filter, Prelude.nat_lt, Prelude.if◌then◌else◌, List.find, List.enumerate_from, Option.ok_or}
use Rattle.std.proofs.lemmas.Str.Pattern.{IsSplitOnceResult, split_parts}
use Rattle.ntp_packet.specs.FirstCase.{◌>>=◌}
use Rattle.ntp_mac.specs.Key.{SymmetricKey}
use Rattle.ntp_admin.specs.Words.{parts}
use Rattle.ntp_admin.proofs.PublicLaws.{parts-split}
use Rattle.ntp_query.specs.{declared.key_file.KeyFileFault.KeyFileFault, declared.key_file.KeyFileFault.TheVariants.Missing}
use Rattle.ntp_query.specs.KeyFile.{words, is_key_line, key_in_line, key_in_lines}

-- whether a word is one
abbrev is_word : List ℕ → Bool
is_word word = nat_lt 0 (length word)

-- what is cut off in front of a space is the first word, or no word
pub words-some : (rest : List ℕ) (x : Bor (List ℕ) × Bor (List ℕ)) → IsSplitOnceResult 32 rest (Some x) → is_word x.0.now ≡ true
    → words rest ≡ x.0.now ∷ words x.1.now
words-some rest x split is =
    ap (filter is_word) (parts-split 32 rest (Some x) split (lit< tt)) ∙ ap (λ b. if b then x.0.now ∷ words x.1.now else words x.1.now) is

pub words-none : (rest : List ℕ) (x : Bor (List ℕ) × Bor (List ℕ)) → IsSplitOnceResult 32 rest (Some x) → is_word x.0.now ≡ false
    → words rest ≡ words x.1.now
words-none rest x split is =
    ap (filter is_word) (parts-split 32 rest (Some x) split (lit< tt)) ∙ ap (λ b. if b then x.0.now ∷ words x.1.now else words x.1.now) is

-- the last one
pub words-last : (rest : List ℕ) → IsSplitOnceResult 32 rest None → is_word rest ≡ true → words rest ≡ rest ∷ []
words-last rest split is = ap (filter is_word) (parts-split 32 rest None split (lit< tt)) ∙ ap (λ b. if b then rest ∷ [] else []) is

pub words-end : (rest : List ℕ) → IsSplitOnceResult 32 rest None → is_word rest ≡ false → words rest ≡ []
words-end rest split is = ap (filter is_word) (parts-split 32 rest None split (lit< tt)) ∙ ap (λ b. if b then rest ∷ [] else []) is

-- what is left is shorter
pub rest-shorter : (c : ℕ) (rest : List ℕ) (x : Bor (List ℕ) × Bor (List ℕ)) → c < 128 → IsSplitOnceResult c rest (Some x)
    → length x.1.now < length rest
rest-shorter c rest x ascii split =
    let cut = split_parts c rest (Some x) split ascii in
    omega (arith, ap length cut.0, length-append x.0.now (c ∷ x.1.now))

-- the key of the first line, or of the others
abbrev picked : ℕ → ℕ → List ℕ → List (List ℕ) → Bool → Result SymmetricKey KeyFileFault
picked number place line others b =
    ok_or (if b then Some (place, line) else find (λ it. is_key_line number it.1) (enumerate_from (place + 1) others)) Missing
    >>= (λ it. key_in_line it.0 it.1)

-- the first line is that of the number, or another one
pub lines-found : (number place : ℕ) (rest : List ℕ) (x : Bor (List ℕ) × Bor (List ℕ)) → IsSplitOnceResult 10 rest (Some x)
    → is_key_line number x.0.now ≡ true → key_in_lines number place (parts 10 rest) ≡ key_in_line place x.0.now
lines-found number place rest x split is =
    ap (key_in_lines number place) (parts-split 10 rest (Some x) split (lit< tt)) ∙ ap (picked number place x.0.now (parts 10 x.1.now)) is

pub lines-on : (number place : ℕ) (rest : List ℕ) (x : Bor (List ℕ) × Bor (List ℕ)) → IsSplitOnceResult 10 rest (Some x)
    → is_key_line number x.0.now ≡ false → key_in_lines number place (parts 10 rest) ≡ key_in_lines number (place + 1) (parts 10 x.1.now)
lines-on number place rest x split is =
    ap (key_in_lines number place) (parts-split 10 rest (Some x) split (lit< tt)) ∙ ap (picked number place x.0.now (parts 10 x.1.now)) is

-- the last line is that of the number, or no line is
pub lines-last : (number place : ℕ) (rest : List ℕ) → IsSplitOnceResult 10 rest None → is_key_line number rest ≡ true
    → key_in_lines number place (parts 10 rest) ≡ key_in_line place rest
lines-last number place rest split is =
    ap (key_in_lines number place) (parts-split 10 rest None split (lit< tt)) ∙ ap (picked number place rest []) is

pub lines-end : (number place : ℕ) (rest : List ℕ) → IsSplitOnceResult 10 rest None → is_key_line number rest ≡ false
    → key_in_lines number place (parts 10 rest) ≡ Err Missing
lines-end number place rest split is =
    ap (key_in_lines number place) (parts-split 10 rest None split (lit< tt)) ∙ ap (picked number place rest []) is
