-- Texts that are written one after another.
use Rattle.std.proofs.Common.{◌≡◌, ℕ, ◌+◌, ◌-◌, ◌<◌, ◌/◌, ◌%◌, ◌^◌, false, List, [], ◌∷◌, ◌++◌, length, take, get_or, replicate, Option, ap, sym, subst, ◌∙◌, append_assoc, append-nil, arith}
use Rattle.std.specs.{Prelude.codes, Prelude.map, Prelude.flat_map, Fmt.decimal, Fmt.padded_integral, Fmt.char_count}
use Rattle.std.specs.{Fmt.format_spec, Io.KnownBytes.Appends}
use Rattle.std.proofs.KnownBytes.{Appends-trans}
use Rattle.std.proofs.lemmas.List.{take_more}
use Rattle.std.proofs.lemmas.{Grind.flat_map-append, List.Folds.flat_map-map}
use Rattle.ntp_reports.specs.Statistics.{nine_digits, seconds_text, sample, labelled}

-- one text more
pub Appends-more : {X : Type 0} (text : X → List ℕ) (a b c : Option (List ℕ)) (xs : List X) (i : ℕ) (d : X) → i < length xs
    → Appends a b (flat_map text (take i xs)) → Appends b c (text (get_or xs i d)) → Appends a c (flat_map text (take (i + 1) xs))
Appends-more text a b c xs i d within first then =
    subst (Appends a c) (sym (ap (flat_map text) (take_more xs i d within) ∙ flat_map-append text (take i xs) (get_or xs i d ∷ [])
    ∙ ap (λ t. flat_map text (take i xs) ++ t) (append-nil (text (get_or xs i d))))) (Appends-trans a b c _ _ first then)

pub Appends-more-map : {X Y : Type 0} (text : Y → List ℕ) (view : X → Y) (a b c : Option (List ℕ)) (xs : List X) (i : ℕ) (d : X) → i < length xs
    → Appends a b (flat_map text (map view (take i xs))) → Appends b c (text (view (get_or xs i d)))
    → Appends a c (flat_map text (map view (take (i + 1) xs)))
Appends-more-map text view a b c xs i d within first then =
    subst (Appends a c) (sym (flat_map-map text view (take (i + 1) xs)))
    (Appends-more (λ x. text (view x)) a b c xs i d within (subst (Appends a b) (flat_map-map text view (take i xs)) first) then)

-- a sample with a label
pub labelled-line : (old new : Option (List ℕ)) (name key word : List ℕ) (n : ℕ)
    → Appends old new (name ++ (123 ∷ (key ++ (61 ∷ 34 ∷ (word ++ (34 ∷ 125 ∷ 32 ∷ (decimal n ++ 10 ∷ [])))))))
    → Appends old new (labelled name (key, word, n))
labelled-line old new name key word n written =
    let whole : name ++ (123 ∷ (key ++ (61 ∷ 34 ∷ (word ++ (34 ∷ 125 ∷ 32 ∷ (decimal n ++ 10 ∷ [])))))) ≡ labelled name (key, word, n) =
    simp append_assoc in
    subst (Appends old new) whole written

-- the help and the type of a metric, and then its samples
pub metric-lines : (a b c : Option (List ℕ)) (name help sort samples : List ℕ)
    → Appends a b (codes "# HELP " ++ (name ++ (32 ∷ (help ++ (10 ∷ (codes "# TYPE " ++ (name ++ (32 ∷ (sort ++ 10 ∷ [])))))))))
    → Appends b c samples
    → Appends a c (codes "# HELP " ++ name ++ codes " " ++ help ++ 10 ∷ [] ++ codes "# TYPE " ++ name ++ codes " " ++ sort ++ 10 ∷ [] ++ samples)
metric-lines a b c name help sort samples first then =
    let whole : (codes "# HELP " ++ (name ++ (32 ∷ (help ++ (10 ∷ (codes "# TYPE " ++ (name ++ (32 ∷ (sort ++ 10 ∷ []))))))))) ++ samples
    ≡ codes "# HELP " ++ name ++ codes " " ++ help ++ 10 ∷ [] ++ codes "# TYPE " ++ name ++ codes " " ++ sort ++ 10 ∷ [] ++ samples =
    simp append_assoc in
    subst (Appends a c) whole (Appends-trans a b c _ samples first then)

-- what `{n:09}` writes
padded : (n : ℕ) → padded_integral (format_spec 32 0 4 9 (2 ^ 64 - 1)) false [] (decimal n) ≡ nine_digits n
unfolding padded_integral char_count
padded n =
    let none : 9 - length (decimal n) - 0 - 0 ≡ 9 - length (decimal n) = omega arith in
    ap (λ k. replicate k 48 ++ (decimal n ++ [])) none ∙ ap (λ t. replicate (9 - length (decimal n)) 48 ++ t) (append-nil (decimal n))

pieces : (name sign whole rest : List ℕ) → name ++ (32 ∷ (sign ++ (whole ++ (46 ∷ (rest ++ 10 ∷ []))))) ≡ sample name (sign ++ (whole ++ 46 ∷ [] ++ rest))
pieces name sign whole rest = simp append_assoc

pub seconds_line : (old new : Option (List ℕ)) (name sign : List ℕ) (nanos : ℕ)
    → Appends old new (name ++ (32 ∷ (sign ++ (decimal (nanos / 10 ^ 9)
    ++ (46 ∷ (padded_integral (format_spec 32 0 4 9 (2 ^ 64 - 1)) false [] (decimal (nanos % 10 ^ 9)) ++ 10 ∷ []))))))
    → Appends old new (sample name (sign ++ seconds_text nanos))
seconds_line old new name sign nanos written =
    subst (Appends old new)
    (ap (λ t. name ++ (32 ∷ (sign ++ (decimal (nanos / 10 ^ 9) ++ (46 ∷ (t ++ 10 ∷ [])))))) (padded (nanos % 10 ^ 9))
    ∙ pieces name sign (decimal (nanos / 10 ^ 9)) (nine_digits (nanos % 10 ^ 9))) written
