-- Lists of octets, and their parts.
use Rattle.std.proofs.Common.{◌≡◌, ℕ, ◌+◌, ◌-◌, ◌<◌, ◌≤◌, List, ◌++◌, length, get_or, take, drop, sym, ap, ◌∙◌, append_assoc, arith}
use Rattle.std.specs.List.{All}
use Rattle.std.proofs.lemmas.Bool.{cases_lt}
use Rattle.std.proofs.lemmas.List.{length-take, get_or-drop, get_or-take, get_or_past, get_or-append-add, take-append-drop, drop-drop}

abbrev pub AreOctets : List ℕ → Type 0
AreOctets octets = (i : ℕ) → get_or octets i 0 < 256

pub AreOctets-drop : (n : ℕ) (octets : List ℕ) → AreOctets octets → AreOctets (drop n octets)
AreOctets-drop n octets h i = rw get_or-drop (h (n + i))

pub AreOctets-take : (n : ℕ) (octets : List ℕ) → AreOctets octets → AreOctets (take n octets)
AreOctets-take n octets h i = grind (arith, cases_lt, get_or-take, get_or_past, length-take)

-- what stands behind some octets
pub AreOctets-behind : (front rest : List ℕ) → AreOctets (front ++ rest) → AreOctets rest
AreOctets-behind front rest h i = rw (← get_or-append-add front rest i 0) (h (length front + i))

-- four octets, some octets behind them, and the rest
pub in_parts : (octets : List ℕ) (n : ℕ) → 4 ≤ n
    → take 2 octets ++ take 2 (drop 2 octets) ++ take (n - 4) (drop 4 octets) ++ drop n octets ≡ octets
in_parts octets n least =
    let four : drop 2 (drop 2 octets) ≡ drop 4 octets = drop-drop 2 2 octets in
    let behind : drop (n - 4) (drop 4 octets) ≡ drop n octets = drop-drop (n - 4) 4 octets ∙ ap (λ m. drop m octets) (add-back n least) in
    join (take 2 octets) (take 2 (drop 2 octets)) (take (n - 4) (drop 4 octets)) (drop n octets) (drop 2 octets) octets
    (take-append-drop 2 octets)
    (ap (λ (rest : List ℕ). take 2 (drop 2 octets) ++ rest)
    (ap (λ (rest : List ℕ). take (n - 4) (drop 4 octets) ++ rest) (sym behind) ∙ take-append-drop (n - 4) (drop 4 octets) ∙ sym four)
    ∙ take-append-drop 2 (drop 2 octets))
  where
    add-back : (n : ℕ) → 4 ≤ n → 4 + (n - 4) ≡ n
    add-back n h = omega arith

    join : (a b c d e f : List ℕ) → a ++ e ≡ f → b ++ (c ++ d) ≡ e → a ++ b ++ c ++ d ≡ f
    join a b c d e f p q = append_assoc (a ++ b) c d ∙ append_assoc a b (c ++ d) ∙ ap (λ (rest : List ℕ). a ++ rest) q ∙ p

pub AreOctets-all : (octets : List ℕ) → All (λ octet. octet < 256) octets → AreOctets octets
AreOctets-all octets all i = grind (arith, cases_lt, get_or_past)

-- a member of a part
pub ruleset parts = (get_or-take, get_or-drop)
