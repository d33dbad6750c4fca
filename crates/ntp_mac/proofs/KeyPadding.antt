-- A key's octets in their places, with zeros behind them.
use Rattle.std.proofs.Common.{◌≡◌, ℕ, ◌-◌, ◌≤◌, List, ◌++◌, length, take, drop, sym, ap, subst, ◌∙◌, arith}
use Rattle.std.specs.Prelude.{replicate}
use Rattle.std.proofs.Math.Seq.{take-append_seam}
use Rattle.std.proofs.lemmas.List.{drop-replicate, length-append, length-replicate}

-- a key of n octets fills its places up with zeros
abbrev IsPadded : ℕ → List ℕ → Type 0
IsPadded n padded = (1 ≤ n) × (n ≤ 32) × (padded ≡ take n padded ++ replicate (32 - n) 0) × (length padded ≡ 32)

-- the octets and zeros behind them
octets-then-zeros : (octets : List ℕ) → 1 ≤ length octets → length octets ≤ 32
    → IsPadded (length octets) (octets ++ replicate (32 - length octets) 0)
octets-then-zeros octets some most = grind (arith, take-append_seam, length-append, length-replicate)

-- the octets put over the front of zeros
pub put-over-zeros : (octets front zeros : List ℕ) → 1 ≤ length octets → length octets ≤ 32 → front ≡ octets → zeros ≡ replicate 32 0
    → IsPadded (length octets) (front ++ drop (length octets) zeros)
put-over-zeros octets front zeros some most put clear =
    let n = length octets in
    let same : octets ++ replicate (32 - n) 0 ≡ front ++ drop n zeros =
    ap (λ l. octets ++ l) (sym (drop-replicate n 32 0) ∙ ap (drop n) (sym clear)) ∙ ap (λ l. l ++ drop n zeros) (sym put) in
    subst (IsPadded n) same (octets-then-zeros octets some most)
