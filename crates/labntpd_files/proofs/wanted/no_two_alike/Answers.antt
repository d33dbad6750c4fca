use Rattle.std.proofs.Common.{◌≡◌, ◌<◌, ℕ, List, Bool, true, false, nat_eq, nat_lt, arith, rules, of_calls}
use Rattle.std.specs.{Bool.IsTrue, List.IsAllAdjacentAnswer, List.Sorted.IsStrictlyIncreasing}
use Rattle.std.proofs.lemmas.{Bool.Decides.nat_tests, Fn.always_returns_same, List.Sorted.IsPermutation-sym}
use Rattle.std.proofs.lemmas.Map.Keys.{IsDistinct-IsPermutation, IsDistinct-from_apart, below_from_sorted, sorted_from_strictly_increasing}
use Rattle.labntpd_files.proofs.wanted.no_two_alike.Goals as goal

flips : (x y : ℕ) → nat_eq x y ≡ nat_eq y x
flips x y = grind (arith, nat_tests)

below : (x y : ℕ) → true ≡ nat_lt x y → x < y
below x y e = grind (arith, nat_tests)

rises : (xs : List ℕ) (r : Bool) → IsAllAdjacentAnswer (λ x y b. b ≡ nat_lt x y) xs r → IsTrue r → IsStrictlyIncreasing xs
rises xs true told e = λ k inside. below _ _ (told k 0 inside)
rises xs false told e = cc

pub returns : goal.returns
returns c = λ e.
    let sorted = c.sort.new.self.items in
    let told : IsAllAdjacentAnswer (λ x y b. b ≡ nat_lt x y) sorted c.is_sorted_by.result = rw c.deref.ensures.value at (c.is_sorted_by.ensures.cases nat_lt (always_returns_same _ _ _ (λ a r f k. search (rules, of_calls)))) in
    let ascends = sorted_from_strictly_increasing sorted (rises sorted c.is_sorted_by.result told e) in
    IsDistinct-IsPermutation nat_eq flips sorted c.args.numbers.items (IsPermutation-sym _ _ c.sort.ensures.permutation)
    (IsDistinct-from_apart nat_eq sorted (λ i j d before inside. let less = below_from_sorted sorted i j d ascends before inside in grind (arith, nat_tests)))
