-- A finite map that was changed at one key, by cases on the key that is asked for.
use Rattle.std.proofs.Common.{◌≡◌, ◌≢◌, false, cond, Some, None, refl, sym, ap, ◌∙◌, subst, true≢false, ◌⊎◌, inl, inr, ⊎_elim, arith}
use Rattle.std.specs.{declared.cmp.Ordering.Ordering, Ordering.eq_by_cmp, Cmp.IsTotalOrder, Cmp.eq_by_cmp_equiv}
use Rattle.std.specs.FinMap.{FinMap, IsAntisymmetric, get, insert, remove, get-insert, get-remove, same_map}

module _ {K : Type 0} {R : K → K → Ordering} (total : IsTotalOrder R) (same : IsAntisymmetric R) where
  cases : (a b : K) (r : Ordering) → R a b ≡ r → (a ≡ b) ⊎ (eq_by_cmp R a b ≡ false)
  cases a b r e = grind arith

  distinct : (a b : K) → eq_by_cmp R a b ≡ false → a ≢ b
  distinct a b differ e = true≢false (sym ((eq_by_cmp_equiv total).refl b) ∙ subst (λ x. eq_by_cmp R x b ≡ false) e differ)

  -- two keys are one, or not
  pub same_or_other : (a b : K) → (a ≡ b) ⊎ (a ≢ b)
  same_or_other a b = ⊎_elim (λ e. inl e) (λ differ. inr (distinct a b differ)) (cases a b (R a b) refl)

  -- keys that are not one do not tie
  no_tie : (a b : K) → a ≢ b → eq_by_cmp R a b ≡ false
  no_tie a b ne = ⊎_elim (λ e. absurd (ne e)) (λ differ. differ) (cases a b (R a b) refl)

  module _ {X : Type 0} (m : FinMap R X) (k : K) where
    pub get-insert-here : (v : X) → get (insert m k v) k ≡ Some v
    get-insert-here v = get-insert total m k v k ∙ ap (λ b. cond b (Some v) (get m k)) ((eq_by_cmp_equiv total).refl k)

    pub get-insert-there : (v : X) (q : K) → q ≢ k → get (insert m k v) q ≡ get m q
    get-insert-there v q ne = get-insert total m k v q ∙ ap (λ b. cond b (Some v) (get m q)) (no_tie q k ne)

    pub get-remove-here : get (remove m k) k ≡ None
    get-remove-here = get-remove total m k k ∙ ap (λ b. cond b None (get m k)) ((eq_by_cmp_equiv total).refl k)

    pub get-remove-there : (q : K) → q ≢ k → get (remove m k) q ≡ get m q
    get-remove-there q ne = get-remove total m k q ∙ ap (λ b. cond b None (get m q)) (no_tie q k ne)

    -- to put in what is there
    pub insert-present : (v : X) → get m k ≡ Some v → insert m k v ≡ m
    insert-present v there = same_map total same _ _ (λ q. ⊎_elim
        (λ e. subst (λ x. get (insert m k v) x ≡ get m x) (sym e) (get-insert-here v ∙ sym there))
        (λ ne. get-insert-there v q ne)
        (same_or_other q k))

    -- to take out what was put in
    pub remove-insert : (v : X) → get m k ≡ None → remove (insert m k v) k ≡ m
    remove-insert v none = same_map total same _ _ (λ q. get-remove total (insert m k v) k q ∙ ⊎_elim
        (λ e. subst (λ x. cond (eq_by_cmp R x k) None (get (insert m k v) x) ≡ get m x) (sym e)
        (ap (λ b. cond b None (get (insert m k v) k)) ((eq_by_cmp_equiv total).refl k) ∙ sym none))
        (λ ne. ap (λ b. cond b None (get (insert m k v) q)) (no_tie q k ne) ∙ get-insert-there v q ne)
        (same_or_other q k))
