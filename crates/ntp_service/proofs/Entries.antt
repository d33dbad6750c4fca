-- A list of entries, as the finite map that it makes.
use Rattle.std.proofs.Common.{◌≡◌, Bool, cond, List, [], ◌∷◌, Some, None, refl, sym, ap, ◌∙◌}
use Rattle.std.specs.{declared.cmp.Ordering.Ordering, Ordering.eq_by_cmp, Cmp.IsTotalOrder, Cmp.eq_by_cmp_equiv, Map.lookup}
use Rattle.std.specs.FinMap.{IsAntisymmetric, find, get, insert, remove, from_entries, get-from_entries, get-insert, get-remove, same_map}

-- keys in a total order, in which nothing but one and the same key ties, and in which a tie is their `==`
pub record IsKeyOrder {K : Type 0} (R : K → K → Ordering) (eq : K → K → Bool) : Type 0 where
  pub total : IsTotalOrder R
  pub same : IsAntisymmetric R
  pub ties : (x y : K) → eq x y ≡ eq_by_cmp R x y

module _ {K X : Type 0} {R : K → K → Ordering} {eq : K → K → Bool} (order : IsKeyOrder R eq) where
  find-lookup : (es : List (K × X)) (q : K) → find R q es ≡ lookup (eq q) es
  find-lookup [] q = refl
  find-lookup (e ∷ es) q = ap (λ b. cond b (Some e.1) (find R q es)) (sym (order.ties q e.0)) ∙ ap (cond (eq q e.0) (Some e.1)) (find-lookup es q)

  -- what the map has at a key is what a look-up in the list finds
  pub get-lookup : (es : List (K × X)) (q : K) → get (from_entries {R = R} es) q ≡ lookup (eq q) es
  get-lookup es q = get-from_entries order.total es q ∙ find-lookup es q

  -- where look-ups differ at k alone, which has v in the new list, the new list makes the map with v at k
  pub from_entries-insert : (es fs : List (K × X)) (k : K) (v : X)
      → ((q : K) → lookup (eq q) fs ≡ cond (eq k q) (Some v) (lookup (eq q) es)) → from_entries {R = R} fs ≡ insert (from_entries es) k v
  from_entries-insert es fs k v h = same_map order.total order.same _ _ (λ q.
      get-lookup fs q ∙ h q ∙ ap (cond (eq k q) (Some v)) (sym (get-lookup es q))
      ∙ ap (λ b. cond b (Some v) (get (from_entries {R = R} es) q)) (order.ties k q ∙ (eq_by_cmp_equiv order.total).symm k q)
      ∙ sym (get-insert order.total (from_entries es) k v q))

  -- and where the new list lacks k, the map without k
  pub from_entries-remove : (es fs : List (K × X)) (k : K) → ((q : K) → lookup (eq q) fs ≡ cond (eq k q) None (lookup (eq q) es))
      → from_entries {R = R} fs ≡ remove (from_entries es) k
  from_entries-remove es fs k h = same_map order.total order.same _ _ (λ q.
      get-lookup fs q ∙ h q ∙ ap (cond (eq k q) None) (sym (get-lookup es q))
      ∙ ap (λ b. cond b None (get (from_entries {R = R} es) q)) (order.ties k q ∙ (eq_by_cmp_equiv order.total).symm k q)
      ∙ sym (get-remove order.total (from_entries es) k q))
