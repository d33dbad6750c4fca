-- Tallies of lists of windows: what one more event makes of a tally, and that a tally tells all that is counted.
use Rattle.std.proofs.Common.{◌≡◌, ℕ, zero, suc, ◌+◌, ◌-◌, ◌≤◌, ◌⊎◌, inl, inr, cond, List, [], ◌∷◌, ◌++◌, Option, Some, None, refl, sym, ap, ◌∙◌, arith, nat_eq}
use Rattle.std.specs.Prelude.{min}
use Rattle.std.specs.List.{last_or, prefix_len}
use Rattle.std.proofs.lemmas.Bool.{cases_Bool, eqb-true, eq-eqb}
use Rattle.std.proofs.lemmas.List.{reverse-append}
use Rattle.ntp_customer.specs.Tally.{most_counted, count_in, capped_count, Tally, tally, IsTally}

-- the count that a tally has in the window w
abbrev pub kept_count : Tally → ℕ → ℕ
kept_count None w = 0
kept_count (Some t) w = cond (nat_eq t.window w) t.count 0

-- a tally after one more event in the window w
abbrev pub charged : Tally → ℕ → Tally
charged t w = Some (record { window = w; count = min (kept_count t w + 1) most_counted })

-- a list is empty or has a last member
ends : (windows : List ℕ) → (windows ≡ []) ⊎ ((front : List ℕ) × (last : ℕ) × (windows ≡ front ++ last ∷ []))
ends [] = inl refl
ends (v ∷ windows) =
    elim (ends windows) [
      | inl none ↦ inr ([], v, ap (λ vs. v ∷ vs) none)
      | inr some ↦ inr (v ∷ some.0, some.1, ap (λ vs. v ∷ vs) some.2)
    ]

-- the last member of a list is the one put behind it
last-append : (o : Option ℕ) (windows : List ℕ) (w : ℕ) → last_or o (windows ++ w ∷ []) ≡ Some w
last-append o [] w = refl
last-append o (v ∷ windows) w = last-append (Some v) windows w

-- after an event in v the count in w is one more where v is w, and else 0
pub count_in-append : (windows : List ℕ) (v w : ℕ) → count_in (windows ++ v ∷ []) w ≡ cond (nat_eq v w) (1 + count_in windows w) 0
unfolding count_in
count_in-append windows v w = ap (prefix_len (λ u. nat_eq u w)) (reverse-append windows (v ∷ []))

-- no events have no count
pub count_in-nil : (w : ℕ) → count_in [] w ≡ 0
unfolding count_in
count_in-nil w = refl

-- the tally of no events
pub tally-nil : tally [] ≡ None
unfolding tally
tally-nil = refl

-- the tally after an event is that of its window
tally-last : (windows : List ℕ) (w : ℕ)
    → tally (windows ++ w ∷ []) ≡ Some (record { window = w; count = capped_count (windows ++ w ∷ []) w })
unfolding tally
tally-last windows w = rw (last-append None windows w) refl

-- the count as it is kept is the tally's
pub capped_count-tally : (windows : List ℕ) (w : ℕ) → capped_count windows w ≡ kept_count (tally windows) w
capped_count-tally windows w =
    elim (ends windows) [
      | inl none ↦ rw (none, tally-nil, count_in-nil w) refl
      | inr some ↦ elim (cases_Bool (nat_eq some.1 w)) [
        | inl same ↦ rw (some.2, tally-last some.0 some.1, same, eqb-true some.1 w same) refl
        | inr other ↦ rw (some.2, tally-last some.0 some.1, other, count_in-append some.0 some.1 w, other) refl
      ]
    ]

-- the tally after an event is made of the tally before it
pub tally-append : (windows : List ℕ) (w : ℕ) → tally (windows ++ w ∷ []) ≡ charged (tally windows) w
tally-append windows w =
    let one_more : count_in (windows ++ w ∷ []) w ≡ 1 + count_in windows w = count_in-append windows w w ∙ rw (eq-eqb w w refl) refl in
    let before : capped_count windows w ≡ kept_count (tally windows) w = capped_count-tally windows w in
    let kept : capped_count (windows ++ w ∷ []) w ≡ min (kept_count (tally windows) w + 1) most_counted = omega (arith, one_more, before) in
    tally-last windows w ∙ ap (λ n. Some (record { window = w; count = n })) kept

-- the tally of any list is one
pub IsTally-tally : (windows : List ℕ) → IsTally (tally windows)
IsTally-tally windows =
    elim (ends windows) [
      | inl none ↦ rw (none, tally-nil) tt
      | inr some ↦ rw (some.2, tally-append some.0 some.1) (omega arith, omega arith)
    ]

-- lists with one tally have the same count in each window, and one tally after one more event
pub tally-tells_all : (windows others : List ℕ) (w : ℕ) → tally windows ≡ tally others
    → (capped_count windows w ≡ capped_count others w) × (tally (windows ++ w ∷ []) ≡ tally (others ++ w ∷ []))
tally-tells_all windows others w same = (
  capped_count-tally windows w ∙ ap (λ t. kept_count t w) same ∙ sym (capped_count-tally others w),
  tally-append windows w ∙ ap (λ t. charged t w) same ∙ sym (tally-append others w),
)

-- n + 1 events in the window w
row : ℕ → ℕ → List ℕ
row w zero = w ∷ []
row w (suc n) = row w n ++ w ∷ []

-- which are all counted
tally-row : (w n : ℕ) → suc n ≤ most_counted → tally (row w n) ≡ Some (record { window = w; count = suc n })
unfolding row
tally-row w zero few = tally-append [] w ∙ ap (λ t. charged t w) tally-nil
tally-row w (suc n) few =
    let kept : min (suc n + 1) most_counted ≡ suc (suc n) = omega arith in
    tally-append (row w n) w ∙ ap (λ t. charged t w) (tally-row w n (omega arith)) ∙ rw (eq-eqb w w refl, kept) refl

-- each tally is that of some list
pub tally-of_some_list : (t : Tally) → IsTally t → (windows : List ℕ) × (tally windows ≡ t)
tally-of_some_list None is = ([], tally-nil)
tally-of_some_list (Some t) is =
    let counted : suc (t.count - 1) ≡ t.count = omega arith in (
      row t.window (t.count - 1),
      tally-row t.window (t.count - 1) (omega arith)
          ∙ ap (λ n. Some (record { window = t.window; count = n })) counted,
    )

-- what a charge makes of a tally, and that each is of a list
pub ruleset tallies = (tally-nil, capped_count-tally, tally-append, tally-of_some_list)
