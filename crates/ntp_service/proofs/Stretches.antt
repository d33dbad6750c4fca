-- Stretches of events with their outcomes, and how many replies they hold.
use Rattle.std.proofs.Common.{◌≡◌, ◌≢◌, ℕ, suc, ◌+◌, ◌≤◌, ◌==◌, ◌&&◌, nat_lt, cond, Bool, List, [], ◌∷◌, ◌++◌, filter_map, All, AllPairs, refl, ap, ap₂, ◌∙◌, subst, append_assoc, arith}
use Rattle.std.proofs.{lemmas.Bool.Decides.nat_tests, lemmas.List.Elements.All-head, lemmas.List.Elements.All-tail}
use Rattle.std.proofs.lemmas.List.Sums.{sum_by-cons}
use Rattle.std.specs.Prelude.{if◌then◌else◌}
use Rattle.ntp_packet.specs.Moment.{window_of}
use Rattle.ntp_service.specs.{Registry.Registry, declared.event.Event.Event, declared.outcome.Outcome.Outcome, Events.own}
use Rattle.ntp_service.specs.Headline.{Tells, happened_to}
use Rattle.ntp_reply.specs.{Life.Life, Replies.occasion_of, Verdict.refusals_sent}
use Rattle.ntp_service.specs.declared.event.Event.TheVariants as event
use Rattle.ntp_service.specs.declared.outcome.Outcome.TheVariants as outcome
use Rattle.ntp_service.specs.Model.{answer_to, after, life_after, life_of, FollowsModel}
use Rattle.ntp_service.specs.Bound.{is_query_reply, is_refusal_reply, receipt_window, is_received_in, IsUnbroken, replies_in, most_query_replies, HasFewReplies, RepliesAreFew, TellsFew}
use Rattle.ntp_service.proofs.Histories.{events_of}
use Rattle.ntp_service.proofs.Bounds.{queries_left, refusals_left, one_if, Spends, spends-datagram, same-counts, same-most, left-at-most}

-- ---- lists
module _ {X : Type 0} (R : X → X → Type 0) (x : X) (xs : List X) (all : AllPairs R (x ∷ xs)) where
  pairs-head : All (R x) xs
  pairs-head = λ k d within. all 0 (suc k) d (omega arith) (omega arith)

  pairs-tail : AllPairs R xs
  pairs-tail = λ i j d below within. all (suc i) (suc j) d (omega arith) (omega arith)

-- ---- how many replies a window w has room for, where no receipt is before the window v from here on: none if that is behind w, what is
-- left if it is w, and else as many as a window can have
abbrev room : ℕ → ℕ → ℕ → ℕ → ℕ
room v w left most = if nat_lt w v then 0 else if v == w then left else most

-- so with a datagram in the window u
room-more : (v w u : ℕ) (replied : Bool) (rest left next most : ℕ) → v ≤ u → (u ≡ w → one_if replied + next ≤ left) → left ≤ most
    → rest ≤ room u w next most → one_if ((u == w) && replied) + rest ≤ room v w left most
room-more v w u replied rest left next most from spends at_most few = grind (arith, nat_tests)

module _ {A : Type 0} where
  abbrev windows : List (Event A × Outcome) → List ℕ
  windows stretch = filter_map (λ p. receipt_window p.0) stretch

  -- ---- one event
  replies-cons : (w : ℕ) (is_of_sort : Outcome → Bool) (e : Event A) (o : Outcome) (rest : List (Event A × Outcome))
      → replies_in w is_of_sort ((e, o) ∷ rest) ≡ one_if (is_received_in w e && is_of_sort o) + replies_in w is_of_sort rest
  replies-cons w is_of_sort e o rest = sum_by-cons (λ p. cond (is_received_in w p.0 && is_of_sort p.1) 1 0) (e, o) rest

  stretch-tail : (e : Event A) (o : Outcome) (rest : List (Event A × Outcome)) → IsUnbroken ((e, o) ∷ rest) → IsUnbroken rest
  stretch-tail (event.Datagram address receipt transmit reference octets) o rest s =
      let e : Event A = event.Datagram address receipt transmit reference octets in
      record {
        none_done = All-tail (λ p. p.1 ≢ outcome.Done) (e, o) rest s.none_done;
        never_fall = pairs-tail (λ v w. v ≤ w) (window_of receipt) (windows rest) s.never_fall;
      }
  stretch-tail e o rest s = record { none_done = All-tail (λ p. p.1 ≢ outcome.Done) (e, o) rest s.none_done; never_fall = s.never_fall }

  -- ---- a stretch
  record HasRoom (life : Life) (v w : ℕ) (stretch : List (Event A × Outcome)) : Type 0 where
    pub queries : replies_in w is_query_reply stretch ≤ room v w (queries_left life w) (most_query_replies life)
    pub refusals : replies_in w is_refusal_reply stretch ≤ room v w (refusals_left life w) refusals_sent

  in-room : (life : Life) (v w : ℕ) (stretch : List (Event A × Outcome)) → FollowsModel life stretch → IsUnbroken stretch
      → All (λ u. v ≤ u) (windows stretch) → HasRoom life v w stretch
  in-room life v w [] follows s from = record { queries = omega arith; refusals = omega arith }
  in-room life v w ((event.Datagram address receipt transmit reference octets, o) ∷ rest) follows s from =
      let e : Event A = event.Datagram address receipt transmit reference octets in
      let here : answer_to life e ≡ o = cc in
      let later : FollowsModel (after life e) rest = cc in
      let u = window_of receipt in
      let next = in-room (after life e) u w rest later (stretch-tail e o rest s) (pairs-head (λ x y. x ≤ y) u (windows rest) s.never_fall) in
      let spends : u ≡ w → Spends life (after life e) w o =
      λ same. subst (λ x. Spends life (after life e) x o) same (subst (Spends life (after life e) u) here
      (spends-datagram life (occasion_of receipt transmit reference) octets)) in
      let reached : v ≤ u = All-head (λ x. v ≤ x) u (windows rest) from in
      record {
        queries = rw (replies-cons w is_query_reply e o rest) (room-more v w u (is_query_reply o) _ _ (queries_left (after life e) w) _
            reached (λ same. (spends same).queries) (left-at-most w life)
            (rw (← same-most life (occasion_of receipt transmit reference) octets) next.queries));
        refusals = rw (replies-cons w is_refusal_reply e o rest) (room-more v w u (is_refusal_reply o) _ _ (refusals_left (after life e) w) _
            reached (λ same. (spends same).refusals) (omega arith) next.refusals);
      }
  in-room life v w ((e, o) ∷ rest) follows s from =
      let here : o ≡ answer_to life e = cc in
      let later : FollowsModel (after life e) rest = cc in
      let next = in-room (after life e) v w rest later (stretch-tail e o rest s) from in
      let undone = subst (λ x. x ≢ outcome.Done) here (All-head (λ p. p.1 ≢ outcome.Done) (e, o) rest s.none_done) in
      let same = same-counts w life e refl undone in
      record {
        queries = omega (arith, next.queries, ap (λ n. room v w n.0 n.2) same, replies-cons w is_query_reply e o rest);
        refusals = omega (arith, next.refusals, ap (λ n. room v w n.1 refusals_sent) same, replies-cons w is_refusal_reply e o rest);
      }

  few : (life : Life) (w : ℕ) (stretch : List (Event A × Outcome)) → FollowsModel life stretch → IsUnbroken stretch
      → HasFewReplies life w stretch
  few life w stretch follows s =
      let r = in-room life 0 w stretch follows s (λ i u within. omega arith) in
      record { queries = grind (arith, nat_tests, r.queries, left-at-most w life); refusals = grind (arith, nat_tests, r.refusals) }

  -- ---- a stretch among others
  -- what stands behind others follows the model from the life that they leave
  pub follows-behind : (life : Life) (before rest : List (Event A × Outcome)) → FollowsModel life (before ++ rest)
      → FollowsModel (life_after life (events_of before)) rest
  follows-behind life [] rest follows = follows
  follows-behind life (p ∷ before) rest follows =
      let later : FollowsModel (after life p.0) (before ++ rest) = cc in follows-behind (after life p.0) before rest later

  -- what stands before others follows it without them
  follows-before : (life : Life) (stretch behind : List (Event A × Outcome)) → FollowsModel life (stretch ++ behind)
      → FollowsModel life stretch
  follows-before life [] behind follows = refl
  follows-before life (p ∷ stretch) behind follows =
      let here : p.1 ≡ answer_to life p.0 = cc in
      let later : FollowsModel (after life p.0) (stretch ++ behind) = cc in
      ap₂ (λ o os. o ∷ os) here (follows-before (after life p.0) stretch behind later)

  -- ---- the law, and what a service tells
  pub few-replies : (life : Life) (happened : List (Event A × Outcome)) → FollowsModel life happened → RepliesAreFew life happened
  few-replies life happened follows w before stretch behind is s =
      let mine = follows-behind life before (stretch ++ behind) (subst (FollowsModel life) (is ∙ append_assoc before stretch behind) follows) in
      let begun = life_after life (events_of before) in few begun w stretch (follows-before begun stretch behind mine) s

  pub tells-few : (history : List (Event A)) (happened : List (Event A × Outcome)) (s : Registry) → Tells history happened s
      → TellsFew history happened
  tells-few history happened s t = λ a. few-replies (life_of (own a history)) (happened_to a happened) (t.told a)
