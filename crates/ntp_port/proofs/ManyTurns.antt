-- One turn after another.
use Rattle.std.proofs.Common.{◌≡◌, ℕ, ◌+◌, ◌≤◌, Bool, Option, None, Some, List, [], ◌∷◌, ◌++◌, length, filter, sym, ap, subst, ◌∙◌, append_assoc, append-nil, length-append, arith}
use Rattle.std.specs.Prelude.{flat_map, Result, is_err, is_none, option_map, if◌then◌else◌}
use Rattle.std.specs.Result.{result_ok}
use Rattle.std.proofs.{lemmas.List.map-append, lemmas.List.drop-drop, lemmas.List.Elements.filter-append, lemmas.Grind.flat_map-append}
use Rattle.ntp_port.specs.{declared.sent.Sent.Sent, declared.port.PortCounts.PortCounts, declared.port.PortFault.PortFault}
use Rattle.ntp_service.specs.declared.observation.Arrival.{Arrival}
use Rattle.ntp_port.specs.Port.{Told, TurnValue, failed_calls, counted_send, CountsReceive}
use Rattle.ntp_port.specs.Made.{Made, turn_of, sent_in, arrival_of, is_unsent}
use Rattle.ntp_port.specs.Serving.{FollowsList, Follows, PassesOver, AreBegun, Makes, begun_in, made_of, dropped_in}
use Rattle.ntp_port.proofs.{Sequences.firsts-add, Dropping.CountsMore-nil, Dropping.CountsMore-append}

-- what turns send, and how many turns are such
abbrev pub sent_of : List Made → List Sent
sent_of made = flat_map sent_in made

abbrev pub count_of : (Made → Bool) → List Made → ℕ
count_of is made = length (filter is made)

pub count-append : (is : Made → Bool) (xs ys : List Made) → count_of is (xs ++ ys) ≡ count_of is xs + count_of is ys
count-append is xs ys = ap length (filter-append is xs ys) ∙ length-append (filter is xs) (filter is ys)

abbrev pub if_so : Bool → ℕ
if_so b = if b then 1 else 0

pub count-one : (is : Made → Bool) (m : Made) → count_of is (m ∷ []) ≡ if_so (is m)
count-one is m = grind arith

pub count-more : (is : Made → Bool) (made : List Made) (m : Made) → count_of is (made ++ m ∷ []) ≡ count_of is made + if_so (is m)
count-more is made m = count-append is made (m ∷ []) ∙ ap (λ n. count_of is made + n) (count-one is m)

FollowsList-append : (bs cs : List TurnValue) (xs ys : List Made) (old mid new : Told) → FollowsList bs xs old mid → FollowsList cs ys mid new
    → FollowsList (bs ++ cs) (xs ++ ys) old new
FollowsList-append bs cs xs ys old mid new p k = grind (arith, length-append, firsts-add, drop-drop, append_assoc, flat_map-append)

-- a port that made no turns tells what it told
pub Follows-nil : (t : Option Told) → Follows [] [] t t
Follows-nil t = grind (arith, append-nil)

pub Follows-append : (bs cs : List TurnValue) (xs ys : List Made) (t u v : Option Told) → Follows bs xs t u → Follows cs ys u v
    → Follows (bs ++ cs) (xs ++ ys) t v
Follows-append bs cs xs ys None u v p k = tt
Follows-append bs cs xs ys (Some old) None v p k = absurd p
Follows-append bs cs xs ys (Some old) (Some mid) None p k = absurd k
Follows-append bs cs xs ys (Some old) (Some mid) (Some new) p k = FollowsList-append bs cs xs ys old mid new p k

-- the same of a port that may drop or not
AreBegun-nil : (may : Bool) (c : ℕ) (t : Option Told) → AreBegun may [] c c t t
AreBegun-nil may c t = grind (arith, Follows-nil, CountsMore-nil)

PassesOver-append : (xs ys : List Made) (c d e : ℕ) (t u v : Option Told) → PassesOver xs c d t u → PassesOver ys d e u v
    → PassesOver (xs ++ ys) c e t v
PassesOver-append xs ys c d e t u v p k =
    let many = ap length (flat_map-append dropped_in p.steps k.steps) ∙ length-append (flat_map dropped_in p.steps) (flat_map dropped_in k.steps) in
    record {
      steps = p.steps ++ k.steps;
      all = flat_map-append made_of p.steps k.steps ∙ ap (λ l. l ++ flat_map made_of k.steps) p.all ∙ ap (λ l. xs ++ l) k.all;
      counted = CountsMore-append c d e _ _ _ many p.counted k.counted;
      port = subst (λ l. Follows l (xs ++ ys) t v) (sym (flat_map-append begun_in p.steps k.steps))
          (Follows-append (flat_map begun_in p.steps) (flat_map begun_in k.steps) xs ys t u v p.port k.port);
    }

AreBegun-append : (may : Bool) (xs ys : List Made) (c d e : ℕ) (t u v : Option Told) → AreBegun may xs c d t u → AreBegun may ys d e u v
    → AreBegun may (xs ++ ys) c e t v
AreBegun-append may xs ys c d e t u v f g = grind (arith, map-append, Follows-append, PassesOver-append)

-- ---- and what it counts
pub Makes-nil : (may : Bool) (a : PortCounts) (t : Option Told) → Makes may [] a a t t
Makes-nil may a t = grind (arith, AreBegun-nil)

pub Makes-append : (may : Bool) (xs ys : List Made) (a b c : PortCounts) (t u v : Option Told) → Makes may xs a b t u → Makes may ys b c u v
    → Makes may (xs ++ ys) a c t v
Makes-append may xs ys a b c t u v p k = grind (arith, AreBegun-append, count-append)

abbrev is_missed : Made → Bool
is_missed m = is_none (turn_of m).arrival

-- one call of a turn fails at most
few-fail : (made : List Made) → count_of is_missed made + count_of is_unsent made ≤ length made
few-fail [] = omega arith
few-fail (m ∷ made) = omega (
  arith,
  few-fail made,
  count-append is_missed (m ∷ []) made,
  count-append is_unsent (m ∷ []) made,
  count-one is_missed m,
  count-one is_unsent m,
  one m,
)
  where
    if-so : (b : Bool) → if_so b ≤ 1
    if-so b = grind arith

    one : (m : Made) → if_so (is_missed m) + if_so (is_unsent m) ≤ 1
    one m = grind (arith, if-so)

pub Makes-few : (may : Bool) (made : List Made) (a b : PortCounts) (t u : Option Told) → Makes may made a b t u
    → failed_calls b ≤ failed_calls a + length made
Makes-few may made a b t u p = omega (arith, p.failed_receives, p.failed_sends, few-fail made)

-- ---- one turn, of what was received
missed-err : (m : Made) (r : Result Arrival PortFault) → option_map arrival_of (turn_of m).arrival ≡ result_ok r → is_missed m ≡ is_err r
missed-err m r e = grind arith

pub Makes-one : (may : Bool) (m : Made) (r : Result Arrival PortFault) (a b c : PortCounts) (t u : Option Told)
    → option_map arrival_of (turn_of m).arrival ≡ result_ok r → CountsReceive a b (is_err r) → c ≡ counted_send (is_unsent m) b
    → AreBegun may (m ∷ []) a.dropped c.dropped t u → Makes may (m ∷ []) a c t u
Makes-one may m r a b c t u arrived receives sends begun = grind (arith, missed-err, count-one)
