-- Steps of a follower, one behind another.
use Rattle.std.proofs.Common.{◌≡◌, ℕ, Option, None, Some, List, [], ◌∷◌, ◌++◌, refl, sym, ap, ◌∙◌, subst, append-nil}
use Rattle.std.specs.{Prelude.true, Prelude.false, Prelude.IfSome, List.fold, List.flat_map}
use Rattle.std.proofs.{lemmas.List.append_assoc, lemmas.List.Sums.fold-append, lemmas.Grind.flat_map-append}
use Rattle.ntp_packet.specs.declared.moment.Moment.{Moment}
use Rattle.ntp_reply.specs.Reference.{ReferenceState}
use Rattle.ntp_client.specs.{declared.reading.Reading.Reading, declared.taken.Taken.Taken, InForce.in_force, Taking.taken_for}
use Rattle.ntp_client.specs.Learning.{FollowerState, looked, took, has_to_read_anew}
use Rattle.ntp_host.specs.Following.{ClockTold, ComesIn, Step, Looks, Takes, Drops, behind, octets_at, dropped_at, Follows, AsksFollowed}

-- steps at which nothing comes in, or none
pub Follows-quiet : (steps : List Step) (p q : FollowerState) (a b : ClockTold) → flat_map octets_at steps ≡ [] → flat_map dropped_at steps ≡ []
    → q ≡ fold behind p steps → b ≡ a → Follows p q a b
Follows-quiet steps p q a b quiet undropped lead same = record {
  steps = steps;
  lead = lead;
  came = by a.received (ap (λ (t : ClockTold). t.received) same);
  reads = ap (λ (t : ClockTold). t.reads) same;
  none_dropped = λ reads. undropped;
}
  where
    by : (o : Option (List (List ℕ))) → b.received ≡ o → IfSome o (λ earlier. b.received ≡ Some (earlier ++ flat_map octets_at steps))
    by None same = tt
    by (Some earlier) same = same ∙ ap Some (sym (append-nil earlier) ∙ ap (λ l. earlier ++ l) (sym quiet))

-- octets came in, and then it looked and took them for this
pub Follows-took : (p between q : FollowerState) (octets : List ℕ) (now : Reading) (taken : Taken) (a b c : ClockTold)
    → between ≡ looked p now → taken ≡ taken_for (looked between now).client octets now.clock → q ≡ took (looked between now) octets now taken
    → ComesIn a b (Some octets) → c ≡ b → Follows p q a c
Follows-took p between q octets now taken a b c looks for_this takes came same =
    let comes = subst (λ t. ComesIn a t (Some octets)) (sym same) came in
    record {
      steps = Looks now ∷ Takes octets now ∷ [];
      lead = takes ∙ ap (took (looked between now) octets now) for_this ∙ ap (λ s. behind s (Takes octets now)) looks;
      came = comes.1;
      reads = comes.0;
      none_dropped = λ reads. refl;
    }

pub Follows-dropped : (p q : FollowerState) (octets : List ℕ) (a b c : ClockTold) → q ≡ p → ComesIn a b (Some octets) → (b.reads ≡ true → ⊥)
    → c ≡ b → Follows p q a c
Follows-dropped p q octets a b c kept came unread same =
    let comes = subst (λ t. ComesIn a t (Some octets)) (sym same) came in
    record {
      steps = Drops octets ∷ [];
      lead = kept;
      came = comes.1;
      reads = comes.0;
      none_dropped = λ reads. absurd (unread (came.0 ∙ reads));
    }

pub Follows-append : (p q r : FollowerState) (a b c : ClockTold) → Follows p q a b → Follows q r b c → Follows p r a c
Follows-append p q r a b c x y = record {
  steps = x.steps ++ y.steps;
  lead = y.lead ∙ ap (λ s. fold behind s y.steps) x.lead ∙ sym (fold-append behind p x.steps y.steps);
  came = by a.received x.came;
  reads = y.reads ∙ x.reads;
  none_dropped = λ reads.
      flat_map-append dropped_at x.steps y.steps
      ∙ ap (λ l. l ++ flat_map dropped_at y.steps) (x.none_dropped reads) ∙ y.none_dropped (x.reads ∙ reads);
}
  where
    by : (o : Option (List (List ℕ))) → IfSome o (λ earlier. b.received ≡ Some (earlier ++ flat_map octets_at x.steps))
        → IfSome o (λ earlier. c.received ≡ Some (earlier ++ flat_map octets_at (x.steps ++ y.steps)))
    by None first = tt
    by (Some earlier) first =
        let second = subst (λ o. IfSome o (λ e. c.received ≡ Some (e ++ flat_map octets_at y.steps))) first y.came in
        second ∙ ap Some (append_assoc earlier (flat_map octets_at x.steps) (flat_map octets_at y.steps)
        ∙ ap (λ l. earlier ++ l) (sym (flat_map-append octets_at x.steps y.steps)))

-- an ask with a receipt
pub asks-with : (p q : FollowerState) (a b : ClockTold) (receipt : Option Moment) (clock : Moment) (ticks : ℕ) (now : Reading)
    (given : ReferenceState) → receipt ≡ Some clock → Follows p q a b → given ≡ in_force q.limits q.learned now
    → (has_to_read_anew p (record { clock = clock; ticks = ticks }) ≡ false → now ≡ record { clock = clock; ticks = ticks })
    → AsksFollowed p q a b receipt given
asks-with p q a b receipt clock ticks now given is follows gives kept = subst (λ r. AsksFollowed p q a b r given) (sym is) (record {
  follows = follows;
  unread = tt;
  state = (ticks, now, gives, kept);
})
