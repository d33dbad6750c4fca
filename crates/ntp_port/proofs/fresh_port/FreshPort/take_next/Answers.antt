use Rattle.std.proofs.Common.{inl, ◌≡◌, [], ◌∷◌, ◌++◌, None, Some, Ok, Err, true, false, refl, sym, ap, subst, ◌∙◌, arith}
use Rattle.ntp_port.specs.declared.queue_event.QueueEvent.TheVariants.{Held, Taken, Read}
use Rattle.ntp_port.specs.declared.fresh_port.Next.TheVariants.{Nothing, Fault, Fresh, Stale}
use Rattle.ntp_port.specs.{Watch.longest_of, Freshness.MayBeAnswered, Freshness.WasWatched}
use Rattle.ntp_port.proofs.{Dropping.TellsOn-is, Dropping.DropTells-received, OneTake.takes-next}
use Rattle.ntp_port.proofs.Keeping.{StandsFor-Held, StandsFor-Taken, StandsFor-next}
use Rattle.ntp_port.proofs.fresh_port.FreshPort.take_next.Goals as goal

pub returns-in_default-clause-next : goal.returns-in_default-clause-next
returns-in_default-clause-next g c =
    let before = c.look.new.self.reading in
    let now = c.max-self.result in
    takes-next _ _ _ _ _ c.ticks.result None None Nothing _ c.look.ensures.looks refl c.in_default.ensures.history c.max-self.ensures
    c.ticks.ensures.history c.ticks.ensures.turns (omega arith) refl (TellsOn-is _ _ c.in_default.ensures.nothing.1) c.saw.ensures.longest
    (StandsFor-Held _ _ before _ 0 c.saw.ensures.longest (inl refl) c.saw.ensures.watches c.saw.ensures.counts)
    (λ history look. ((Read now ∷ (Held 0 before ∷ look.events), look.quiet, refl), (Read now ∷ [], look.events, before, refl)))

pub returns-in-Err-clause-next : goal.returns-in-Err-clause-next
returns-in-Err-clause-next g c =
    takes-next _ _ _ _ _ c.ticks.result _ (Some (Err c.in-Err.fault)) (Fault c.in-Err.fault) _ c.look.ensures.looks
    (c.in-Some.is ∙ ap Some c.in-Err.is) c.take_in_time-received.ensures.history c.max-self.ensures c.ticks.ensures.history c.ticks.ensures.turns
    (omega arith) refl (rw c.in-Err.is at c.in-Some.ensures.turns) refl (λ history stands. stands)
    (λ history look. (Read c.max-self.result ∷ look.events, look.quiet, refl))

pub returns-then-is_fresh-clause-next : goal.returns-then-is_fresh-clause-next
returns-then-is_fresh-clause-next g c =
    let before = c.look.new.self.reading in
    let now = c.max-self.result in
    takes-next _ _ _ _ _ c.ticks.result _ (Some (Ok c.in-Ok.arrival)) (Fresh c.in-Ok.arrival) _ c.look.ensures.looks
    (c.in-Some.is ∙ ap Some c.in-Ok.is) c.take_in_time-received.ensures.history c.max-self.ensures c.ticks.ensures.history c.ticks.ensures.turns
    (omega arith) refl (rw c.in-Ok.is at c.in-Some.ensures.turns) c.took.ensures.longest
    (StandsFor-Taken _ _ before _ c.took.ensures.longest c.took.ensures.watches c.took.ensures.counts) (λ history look.
    let known = look.events ++ history in (
      record { seen = look.events; quiet = look.quiet; at = before; now = now },
      subst (λ n. MayBeAnswered n known now) c.look.ensures.looks.longest
          (c.is_fresh-is_fresh.ensures.fresh known look.stands.watches c.if-is_fresh.true),
      refl,
    ))

pub returns-else-is_fresh-clause-next : goal.returns-else-is_fresh-clause-next
returns-else-is_fresh-clause-next g c =
    let looks = c.look.ensures.looks in
    let before = c.look.new.self.reading in
    let now = c.max-self.result in
    takes-next _ _ _ _ _ c.ticks.result _ (Some (Ok c.in-Ok.arrival)) Stale _ looks (c.in-Some.is ∙ ap Some c.in-Ok.is)
    c.take_in_time-received.ensures.history c.max-self.ensures c.ticks.ensures.history c.ticks.ensures.turns
    (omega (arith, c.saturating_add-self.ensures)) refl
    (DropTells-received _ _ c.in-Ok.arrival _ (rw c.in-Ok.is at c.in-Some.ensures.turns)) c.took.ensures.longest (λ history stands.
    StandsFor-next _ before _ 0 (Taken before ∷ history) (inl refl)
    (StandsFor-Taken _ _ before _ c.took.ensures.longest c.took.ensures.watches c.took.ensures.counts history stands)) (λ history look.
    let known = look.events ++ history in (
      record { seen = look.events; quiet = look.quiet; at = before; now = now },
      (
        λ may. let fresh : c.is_fresh-is_fresh.result ≡ true = c.is_fresh-is_fresh.ensures.stale known look.stands.watches look.stands.ordered
            (subst (λ n. MayBeAnswered n known now) (sym looks.longest) may) in
            let clash : true ≡ false = cc in absurd (cc),
        subst (λ at. WasWatched (longest_of c.args.self.now.watch) known at) (sym looks.reading) look.looked,
      ),
      refl,
    ))
