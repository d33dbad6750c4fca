-- Forged datagrams change no answer to a genuine event.
use Rattle.std.proofs.Common.{◌≡◌, ℕ, true, false, Some, None, List, [], ◌∷◌, map, refl, sym, ap, ◌∙◌, arith}
use Rattle.ntp_packet.specs.{declared.moment.Moment.Moment, Header.HeaderFields}
use Rattle.ntp_service.specs.{declared.address.Address.Address, Registry.Registry, declared.command.Command.Command}
use Rattle.ntp_service.specs.{declared.event.Event.Event, declared.outcome.Outcome.Outcome, Events.own, Commands.once_done}
use Rattle.ntp_customer.proofs.PublicLaws.{with_refusals}
use Rattle.ntp_customer.specs.Past.{Past}
use Rattle.ntp_reply.specs.{Life.Life, Reference.ReferenceState, declared.answers.Answer.Answer, Kind.Kind}
use Rattle.ntp_reply.specs.{declared.occasion.Occasion.Occasion, Verdict.after_signed, Verdict.kind_answer, Verdict.after_kind}
use Rattle.ntp_service.specs.declared.event.Event.TheVariants as event
use Rattle.ntp_service.specs.declared.outcome.Outcome.TheVariants as outcome
use Rattle.ntp_service.specs.Model.{answer_to, after, life_after, life_of, says_after}
use Rattle.ntp_service.specs.Headline.{Tells, TellsOne, happened_to}
use Rattle.ntp_service.specs.Forgery.{is_signed_query, is_genuine, genuine, at_genuine, without_refusals, TellsWithoutForgeries}
use Rattle.ntp_service.proofs.{Histories.events_of, Lives.life_after_command}

-- ---- one datagram
-- a signed query is answered alike with no refusals counted
query-answer : (past : Past) (o : Occasion) (k : Kind) → is_signed_query k ≡ true
    → kind_answer (with_refusals past []) o k ≡ kind_answer past o k
query-answer past o k e = grind arith

-- what is none is a refusal counted, and no more
forged-kind : (past : Past) (o : Occasion) (k : Kind) → is_signed_query k ≡ false
    → with_refusals (after_kind past o k) [] ≡ with_refusals past []
forged-kind past o k e = grind arith

-- the past after it is the same in all but refusals
after-signed : (past : Past) (o : Occasion) (request : HeaderFields)
    → with_refusals (after_signed (with_refusals past []) o request) [] ≡ with_refusals (after_signed past o request) []
after-signed past o request = grind arith

after-kind : (past : Past) (o : Occasion) (k : Kind)
    → with_refusals (after_kind (with_refusals past []) o k) [] ≡ with_refusals (after_kind past o k) []
after-kind past o k = grind (arith, after-signed)

-- and after a command
same-done : (c : Command) (past : Past)
    → without_refusals (once_done [] (Some (with_refusals past [])) c) ≡ without_refusals (once_done [] (Some past) c)
same-done c past = grind arith

same-command : (c : Command) (past : Past)
    → without_refusals (life_after_command (Some (with_refusals past [])) c) ≡ without_refusals (life_after_command (Some past) c)
same-command c past = grind (arith, same-done c past)

module _ {A : Type 0} where
  -- ---- one event
  same-genuine : (life : Life) (e : Event A) → is_genuine (without_refusals life) e ≡ is_genuine life e
  same-genuine life e = grind arith

  -- a genuine event is answered alike with no refusals counted
  genuine-answer : (life : Life) (e : Event A) → is_genuine life e ≡ true → answer_to (without_refusals life) e ≡ answer_to life e
  genuine-answer life e f = grind (arith, query-answer)

  -- and an event leaves the same life but for refusals
  same-after : (life : Life) (e : Event A) → without_refusals (after (without_refusals life) e) ≡ without_refusals (after life e)
  same-after life e = grind (arith, after-kind, same-command)

  -- an event that is not genuine leaves the life as it was but for refusals
  forged-after : (life : Life) (e : Event A) → is_genuine life e ≡ false → without_refusals (after life e) ≡ without_refusals life
  forged-after life e f = grind (arith, forged-kind)

  -- ---- two lives that agree in all but refusals
  alike-answer : (one other : Life) (e : Event A) → without_refusals one ≡ without_refusals other → is_genuine other e ≡ true
      → answer_to one e ≡ answer_to other e
  alike-answer one other e same is = grind (arith, same-genuine, genuine-answer)

  alike-after : (one other : Life) (e : Event A) → without_refusals one ≡ without_refusals other
      → without_refusals (after one e) ≡ without_refusals (after other e)
  alike-after one other e same = grind (arith, same-after)

  -- the genuine events alone are answered as among all, and leave the same life but for refusals
  abbrev Alone : Life → Life → List (Event A) → Type 0
  Alone one other events = (says_after one (at_genuine other events events) ≡ at_genuine other events (says_after other events))
      × (without_refusals (life_after one (at_genuine other events events)) ≡ without_refusals (life_after other events))

  alone : (one other : Life) (events : List (Event A)) → without_refusals one ≡ without_refusals other → Alone one other events
  alone one other [] same = (refl, same)
  alone one other (e ∷ events) same =
      let answer = alike-answer one other e same in
      let on = alone (after one e) (after other e) events (alike-after one other e same) in
      let past : is_genuine other e ≡ false → Alone one (after other e) events =
      λ forged. alone one (after other e) events (same ∙ sym (forged-after other e forged)) in (
        grind (arith, answer, on.0, λ (forged : is_genuine other e ≡ false). (past forged).0),
        grind (arith, on.1, λ (forged : is_genuine other e ≡ false). (past forged).1),
      )

  -- ---- the laws
  pub genuine-says : (events : List (Event A)) → says_after None (genuine events) ≡ at_genuine None events (says_after None events)
  genuine-says events = (alone None None events refl).0

  pub genuine-life : (events : List (Event A)) → without_refusals (life_of (genuine events)) ≡ without_refusals (life_of events)
  genuine-life events = (alone None None events refl).1

  -- ---- a datagram that a service answered
  pub answered-alone : (history : List (Event A)) (address : Address) (receipt transmit : Moment) (reference : ReferenceState)
      (octets : List ℕ) (a : Answer) (s : Registry)
      → (let query = event.Datagram address receipt transmit reference octets in
      TellsOne history query (outcome.Datagram a) s → is_genuine (life_of (own address history)) query ≡ true
      → outcome.Datagram a ≡ answer_to (life_of (genuine (own address history))) query)
  answered-alone history address receipt transmit reference octets a s t is =
      let lived = own address history in
      let query = event.Datagram address receipt transmit reference octets in
      t.as_model refl ∙ sym (alike-answer (life_of (genuine lived)) (life_of lived) query (genuine-life lived) is)

  -- ---- a run
  -- what is computed of what stands beside events is so of what stands beside the genuine ones
  at_genuine-map : {X Y : Type 0} (f : X → Y) (life : Life) (events : List (Event A)) (beside : List X)
      → at_genuine life events (map f beside) ≡ map f (at_genuine life events beside)
  at_genuine-map f life [] beside = refl
  at_genuine-map f life (e ∷ events) [] = refl
  at_genuine-map f life (e ∷ events) (x ∷ beside) = grind (arith, at_genuine-map f (after life e) events beside)

  pub without-forgeries : (history : List (Event A)) (happened : List (Event A × Outcome)) (s : Registry) → Tells history happened s
      → TellsWithoutForgeries history happened
  without-forgeries history happened s t = λ a.
      let past = own a history in
      let now = happened_to a happened in
      let events = events_of now in
      sym (at_genuine-map (λ p. p.1) (life_of past) events now) ∙ ap (at_genuine (life_of past) events) (t.told a)
      ∙ sym (alone (life_of (genuine past)) (life_of past) events (genuine-life past)).0
      ∙ ap (says_after (life_of (genuine past))) (at_genuine-map (λ p. p.0) (life_of past) events now)
