-- What one line adds to a replay, and what lines add one after another.
use Rattle.std.proofs.Common.{◌≡◌, ℕ, true, false, List, [], ◌∷◌, ◌++◌, sym, ap, ◌∙◌, subst, append_assoc, append-nil, arith, rules}
use Rattle.std.specs.Prelude.{Bool, not, All, map, filter, Ok, if◌then◌else◌}
use Rattle.std.specs.List.{AllZip}
use Rattle.std.proofs.lemmas.List.{flat_map_more, map-append}
use Rattle.std.proofs.lemmas.List.Elements.{All-nil, All-cons, All-append, filter-append}
use Rattle.ntp_service.specs.{Registry.Registry, declared.event.Event.Event, declared.outcome.Outcome.Outcome}
use Rattle.ntp_service.specs.Headline.{StandsFor, TellsOne}
use Rattle.ntp_admin.specs.{Words.words, Spells.is_passed_over, Spells.event_in, Answers.outcome_text}
use Rattle.labntp_jobs.specs.{declared.replaying.ReplayFaultKind.ReplayFaultKind, Script.IsReadable, Replay.Replays, Replay.Causes}
use Rattle.labntp_jobs.specs.{Lines.CutsShort, Engine.AnswersLines, Engine.Halts}
use Rattle.labntp_jobs.specs.declared.replaying.ReplayFaultKind.TheVariants.{Line, Read, Write, NoMemory, LineLong, NotUtf8}
use Rattle.ntp_service.proofs.PublicLaws.{Tells-nil, Tells-push}

-- two lists that agree place by place, each with one member more
AllZip-more : {X Y : Type 0} (R : X → Y → Type 0) (xs : List X) (ys : List Y) (x : X) (y : Y) → AllZip R xs ys → R x y
    → AllZip R (xs ++ x ∷ []) (ys ++ y ∷ [])
AllZip-more R [] [] x y h r = (r, tt)
AllZip-more R [] (b ∷ ys) x y h r = absurd h
AllZip-more R (a ∷ xs) [] x y h r = absurd h
AllZip-more R (a ∷ xs) (b ∷ ys) x y h r = (h.0, AllZip-more R xs ys x y h.1 r)

-- the lines that are events
abbrev event_lines : List (List ℕ) → List (List ℕ)
event_lines lines = filter (λ line. not (is_passed_over line)) lines

-- the events among lines and one more
event_lines-more : (lines : List (List ℕ)) (line : List ℕ) (b : Bool) → is_passed_over line ≡ b
    → event_lines (lines ++ line ∷ []) ≡ event_lines lines ++ (if not b then line ∷ [] else [])
event_lines-more lines line b e = grind (arith, filter-append)

readable-more : (lines : List (List ℕ)) (line : List ℕ) → All IsReadable lines → IsReadable line → All IsReadable (lines ++ line ∷ [])
readable-more lines line all one = All-append IsReadable lines (line ∷ []) all (All-cons IsReadable line [] one (All-nil IsReadable))

-- what is the cause at a line, is so whatever lines follow
causes-more : (A : Type 0) (kind : ReplayFaultKind) (before : List (List ℕ)) (so_far line part : List ℕ) (lines : List (List ℕ))
    → Causes A kind before so_far (line ∷ []) part → Causes A kind before so_far (line ∷ lines) part
causes-more A kind before so_far line part lines e = grind arith

module _ {A : Type 0} where
  -- the words of a line are an event's
  abbrev Spells : List ℕ → Event A → Type 0
  Spells line e = event_in (words line) ≡ Ok e

  -- a service that stands for a history tells this to an event, and goes on as another
  abbrev Takes : Registry → Event A → Outcome → Registry → Type 0
  Takes old e o new = (history : List (Event A)) → StandsFor old history → TellsOne history e o new

  -- nothing was replayed yet
  pub replays-nothing : (s : Registry) → StandsFor {A = A} s [] → Replays A [] [] s
  replays-nothing s stands = search (rules, All-nil, Tells-nil)

  -- a line that is passed over
  replays-passed : (before : List (List ℕ)) (so_far line : List ℕ) (s : Registry) → Replays A before so_far s
      → IsReadable line → is_passed_over line ≡ true → Replays A (before ++ line ∷ []) (so_far ++ []) s
  replays-passed before so_far line s r readable passed = record {
    happened = r.happened;
    readable = readable-more before line r.readable readable;
    spelled =
        let same = event_lines-more before line true passed ∙ append-nil (event_lines before) in
        subst (λ lines. AllZip Spells lines (map (λ p. p.0) r.happened)) (sym same) r.spelled;
    tells = r.tells;
    texts = append-nil so_far ∙ r.texts;
  }

  -- a line that is an event
  pub replays-event : (before : List (List ℕ)) (so_far line : List ℕ) (old new : Registry) (e : Event A) (o : Outcome)
      → Replays A before so_far old → IsReadable line → is_passed_over line ≡ false → Spells line e → Takes old e o new
      → Replays A (before ++ line ∷ []) (so_far ++ outcome_text o) new
  replays-event before so_far line old new e o r readable event spells step = record {
    happened = r.happened ++ (e, o) ∷ [];
    readable = readable-more before line r.readable readable;
    spelled = rw (event_lines-more before line false event, map-append (λ p. p.0) r.happened ((e, o) ∷ []))
        (AllZip-more Spells (event_lines before) (map (λ p. p.0) r.happened) line e r.spelled spells);
    tells = Tells-push [] r.happened old new e o r.tells (λ so_far. step _ so_far);
    texts = ap (λ text. text ++ outcome_text o) r.texts ∙ flat_map_more (λ p. outcome_text p.1) [] r.happened (e, o);
  }

  -- ---- whatever was replayed before
  pub Answers-nil : (s : Registry) → AnswersLines A s [] [] s
  Answers-nil s = record { replays = λ before so_far r. rw (append-nil before, append-nil so_far) r }

  pub Answers-append : (old mid new : Registry) (xs ys : List (List ℕ)) (v w : List ℕ) → AnswersLines A old xs v mid → AnswersLines A mid ys w new
      → AnswersLines A old (xs ++ ys) (v ++ w) new
  Answers-append old mid new xs ys v w p q = record {
    replays = λ before so_far r.
        subst (λ lines. Replays A lines (so_far ++ (v ++ w)) new) (append_assoc before xs ys)
        (subst (λ written. Replays A ((before ++ xs) ++ ys) written new) (append_assoc so_far v w)
        (q.replays (before ++ xs) (so_far ++ v) (p.replays before so_far r)));
  }

  pub Answers-passed : (s : Registry) (line : List ℕ) → IsReadable line → is_passed_over line ≡ true → AnswersLines A s (line ∷ []) [] s
  Answers-passed s line readable passed = record { replays = λ before so_far r. replays-passed before so_far line s r readable passed }

  pub Answers-event : (old new : Registry) (line : List ℕ) (e : Event A) (o : Outcome) → IsReadable line
      → is_passed_over line ≡ false → Spells line e → Takes old e o new → AnswersLines A old (line ∷ []) (outcome_text o) new
  Answers-event old new line e o readable event spells step = grind (arith, replays-event)

  -- writing the answer to an event was cut short
  pub Halts-event : (kind : ReplayFaultKind) (old new : Registry) (line part : List ℕ) (e : Event A) (o : Outcome) → IsReadable line
      → is_passed_over line ≡ false → Spells line e → Takes old e o new → CutsShort kind (outcome_text o) part
      → Halts A kind old (line ∷ []) part
  Halts-event (Line fault) old new line part e o readable event spells step cut = absurd cut
  Halts-event Read old new line part e o readable event spells step cut = absurd cut
  Halts-event Write old new line part e o readable event spells step cut = record {
    cause = λ before so_far r. (outcome_text o, cut.0, new, replays-event before so_far line old new e o r readable event spells step, cut.1);
  }
  Halts-event NoMemory old new line part e o readable event spells step cut = record { cause = λ before so_far r. cut }
  Halts-event LineLong old new line part e o readable event spells step cut = absurd cut
  Halts-event NotUtf8 old new line part e o readable event spells step cut = absurd cut

  -- what is the cause at a line is so whatever lines follow
  pub Halts-more : (kind : ReplayFaultKind) (s : Registry) (line part : List ℕ) (lines : List (List ℕ)) → Halts A kind s (line ∷ []) part
      → Halts A kind s (line ∷ lines) part
  Halts-more kind s line part lines f = grind (arith, causes-more, A)
