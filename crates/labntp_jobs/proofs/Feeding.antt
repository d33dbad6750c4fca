-- One feeding of an engine after another.
use Rattle.std.proofs.Common.{◌≡◌, ◌≢◌, ℕ, ◌+◌, ◌<◌, List, [], ◌∷◌, ◌++◌, length, take, drop, get_or, refl, sym, ap, ◌∙◌, subst, append_assoc, add-zero, length-append, take-append-drop, arith}
use Rattle.std.proofs.lemmas.List.{take_more}
use Rattle.std.proofs.lemmas.List.Elements.{All-nil, All-cons, All-append}
use Rattle.labntp_jobs.specs.declared.{engine.Engine.Engine, replaying.ReplayFaultKind.ReplayFaultKind}
use Rattle.labntp_jobs.specs.declared.replaying.ReplayFaultKind.TheVariants.{NoMemory, LineLong}
use Rattle.labntp_jobs.specs.{Script.lines_of, Engine.AnswersLines, Engine.Halts, Engine.Fed, Engine.Stops}
use Rattle.ntp_admin.specs.CommandsFile.{most_line_octets}
use Rattle.labntp_jobs.proofs.LineFeeds.{IsUnbroken, lines_of-ended, lines_of-begun}
use Rattle.labntp_jobs.proofs.LinesReplayed.{Answers-nil, Answers-append, Halts-more}

module _ {A : Type 0} where
  pub Fed-nil : (e : Engine A) → Fed e e [] []
  Fed-nil e = record { lines = []; split = λ more. refl; answers = Answers-nil e.service; counted = sym (add-zero e.done) }

  pub Fed-trans : (old mid new : Engine A) (bs cs v w : List ℕ) → Fed old mid bs v → Fed mid new cs w → Fed old new (bs ++ cs) (v ++ w)
  Fed-trans old mid new bs cs v w p q = record {
    lines = p.lines ++ q.lines;
    split = λ more. ap (λ l. lines_of (old.line.items ++ l)) (append_assoc bs cs more) ∙ p.split (cs ++ more)
        ∙ ap (λ l. p.lines ++ l) (q.split more) ∙ sym (append_assoc p.lines q.lines (lines_of (new.line.items ++ more)));
    answers = Answers-append old.service mid.service new.service p.lines q.lines v w p.answers q.answers;
    counted = omega (arith, p.counted, q.counted, length-append p.lines q.lines);
  }

  -- it stops after what was fed before
  pub Fed-stops : (kind : ReplayFaultKind) (old mid new : Engine A) (bs cs v w : List ℕ) → Fed old mid bs v → Stops kind mid new cs w
      → Stops kind old new (bs ++ cs) (v ++ w)
  Fed-stops kind old mid new bs cs v w p q = record {
    lines = p.lines ++ q.lines;
    so_far = v ++ q.so_far;
    part = q.part;
    service = q.service;
    split = λ more. let h = q.split more in (
      h.0,
      ap (λ l. lines_of (old.line.items ++ l)) (append_assoc bs cs more) ∙ p.split (cs ++ more)
          ∙ ap (λ l. p.lines ++ l) h.1 ∙ sym (append_assoc p.lines q.lines h.0),
      h.2,
    );
    answers = Answers-append old.service mid.service q.service p.lines q.lines v q.so_far p.answers q.answers;
    counted = omega (arith, p.counted, q.counted, length-append p.lines q.lines);
    wrote = ap (λ l. v ++ l) q.wrote ∙ sym (append_assoc v q.so_far q.part);
  }

  -- it stops whatever octets it was handed besides
  pub Stops-more : (kind : ReplayFaultKind) (old new : Engine A) (bs cs w : List ℕ) → Stops kind old new bs w
      → Stops kind old new (bs ++ cs) w
  Stops-more kind old new bs cs w p = record {
    lines = p.lines;
    so_far = p.so_far;
    part = p.part;
    service = p.service;
    split = λ more. let h = p.split (cs ++ more) in (h.0, ap (λ l. lines_of (old.line.items ++ l)) (append_assoc bs cs more) ∙ h.1, h.2);
    answers = p.answers;
    counted = p.counted;
    wrote = p.wrote;
  }

  -- an octet that goes on the line
  pub Fed-octet : (old new : Engine A) (octet : ℕ) → new.service ≡ old.service → new.line.items ≡ old.line.items ++ octet ∷ []
      → new.done ≡ old.done → Fed old new (octet ∷ []) []
  Fed-octet old new octet same longer done = record {
    lines = [];
    split = λ more. ap lines_of (sym (append_assoc old.line.items (octet ∷ []) more) ∙ ap (λ l. l ++ more) (sym longer));
    answers = subst (λ s. AnswersLines A old.service [] [] s) (sym same) (Answers-nil old.service);
    counted = done ∙ sym (add-zero old.done);
  }

  -- a line feed, at which the line that has begun was answered
  pub Fed-line : (old new : Engine A) (octet : ℕ) (written : List ℕ) → octet ≡ 10
      → AnswersLines A old.service (old.line.items ∷ []) written new.service
      → new.line.items ≡ [] → new.done ≡ old.done + 1 → Fed old new (octet ∷ []) written
  Fed-line old new octet written e answers empty one = grind (arith, lines_of-ended)

  -- it stopped before it answered a line
  stops-at : (kind : ReplayFaultKind) (old new : Engine A) (octets part : List ℕ) → new.done ≡ old.done
      → ((more : List ℕ) → (others : List (List ℕ)) × (lines_of (old.line.items ++ (octets ++ more)) ≡ others)
      × Halts A kind old.service others part)
      → Stops kind old new octets part
  stops-at kind old new octets part same split = record {
    lines = [];
    so_far = [];
    part = part;
    service = old.service;
    split = split;
    answers = Answers-nil old.service;
    counted = same ∙ sym (add-zero old.done);
    wrote = refl;
  }

  -- a line feed, at which the line that has begun was not answered
  pub Stops-line : (kind : ReplayFaultKind) (old new : Engine A) (octet : ℕ) (part : List ℕ) → octet ≡ 10
      → Halts A kind old.service (old.line.items ∷ []) part
      → new.done ≡ old.done → Stops kind old new (octet ∷ []) part
  Stops-line kind old new octet part e halts same = grind (arith, stops-at, lines_of-ended, Halts-more)

  -- one octet more, and the line that has begun is too long
  pub Stops-long : (e : Engine A) (octet : ℕ) → octet ≢ 10 → length e.line.items ≡ most_line_octets → Stops LineLong e e (octet ∷ []) []
  Stops-long e octet ne full = stops-at LineLong e e (octet ∷ []) [] refl (λ more.
      let begun = e.line.items ++ octet ∷ [] in
      let size : length begun ≡ most_line_octets + 1 = omega (arith, length-append e.line.items (octet ∷ [])) in
      let unbroken : IsUnbroken begun =
      All-append (λ x. x ≢ 10) e.line.items (octet ∷ []) e.unbroken (All-cons (λ x. x ≢ 10) octet [] ne (All-nil (λ x. x ≢ 10))) in
      let r = lines_of-begun begun more unbroken (omega arith) in (
        (begun ++ r.0) ∷ r.1,
        ap lines_of (sym (append_assoc e.line.items (octet ∷ []) more)) ∙ r.2,
        record { cause = λ before so_far h. (refl, omega (arith, length-append begun r.0)) },
      ))

  -- memory ran out at an octet
  pub Stops-memory : (old new : Engine A) (octet : ℕ) → new.done ≡ old.done → Stops NoMemory old new (octet ∷ []) []
  Stops-memory old new octet same = grind (arith, stops-at)

-- the octets so far, the next, and the others
pub octets_whole : (xs : List ℕ) (i : ℕ) → i < length xs → (take i xs ++ get_or xs i 0 ∷ []) ++ drop (i + 1) xs ≡ xs
octets_whole xs i h = ap (λ l. l ++ drop (i + 1) xs) (sym (take_more xs i 0 h)) ∙ take-append-drop (i + 1) xs
