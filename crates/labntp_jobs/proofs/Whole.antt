-- From the octets that an engine was fed to the whole text, where the reader tells it.
use Rattle.std.proofs.Common.{◌≡◌, ℕ, ◌+◌, Option, Some, None, IfSome, List, [], ◌++◌, take, refl, sym, ap, ◌∙◌, subst, append-nil, arith}
use Rattle.std.specs.Io.KnownBytes.{Consumes, IsAtEnd}
use Rattle.std.proofs.KnownBytes.{Consumes-trans}
use Rattle.ntp_service.specs.Registry.{Registry}
use Rattle.labntp_jobs.specs.{declared.engine.Engine.Engine, declared.replaying.ReplayFaultKind.ReplayFaultKind}
use Rattle.labntp_jobs.specs.{declared.replaying.ReplayFaultKind.TheVariants.Read, Script.lines_of, Replay.Replays, Replay.StopsAt}
use Rattle.labntp_jobs.specs.Engine.{AnswersLines, Halts, IsUnfed, Fed, Stops}
use Rattle.labntp_jobs.proofs.LinesReplayed.{Answers-append, replays-nothing}

-- a last read that gave no octet leaves what was read as it was, and the reader at its end
pub last-read : (a b d : Option (List ℕ)) (octets chunk : List ℕ) (n : ℕ) → Consumes a b octets → Consumes b d (take n chunk) → n ≡ 0
    → (n ≡ 0 → IsAtEnd d) → Consumes a d octets × IsAtEnd d
last-read a b d octets chunk n before read none end = grind (arith, Consumes-trans)

module _ {A : Type 0} where
  -- the lines of a text that begins with what was fed
  lines-fed : (e d : Engine A) (octets w text rest : List ℕ) → IsUnfed e → (f : Fed e d octets w) → text ≡ octets ++ rest
      → lines_of text ≡ f.lines ++ lines_of (d.line.items ++ rest)
  lines-fed e d octets w text rest unfed f begins = grind arith

  -- what an engine that took nothing yet answers, was replayed
  unfed-replays : (e : Engine A) (lines : List (List ℕ)) (w : List ℕ) (s : Registry) → IsUnfed e → AnswersLines A e.service lines w s
      → Replays A lines w s
  unfed-replays e lines w s unfed answers = answers.replays [] [] (replays-nothing e.service unfed.stands)

  -- all was fed and answered
  pub whole-ok : (a b : Option (List ℕ)) (e d : Engine A) (octets v w : List ℕ) (s : Registry) (P : List ℕ → Type 0)
      → IsUnfed e → Fed e d octets v → Consumes a b octets → IsAtEnd b → AnswersLines A d.service (lines_of d.line.items) w s → P (v ++ w)
      → IfSome a (λ text. (written : List ℕ) × (service : Registry) × Replays A (lines_of text) written service × P written)
  whole-ok None b e d octets v w s P unfed f p end answers h = tt
  whole-ok (Some text) None e d octets v w s P unfed f p end answers h = absurd p
  whole-ok (Some text) (Some rest) e d octets v w s P unfed f p end answers h =
      let lines = lines-fed e d octets v text [] unfed f (p ∙ ap (λ l. octets ++ l) end)
      ∙ ap (λ l. f.lines ++ lines_of l) (append-nil d.line.items) in
      let all = Answers-append e.service d.service s f.lines (lines_of d.line.items) v w f.answers answers in
      let replays = unfed-replays e (f.lines ++ lines_of d.line.items) (v ++ w) s unfed all in
      (v ++ w, s, subst (λ l. Replays A l (v ++ w) s) (sym lines) replays, h)

  -- it stopped at what was fed
  pub whole-stop : (kind : ReplayFaultKind) (a b : Option (List ℕ)) (e d : Engine A) (octets w : List ℕ) (P : List ℕ → Type 0)
      → IsUnfed e → Stops kind e d octets w → Consumes a b octets → P w
      → IfSome a (λ text. (written : List ℕ) × StopsAt A (record { line = d.done + 1; kind = kind }) (lines_of text) written × P written)
  whole-stop kind None b e d octets w P unfed s p h = tt
  whole-stop kind (Some text) None e d octets w P unfed s p h = absurd p
  whole-stop kind (Some text) (Some rest) e d octets w P unfed s p h =
      let t = s.split rest in
      let replays = unfed-replays e s.lines s.so_far s.service unfed s.answers in (
        w,
        record {
          before = s.lines;
          others = t.0;
          so_far = s.so_far;
          part = s.part;
          service = s.service;
          split = ap lines_of p ∙ ap (λ l. lines_of (l ++ (octets ++ rest))) (sym unfed.line) ∙ t.1;
          named = omega (arith, s.counted, unfed.done);
          replays = replays;
          cause = t.2.cause s.lines s.so_far replays;
          wrote = s.wrote;
        },
        h,
      )

  -- all was fed, and the last line was not answered
  pub whole-last : (kind : ReplayFaultKind) (a b : Option (List ℕ)) (e d : Engine A) (done : ℕ) (octets w part : List ℕ)
      (P : List ℕ → Type 0) → IsUnfed e → Fed e d octets w → Consumes a b octets → IsAtEnd b
      → Halts A kind d.service (lines_of d.line.items) part → done ≡ d.done → P (w ++ part)
      → IfSome a (λ text. (written : List ℕ) × StopsAt A (record { line = done + 1; kind = kind }) (lines_of text) written × P written)
  whole-last kind None b e d done octets w part P unfed f p end halts same h = tt
  whole-last kind (Some text) None e d done octets w part P unfed f p end halts same h = absurd p
  whole-last kind (Some text) (Some rest) e d done octets w part P unfed f p end halts same h =
      let replays = unfed-replays e f.lines w d.service unfed f.answers in (
        w ++ part,
        record {
          before = f.lines;
          others = lines_of d.line.items;
          so_far = w;
          part = part;
          service = d.service;
          split = lines-fed e d octets w text [] unfed f (p ∙ ap (λ l. octets ++ l) end)
              ∙ ap (λ l. f.lines ++ lines_of l) (append-nil d.line.items);
          named = omega (arith, f.counted, unfed.done);
          replays = replays;
          cause = halts.cause f.lines w replays;
          wrote = refl;
        },
        h,
      )

  -- no more was read
  pub whole-read : (a b : Option (List ℕ)) (e d : Engine A) (octets w : List ℕ) (P : List ℕ → Type 0)
      → IsUnfed e → Fed e d octets w → Consumes a b octets → P w
      → IfSome a (λ text. (written : List ℕ) × StopsAt A (record { line = d.done + 1; kind = Read }) (lines_of text) written × P written)
  whole-read None b e d octets w P unfed f p h = tt
  whole-read (Some text) None e d octets w P unfed f p h = absurd p
  whole-read (Some text) (Some rest) e d octets w P unfed f p h = (
    w,
    record {
      before = f.lines;
      others = lines_of (d.line.items ++ rest);
      so_far = w;
      part = [];
      service = d.service;
      split = lines-fed e d octets w text rest unfed f p;
      named = omega (arith, f.counted, unfed.done);
      replays = unfed-replays e f.lines w d.service unfed f.answers;
      cause = refl;
      wrote = sym (append-nil w);
    },
    h,
  )
