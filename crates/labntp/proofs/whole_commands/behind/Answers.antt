use Rattle.std.proofs.Common.{◌≡◌, ◌∷◌, ◌∙◌, ◌+◌, ◌≤◌, ℕ, List, length, drop, ap, sym, Some, None, rules, arith, lit<}
use Rattle.std.proofs.lemmas.List.{drop-drop, length-append, length-drop}
use Rattle.std.proofs.lemmas.Str.Pattern.{split_parts}
use Rattle.ntp_admin.specs.CommandsFile.{complete_lines}
use Rattle.ntp_admin.proofs.PublicLaws.{complete_lines-split}
use Rattle.labntp.proofs.whole_commands.behind.Goals as goal

-- what stands behind one line more
behind-more : {X : Type 0} (all others : List X) (x : X) (n : ℕ) → x ∷ others ≡ drop n all → (n + 1 ≤ length all) × (others ≡ drop (n + 1) all)
behind-more all others x n cut = (omega (arith, length-drop n all, ap length cut), ap (drop 1) cut ∙ drop-drop 1 n all)

pub loop-line-preserved : goal.loop-line-preserved
loop-line-preserved c =
    let rest = c.loop-line.rest.now in let found = c.in_ok-rest.field-0 in
    let cut = complete_lines-split rest (Some found) c.in_ok-rest.ensures.cases in
    let parts = split_parts 10 rest (Some found) c.in_ok-rest.ensures.cases (lit< tt) in
    let more = behind-more (complete_lines c.args.text.now) _ _ _ (sym cut ∙ c.loop-line.invariant.behind) in
    record {
      utf8 = search rules;
      within = omega (arith, ap length parts.0, length-append found.0.now (10 ∷ found.1.now), c.loop-line.invariant.within);
      many = more.0;
      behind = more.1;
    }

pub returns-in_err-rest-clause-fewer : goal.returns-in_err-rest-clause-fewer
returns-in_err-rest-clause-fewer c =
    let none = complete_lines-split c.loop-line.rest.now None c.in_err-rest.ensures.cases in
    rw c.from_residual.ensures (
    omega (arith, ap length none, ap length c.loop-line.invariant.behind, length-drop c.loop-line._line (complete_lines c.args.text.now)))
