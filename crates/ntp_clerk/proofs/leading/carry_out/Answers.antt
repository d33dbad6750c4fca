use Rattle.std.proofs.Common.{subst, sym, ◌∙◌, true≢false}
use Rattle.ntp_service.specs.Registry.{Agrees}
use Rattle.ntp_clerk.proofs.Doing.{is-done, only-memory}
use Rattle.ntp_clerk.proofs.leading.carry_out.Goals.{in-NoMemory, in_default-matches}
use Rattle.ntp_clerk.proofs.leading.carry_out.Goals as goal

pub prove-unreachable-requires : goal.prove-unreachable-requires
prove-unreachable-requires c =
    let told = c.in-Err.ensures in
    elim c.match-matches.branch [
      | in-NoMemory w ↦ true≢false (sym w.matches-is ∙ c.if-prove.true)
      | in_default-matches w ↦ w.in_default-matches.not-NoMemory
          (only-memory c.args.service.now c.args.command c.requires (subst Agrees told.refused told.agrees) c.command.new.self c.in-Err.refusal told.answers)
    ]

pub returns-clause-done : goal.returns-clause-done
returns-clause-done c = is-done c.args.service.now c.args.command c.command.new.self c.in_default.ensures.answers.done c.in_default.ensures.tells
