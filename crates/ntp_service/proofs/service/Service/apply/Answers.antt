use Rattle.ntp_service.proofs.service.Service.apply.Goals as goal

pub returns-in-Command : goal.returns-in-Command
returns-in-Command g c = λ history stands. rw (c.in-Command.is, c.outcome_of.ensures) (c.command.ensures.tells history stands)
