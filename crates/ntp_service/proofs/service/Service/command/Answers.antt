use Rattle.ntp_service.proofs.CommandSteps.{told-of}
use Rattle.ntp_service.proofs.service.Service.command.Goals as goal

pub returns : goal.returns
returns g c =
    let told = told-of _ _ _ _ c.carry_out.ensures.answers c.carry_out.ensures.agrees in
    rw (← c.self.view_is) (record { tells = told.tells; taken = told.taken; answers = c.carry_out.ensures.answers; agrees = c.carry_out.ensures.agrees; refused = c.carry_out.ensures.answers.kept })
