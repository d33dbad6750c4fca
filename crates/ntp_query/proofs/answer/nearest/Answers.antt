use Rattle.std.proofs.Common.{w64, ◌∙◌, ap, arith}
use Rattle.std.specs.Prelude.{pos}
use Rattle.std.proofs.lemmas.Int.{to_z_pos}
use Rattle.ntp_query.specs.Answer.{nearest}
use Rattle.ntp_query.proofs.Rounding.{nearest-small}
use Rattle.ntp_query.proofs.answer.nearest.Goals as goal

pub returns : goal.returns
returns c =
    let small = nearest-small c.args.dividend c.from-divisor.result (omega arith) (omega arith) in
    record {
      value = to_z_pos w64 (nearest c.args.dividend c.from-divisor.result) small
          ∙ ap (λ r. pos (nearest c.args.dividend r)) c.from-divisor.ensures;
    }
