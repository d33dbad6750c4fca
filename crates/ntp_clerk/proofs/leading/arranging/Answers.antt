use Rattle.std.proofs.Common.{rules}
use Rattle.ntp_clerk.proofs.Stepping.{arranged, arranging-keeps}
use Rattle.ntp_clerk.proofs.leading.arranging.Goals as goal

pub returns : goal.returns
returns c =
    let first = c.are_same_key-is_first in
    record {
      named = rw (c.then_some.ensures, c.then_some-2.ensures, c.flatten.ensures, c.then_some-3.ensures, c.rebudgeting.ensures)
          (rw (c.rollover-first.ensures, c.retirement-retire.ensures, c.rollover_if_any-newer.ensures)
          (arranging-keeps c.args.address c.args.held.now c.args.wanted.now first.result c.is_some-has_two.result));
      goes = rw (c.then_some.ensures, c.then_some-2.ensures, c.flatten.ensures, c.then_some-3.ensures, c.rebudgeting.ensures)
          (rw (c.rollover-first.ensures, c.retirement-retire.ensures, c.rollover_if_any-newer.ensures, c.is_some-has_two.ensures)
          (arranged c.args.address c.args.held.now c.args.wanted.now first.result c.requires.only c.requires.two.0 c.requires.two.1 first.ensures));
      none = search rules;
    }
