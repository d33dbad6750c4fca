use Rattle.std.proofs.Common.{◌==◌, rules, tests}
use Rattle.std.proofs.lemmas.Iterator.{YieldsList-from_slice}
use Rattle.std.proofs.lemmas.Iterator.Consumers.{YieldsList-from_filter, count_from_yields_List}
use Rattle.std.specs.Char.{is_ascii_hexdigit}
use Rattle.labntpd_files.proofs.key_text.counts_of.Goals as goal

pub returns-clause-digits : goal.returns-clause-digits
returns-clause-digits c =
    count_from_yields_List c.filter.result _ c.count-digits.ensures.ran
    (YieldsList-from_filter _ is_ascii_hexdigit (YieldsList-from_slice c.args.octets.now (cc)) c.filter.ensures.closure
    (λ x b q k. search (rules, tests)))

pub returns-clause-dots : goal.returns-clause-dots
returns-clause-dots c =
    count_from_yields_List c.filter-2.result _ c.count-dots.ensures.ran
    (YieldsList-from_filter _ (λ octet. octet == 46) (YieldsList-from_slice c.args.octets.now (cc)) c.filter-2.ensures.closure
    (λ x b q k. search (rules, tests)))
