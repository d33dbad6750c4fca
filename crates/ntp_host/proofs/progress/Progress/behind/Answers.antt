use Rattle.std.proofs.Common.{◌≡◌, ◌∙◌, ◌+◌, ◌-◌, min, length, ap, sym, subst, rules, tests, arith}
use Rattle.std.proofs.{lemmas.Iterator.IsFirst-from_position, lemmas.Iterator.YieldsList-from_slice}
use Rattle.std.proofs.{option.Match.if_some, option.Match.if_none}
use Rattle.ntp_host.specs.Looking.{StandsAt}
use Rattle.ntp_host.proofs.FileParts.{octet_at, no_end_in, no_end_joined, long_of, short_of, each-short}
use Rattle.ntp_host.proofs.progress.Progress.behind.Goals as goal

pub returns-in_default-clause-knows : goal.returns-in_default-clause-knows
returns-in_default-clause-knows c = λ file known stands.
    let p = c.args.self.now in
    let octets = c.args.octets.now in
    let long = long_of p _ c.next_from-from.ensures c.if-from-self.true in
    let there = subst (λ from. StandsAt file from octets) (sym c.next_from-from.ensures ∙ long.1) stands in
    let none = if_none _ _ c.in_default.is (IsFirst-from_position _ _ _ (λ x. x ≡ 10) (λ x. x ≡ 10 → ⊥) c.position.ensures.ran
    (YieldsList-from_slice _ c.iter.ensures.rest) (λ x q k. search (rules, tests)) (λ x q k. search (rules, tests))) in
    no_end_joined file _ p.searched _ known (no_end_in file octets p.searched 0 (length octets) _ _ there (omega arith) (omega arith)
    (omega (arith, long.1)) (λ k low high. none k 0 low high))

pub returns-then-from-self-clause-long : goal.returns-then-from-self-clause-long
returns-then-from-self-clause-long c = λ more file known stands.
    let p = c.args.self.now in
    let octets = c.args.octets.now in
    let at = c.in-Some.at in
    let from = c.next_from-from.result in
    let long = long_of p from c.next_from-from.ensures c.if-from-self.true in
    let there = subst (λ from. StandsAt file from octets) (sym c.next_from-from.ensures ∙ long.1) stands in
    let first = if_some _ _ _ c.in-Some.is (IsFirst-from_position _ _ _ (λ x. x ≡ 10) (λ x. x ≡ 10 → ⊥) c.position.ensures.ran
    (YieldsList-from_slice _ c.iter.ensures.rest) (λ x q k. search (rules, tests)) (λ x q k. search (rules, tests))) in
    let before = no_end_in file octets p.searched 0 at p.searched (from + at + 1 - 1) there (omega (arith, first.0)) (omega arith)
    (omega (arith, long.1)) (λ k low high. first.2 k 0 low high) in
    (no_end_joined file _ p.searched _ known before, octet_at file octets p.searched (from + at + 1 - 1) at there (omega (arith, long.1)) first.0 ∙ first.1 0)

pub returns-clause-knows : goal.returns-clause-knows
returns-clause-knows c = λ file known stands.
    let p = c.args.self.now in
    let octets = c.args.octets.now in
    let short = short_of p _ c.next_from-from.ensures (omega (arith, c.if-from-self.false)) in
    let there = subst (λ from. StandsAt file from octets) (sym c.next_from-from.ensures ∙ short.1) stands in
    no_end_in file octets p.given c.loop-count.count (length octets) _ _ there (omega arith) (omega (arith, short.1)) (omega (arith, short.1))
    c.loop-count.invariant.rest

pub returns-clause-each : goal.returns-clause-each
returns-clause-each c = λ file end known stands some reach.
    let p = c.args.self.now in
    let octets = c.args.octets.now in
    let short = short_of p _ c.next_from-from.ensures (omega (arith, c.if-from-self.false)) in
    each-short file p _ _ end (length octets) (returns-clause-knows c file known stands) short.0 (omega (arith, short.1))
    (ap (λ from. from + length octets) short.1) some
    (subst (λ from. length octets ≡ min (end - from) 65536) (sym c.next_from-from.ensures ∙ short.1) reach)
