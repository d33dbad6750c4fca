use Rattle.std.proofs.Common.{◌≡◌, ◌≤◌, length, drop, arith, refl, ap, ◌∙◌, Ok, Err, inl, inr}
use Rattle.std.proofs.{lemmas.Bool.cases_lt, lemmas.List.take_rest, lemmas.List.length-drop}
use Rattle.ntp_packet.specs.{Request.IsRequest, Tail.tail_value, Faults.Fails}
use Rattle.ntp_packet.specs.declared.malformed.Malformed.TheVariants.{Short, Rest}
use Rattle.ntp_packet.proofs.{RestFaults.IsNoTail, Places.Stands-first, Places.fails_at}
use Rattle.ntp_packet.proofs.splitting.read_request.Goals.{After-new-fields, In_default-read_tail}
use Rattle.ntp_packet.proofs.Found.{fields-behind, is-request}
use Rattle.ntp_packet.proofs.Unique.{one-reading, one-fault, no-fault}
use Rattle.ntp_packet.proofs.splitting.read_request.Goals as goal

pub returns-in_default-clause-only : goal.returns-in_default-clause-only
returns-in_default-clause-only c = λ r is. absurd (no-fault c.args.octets.now r Short is (c.in_default.ensures.none.0 refl))

pub tail_place-requires-clause-header : goal.tail_place-requires-clause-header
tail_place-requires-clause-header c =
    let long : 48 ≤ length c.args.octets.now =
    elim (cases_lt (length c.args.octets.now) 48) [ inl lt ↦ let found = c.in-Some.ensures.none.1 lt in absurd cc | inr le ↦ le ] in
    Stands-first c.args.octets.now c.in-Some.header c.in-Some.ensures.fields c.in-Some.ensures.found long

rest_fails : (c : In_default-read_tail) → Fails c.args.octets.now (Rest c.in_ok-at.at)
rest_fails c =
    let octets = c.args.octets.now in
    let back : c.split_at.result.1.now ≡ drop c.in_ok-at.at octets = rw (c.split_at.ensures.back, c.from.ensures) refl in
    let none = rw back at c.in_default-read_tail.ensures.none in
    let last = c.in_ok-at.ensures.last in
    fails_at IsNoTail octets c.in_ok-at.at (drop c.in_ok-at.at octets) (omega arith) c.in_ok-at.ensures.found
    (omega (arith, length-drop c.in_ok-at.at octets), none.0, none.1, none.2, none.3)

pub returns-in_default-read_tail-clause-only : goal.returns-in_default-read_tail-clause-only
returns-in_default-read_tail-clause-only c = λ r is. absurd (no-fault c.args.octets.now r (Rest c.in_ok-at.at) is (rest_fails c))

pub returns-in_default-read_tail-clause-exact : goal.returns-in_default-read_tail-clause-exact
returns-in_default-read_tail-clause-exact c = λ fault f. ap Err (one-fault c.args.octets.now (Rest c.in_ok-at.at) fault (rest_fails c) f)

pub new-fields-requires : goal.new-fields-requires
new-fields-requires c =
    fields-behind c.args.octets.now c.in_ok-at.at (drop c.in_ok-at.at c.args.octets.now) c.in_ok-at.ensures.found c.split_at.result.0.now _
    (rw (c.split_at.ensures.front, c.from.ensures) refl) (take_rest c.split_at.result.0.now 48)

found : (c : After-new-fields)
    → IsRequest c.args.octets.now (record {
      header = c.in-Some.header;
      fields = c.new-fields.result;
      signed = c.split_at.result.0.now;
      tail = tail_value c.in-Some-read_tail.tail;
    })
found c =
    rw c.new-fields.ensures
    (is-request c.args.octets.now c.in_ok-at.at (drop c.in_ok-at.at c.args.octets.now) c.in_ok-at.ensures.found c.split_at.result.0.now _
    (rw (c.split_at.ensures.front, c.from.ensures) refl) (take_rest c.split_at.result.0.now 48)
    c.in-Some.header (tail_value c.in-Some-read_tail.tail) c.in-Some.ensures.fields c.in-Some.ensures.found (omega arith)
    c.in-Some-read_tail.ensures.tail (c.in-Some-read_tail.ensures.found ∙ rw (c.split_at.ensures.back, c.from.ensures) refl))

pub invariant_of-result : goal.invariant_of-result
invariant_of-result c = (found c).reading

pub returns-clause-found : goal.returns-clause-found
returns-clause-found c = found c

pub returns-clause-only : goal.returns-clause-only
returns-clause-only c = λ r is. ap Ok (one-reading c.args.octets.now _ r (found c) is)

pub returns-clause-exact : goal.returns-clause-exact
returns-clause-exact c = λ fault f. absurd (no-fault c.args.octets.now _ fault (found c) f)
