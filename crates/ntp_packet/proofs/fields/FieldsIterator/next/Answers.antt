use Rattle.std.proofs.Common.{rules, ◌≡◌, ◌≤◌, ◌∷◌, length, refl, arith, sym, ◌∙◌}
use Rattle.std.proofs.lemmas.List.{take_rest}
use Rattle.ntp_packet.specs.Fields.{first_field, fields_of}
use Rattle.ntp_packet.proofs.Spelled.{FirstStands, SpellFields-first, fields_of-nil, fields-next}
use Rattle.ntp_packet.proofs.fields.FieldsIterator.next.Goals as goal
use Rattle.ntp_packet.proofs.fields.FieldsIterator.next.Goals.{Else-is_empty}

first : (c : Else-is_empty) → FirstStands c.self.inside.octets.now
first c = SpellFields-first _ (search rules) c.self.invariant

pub returns-then-is_empty-clause-steps : goal.returns-then-is_empty-clause-steps
returns-then-is_empty-clause-steps c =
    let none : length c.self.inside.octets.now ≡ 0 = search rules in
    let e = sym c.self.view_is ∙ fields_of-nil _ none in (e, e)

pub written_kind-kind-requires : goal.written_kind-kind-requires
written_kind-kind-requires c = let f = first (goal.at.written_kind-kind-requires c).Else-is_empty in omega arith

pub written_length-requires : goal.written_length-requires
written_length-requires c = let f = first (goal.at.written_length-requires c).Else-is_empty in omega arith

pub split_at-requires : goal.split_at-requires
split_at-requires c = let f = first (goal.at.split_at-requires c).Else-is_empty in omega arith

pub slice_bounds-result-count : goal.slice_bounds-result-count
slice_bounds-result-count c =
    let f = first (goal.at.slice_bounds-result-count c).Else-is_empty in omega (arith, c.split_at.ensures.front_len)

pub slice_bounds-result-start : goal.slice_bounds-result-start
slice_bounds-result-start c =
    let f = first (goal.at.slice_bounds-result-start c).Else-is_empty in
    let room : 4 ≤ length c.split_at.result.0.now = omega (arith, c.split_at.ensures.front_len) in
    search rules

pub invariant_of-self : goal.invariant_of-self
invariant_of-self c =
    let f = first (goal.at.invariant_of-self c).Else-is_empty in
    rw (c.split_at.ensures.back, c.from.ensures, c.written_length.ensures) f.rest

pub returns-clause-steps : goal.returns-clause-steps
returns-clause-steps c =
    let f = first (goal.at.returns-clause-steps c).Else-is_empty in
    sym c.self.view_is
    ∙ fields-next c.self.inside.octets.now c.written_kind-kind.result c.from.result c.split_at.result.0.now _ c.split_at.result.1.now f
    c.written_kind-kind.ensures (c.from.ensures ∙ c.written_length.ensures) c.split_at.ensures.front c.split_at.ensures.back
    (take_rest c.split_at.result.0.now 4)

pub returns-clause-goes : goal.returns-clause-goes
returns-clause-goes c =
    let f = first (goal.at.returns-clause-goes c).Else-is_empty in
    let e : c.args.self.now ≡ first_field c.self.inside.octets.now ∷ fields_of c.split_at.result.1.now =
    rw (← c.self.view_is, f.fields, c.split_at.ensures.back, c.from.ensures, c.written_length.ensures) refl in
    rw e (search rules)
