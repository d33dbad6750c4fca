use Rattle.std.proofs.Common.{refl, sym, ◌∙◌}
use Rattle.std.specs.Prelude.{nat_eq}
use Rattle.indexmap.specs.IndexSet.{contains}
use Rattle.ntp_service.proofs.PublicLaws.{other-address}
use Rattle.ntp_clerk.proofs.leading.note.Goals as goal

pub returns-in_ok-note_number-2-clause-notes : goal.returns-in_ok-note_number-2-clause-notes
returns-in_ok-note_number-2-clause-notes c = record {
  free = sym c.in-Ok-None.ensures.old ∙ c.in-Ok-None.field-0-is;
  here = c.in-Ok-None.ensures.updates.1;
  others = λ q ne. c.in-Ok-None.ensures.updates.2 q (other-address c.args.customer.now.address q (λ e. ne (sym e)));
  all = rw c.in-Some.is (
    (λ n. contains nat_eq c.note_number.new.numbers n),
    c.in_ok-note_number.ensures.notes,
    ((λ n. contains nat_eq c.note_number-in-Some.new.numbers n), c.in_ok-note_number-2.ensures.notes, λ n. refl),
  );
}

pub returns-in_default-clause-notes : goal.returns-in_default-clause-notes
returns-in_default-clause-notes c = record {
  free = sym c.in-Ok-None.ensures.old ∙ c.in-Ok-None.field-0-is;
  here = c.in-Ok-None.ensures.updates.1;
  others = λ q ne. c.in-Ok-None.ensures.updates.2 q (other-address c.args.customer.now.address q (λ e. ne (sym e)));
  all = rw c.in_default.is ((λ n. contains nat_eq c.note_number.new.numbers n), c.in_ok-note_number.ensures.notes, λ n. refl);
}
