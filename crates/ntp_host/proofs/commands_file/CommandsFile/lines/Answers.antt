use Rattle.std.proofs.Common.{◌≡◌, ◌<◌, ◌≤◌, ◌+◌, ◌-◌, ◌++◌, ◌∷◌, [], ap, sym, subst, ◌∙◌, length, take, arith}
use Rattle.std.specs.Prelude.{IfSome}
use Rattle.ntp_host.specs.Looking.{StandsAt, HasNoEnd, GivesPart}
use Rattle.ntp_host.proofs.FileParts.{filled, told_so, each_told, cut_of, stands_so}
use Rattle.ntp_host.proofs.commands_file.CommandsFile.lines.Goals as goal

pub invariant_of-self-then-given-gt-MOST_PIECE_OCTETS : goal.invariant_of-self-then-given-gt-MOST_PIECE_OCTETS
invariant_of-self-then-given-gt-MOST_PIECE_OCTETS g c =
    let told = g.F.AppendedFile.octets c.args.self.now.file in
    let stands = (stands_so told _ _ _ _ _ _ c.next_from.ensures c.deref.ensures.value
    (omega (arith, c.read_behind.auto.room, c.deref_mut.ensures.len)) c.in_ok-read_behind.ensures.read).1 in
    let q = c.behind-next.result in
    record {
      knows = subst (λ o. IfSome o (λ file. HasNoEnd file q.given q.searched))
          (sym (c.read_behind-then-given-gt-MOST_PIECE_OCTETS.ensures.octets ∙ c.read_behind.ensures.octets))
          (told_so told _ _ _ c.args.self.now.knows stands c.behind-next.ensures.knows);
    }

pub returns-then-given-gt-MOST_PIECE_OCTETS-clause-given : goal.returns-then-given-gt-MOST_PIECE_OCTETS-clause-given
returns-then-given-gt-MOST_PIECE_OCTETS-clause-given g c =
    let told = g.F.AppendedFile.octets c.args.self.now.file in
    let stands = (stands_so told _ _ _ _ _ _ c.next_from.ensures c.deref.ensures.value
    (omega (arith, c.read_behind.auto.room, c.deref_mut.ensures.len)) c.in_ok-read_behind.ensures.read).1 in
    let more : c.args.self.now.progress.given + 65536 < c.behind-next.result.given = omega (arith, c.if-given-gt-MOST_PIECE_OCTETS.true) in
    let line = told_so told _ _ _ c.args.self.now.knows stands (c.behind-next.ensures.long more) in
    let again = subst (λ o. IfSome o (λ file. StandsAt file c.args.self.now.progress.given c.read_behind-then-given-gt-MOST_PIECE_OCTETS.new.room))
    c.read_behind.ensures.octets c.in_ok-read_behind-2.ensures.read in
    let long : length c.read_behind-then-given-gt-MOST_PIECE_OCTETS.new.room ≡ 4097 = omega (
      arith,
      c.read_behind-then-given-gt-MOST_PIECE_OCTETS.auto.room,
      c.deref_mut-then-given-gt-MOST_PIECE_OCTETS.ensures.len,
      c.in_ok-resize.ensures.len,
    ) in
    let cut = c.in_ok-push.ensures.items ∙ ap (λ o. o ++ 10 ∷ []) (filled _ _ _ (omega (arith, long, c.in_ok-resize.ensures.len))) in
    told_so told _ _ _ again line (λ file there. cut_of file _ _ _ _ there long cut more)

pub returns-clause-given : goal.returns-clause-given
returns-clause-given g c =
    let told = g.F.AppendedFile.octets c.args.self.now.file in
    let stands = (stands_so told _ _ _ _ _ _ c.next_from.ensures c.deref.ensures.value
    (omega (arith, c.read_behind.auto.room, c.deref_mut.ensures.len)) c.in_ok-read_behind.ensures.read).1 in
    let p = c.args.self.now.progress in
    let q = c.behind-next.result in
    let cut = c.truncate.ensures.items ∙ ap (take (q.given - p.given)) (sym c.deref.ensures.value) in
    let within : q.given ≤ p.given + 65536 = omega (arith, c.if-given-gt-MOST_PIECE_OCTETS.false) in
    told_so told _ _ _ stands stands (λ file there again. subst (GivesPart file p.given q.given) (sym cut) (c.behind-next.ensures.short within file there))

pub returns-then-given-gt-MOST_PIECE_OCTETS-clause-each : goal.returns-then-given-gt-MOST_PIECE_OCTETS-clause-each
returns-then-given-gt-MOST_PIECE_OCTETS-clause-each g c =
    each_told _ c.args.self.now.progress c.behind-next.result _ _ _ _ _ _ _ c.next_from.ensures c.deref.ensures.value
    (omega (arith, c.read_behind.auto.room, c.deref_mut.ensures.len), omega (arith, c.read_behind.auto.room, c.in_ok-octets.ensures.len, c.deref_mut.ensures.len))
    c.in_ok-read_behind.ensures.read c.next_count-count.ensures.none.0 c.next_count-count.ensures.reach c.args.self.now.knows c.behind-next.ensures.each

pub returns-clause-each : goal.returns-clause-each
returns-clause-each g c =
    each_told _ c.args.self.now.progress c.behind-next.result _ _ _ _ _ _ _ c.next_from.ensures c.deref.ensures.value
    (omega (arith, c.read_behind.auto.room, c.deref_mut.ensures.len), omega (arith, c.read_behind.auto.room, c.in_ok-octets.ensures.len, c.deref_mut.ensures.len))
    c.in_ok-read_behind.ensures.read c.next_count-count.ensures.none.0 c.next_count-count.ensures.reach c.args.self.now.knows c.behind-next.ensures.each
