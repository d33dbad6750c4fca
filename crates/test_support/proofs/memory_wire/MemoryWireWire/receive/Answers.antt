use Rattle.std.proofs.Common.{rules, ap, ◌∙◌, refl, take, None, Some}
use Rattle.std.specs.declared.net.ipv4_addr.Ipv4Addr.{Ipv4Addr}
use Rattle.ntp_host.specs.Wire.{is_idle}
use Rattle.test_support.specs.Wires.{told_by_wire}
use Rattle.test_support.proofs.WireTurns.{wire-begins, cut}
use Rattle.test_support.proofs.memory_wire.MemoryWireWire.receive.Goals as goal

pub returns-in_default-clause-turns : goal.returns-in_default-clause-turns
returns-in_default-clause-turns g c =
    wire-begins _ c.args.self.now.turns.items c.args.self.now.begun c.index-turn.result.now None (told_by_wire c.args.self.now) _ _ (search rules)
    c.index-turn.ensures c.in_default.is refl (ap is_idle c.from-in_default.ensures)

pub returns-clause-turns : goal.returns-clause-turns
returns-clause-turns g c =
    let copied = c.copy_from_slice.ensures.after ∙ ap (take c.min-length.result) c.as_slice-octets.ensures in
    let ip = ap (λ (a : Ipv4Addr). a.octets) c.new-source.ensures.ip ∙ c.from-2.ensures in
    wire-begins _ c.args.self.now.turns.items c.args.self.now.begun c.index-turn.result.now (Some c.in-Some.incoming)
    (told_by_wire c.args.self.now) _ _ (search rules) c.index-turn.ensures c.in-Some.is refl
    ((ip, c.new-source.ensures.port), cut c.in-Some.incoming.octets _ _ _ 1025 (search rules) copied)
