use Rattle.std.proofs.Common.{◌∙◌, ◌++◌, ap, length, rules}
use Rattle.ntp_clerk.proofs.Frames.{read-on, long-enough, split-parts}
use Rattle.ntp_clerk.proofs.capture.datagram_in.Goals as goal

pub returns-in_err-octets-clause-none : goal.returns-in_err-octets-clause-none
returns-in_err-octets-clause-none c =
    let udp = split-parts _ _ _ _ c.in_ok-udp.ensures.cases in
    rw c.from_residual-in_err-octets.ensures (λ source payload d. c.in_err-octets.ensures.none (length payload)
    (read-on c.args.packet.now source payload c.args.port _ _ _ _ c.in_ok-ip.ensures.whole.0 c.in_ok-ip.ensures.whole.1 udp.0 udp.1 d).0)

pub returns-in_err-payload-clause-none : goal.returns-in_err-payload-clause-none
returns-in_err-payload-clause-none c =
    let udp = split-parts _ _ _ _ c.in_ok-udp.ensures.cases in
    rw c.from_residual-in_err-payload.ensures (λ source payload d.
    long-enough c.args.packet.now source payload c.args.port c.in_ok-octets.octets _ _ _ _ c.in_ok-ip.ensures.whole.0 c.in_ok-ip.ensures.whole.1 udp.0 udp.1
    c.in_ok-octets.ensures.whole c.in_err-payload.ensures.cases d)

pub returns-clause-whole : goal.returns-clause-whole
returns-clause-whole c =
    let udp = split-parts _ _ _ _ c.in_ok-udp.ensures.cases in
    let payload = split-parts _ _ _ _ c.in_ok-payload.ensures.cases in
    record {
      ip = c.in_ok-ip.ip.now;
      udp = c.in_ok-udp.udp.now;
      padding = c.in_ok-payload._padding.now;
      parts = c.in_ok-ip.ensures.whole.0 ∙ ap (λ it. c.in_ok-ip.ip.now ++ it) (udp.0 ∙ ap (λ it. c.in_ok-udp.udp.now ++ it) payload.0);
      ip_head = c.in_ok-ip.ensures.whole.1;
      source_octets = search rules;
      udp_head = rw payload.1 c.in_ok-octets.ensures.whole;
    }
