use Rattle.ntp_reply.proofs.exchanging.exchange.Goals as goal

pub push-requires-clause-receive_free : goal.push-requires-clause-receive_free
push-requires-clause-receive_free g c = rw c.use_match-matched.ensures.stamps.0 c.new_stamps-stamps.ensures.receive_free

pub push-requires-clause-transmit_free : goal.push-requires-clause-transmit_free
push-requires-clause-transmit_free g c = rw c.use_match-matched.ensures.stamps.1 c.new_stamps-stamps.ensures.transmit_free
