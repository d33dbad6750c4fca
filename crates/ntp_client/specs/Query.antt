-- The request of a client.
use Rattle.std.specs.Prelude.{ℕ, pos, Option, Some, None, List, [], ◌∷◌}
use Rattle.ntp_packet.specs.{declared.stamp.Stamp.Stamp, declared.moment.Moment.Moment, Fresh.fresh}
use Rattle.ntp_packet.specs.Header.{HeaderFields, no_stamp, blank_header}
use Rattle.ntp_mac.specs.Key.{SymmetricKey}
use Rattle.ntp_reply.specs.Replies.{sealed}
use Rattle.ntp_client.specs.{declared.exchange.Exchange.Exchange, declared.exchange.Outstanding.Outstanding, State.ClientState}

-- the origin stamp of a request: the receive stamp of the earlier exchange's reply, if there is one (RFC 9769, 2; profile)
abbrev pub origin_of : Option Exchange → Stamp
origin_of None = no_stamp
origin_of (Some earlier) = earlier.receive

-- the receive stamp of a request: the arrival of that reply (RFC 9769, 2; profile)
abbrev pub receive_of : Option Exchange → Stamp
receive_of None = no_stamp
receive_of (Some earlier) = earlier.arrival

-- the transmit stamp of a request: a fresh one, which is not its receive stamp too (profile)
abbrev pub transmit_of : Option Exchange → Moment → Stamp
transmit_of None now = fresh now.stamp []
transmit_of (Some earlier) now = fresh now.stamp (earlier.arrival ∷ [])

-- the header of a request: a client's, of version 4, with the stamps; its poll is 6, all else 0 (RFC 5905, 7.3; profile)
abbrev pub query_fields : Outstanding → HeaderFields
query_fields q =
    record (blank_header 4 3) { poll = pos 6; origin = origin_of q.earlier; receive = receive_of q.earlier; transmit = q.transmit }

-- the octets of a request: the header, and its MAC (RFC 5905, 7.3)
abbrev pub query_octets : SymmetricKey → ℕ → Outstanding → List ℕ
query_octets key number q = sealed key number (query_fields q)

-- the request that a client makes at a moment: it carries the exchange that was sampled since the last one (profile)
abbrev pub next_query : ClientState → Moment → Outstanding
next_query c now = record { transmit = transmit_of c.sampled now; earlier = c.sampled }

-- the client that has made it: no other request carries that exchange (profile)
abbrev pub after_query : ClientState → Moment → ClientState
after_query c now = record { key = c.key; number = c.number; outstanding = Some (next_query c now); sampled = None }
