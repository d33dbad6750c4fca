-- Which header the kind of a datagram speaks of.
use Rattle.std.proofs.Common.{◌≡◌, ℕ, List, Option, Ok, arith}
use Rattle.ntp_packet.specs.{Header.HeaderFields, Request.RequestValue}
use Rattle.ntp_mac.specs.Reading.{reading_of}
use Rattle.ntp_customer.specs.{Customer.Enrolment, Customer.enrolment_at, Past.Past}
use Rattle.ntp_reply.specs.Kind.{Kind, PassedOver, RefusedByDeny, RefusedByNak, Signed, octets_kind, kind_of}

-- the header that a kind speaks of, or this one, if of none
abbrev pub spoken_of : HeaderFields → Kind → HeaderFields
spoken_of h (PassedOver why) = h
spoken_of h (RefusedByDeny other) = other
spoken_of h (RefusedByNak other) = other
spoken_of h (Signed key number other) = other

-- a kind speaks of this header, if of one
abbrev pub SpeaksOf : HeaderFields → Kind → Type 0
SpeaksOf h kind = spoken_of h kind ≡ h

-- the kind of a packet speaks of its header
packet-speaks : (x : Option Enrolment) (r : RequestValue) → SpeaksOf r.header (octets_kind x (Ok r))
packet-speaks x r = grind arith

-- and so the kind of a datagram that is read as it
pub kind-speaks : (past : Past) (octets : List ℕ) (r : RequestValue) → reading_of octets ≡ Ok r → SpeaksOf r.header (kind_of past octets)
kind-speaks past octets r read = rw read (packet-speaks (enrolment_at past) r)
