-- Octets change what is learned only where they are an authentic reply.
use Rattle.std.proofs.Common.{◌≡◌, ℕ, List, refl}
use Rattle.ntp_packet.specs.{declared.moment.Moment.Moment, Request.RequestValue, Request.IsRequest}
use Rattle.ntp_packet.proofs.PublicLaws.{AreOctets}
use Rattle.ntp_mac.specs.Signed.{IsSigned}
use Rattle.ntp_client.specs.{declared.taken.Taken.Taken, State.ClientState, Taking.taken_for}
use Rattle.ntp_client.specs.declared.taken.Taken.TheVariants as taken
use Rattle.ntp_client.specs.declared.taken.Distrust.TheVariants as distrust
use Rattle.ntp_client.proofs.Authentic.{authentic}

-- what a client takes an authentic reply of an unsynchronised clock for
abbrev unsynchronised : Taken
unsynchronised = taken.Refused distrust.Unsynchronised

-- octets that are taken for a reply of an unsynchronised clock are a signed reply
pub unsynchronised-signed : (c : ClientState) (octets : List ℕ) (at : Moment) → AreOctets octets → taken_for c octets at ≡ unsynchronised
    → (r : RequestValue) × IsRequest octets r × IsSigned c.key c.number r
unsynchronised-signed c octets at are is =
    let a = authentic c octets at unsynchronised are refl is in (a.reply, a.reads, a.signed)
