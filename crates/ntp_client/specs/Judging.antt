-- Not to be believed: for proofs. The steps of `taken_for` from a packet on, from its tail on, from its MAC on, and the last ones.
use Rattle.std.specs.Prelude.{ℕ, not, ◌==◌, ok_or, Result, Ok}
use Rattle.ntp_packet.specs.{declared.moment.Moment.Moment, Header.HeaderFields, Kiss.rate_code, Request.RequestValue}
use Rattle.ntp_packet.specs.FirstCase.{◌>>=◌, ◌>>◌, provided}
use Rattle.ntp_mac.specs.{Key.SymmetricKey, Signed.is_signed}
use Rattle.ntp_client.specs.{declared.exchange.Outstanding.Outstanding, declared.pairing.Pairing.Pairing}
use Rattle.ntp_client.specs.{declared.sample.Sample.Sample, declared.taken.Taken.Taken, Pairing.pairing_of, Pairing.sample_of}
use Rattle.ntp_client.specs.declared.taken.Taken.TheVariants as taken
use Rattle.ntp_client.specs.declared.taken.Distrust.TheVariants as distrust
use Rattle.ntp_client.specs.Taking.{is_kiss, is_synchronised, lacks_stamp, with_mac}

-- of an authentic reply (profile)
abbrev pub authentic_steps : Pairing → HeaderFields → Sample → Result Taken Taken
authentic_steps pairing h sample = do
  provided (not (is_kiss rate_code h pairing)) taken.Rate
  provided (is_synchronised h.clock.leap h.clock.stratum) (taken.Refused distrust.Unsynchronised)
  provided (not (lacks_stamp h)) (taken.Refused distrust.Stamps)
  Ok (taken.Sample sample)

-- of a reply with a MAC (profile)
abbrev pub mac_steps : SymmetricKey → ℕ → Pairing → RequestValue → Sample → Result Taken Taken
mac_steps key number pairing r sample = do
  provided (is_signed key number r) (taken.Refused distrust.Mac)
  authentic_steps pairing r.header sample

-- of a reply to the request (profile)
abbrev pub tail_steps : SymmetricKey → ℕ → Pairing → RequestValue → Sample → Result Taken Taken
tail_steps key number pairing r sample = do
  with_mac r pairing r.tail
  mac_steps key number pairing r sample

-- of a packet (profile)
abbrev pub packet_steps : SymmetricKey → ℕ → Outstanding → RequestValue → Moment → Result Taken Taken
packet_steps key number q r at = do
  provided (r.header.mode == 4) (taken.Refused distrust.Mode)
  provided (r.header.version == 4) (taken.Refused distrust.Version)
  pairing ← ok_or (pairing_of q r.header.origin) (taken.Refused distrust.Origin)
  tail_steps key number pairing r (sample_of q pairing r.header at)
