-- What became of a reply.
use Rattle.std.specs.Prelude.{Bool, true, false}
use Rattle.ntp_service.specs.declared.observation.Sending.{Sending}
use Rattle.ntp_service.specs.declared.observation.Sending.TheVariants.{NoReply, NotSent, Noted}

-- whether it was sent
abbrev pub was_sent : Sending → Bool
was_sent NoReply = false
was_sent NotSent = false
was_sent other = true

-- whether its departure was noted
abbrev pub was_noted : Sending → Bool
was_noted Noted = true
was_noted other = false
