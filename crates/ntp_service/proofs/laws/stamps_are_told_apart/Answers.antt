use Rattle.ntp_reply.specs.{Life.recent_in, Exchanged.matched}
use Rattle.ntp_reply.proofs.PublicLaws.{matched-saved, basic-distinct, time-distinct}
use Rattle.ntp_service.specs.Model.{life_of}
use Rattle.ntp_service.proofs.ApartLives.{AreSaved-life_of}
use Rattle.ntp_service.proofs.laws.stamps_are_told_apart.Goals as goal

pub returns-clause-saved : goal.returns-clause-saved
returns-clause-saved g c = AreSaved-life_of

pub returns-clause-time : goal.returns-clause-time
returns-clause-time g c = λ events o request.
    let saved = recent_in (life_of events) in
    time-distinct o saved (AreSaved-life_of events) request (matched saved request) (matched-saved saved request)

pub returns-clause-nak : goal.returns-clause-nak
returns-clause-nak g c = λ events o request. basic-distinct o (recent_in (life_of events)) (AreSaved-life_of events) request
