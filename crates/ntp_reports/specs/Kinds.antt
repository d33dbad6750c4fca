-- What an observation is counted as.
use Rattle.std.specs.Prelude.{ℕ, Bool, ◌==◌, List, [], ◌∷◌, if◌then◌else◌}
use denote.Enum.Declared.{tag_of}
use Rattle.ntp_packet.specs.declared.malformed.Malformed.{Malformed}
use Rattle.ntp_packet.specs.declared.malformed.Malformed.TheVariants as malformed
use Rattle.ntp_service.specs.{declared.refusal.Refusal.Refusal, declared.observation.LineOutcome.LineOutcome}
use Rattle.ntp_service.specs.{declared.observation.Observation.Observation, declared.observation.Sending.Sending}
use Rattle.ntp_service.specs.declared.observation.TurnOutcome.TheVariants.{NothingReceived, Answered}
use Rattle.ntp_service.specs.declared.refusal.Refusal.TheVariants as refusal
use Rattle.ntp_reply.specs.{declared.answers.Answer.Answer, declared.answers.Reason.Reason}
use Rattle.ntp_reply.specs.declared.answers.Answer.TheVariants as answer
use Rattle.ntp_reply.specs.declared.answers.Reason.TheVariants as reason
use Rattle.ntp_service.specs.declared.observation.LineOutcome.TheVariants as line
use Rattle.ntp_service.specs.declared.observation.Observation.TheVariants.{Line, Turn}
use Rattle.ntp_service.specs.declared.observation.Sending.TheVariants as sending
use Rattle.ntp_reports.specs.{contracts.kind.Kind.the_type, declared.kind.Kind.Kind}
use Rattle.ntp_reports.specs.declared.kind.Kind.TheVariants as kind

-- the place of a kind in the order of their declaration, counted from 0: what Rust gives for `kind as usize`
abbrev pub place_of : Kind → ℕ
place_of k = tag_of the_type k

-- whether two kinds are the same
abbrev pub is_kind : Kind → Kind → Bool
is_kind k other = place_of other == place_of k

-- why octets are no packet, without the place
abbrev pub malformed_kind : Malformed → Kind
malformed_kind malformed.Short = kind.Short
malformed_kind malformed.Long = kind.Long
malformed_kind (malformed.FieldShort place) = kind.FieldShort
malformed_kind (malformed.FieldUnaligned place) = kind.FieldUnaligned
malformed_kind (malformed.FieldPastEnd place) = kind.FieldPastEnd
malformed_kind (malformed.Rest place) = kind.Rest

-- why there is no reply
abbrev pub silence_kind : Reason → Kind
silence_kind reason.Unregistered = kind.Unregistered
silence_kind (reason.Malformed fault) = malformed_kind fault
silence_kind reason.Version = kind.Version
silence_kind reason.Mode = kind.Mode
silence_kind reason.Bare = kind.Bare
silence_kind reason.Muted = kind.Muted
silence_kind reason.OverBudget = kind.OverBudget

-- an answer, time by whether it is interleaved
abbrev pub answer_kind : Answer → Kind
answer_kind (answer.Time reply saved) = if reply.is_interleaved then kind.Interleaved else kind.Basic
answer_kind (answer.Rate reply) = kind.Rate
answer_kind (answer.Deny reply) = kind.Deny
answer_kind (answer.Nak reply) = kind.Nak
answer_kind (answer.Silent why) = silence_kind why

-- what became of a reply: one that was sent as it should be is not counted again
abbrev pub sending_kinds : Sending → List Kind
sending_kinds sending.NotSent = kind.NotSent ∷ []
sending_kinds sending.Noted = kind.Noted ∷ []
sending_kinds other = []

-- why a command was refused
abbrev pub refusal_kind : Refusal → Kind
refusal_kind refusal.AlreadyEnrolled = kind.AlreadyEnrolled
refusal_kind refusal.KeyTaken = kind.KeyTaken
refusal_kind refusal.NoMemory = kind.NoMemory
refusal_kind refusal.NotEnrolled = kind.NotEnrolled
refusal_kind refusal.SameNumber = kind.SameNumber
refusal_kind refusal.RoomFull = kind.RoomFull
refusal_kind refusal.OnlyKey = kind.OnlyKey
refusal_kind refusal.NotHeld = kind.NotHeld

-- a line of commands
abbrev pub line_kind : LineOutcome → Kind
line_kind line.Done = kind.Done
line_kind (line.Refused why) = refusal_kind why
line_kind (line.Faulty fault) = kind.Faulty

-- what an observation is counted as: a line by what became of it, and a turn by its answer and what became of the reply
abbrev pub kinds_of : Observation → List Kind
kinds_of (Line number command outcome) = line_kind outcome ∷ []
kinds_of (Turn NothingReceived) = kind.NothingReceived ∷ []
kinds_of (Turn (Answered arrival a sending)) = answer_kind a ∷ sending_kinds sending
