-- What a server with its commands does.
use Rattle.std.specs.Prelude.{◌≡◌, ◌⊎◌, ℕ, ◌-◌, ◌^◌, Bool, true, is_none, Option, None, Some, IfSome, IsSome, option_map, List, [], ◌∷◌, ◌++◌, length, map, filter, flat_map, slice_get}
use Rattle.std.specs.{List.filter_map, Option.option_map_or, Option.option_and_then}
use Rattle.ntp_packet.specs.declared.moment.Moment.{Moment}
use Rattle.ntp_reply.specs.Reference.{ReferenceState}
use Rattle.ntp_service.specs.{declared.event.Event.Event, declared.outcome.Outcome.Outcome}
use Rattle.ntp_service.specs.{declared.observation.Observation.Observation, declared.observation.Observation.TheVariants.Turn}
use Rattle.ntp_service.specs.{InTurn.InTurn, Headline.StandsFor, Headline.Tells}
use Rattle.ntp_port.specs.{declared.port.PortCounts.PortCounts, Port.Told, Port.CountsMore, Serving.Makes}
use Rattle.ntp_port.specs.Made.{Made, turn_of, happened_in_turn, turn_outcome}
use Rattle.ntp_admin.specs.CommandsFile.{most_line_octets, count_on, complete_lines, TakenLine, happened_at_lines, line_observations}
use Rattle.ntp_server.specs.declared.server.Server.{Server}

-- a round: a look at the commands, before which `applied` lines were applied, with the octets that their source gave, if any, and the lines
-- that were taken; and the turn behind it, if one was made, with the state of the clock that was in force
pub record Round : Type 0 where
  pub applied : ℕ
  pub given : Option (List ℕ)
  pub taken : List TakenLine
  pub turn : Option (ReferenceState × Made)

-- in these rounds the complete lines of what was given were taken, and their numbers go on from round to round
abbrev pub AreDueInTurn : ℕ → List Round → ℕ → Type 0
AreDueInTurn applied [] after = after ≡ applied
AreDueInTurn applied (r ∷ rounds) after = (r.applied ≡ applied) × (map (λ t. t.line) r.taken ≡ option_map_or complete_lines r.given [])
    × AreDueInTurn (count_on applied (length r.taken)) rounds after

-- what the looks of rounds gave
abbrev pub given_in : List Round → List (Option (List ℕ))
given_in rounds = map (λ r. r.given) rounds

-- the turns of rounds, with their states, what was made in them, and the rounds without a turn
abbrev pub turns_in : List Round → List (ReferenceState × Made)
turns_in rounds = filter_map (λ r. r.turn) rounds

abbrev pub made_in : List Round → List Made
made_in rounds = map (λ t. t.1) (turns_in rounds)

abbrev pub waits_in : List Round → List Round
waits_in rounds = filter (λ r. is_none r.turn) rounds

-- when the datagram of a turn came
abbrev pub receipt_in : Made → Option Moment
receipt_in m = option_map (λ d. d.receipt) (turn_of m).arrival

-- what the source of commands is asked with at the look of a round: with when the datagram came that its turn answers, or with nothing
abbrev pub asked_in : Round → Option Moment
asked_in r = option_and_then (λ t. receipt_in t.1) r.turn

-- the looks of rounds follow one another, from one state of the source of commands to another
abbrev pub LooksInTurn : {C : Type 0} → (C → C → Option Moment → Option (List ℕ) → Type 0) → C → C → List Round → Type 0
LooksInTurn Looked = InTurn (λ before after r. Looked before after (asked_in r) r.given)

-- in a round the source of the states was asked for that of the turn, or without a turn given time
abbrev pub AsksOnce : {R : Type 0} → (R → R → Option Moment → ReferenceState → Type 0) → (R → R → Type 0) → R → R
    → Option (ReferenceState × Made) → Type 0
AsksOnce Asked Tended before after None = Tended before after
AsksOnce Asked Tended before after (Some (state, made)) = Asked before after (receipt_in made) state

-- and so once in each of these rounds, in turn
abbrev pub AsksInTurn : {R : Type 0} → (R → R → Option Moment → ReferenceState → Type 0) → (R → R → Type 0) → R → R → List Round → Type 0
AsksInTurn Asked Tended = InTurn (λ before after r. AsksOnce Asked Tended before after r.turn)

-- what happened in a round: at the lines that were taken, then in its turn
abbrev pub happened_in_round : {A : Type 0} → Round → List (Event A × Outcome)
happened_in_round r = happened_at_lines most_line_octets r.taken ++ option_map_or (λ t. happened_in_turn t.0 t.1) r.turn []

-- what an observer hears of a round: each line that was taken, then the turn
abbrev pub round_observations : Round → List Observation
round_observations r = line_observations most_line_octets r.applied r.taken ++ option_map_or (λ t. Turn (turn_outcome t.1) ∷ []) r.turn []

-- what the parts of a server tell: its port, and what that counted; a look at its commands; an ask for the state of its clock, and time
-- for the source of that; what its observer heard
pub record PartsTell (P C R O : Type 0) : Type 1 where
  pub port : P → Option Told
  pub counts : P → PortCounts
  pub looked : C → C → Option Moment → Option (List ℕ) → Type 0
  pub asked : R → R → Option Moment → ReferenceState → Type 0
  pub tended : R → R → Type 0
  pub heard : O → O → Observation → Type 0

-- a server that was `before` made `turns` turns and is `after`, at a port that is prompt or not, and may drop or not
pub record ServesRounds {P C R O A : Type 0} (before after : Server P C R O A) (t : PartsTell P C R O)
    (Shown : List (Option Moment) → Type 0) (prompt may_drop : Bool) (turns : ℕ) : Type 0 where
  -- the rounds at the start, none with a turn: their looks gave these octets one by one, and then nothing, or were 2^64 - 1
  pub start : List Round
  pub at_start : turns_in start ≡ []
  pub gave : List (List ℕ)
  pub until : (given_in start ≡ map Some gave ++ None ∷ []) ⊎ (given_in start ≡ map Some gave) × (length gave ≡ 2 ^ 64 - 1)
  -- the rounds behind them; the last one has a turn
  pub rounds : List Round
  pub each : length (turns_in rounds) ≡ turns
  pub last : IfSome (slice_get rounds (length rounds - 1)) (λ r. IsSome r.turn)
  -- where no wait of the port ends with nothing, each of them has one
  pub one_look : prompt ≡ true → waits_in rounds ≡ []
  pub due : AreDueInTurn before.applied (start ++ rounds) after.applied
  pub commands : LooksInTurn t.looked before.commands after.commands (start ++ rounds)
  pub states : AsksInTurn t.asked t.tended before.reference after.reference rounds
  -- in each round without a turn one wait of the port ended with nothing
  pub waits : CountsMore (t.counts before.port).idle_waits (t.counts after.port).idle_waits (length (waits_in rounds))
  -- the reporter was shown the server once in each round, with what the source of commands was asked with there
  pub reported : Shown (map asked_in rounds)
  pub port : Makes may_drop (made_in rounds) (t.counts before.port) (t.counts after.port) (t.port before.port) (t.port after.port)
  pub observed : InTurn t.heard before.observer after.observer (flat_map round_observations (start ++ rounds))
  -- whatever history the service stood for, it tells what happened in the rounds
  pub tells : (history : List (Event A)) → StandsFor before.service history
      → Tells history (flat_map happened_in_round (start ++ rounds)) after.service
