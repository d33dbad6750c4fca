-- Not to be believed: for proofs. What a look, the start, a wait and a turn do.
use Rattle.std.specs.Prelude.{◌≡◌, ◌⊎◌, ℕ, ◌-◌, ◌^◌, Bool, true, is_some, Option, None, Some, List, [], ◌∷◌, ◌++◌, length, map, flat_map}
use Rattle.std.specs.Option.{option_map_or}
use Rattle.ntp_packet.specs.declared.moment.Moment.{Moment}
use Rattle.ntp_reply.specs.Reference.{ReferenceState}
use Rattle.ntp_service.specs.{declared.event.Event.Event, InTurn.InTurn, Headline.StandsFor, Headline.Tells}
use Rattle.ntp_port.specs.{Port.CountsMore, Made.Made, Serving.Makes}
use Rattle.ntp_admin.specs.CommandsFile.{most_line_octets, count_on, complete_lines, TakenLine, happened_at_lines, line_observations}
use Rattle.ntp_server.specs.declared.server.Server.{Server}
use Rattle.ntp_server.specs.Rounds.{Round, PartsTell, AreDueInTurn, LooksInTurn, AsksInTurn, given_in, turns_in, waits_in, asked_in, happened_in_round, round_observations}

-- a look was made, which asked with this, and gave something or not
pub record Looks {P C R O A : Type 0} (before after : Server P C R O A) (t : PartsTell P C R O) (asked : Option Moment) (gave : Bool)
    : Type 0 where
  pub given : Option (List ℕ)
  pub is : gave ≡ is_some given
  pub taken : List TakenLine
  pub lines : map (λ x. x.line) taken ≡ option_map_or complete_lines given []
  pub counted : after.applied ≡ count_on before.applied (length taken)
  pub commands : t.looked before.commands after.commands asked given
  pub observed : InTurn t.heard before.observer after.observer (line_observations most_line_octets before.applied taken)
  pub tells : (history : List (Event A)) → StandsFor before.service history
      → Tells history (happened_at_lines most_line_octets taken) after.service

-- what was done in these rounds at the service and its commands
pub record Orders {P C R O A : Type 0} (before after : Server P C R O A) (t : PartsTell P C R O) (rounds : List Round) : Type 0 where
  pub due : AreDueInTurn before.applied rounds after.applied
  pub commands : LooksInTurn t.looked before.commands after.commands rounds
  pub observed : InTurn t.heard before.observer after.observer (flat_map round_observations rounds)
  pub tells : (history : List (Event A)) → StandsFor before.service history
      → Tells history (flat_map happened_in_round rounds) after.service

-- the looks at the start were made
pub record Starts {P C R O A : Type 0} (before after : Server P C R O A) (t : PartsTell P C R O) : Type 0 where
  pub start : List Round
  pub at_start : turns_in start ≡ []
  pub gave : List (List ℕ)
  pub until : (given_in start ≡ map Some gave ++ None ∷ []) ⊎ (given_in start ≡ map Some gave) × (length gave ≡ 2 ^ 64 - 1)
  pub orders : Orders before after t start

-- rounds were made while waiting at a port that is prompt or not
pub record Waits {P C R O A : Type 0} (before after : Server P C R O A) (t : PartsTell P C R O)
    (Shown : List (Option Moment) → Type 0) (prompt : Bool) : Type 0 where
  pub rounds : List Round
  pub no_turn : turns_in rounds ≡ []
  pub waiting : waits_in rounds ≡ rounds
  pub one_look : prompt ≡ true → rounds ≡ []
  pub orders : Orders before after t rounds
  pub waited : CountsMore (t.counts before.port).idle_waits (t.counts after.port).idle_waits (length rounds)
  pub tended : AsksInTurn t.asked t.tended before.reference after.reference rounds
  pub reported : Shown (map asked_in rounds)

-- rounds were made; the last one alone has a turn
pub record MakesTurn {P C R O A : Type 0} (before after : Server P C R O A) (t : PartsTell P C R O)
    (Shown : List (Option Moment) → Type 0) (prompt may_drop : Bool) : Type 0 where
  pub earlier : List Round
  pub round : Round
  pub reference : ReferenceState
  pub made : Made
  pub no_turn : turns_in earlier ≡ []
  pub waiting : waits_in earlier ≡ earlier
  pub turn : round.turn ≡ Some (reference, made)
  pub one_look : prompt ≡ true → earlier ≡ []
  pub orders : Orders before after t (earlier ++ round ∷ [])
  pub states : AsksInTurn t.asked t.tended before.reference after.reference (earlier ++ round ∷ [])
  pub waits : CountsMore (t.counts before.port).idle_waits (t.counts after.port).idle_waits (length earlier)
  pub reported : Shown (map asked_in (earlier ++ round ∷ []))
  pub port : Makes may_drop (made ∷ []) (t.counts before.port) (t.counts after.port) (t.port before.port) (t.port after.port)
