-- How the state of a clock follows from the answers of its daemon, and what a source of it gives.
use Rattle.std.specs.Prelude.{◌≡◌, ℕ, Bool, true, false, Option, None, Some, IfSome, IfNone, List, [], ◌∷◌, ◌++◌}
use Rattle.std.specs.{List.fold, List.flat_map, Option.option_map_or}
use Rattle.ntp_packet.specs.declared.moment.Moment.{Moment}
use Rattle.ntp_reply.specs.Reference.{ReferenceState}
use Rattle.ntp_client.specs.{declared.reading.Reading.Reading, InForce.in_force, InForce.unsynchronised, InForce.told_with, Taking.taken_for}
use Rattle.ntp_client.specs.Learning.{FollowerState, looked, asked, took, has_to_read_anew}
use Rattle.ntp_host.specs.declared.followed_clock.ClockSource.{ClockSource}
use Rattle.ntp_host.specs.declared.followed_clock.ClockSource.TheVariants.{Fixed, Followed}

-- what a wire to a clock's daemon tells: the octets that have come in, in order, where it tells them; and whether the host's clock can be read
-- at each call from here on
pub record ClockTold : Type 0 where
  pub received : Option (List (List ℕ))
  pub reads : Bool

-- one that tells nothing
abbrev pub nothing_told : ClockTold
nothing_told = record { received = None; reads = false }

-- these octets came in, or none did
abbrev pub ComesIn : ClockTold → ClockTold → Option (List ℕ) → Type 0
ComesIn old new came = (new.reads ≡ old.reads)
    × IfSome old.received (λ earlier. new.received ≡ Some (earlier ++ option_map_or (λ octets. octets ∷ []) came []))

-- what is done with a follower at a reading of the clocks: it looks, asks, or takes octets that came; or they are dropped, where the host's
-- clock could not be read
pub data Step : Type 0 where
  Looks : Reading → Step
  Asks : Reading → Step
  Takes : List ℕ → Reading → Step
  Drops : List ℕ → Step

-- the follower behind a step
abbrev pub behind : FollowerState → Step → FollowerState
behind f (Looks now) = looked f now
behind f (Asks now) = asked f now
behind f (Takes octets now) = took (looked f now) octets now (taken_for (looked f now).client octets now.clock)
behind f (Drops octets) = f

-- the octets that came in at a step
abbrev pub octets_at : Step → List (List ℕ)
octets_at (Takes octets now) = octets ∷ []
octets_at (Drops octets) = octets ∷ []
octets_at step = []

-- those that are dropped at it
abbrev pub dropped_at : Step → List (List ℕ)
dropped_at (Drops octets) = octets ∷ []
dropped_at step = []

-- a follower went on by steps, in which what came in came as it did; where the host's clock can be read, none of it was dropped
pub record Follows (old new : FollowerState) (before after : ClockTold) : Type 0 where
  pub steps : List Step
  pub lead : new ≡ fold behind old steps
  pub came : IfSome before.received (λ earlier. after.received ≡ Some (earlier ++ flat_map octets_at steps))
  pub reads : after.reads ≡ before.reads
  pub none_dropped : before.reads ≡ true → flat_map dropped_at steps ≡ []

-- an ask with a receipt is answered by the follower's state as it is by then, at that reading, or where the clocks have to be read anew at
-- a later one; without a receipt by that of an unsynchronised clock
pub record AsksFollowed (old new : FollowerState) (before after : ClockTold) (receipt : Option Moment) (given : ReferenceState)
    : Type 0 where
  pub follows : Follows old new before after
  pub unread : IfNone receipt (given ≡ unsynchronised)
  pub state : IfSome receipt (λ clock. (ticks : ℕ) × (now : Reading) × (given ≡ in_force new.limits new.learned now)
      × (has_to_read_anew old (record { clock = clock; ticks = ticks }) ≡ false → now ≡ record { clock = clock; ticks = ticks }))

-- an ask at a source of a clock's state: a fixed one gives its state, one that follows a daemon its follower's; each stays of its sort
abbrev pub AsksClock : {W : Type 0} → (W → ClockTold) → ClockSource W → ClockSource W → Option Moment → ReferenceState → Type 0
AsksClock told (Fixed state) after receipt given = (given ≡ told_with receipt state) × (after ≡ Fixed state)
AsksClock told (Followed old) (Followed new) receipt given = (state : ReferenceState)
    × AsksFollowed old.follower new.follower (told old.wire) (told new.wire) receipt state × (given ≡ told_with receipt state)
AsksClock told (Followed old) (Fixed state) receipt given = ⊥

-- time to look after itself
abbrev pub TendsClock : {W : Type 0} → (W → ClockTold) → ClockSource W → ClockSource W → Type 0
TendsClock told (Fixed state) after = after ≡ Fixed state
TendsClock told (Followed old) (Followed new) = Follows old.follower new.follower (told old.wire) (told new.wire)
TendsClock told (Followed old) (Fixed state) = ⊥
