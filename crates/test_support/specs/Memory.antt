-- What parts in memory tell.
use Rattle.std.specs.Prelude.{◌≡◌, ℕ, ◌<◌, false, Option, option_map, List, [], ◌∷◌, ◌++◌, map, drop, slice_get, vec_len, vec_capacity}
use Rattle.std.specs.{Option.option_map_or, Bool.OnFalse}
use Rattle.ntp_reply.specs.Reference.{ReferenceState}
use Rattle.ntp_service.specs.declared.observation.Observation.{Observation}
use Rattle.test_support.specs.declared.memory_server.{MemoryCommands.MemoryCommands, MemoryStates.MemoryStates, MemoryObserver.MemoryObserver}

-- the first of a list is taken from it, or else this
abbrev pub Takes : {X : Type 0} → X → List X → List X → X → Type 0
Takes behind left after given = (given ≡ option_map_or (λ x. x) (slice_get left 0) behind) × (after ≡ drop 1 left)

-- what the looks at a commands file in memory have still to give, and then nothing
abbrev pub pieces_left : {A : Type 0} → MemoryCommands A → List (Option (List ℕ))
pieces_left m = map (λ look. option_map (λ octets. octets.items) look) (drop m.made m.looks.items)

-- what a list of states has still to give, and then one for ever
abbrev pub states_left : {A : Type 0} → MemoryStates A → List ReferenceState
states_left m = drop m.given m.states.items

-- an observer in memory has kept one observation more, as long as it missed none
abbrev pub KeepsOne : {A : Type 0} → MemoryObserver A → MemoryObserver A → Observation → Type 0
KeepsOne old new observation = OnFalse new.has_missed ((old.has_missed ≡ false) × (new.seen.items ≡ old.seen.items ++ observation ∷ []))

-- an observer in memory has room for one observation more
abbrev pub HasRoom : {A : Type 0} → MemoryObserver A → Type 0
HasRoom m = vec_len m.seen < vec_capacity m.seen
