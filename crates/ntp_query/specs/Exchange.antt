-- A query: one request, and what comes of it.
use Rattle.std.specs.Prelude.{◌≡◌, ℕ, Option, IfSome, IsSomeAnd, List, [], ◌∷◌, ◌++◌, map, find, unwrap_or}
use Rattle.ntp_packet.specs.declared.moment.Moment.{Moment}
use Rattle.ntp_query.specs.{declared.outcome.Outcome.Outcome, declared.outcome.Outcome.TheVariants.Silence}
use Rattle.ntp_query.specs.{declared.asker.Asker.Asker, Outcome.ends, Outcome.last_or}
use Rattle.ntp_query.specs.Asker.{request_octets, after_request, heard_by}

-- a datagram that comes, cut to 1,025 octets, and when
pub record Incoming : Type 0 where
  pub octets : List ℕ
  pub at : Moment

-- the next datagram came with these octets at a moment, at a link that tells what comes, which then goes on to tell it
abbrev pub Comes : Option (List Incoming) → Option (List Incoming) → List ℕ → Moment → Type 0
Comes t u octets at = IfSome t (λ old. IsSomeAnd u (λ new. old ≡ record { octets = octets; at = at } ∷ new))

-- a request was sent, at a link that tells what was sent
abbrev pub Sends : Option (List (List ℕ)) → Option (List (List ℕ)) → List ℕ → Type 0
Sends t u request = IfSome t (λ old. IsSomeAnd u (λ new. new ≡ old ++ request ∷ []))

-- what comes of a request that waits for a reply, of what each arrival comes to: the first that ends it, wherever it stands, or
-- else the last; of no arrival silence
abbrev pub outcome_of : Asker → List Incoming → Outcome
outcome_of a arrivals =
    let outcomes = map (λ it. heard_by a it.octets it.at) arrivals in unwrap_or (find ends outcomes) (last_or Silence outcomes)

-- one asked, and this came of it: the next request was sent, once, and what came until the time limit was heard
pub record IsQuery (a : Asker) (sent now_sent : Option (List (List ℕ))) (coming : Option (List Incoming)) (o : Outcome) : Type 0 where
  pub departure : Moment
  pub request : Sends sent now_sent (request_octets a departure)
  pub outcome : IfSome coming (λ arrivals. o ≡ outcome_of (after_request a departure) arrivals)
