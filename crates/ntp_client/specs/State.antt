-- What a client knows.
use Rattle.std.specs.Prelude.{◌≡◌, ◌≢◌, ℕ, ◌<◌, Option, Some, None}
use Rattle.ntp_mac.specs.Key.{SymmetricKey}
use Rattle.ntp_client.specs.{declared.exchange.Exchange.Exchange, declared.exchange.Outstanding.Outstanding}

-- the key and its number, the request that waits for its reply, and the exchange that gave a sample since the last request; the code's
-- `Client` hides them (profile)
pub record ClientState : Type 0 where
  pub key : SymmetricKey
  pub number : ℕ
  pub outstanding : Option Outstanding
  pub sampled : Option Exchange

-- what holds of every request: its receive stamp is known where it carries an exchange, and is never its transmit stamp too
-- (profile)
pub record IsOutstanding (q : Outstanding) : Type 0 where
  pub known : (e : Exchange) → q.earlier ≡ Some e → e.arrival.0 ≢ 0
  pub apart : (e : Exchange) → q.earlier ≡ Some e → e.arrival ≢ q.transmit

-- what holds of every client: its key has a number, and its stamps are such ones (profile)
pub record IsClient (c : ClientState) : Type 0 where
  pub number : 0 < c.number
  pub outstanding : (q : Outstanding) → c.outstanding ≡ Some q → IsOutstanding q
  pub sampled : (e : Exchange) → c.sampled ≡ Some e → e.arrival.0 ≢ 0

-- a client that has asked nothing (profile)
abbrev pub new_client : SymmetricKey → ℕ → ClientState
new_client key number = record { key = key; number = number; outstanding = None; sampled = None }
