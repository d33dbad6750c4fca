-- A case that is not decided by a step is decided by the steps after it.
use Rattle.std.proofs.Common.{◌≡◌, ◌≢◌, Bool, true, Option, Some, Result, Ok, arith}
use Rattle.std.specs.Prelude.{ok_or}
use Rattle.ntp_packet.specs.FirstCase.{◌>>=◌, ◌>>◌, provided, map_err, decided}

module _ {D : Type 0} where
  -- after a condition, which holds then
  pub after-provided : (b : Bool) (otherwise d : D) (others : Result D D) → otherwise ≢ d → decided (provided b otherwise >> others) ≡ d
      → (b ≡ true) × (decided others ≡ d)
  after-provided b otherwise d others e f = grind arith

  -- after an option, which has a value then
  pub after-ok_or : {X : Type 0} (o : Option X) (otherwise d : D) (others : X → Result D D) → otherwise ≢ d
      → decided (ok_or o otherwise >>= others) ≡ d
      → (x : X) × (o ≡ Some x) × (decided (others x) ≡ d)
  after-ok_or o otherwise d others e f = grind arith

  -- after a result, which is no error then
  pub after-map_err : {X E : Type 0} (r : Result X E) (said : E → D) (d : D) (others : X → Result D D) → ((e : E) → said e ≢ d)
      → decided (map_err r said >>= others) ≡ d
      → (x : X) × (r ≡ Ok x) × (decided (others x) ≡ d)
  after-map_err r said d others e f = grind arith
