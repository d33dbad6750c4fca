-- When it is time to ask a source of commands again.
use Rattle.std.specs.Prelude.{◌≡◌, ℕ, ◌+◌, ◌-◌, ◌%◌, ◌^◌, Bool, true, false, ◌==◌, ◌||◌, nat_le, Option, None, Some, option_map, List}
use Rattle.std.specs.Option.{option_or}
use Rattle.ntp_packet.specs.{declared.stamp.Stamp.Stamp, declared.moment.Moment.Moment}
use Rattle.ntp_port.specs.declared.pacing.EachMillisecond.{EachMillisecond}

-- whether it is time to ask again, by the receipt with which it was asked last: where no datagram waits, where it was never asked with
-- a receipt, where the clock could not be read, which gives 0, and where a thousandth of a second or more, which is 4,294,967 units of
-- 2^-32 seconds, lies between the receipts, modulo 2^64: where the clock was set back, nearly an era (RFC 5905, 6)
abbrev pub is_due : Option Stamp → Option Moment → Bool
is_due (Some asked) (Some receipt) =
    (receipt.stamp.0 == 0) || nat_le 4294967 ((receipt.stamp.0 + (2 ^ 64 - asked.0)) % 2 ^ 64)
is_due asked receipt = true

-- a look at a source that is asked where it is time to: then it is asked once, with the same receipt, which is kept if there is one,
-- and what it gives is given; else nothing is given, and all stays as it was
abbrev pub Paced : {C : Type 0} → (C → C → Option Moment → Option (List ℕ) → Type 0) → EachMillisecond C → EachMillisecond C → Option Moment
    → Option (List ℕ) → Type 0
Paced Looked before after asked given =
    (is_due before.asked asked ≡ true → Looked before.source after.source asked given
    × (after.asked ≡ option_or (option_map (λ receipt. receipt.stamp) asked) before.asked))
    × (is_due before.asked asked ≡ false → (given ≡ None) × (after ≡ before))
