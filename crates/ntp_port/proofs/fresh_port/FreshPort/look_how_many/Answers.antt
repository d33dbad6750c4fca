use Rattle.std.proofs.Common.{◌≡◌, inl, inr, rules, true, arith}
use Rattle.ntp_port.proofs.Looking.{Looks-none, Looks-some, Looks-count}
use Rattle.ntp_port.proofs.fresh_port.FreshPort.look_how_many.Goals as goal
use Rattle.ntp_port.proofs.fresh_port.FreshPort.look_how_many.Goals.{else-not-is_waiting-via-then-not-is_waiting+else-is_old, else-not-is_waiting-via-else-not-is_waiting}

pub returns-then-is_old-clause-looks : goal.returns-then-is_old-clause-looks
returns-then-is_old-clause-looks g c =
    Looks-some _ _ 0
    (Looks-count _ _ _ _ c.most_held-count.result c.most_held-count.ensures.turns c.saw.ensures.longest
    (inr (λ waits. let is : c.is_waiting.result ≡ true = c.is_waiting.ensures.1 waits in absurd (cc))) c.saw.ensures.watches c.saw.ensures.counts
    c.most_held-count.ensures.history)

pub returns-else-not-is_waiting-clause-looks : goal.returns-else-not-is_waiting-clause-looks
returns-else-not-is_waiting-clause-looks g c = elim c.else-not-is_waiting.branch [
  | else-not-is_waiting-via-then-not-is_waiting+else-is_old w ↦ rw w.self-is (Looks-none _)
  | else-not-is_waiting-via-else-not-is_waiting w ↦ rw w.self-is (Looks-none _)
]

pub returns-else-not-is_waiting-clause-counted : goal.returns-else-not-is_waiting-clause-counted
returns-else-not-is_waiting-clause-counted g c = elim c.else-not-is_waiting.branch [
  | else-not-is_waiting-via-then-not-is_waiting+else-is_old w ↦
      let known = w.is_old.ensures.0 w.if-is_old.false in rw w.self-is (inr (known.0, known.1, omega (arith, known.2)))
  | else-not-is_waiting-via-else-not-is_waiting w ↦ rw w.self-is (inl (search rules))
]
