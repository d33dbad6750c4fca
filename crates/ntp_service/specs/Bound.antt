-- How many replies an address gets in one window.
use Rattle.std.specs.Prelude.{◌≡◌, ◌≢◌, ℕ, ◌+◌, ◌≤◌, ◌==◌, ◌&&◌, Bool, true, false, Option, Some, None, List, ◌++◌, map, All, AllPairs, filter_map, count_by}
use Rattle.std.specs.Option.{option_map_or}
use Rattle.ntp_packet.specs.Moment.{window_of}
use Rattle.ntp_service.specs.{declared.address.Address.Address, declared.event.Event.Event, declared.outcome.Outcome.Outcome}
use Rattle.ntp_service.specs.{Events.own, Model.life_after, Model.life_of, Headline.happened_to}
use Rattle.ntp_reply.specs.{Life.Life, Life.enrolment_in, Verdict.refusals_sent}
use Rattle.ntp_reply.specs.declared.answers.Answer.TheVariants as answer
use Rattle.ntp_service.specs.declared.event.Event.TheVariants as event
use Rattle.ntp_service.specs.declared.outcome.Outcome.TheVariants as outcome

-- whether an outcome is a reply to a signed query: the time, or RATE
abbrev pub is_query_reply : Outcome → Bool
is_query_reply (outcome.Datagram (answer.Time reply saved)) = true
is_query_reply (outcome.Datagram (answer.Rate reply)) = true
is_query_reply other = false

-- whether an outcome is a refusal that is sent: DENY, or a crypto-NAK
abbrev pub is_refusal_reply : Outcome → Bool
is_refusal_reply (outcome.Datagram (answer.Deny reply)) = true
is_refusal_reply (outcome.Datagram (answer.Nak reply)) = true
is_refusal_reply other = false

-- the window of a datagram's receipt
abbrev pub receipt_window : {A : Type 0} → Event A → Option ℕ
receipt_window (event.Datagram address receipt transmit reference octets) = Some (window_of receipt)
receipt_window other = None

-- whether an event is a datagram with its receipt in a window
abbrev pub is_received_in : {A : Type 0} → ℕ → Event A → Bool
is_received_in w e = option_map_or (λ v. v == w) (receipt_window e) false

-- a stretch of events with their outcomes is unbroken: no command of it is done, and the windows of its receipts never fall
pub record IsUnbroken {A : Type 0} (stretch : List (Event A × Outcome)) : Type 0 where
  pub none_done : All (λ p. p.1 ≢ outcome.Done) stretch
  pub never_fall : AllPairs (λ v w. v ≤ w) (filter_map (λ p. receipt_window p.0) stretch)

-- how many of the datagrams with their receipt in a window have an outcome of a sort
abbrev pub replies_in : {A : Type 0} → ℕ → (Outcome → Bool) → List (Event A × Outcome) → ℕ
replies_in w is_of_sort stretch = count_by (λ p. is_received_in w p.0 && is_of_sort p.1) stretch

-- how many replies to signed queries a window can have, under one or other of the customer's keys: one more than the budget; none of
-- an address that is not enrolled
abbrev pub most_query_replies : Life → ℕ
most_query_replies life = option_map_or (λ e. e.budget + 1) (enrolment_in life) 0

-- the replies of a stretch in a window are few, where the stretch begins in this life
pub record HasFewReplies {A : Type 0} (life : Life) (w : ℕ) (stretch : List (Event A × Outcome)) : Type 0 where
  pub queries : replies_in w is_query_reply stretch ≤ most_query_replies life
  pub refusals : replies_in w is_refusal_reply stretch ≤ refusals_sent

-- of what happened, from a life on, replies are few: in each unbroken stretch of it and in each window, by the life in which the stretch
-- begins, that is, the one that the events before it leave
abbrev pub RepliesAreFew : {A : Type 0} → Life → List (Event A × Outcome) → Type 0
RepliesAreFew {A} life happened = (w : ℕ) (before stretch behind : List (Event A × Outcome)) → happened ≡ before ++ stretch ++ behind
    → IsUnbroken stretch → HasFewReplies (life_after life (map (λ p. p.0) before)) w stretch

-- to each address replies are few, after a history
abbrev pub TellsFew : {A : Type 0} → List (Event A) → List (Event A × Outcome) → Type 0
TellsFew history happened = (address : Address) → RepliesAreFew (life_of (own address history)) (happened_to address happened)
