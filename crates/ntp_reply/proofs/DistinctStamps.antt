-- The receive and the transmit stamp of a reply.
use Rattle.std.proofs.Common.{◌^◌, ◌<◌, List, [], ◌∷◌, ◌++◌, length, Option, Some, None, IfSome, Contains, sym, arith}
use Rattle.std.specs.Prelude.{IsTrue}
use Rattle.std.proofs.{lemmas.List.length-append, lemmas.List.length-map, lemmas.List.Elements.Contains-append_right}
use Rattle.ntp_packet.specs.{Fresh.is_free, Header.HeaderFields}
use Rattle.ntp_packet.proofs.PublicLaws.{free-nonzero, free-apart, IsFresh-fresh}
use Rattle.ntp_customer.specs.declared.slot.Slot.{Slot}
use Rattle.ntp_customer.specs.Exchanges.{AreSaved, receives, transmits, all_stamps}
use Rattle.ntp_customer.proofs.PublicLaws.{Contains-map, stamps-apart}
use Rattle.ntp_reply.specs.declared.occasion.Occasion.{Occasion}
use Rattle.ntp_reply.specs.Replies.{HasDistinctStamps, new_stamps, basic_fields, time_fields}

module _ (o : Occasion) (saved : List Slot) (are : AreSaved saved) where
  -- the new receive stamp is no saved stamp
  pub receive-free : IsTrue (is_free (all_stamps saved) (new_stamps o saved).receive)
  receive-free =
      let few : length (all_stamps saved) < 2 ^ 63 =
      omega (
        arith,
        length-append (receives saved) (transmits saved),
        length-map saved (λ x. x.receive),
        length-map saved (λ x. x.transmit),
        are.few,
      ) in
      (IsFresh-fresh o.receipt.stamp (all_stamps saved) few).free

  -- the new transmit stamp is no saved receive stamp, and not the new one
  pub transmit-free : IsTrue (is_free (receives saved ++ (new_stamps o saved).receive ∷ []) (new_stamps o saved).transmit)
  transmit-free =
      let few : length (receives saved ++ (new_stamps o saved).receive ∷ []) < 2 ^ 63 =
      omega (arith, length-append (receives saved) ((new_stamps o saved).receive ∷ []), length-map saved (λ x. x.receive), are.few) in
      (IsFresh-fresh o.transmit.stamp (receives saved ++ (new_stamps o saved).receive ∷ []) few).free

  -- so both are two stamps
  pub basic-distinct : (request : HeaderFields) → HasDistinctStamps (basic_fields o request (new_stamps o saved))
  basic-distinct request = grind (arith, free-apart, transmit-free, Contains-append_right, free-nonzero)

  -- and so is the new receive stamp with the transmit stamp of a saved exchange
  pub time-distinct : (request : HeaderFields) (matched : Option Slot) → IfSome matched (Contains saved)
      → HasDistinctStamps (time_fields o request matched (new_stamps o saved))
  time-distinct request None member = basic-distinct request
  time-distinct request (Some x) member = (
    λ same. free-apart (all_stamps saved) (new_stamps o saved).receive x.transmit receive-free
        (Contains-append_right (receives saved) (transmits saved) _ (Contains-map (λ x. x.transmit) saved x member)) (sym same),
    (stamps-apart saved are x x member member).1,
  )
