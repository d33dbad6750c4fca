-- What is reported of a customer after a turn.
use Rattle.std.proofs.Common.{◌≡◌, ◌==◌, ℕ, Bool, true, false, cond, List, [], ◌∷◌, ◌++◌, Option, Some, None, refl, sym, ap, ◌∙◌, subst, arith, reverse, rules}
use Rattle.std.specs.Prelude.{IfSome, option_map, option_and_then, find, filter_map, slice_get, is_some}
use Rattle.std.specs.{Option.option_or, Option.option_to_list, List.cons_option, Cmp.Lexicographic.same_text}
use Rattle.std.proofs.{lemmas.Bool.Decides.nat_tests, lemmas.List.reverse-append, lemmas.List.Elements.filter-append}
use Rattle.ntp_packet.specs.declared.moment.Moment.{Moment}
use Rattle.ntp_service.specs.{declared.address.Address.Address, Address.address_eq, declared.observation.Arrival.Arrival}
use Rattle.ntp_service.specs.declared.observation.{Observation.Observation, Observation.TheVariants.Turn, Sending.Sending}
use Rattle.ntp_service.specs.declared.observation.TurnOutcome.{TurnOutcome, TheVariants.Answered, TheVariants.NothingReceived}
use Rattle.ntp_reply.specs.declared.answers.Answer.{Answer}
use Rattle.ntp_reports.specs.declared.customer_report.{KeyUse.KeyUse, Signing.Signing, CustomerReport.CustomerReport}
use Rattle.ntp_reports.specs.{declared.customer_counts.CustomerCounts.CustomerCounts, Counted.AreCounts}
use Rattle.ntp_reports.specs.Customers.{signing_in, used_by, key_numbered, Takes}
use Rattle.ntp_reports.specs.Reported.{comes_from, told_of, signed_at, report_at, IfThere, TakesTurn, CountsOf, SignsAs, ReportsTurn}

-- the last signing under a number: the first one from the newest observation back
abbrev last_signed : ℕ → List Observation → Option Moment
last_signed number seen = slice_get (filter_map (signed_at number) (reverse seen)) 0

-- ---- keys

number-if : (b : Bool) (k m : KeyUse) → m.number ≡ k.number → (cond b m k).number ≡ k.number
number-if b k m e = grind arith

-- a key keeps its number
used-number : (s : Option Signing) (k : KeyUse) → (used_by s k).number ≡ k.number
used-number None k = refl
used-number (Some s) k = number-if (k.number == s.number) k (record k { last_signed = Some s.receipt }) refl

module _ (number : ℕ) where
  abbrev named : KeyUse → Bool
  named k = k.number == number

  cond-map : (u : KeyUse → KeyUse) (b : Bool) (k : KeyUse) (rest after : Option KeyUse) → after ≡ option_map u rest
      → cond b (Some (u k)) after ≡ option_map u (cond b (Some k) rest)
  cond-map u b k rest after e = grind arith

  find-keeps : (s : Option Signing) (k : KeyUse) (rest after : Option KeyUse) → after ≡ option_map (used_by s) rest
      → cond (named (used_by s k)) (Some (used_by s k)) after ≡ option_map (used_by s) (cond (named k) (Some k) rest)
  find-keeps s k rest after is = grind (arith, number, used-number, cond-map)

  one-used : (s : Option Signing) (key : Option KeyUse) → find named (option_to_list (option_map (used_by s) key))
      ≡ option_map (used_by s) (find named (option_to_list key))
  one-used s key = grind (arith, find-keeps)

  -- the key with a number, after a turn
  key-used : (s : Option Signing) (first second : Option KeyUse)
      → find named (option_to_list (option_map (used_by s) first) ++ option_to_list (option_map (used_by s) second))
      ≡ option_map (used_by s) (find named (option_to_list first ++ option_to_list second))
  key-used s first second = grind (arith, one-used, find-keeps)

  found-first : (b : Bool) (k : KeyUse) (rest : Option KeyUse) → named k ≡ b → IfSome rest (λ k. named k ≡ true)
      → IfSome (cond b (Some k) rest) (λ k. named k ≡ true)
  found-first b k rest e f = grind arith

  -- what is found has the number
  found : (ks : List KeyUse) → IfSome (find named ks) (λ k. named k ≡ true)
  found [] = tt
  found (k ∷ ks) = found-first (named k) k (find named ks) refl (found ks)

  -- ---- the last signing

  front : (o : Option Moment) (xs : List Observation) → slice_get (cons_option o (filter_map (signed_at number) xs)) 0
      ≡ option_or o (slice_get (filter_map (signed_at number) xs) 0)
  front o xs = grind arith

  last-more : (x : Observation) (own : List Observation) → last_signed number (own ++ x ∷ []) ≡ option_or (signed_at number x) (last_signed number own)
  last-more x own = grind (arith, number, reverse-append, front)

  used-if : (b : Bool) (k : KeyUse) (m : Moment) (last : Option Moment) → k.last_signed ≡ last
      → (cond b (record k { last_signed = Some m }) k).last_signed ≡ option_or (cond b (Some m) None) last
  used-if b k m last e = grind arith

  -- when a key with the number signed last, after a turn
  used-last : (s : Option Signing) (k : KeyUse) (last : Option Moment) → named k ≡ true → k.last_signed ≡ last
      → (used_by s k).last_signed ≡ option_or (option_and_then (λ (s : Signing). cond (number == s.number) (Some s.receipt) None) s) last
  used-last s k last e f = grind (arith, number, nat_tests, used-if)

  signs-option : (s : Option Signing) (key : Option KeyUse) (last : Option Moment) → IfSome key (λ k. named k ≡ true)
      → IfSome key (λ k. k.last_signed ≡ last)
      → IfSome (option_map (used_by s) key)
      (λ k. k.last_signed ≡ option_or (option_and_then (λ (s : Signing). cond (number == s.number) (Some s.receipt) None) s) last)
  signs-option s key last e f = grind (arith, used-last)

  -- a key of a report, after a turn
  signs-own : (outcome : TurnOutcome) (before after : Option CustomerReport) (own : List Observation) → IfThere (Takes outcome) before after
      → IfSome (option_and_then (λ report. key_numbered report number) before) (λ key. key.last_signed ≡ last_signed number own)
      → IfSome (option_and_then (λ report. key_numbered report number) after) (λ key. key.last_signed ≡ last_signed number (own ++ Turn outcome ∷ []))
  signs-own outcome None after own none signs =
      subst (λ o. IfSome (option_and_then (λ report. key_numbered report number) o) (λ key. key.last_signed ≡ last_signed number (own ++ Turn outcome ∷ [])))
      (sym none) tt
  signs-own outcome (Some before) None own takes signs = absurd takes
  signs-own outcome (Some before) (Some report) own takes signs =
      let key : key_numbered report number ≡ option_map (used_by (signing_in outcome)) (key_numbered before number) =
      ap (λ f. find named (option_to_list f ++ option_to_list report.second)) takes.first
      ∙ ap (λ s. find named (option_to_list (option_map (used_by (signing_in outcome)) before.first) ++ option_to_list s)) takes.second
      ∙ key-used (signing_in outcome) before.first before.second in
      subst (λ last. IfSome (key_numbered report number) (λ key. key.last_signed ≡ last)) (sym (last-more (Turn outcome) own))
      (subst (λ o. IfSome o (λ key. key.last_signed ≡ option_or (signed_at number (Turn outcome)) (last_signed number own))) (sym key)
      (signs-option (signing_in outcome) (key_numbered before number) (last_signed number own)
      (found (option_to_list before.first ++ option_to_list before.second)) signs))

-- ---- counts

counts-own : (outcome : TurnOutcome) (before after : Option CustomerReport) (own : List Observation) → IfThere (Takes outcome) before after
    → IfSome before (λ report. AreCounts report.counts own) → IfSome after (λ report. AreCounts report.counts (own ++ Turn outcome ∷ []))
counts-own outcome None after own none are = subst (λ o. IfSome o (λ report. AreCounts report.counts (own ++ Turn outcome ∷ []))) (sym none) tt
counts-own outcome (Some before) None own takes are = absurd takes
counts-own outcome (Some before) (Some report) own takes are = takes.counts.counted own are

some-own : (outcome : TurnOutcome) (before after : Option CustomerReport) → IfThere (Takes outcome) before after → is_some after ≡ is_some before
some-own outcome None after none = ap is_some none
some-own outcome (Some before) None takes = absurd takes
some-own outcome (Some before) (Some report) takes = refl

-- ---- what was told of an address

told-own : (address : Address) (x : Observation) (seen : List Observation) → comes_from address x ≡ true
    → told_of address (seen ++ x ∷ []) ≡ told_of address seen ++ x ∷ []
told-own address x seen is = grind (arith, filter-append)

pub told-other : (address : Address) (x : Observation) (seen : List Observation) → comes_from address x ≡ false
    → told_of address (seen ++ x ∷ []) ≡ told_of address seen
told-other address x seen is = search (rules, filter-append)

-- addresses that test as the same are
same_address : (a b : Address) → address_eq a b ≡ true → a ≡ b
same_address a b is = ap (λ (octets : List ℕ). record { 0 = octets }) (same_text a.0 b.0 (sym is))

module _ {A : Type 0} (old new : CustomerCounts A) where
  -- nothing is told of an address, and its report stays
  pub counts-other : (address : Address) (x : Observation) (seen : List Observation) → comes_from address x ≡ false
      → report_at new address ≡ report_at old address → CountsOf old address seen → CountsOf new address (seen ++ x ∷ [])
  counts-other address x seen is same counts = record {
    are = subst (λ own. IfSome (report_at new address) (λ report. AreCounts report.counts own)) (sym (told-other address x seen is))
        (subst (λ o. IfSome o (λ report. AreCounts report.counts (told_of address seen))) (sym same) counts.are);
  }

  pub signs-other : (address : Address) (number : ℕ) (x : Observation) (seen : List Observation) → comes_from address x ≡ false
      → report_at new address ≡ report_at old address → SignsAs old address number seen → SignsAs new address number (seen ++ x ∷ [])
  signs-other address number x seen is same signs = record {
    is = subst
        (λ own. IfSome (option_and_then (λ report. key_numbered report number) (report_at new address)) (λ key. key.last_signed ≡ last_signed number own))
        (sym (told-other address x seen is))
        (subst
        (λ o. IfSome (option_and_then (λ report. key_numbered report number) o) (λ key. key.last_signed ≡ last_signed number (told_of address seen)))
        (sym same) signs.is);
  }

  module _ (arrival : Arrival) (a : Answer) (sending : Sending) (takes : TakesTurn (Answered arrival a sending) arrival.address old new) where
    abbrev outcome : TurnOutcome
    outcome = Answered arrival a sending

    own : (address : Address) → address_eq arrival.address address ≡ true → IfThere (Takes outcome) (report_at old address) (report_at new address)
    own address is = subst (λ q. IfThere (Takes outcome) (report_at old q) (report_at new q)) (same_address arrival.address address is) takes.own

    counts-by : (address : Address) (seen : List Observation) (b : Bool) → address_eq arrival.address address ≡ b
        → CountsOf old address seen → CountsOf new address (seen ++ Turn outcome ∷ [])
    counts-by address seen true is counts = record {
      are = subst (λ own. IfSome (report_at new address) (λ report. AreCounts report.counts own)) (sym (told-own address (Turn outcome) seen is))
          (counts-own outcome (report_at old address) (report_at new address) (told_of address seen) (own address is) counts.are);
    }
    counts-by address seen false is counts = counts-other address (Turn outcome) seen is (takes.others address is) counts

    pub counts-turn : (address : Address) (seen : List Observation) → CountsOf old address seen
        → CountsOf new address (seen ++ Turn outcome ∷ [])
    counts-turn address seen = counts-by address seen (address_eq arrival.address address) refl

    signs-by : (address : Address) (number : ℕ) (seen : List Observation) (b : Bool) → address_eq arrival.address address ≡ b
        → SignsAs old address number seen → SignsAs new address number (seen ++ Turn outcome ∷ [])
    signs-by address number seen true is signs = record {
      is = subst
          (λ own. IfSome (option_and_then (λ report. key_numbered report number) (report_at new address)) (λ key. key.last_signed ≡ last_signed number own))
          (sym (told-own address (Turn outcome) seen is))
          (signs-own number outcome (report_at old address) (report_at new address) (told_of address seen) (own address is) signs.is);
    }
    signs-by address number seen false is signs = signs-other address number (Turn outcome) seen is (takes.others address is) signs

    pub signs-turn : (address : Address) (number : ℕ) (seen : List Observation) → SignsAs old address number seen
        → SignsAs new address number (seen ++ Turn outcome ∷ [])
    signs-turn address number seen = signs-by address number seen (address_eq arrival.address address) refl

    some-by : (address : Address) (b : Bool) → address_eq arrival.address address ≡ b
        → is_some (report_at new address) ≡ is_some (report_at old address)
    some-by address b e = search (rules, some-own, old, new, own, takes)

    pub some-turn : (address : Address) → is_some (report_at new address) ≡ is_some (report_at old address)
    some-turn address = some-by address (address_eq arrival.address address) refl

-- a turn of an address was reported
pub reports-turn : {A : Type 0} (old new : CustomerCounts A) (turn : TurnOutcome) (arrival : Arrival) (a : Answer) (sending : Sending)
    → turn ≡ Answered arrival a sending → TakesTurn turn arrival.address old new → new.has_missed ≡ old.has_missed
    → ReportsTurn turn old new
reports-turn old new turn arrival a sending is takes missed =
    subst (λ o. TakesTurn o arrival.address old new → ReportsTurn o old new) (sym is)
    (λ takes. record {
      counts = counts-turn old new arrival a sending takes;
      signings = signs-turn old new arrival a sending takes;
      customers = some-turn old new arrival a sending takes;
      missed = missed;
    }) takes

-- a turn in which nothing was received leaves all as it was
pub reports-nothing : {A : Type 0} (counts : CustomerCounts A) (turn : TurnOutcome) → turn ≡ NothingReceived → ReportsTurn turn counts counts
reports-nothing counts turn is = subst (λ o. ReportsTurn o counts counts) (sym is) (record {
  counts = λ address seen. counts-other counts counts address (Turn NothingReceived) seen refl refl;
  signings = λ address number seen. signs-other counts counts address number (Turn NothingReceived) seen refl refl;
  customers = λ address. refl;
  missed = refl;
})
