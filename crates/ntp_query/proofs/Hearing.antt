-- What is heard, one datagram after another.
use Rattle.std.proofs.Common.{◌≡◌, ℕ, true, false, List, [], ◌∷◌, Option, Some, None, refl, sym, ap, ◌∙◌}
use Rattle.std.specs.{Prelude.IfSome, Prelude.unwrap_or, Prelude.map, Prelude.if◌then◌else◌, List.find}
use Rattle.ntp_packet.specs.declared.moment.Moment.{Moment}
use Rattle.ntp_query.specs.declared.{asker.Asker.Asker, outcome.Outcome.Outcome, outcome.Outcome.TheVariants.Silence}
use Rattle.ntp_query.specs.{Asker.heard_by, Outcome.ends, Outcome.last_or, Exchange.Incoming, Exchange.Comes, Exchange.outcome_of}

-- what outcomes come to behind another one
among : Outcome → List Outcome → Outcome
among latest outcomes = unwrap_or (find ends outcomes) (last_or latest outcomes)

-- the first of them does not end the query, or ends it
among-on : (latest h o : Outcome) (others : List Outcome) → o ≡ h → ends o ≡ false → among latest (h ∷ others) ≡ among o others
unfolding among
among-on latest h o others is on =
    ap (λ x. unwrap_or (if ends x then Some x else find ends others) (last_or x others)) (sym is)
    ∙ ap (λ b. unwrap_or (if b then Some o else find ends others) (last_or o others)) on

among-end : (latest h o : Outcome) (others : List Outcome) → o ≡ h → ends o ≡ true → o ≡ among latest (h ∷ others)
unfolding among
among-end latest h o others is end =
    ap (λ b. unwrap_or (if b then Some o else find ends others) (last_or o others)) (sym end)
    ∙ ap (λ x. unwrap_or (if ends x then Some x else find ends others) (last_or x others)) is

-- what arrivals come to, behind another outcome
abbrev outcome_from : Asker → Outcome → List Incoming → Outcome
outcome_from c latest arrivals = among latest (map (λ a. heard_by c a.octets a.at) arrivals)

-- what all of a link's datagrams come to is what those that are left come to, behind the latest outcome
pub Goes : Asker → Option (List Incoming) → Option (List Incoming) → Outcome → Type 0
Goes c None left latest = Unit {0}
Goes c (Some all) None latest = ⊥
Goes c (Some all) (Some left) latest = outcome_of c all ≡ outcome_from c latest left

pub Goes-begin : (c : Asker) (t : Option (List Incoming)) → Goes c t t Silence
unfolding Goes among
Goes-begin c None = tt
Goes-begin c (Some all) = refl

pub Goes-on : (c : Asker) (t u v : Option (List Incoming)) (latest o : Outcome) (octets : List ℕ) (at : Moment) → Goes c t u latest
    → Comes u v octets at → o ≡ heard_by c octets at → ends o ≡ false → Goes c t v o
unfolding Goes
Goes-on c None u v latest o octets at goes comes is on = tt
Goes-on c (Some all) None v latest o octets at goes comes is on = absurd goes
Goes-on c (Some all) (Some left) None latest o octets at goes comes is on = absurd comes
Goes-on c (Some all) (Some left) (Some others) latest o octets at goes comes is on =
    goes ∙ ap (outcome_from c latest) comes ∙ among-on latest (heard_by c octets at) o (map (λ a. heard_by c a.octets a.at) others) is on

pub Goes-end : (c : Asker) (t u v : Option (List Incoming)) (latest o : Outcome) (octets : List ℕ) (at : Moment) → Goes c t u latest
    → Comes u v octets at → o ≡ heard_by c octets at → ends o ≡ true → IfSome t (λ all. o ≡ outcome_of c all)
unfolding Goes
Goes-end c None u v latest o octets at goes comes is end = tt
Goes-end c (Some all) None v latest o octets at goes comes is end = absurd goes
Goes-end c (Some all) (Some left) None latest o octets at goes comes is end = absurd comes
Goes-end c (Some all) (Some left) (Some others) latest o octets at goes comes is end =
    among-end latest (heard_by c octets at) o (map (λ a. heard_by c a.octets a.at) others) is end
    ∙ sym (goes ∙ ap (outcome_from c latest) comes)

pub Goes-over : (c : Asker) (t u : Option (List Incoming)) (latest : Outcome) → Goes c t u latest → IfSome u (λ all. all ≡ [])
    → IfSome t (λ all. latest ≡ outcome_of c all)
unfolding Goes among
Goes-over c None u latest goes over = tt
Goes-over c (Some all) None latest goes over = absurd goes
Goes-over c (Some all) (Some left) latest goes over = sym (goes ∙ ap (outcome_from c latest) over)
