-- A stamp is looked for among saved ones without a list of them.
use Rattle.std.proofs.Common.{◌≡◌, ◌*◌, ◌≤◌, Bool, ◌||◌, List, [], ◌∷◌, ◌++◌, length, refl, sym, ap, ◌∙◌, ◌==◌, arith}
use Rattle.std.specs.List.{list_any}
use Rattle.std.proofs.{Math.Bool.or-false, lemmas.List.length-map, lemmas.List.length-append, lemmas.List.Folds.list_any-append}
use Rattle.ntp_packet.specs.declared.stamp.Stamp.{Stamp}
use Rattle.ntp_customer.specs.declared.slot.Slot.{Slot}
use Rattle.ntp_customer.specs.Exchanges.{most_slots, receives, transmits, all_stamps, is_received_at, AreSaved}

-- four tests: two change places
changed : (a b c d : Bool) → ((a || b) || (c || d)) ≡ (a || (c || (b || d)))
changed a b c d = grind arith

-- among all stamps
pub any-all_stamps : (p : Stamp → Bool) (xs : List Slot) → list_any (λ x. p x.receive || p x.transmit) xs ≡ list_any p (all_stamps xs)
any-all_stamps p [] = refl
any-all_stamps p (x ∷ xs) =
    ap (λ b. (p x.receive || p x.transmit) || b) (any-all_stamps p xs ∙ list_any-append p (receives xs) (transmits xs))
    ∙ changed (p x.receive) (p x.transmit) (list_any p (receives xs)) (list_any p (transmits xs))
    ∙ ap (λ b. p x.receive || b) (sym (list_any-append p (receives xs) (x.transmit ∷ transmits xs)))

-- among receive stamps
pub any-receives : (p : Stamp → Bool) (xs : List Slot) → list_any (λ x. p x.receive) xs ≡ list_any p (receives xs)
any-receives p [] = refl
any-receives p (x ∷ xs) = ap (λ b. p x.receive || b) (any-receives p xs)

-- exchanges that are saved have a bounded number of receive stamps, and of stamps
pub few-receives : (xs : List Slot) → AreSaved xs → length (receives xs) ≤ most_slots
few-receives xs are = omega (arith, are.few, length-map xs (λ x. x.receive))

pub few-stamps : (xs : List Slot) → AreSaved xs → length (all_stamps xs) ≤ 2 * most_slots
few-stamps xs are = omega (arith, few-receives xs are, are.few, length-append (receives xs) (transmits xs), length-map xs (λ x. x.transmit))

-- a test of both pieces of the exchanges, older and newer, for a stamp of either kind
pub either-of_pieces : (older newer xs : List Slot) (s : Stamp) → older ++ newer ≡ xs
    → (list_any (λ x. (x.receive.0 == s.0) || (x.transmit.0 == s.0)) older || list_any (λ x. (x.receive.0 == s.0) || (x.transmit.0 == s.0)) newer)
    ≡ list_any (λ a. a.0 == s.0) (all_stamps xs)
either-of_pieces older newer xs s pieces =
    sym (list_any-append (λ x. (x.receive.0 == s.0) || (x.transmit.0 == s.0)) older newer)
    ∙ ap (list_any (λ x. (x.receive.0 == s.0) || (x.transmit.0 == s.0))) pieces
    ∙ any-all_stamps (λ a. a.0 == s.0) xs

-- and for a receive stamp
pub received-of_pieces : (older newer xs : List Slot) (s : Stamp) → older ++ newer ≡ xs
    → (list_any (is_received_at s) older || list_any (is_received_at s) newer) ≡ list_any (λ a. a.0 == s.0) (receives xs)
received-of_pieces older newer xs s pieces =
    sym (list_any-append (is_received_at s) older newer) ∙ ap (list_any (is_received_at s)) pieces ∙ any-receives (λ a. a.0 == s.0) xs

-- with one more
pub received-or_last : (avoid : List Stamp) (r s : Stamp) → (list_any (λ a. a.0 == s.0) avoid || (r.0 == s.0)) ≡ list_any (λ a. a.0 == s.0) (avoid ++ r ∷ [])
received-or_last avoid r s = sym (list_any-append (λ a. a.0 == s.0) avoid (r ∷ []) ∙ ap (λ b. list_any (λ a. a.0 == s.0) avoid || b) (or-false (r.0 == s.0)))
