-- Not to be believed: for proofs. Which words are shown: no key of three octets or more.
use Rattle.std.specs.Prelude.{ℕ, ◌==◌, ◌&&◌, ◌||◌, Bool, nat_le, nat_lt, List, length}
use Rattle.std.specs.{List.list_all, List.filter, Char.is_ascii_digit, Char.is_ascii_hexdigit}

-- a word that may be shown: what an address may be meant by, with a port, since it has three dots and few octets; or few digits
abbrev pub is_plain : List ℕ → Bool
is_plain word =
    let digits = length (filter is_ascii_hexdigit word) in
    (nat_le (length word) 21 && nat_le 3 (length (filter (λ octet. octet == 46) word)))
    || (nat_le (length word) 40 && (nat_lt digits 6 && (nat_lt digits (length word) || list_all is_ascii_digit word)))
