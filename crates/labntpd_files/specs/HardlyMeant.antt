-- What is no fault at a customer, but hardly meant.
use Rattle.std.specs.Prelude.{ℕ, ◌==◌, ◌&&◌, nat_le, nat_lt, if◌then◌else◌, List, [], ◌∷◌, length, Option, None, Some}
use Rattle.ntp_mac.specs.{Key.SymmetricKey, declared.key.Algorithm.Algorithm}
use Rattle.ntp_mac.specs.declared.key.Algorithm.TheVariants.{Md5, Sha1}
use Rattle.labntpd_files.specs.declared.hardly_meant.HardlyMeant.{HardlyMeant}
use Rattle.labntpd_files.specs.declared.hardly_meant.HardlyMeant.TheVariants as meant

-- the addresses that no host sends from: 0.0.0.0/8 (RFC 1122, 3.2.1.3), 224.0.0.0/4 (RFC 5771), 240.0.0.0/4 (RFC 1112, 4), and in it
-- 255.255.255.255 (RFC 919, 7)
abbrev pub address_warning : List ℕ → Option HardlyMeant
address_warning (a ∷ b ∷ c ∷ d ∷ []) =
    if a == 0 then Some meant.ThisNetwork
    else if nat_lt a 224 then None
    else if nat_lt a 240 then Some meant.Multicast
    else if a == 255 && b == 255 && c == 255 && d == 255 then Some meant.Broadcast
    else Some meant.Reserved
address_warning other = None

-- a key that is warned of: one of fewer than 16 octets, else one for MD5
abbrev pub algorithm_warning : Algorithm → Option HardlyMeant
algorithm_warning Md5 = Some meant.Md5
algorithm_warning Sha1 = None

abbrev pub key_warning : SymmetricKey → Option HardlyMeant
key_warning key = if nat_lt (length key.octets) 16 then Some (meant.ShortKey (length key.octets)) else algorithm_warning key.algorithm

-- a budget that is warned of: 1, and one above 12,800
abbrev pub budget_warning : ℕ → Option HardlyMeant
budget_warning budget =
    if nat_le budget 1 then Some meant.SmallBudget
    else if nat_lt 12800 budget then Some (meant.LargeBudget budget)
    else None
