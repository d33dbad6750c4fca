-- Not to be believed: for proofs. What a customer gets, line by line.
use Rattle.std.specs.Prelude.{◌==◌, ◌&&◌, ℕ, Bool, not, nat_le, List, [], ◌∷◌, ◌++◌, codes, length, if◌then◌else◌}
use Rattle.std.specs.{Char.is_ascii_graphic, List.join_with_byte, List.list_all, Fmt.decimal, Int.NonZero.non_zero_u16_get}
use Rattle.std.specs.declared.num.NonZeroU16.{NonZeroU16}
use Rattle.hex.specs.Hex.{encode_lower}
use Rattle.ntp_mac.specs.{Key.SymmetricKey, declared.key.Algorithm.Algorithm}
use Rattle.ntp_mac.specs.declared.key.Algorithm.TheVariants.{Md5, Sha1}
use Rattle.ntp_clerk.specs.CommandText.{algorithm_text}

-- the numbers of keys
abbrev pub number_text : NonZeroU16 → List ℕ
number_text number = decimal (non_zero_u16_get number)

-- the word for an algorithm in chrony's key files (chrony.conf(5))
abbrev pub chrony_algorithm : Algorithm → List ℕ
chrony_algorithm Md5 = codes "MD5"
chrony_algorithm Sha1 = codes "SHA1"

-- octets that key files take as they stand: 20 printable characters at most, and no `#`, which begins a comment (ntp.keys(5))
abbrev pub is_text_octet : ℕ → Bool
is_text_octet octet = is_ascii_graphic octet && not (octet == 35)

abbrev pub is_text : List ℕ → Bool
is_text octets = nat_le (length octets) 20 && list_all is_text_octet octets

-- a key's octets, behind one of two marks: as text, or in hexadecimal digits
abbrev pub key_word : List ℕ → List ℕ → List ℕ → List ℕ
key_word text digits octets = if is_text octets then text ++ octets else digits ++ encode_lower octets

-- a key in chrony's key file (chrony.conf(5))
unfoldable pub chrony_key : NonZeroU16 → SymmetricKey → List ℕ
chrony_key number key =
    join_with_byte 32 (number_text number ∷ chrony_algorithm key.algorithm ∷ key_word (codes "ASCII:") (codes "HEX:") key.octets ∷ [])

-- a key in NTPsec's key file (ntp.keys(5))
unfoldable pub ntpsec_key : NonZeroU16 → SymmetricKey → List ℕ
ntpsec_key number key = join_with_byte 32 (number_text number ∷ algorithm_text key.algorithm ∷ key_word [] [] key.octets ∷ [])

-- a server in chrony's configuration, which asks under a key; any port but that of NTP is named (chrony.conf(5))
unfoldable pub chrony_server : List ℕ → ℕ → NonZeroU16 → List ℕ
chrony_server server port number =
    join_with_byte 32 (codes "server" ∷ server ∷ ((if port == 123 then [] else codes "port" ∷ decimal port ∷ [])
    ++ codes "key" ∷ number_text number ∷ codes "iburst" ∷ codes "xleave" ∷ []))
