-- Reference identifiers in words.
use Rattle.std.specs.Prelude.{ℕ, Bool, List, [], length, take, drop, ◌==◌, ◌&&◌, if◌then◌else◌, unwrap_or}
use Rattle.std.specs.{Char.is_ascii_graphic, List.list_all, List.position}

abbrev pub is_zero : ℕ → Bool
is_zero octet = octet == 0

-- how many octets stand in front of the first 0
unfoldable pub text_length : List ℕ → ℕ
text_length id = unwrap_or (position is_zero id) (length id)

-- the printable text of an identifier, in front of the zeros that fill its four octets up; empty where it is none (RFC 5905, 7.3)
abbrev pub code_of : List ℕ → List ℕ
code_of id =
    if list_all is_ascii_graphic (take (text_length id) id) && list_all is_zero (drop (text_length id) id) then take (text_length id) id else []
