-- Which server is asked.
use Rattle.std.specs.Prelude.{ℕ, Bool, ◌||◌, List, length, nat_lt, ◌==◌, if◌then◌else◌, Option, Some, None, is_some}
use Rattle.std.specs.{Char.is_ascii_alphabetic, Int.NonZero.non_zero_u16_get}
use Rattle.std.specs.List.{list_any, position_or_len, before_first, after_first}
use Rattle.ntp_admin.specs.Words.{◌>>=◌, address_in, number_in}
use Rattle.ntp_query.specs.declared.server.Server.{Server}

abbrev pub is_colon : ℕ → Bool
is_colon octet = octet == 58

-- whether a word is a host: an address, or a name, which has a letter (RFC 1123, 2.1)
abbrev pub is_host : List ℕ → Bool
is_host word = is_some (address_in word) || list_any is_ascii_alphabetic word

-- a host, and its port
abbrev pub host_with : List ℕ → ℕ → Option (List ℕ × ℕ)
host_with host port = if is_host host then Some (host, port) else None

-- the host that a word names, and its UDP port behind the first colon, from 1 to 65,535, or else that of NTP (RFC 5905, 16)
abbrev pub host_in : List ℕ → Option (List ℕ × ℕ)
host_in word =
    if nat_lt (position_or_len is_colon word) (length word) then (do
      port ← number_in (after_first is_colon word)
      host_with (before_first is_colon word) (non_zero_u16_get port))
    else host_with word 123

-- the server that a word names: its address, and its port
abbrev pub server_in : List ℕ → Option Server
server_in word = do
  it ← host_in word
  address ← address_in it.0
  Some (record { address = address; port = it.1 })
