-- How a command is written, and the name of a customer.
use Rattle.std.specs.Prelude.{◌≡◌, ◌==◌, ◌<◌, ◌≤◌, ◌^◌, ℕ, nat_eq, true, not, if◌then◌else◌, List, [], ◌∷◌, ◌++◌, codes, drop, length, Option, None, Some, option_map, IfSome, Ok}
use Rattle.std.specs.List.{starts_with, before_first, after_first, list_all}
use Rattle.std.specs.{Option.option_map_or, Int.NonZero.non_zero_u16_get, declared.num.NonZeroU16.NonZeroU16}
use Rattle.hex.specs.Hex.{IsBytes, encode_lower}
use Rattle.ntp_mac.specs.{Key.SymmetricKey, Key.most_key_octets, declared.key.Algorithm.Algorithm}
use Rattle.ntp_mac.specs.declared.key.Algorithm.TheVariants.{Md5, Sha1}
use Rattle.ntp_service.specs.{declared.address.Address.Address, Commands.address_named, Commands.number_named}
use Rattle.ntp_service.specs.{Vocabulary.command_word, declared.command.Command.Command}
use Rattle.ntp_admin.specs.Words.{parts, words, address_in, address_text, number_behind}
use Rattle.ntp_admin.specs.Spells.{command_in}
use Rattle.ntp_service.specs.declared.command.Command.TheVariants as command

-- the word for an algorithm
abbrev pub algorithm_text : Algorithm → List ℕ
algorithm_text Md5 = codes "md5"
algorithm_text Sha1 = codes "sha1"

-- the budget that a command names, and its key, if it names one
abbrev pub budget_named : Command → Option NonZeroU16
budget_named (command.Enrol address number key budget) = Some budget
budget_named (command.Budget address budget) = Some budget
budget_named other = None

abbrev pub key_named : Command → Option SymmetricKey
key_named (command.Enrol address number key budget) = Some key
key_named (command.Rollover address number key) = Some key
key_named other = None

-- a key's algorithm and this word for the key, with a space before each, where there is one
abbrev pub key_behind : List ℕ → Option SymmetricKey → List ℕ
key_behind key_word key = option_map_or (λ k. codes " " ++ algorithm_text k.algorithm ++ codes " " ++ key_word) key []

-- a command, with this word for its key: its verb and its address, and what it names of a number, a key and a budget
unfoldable pub command_text : List ℕ → Command → List ℕ
command_text key_word c =
    command_word c ++ (codes " " ++ (address_text (address_named c) ++ (number_behind (number_named c)
    ++ (key_behind key_word (key_named c) ++ number_behind (budget_named c)))))

-- what the code's types hold: four octets are an address, and sixteen bits a number; and the octets of a key are from 1 to 32
abbrev pub IsAddress : Address → Type 0
IsAddress address = (length address.0 ≡ 4) × IsBytes address.0

abbrev pub IsNumber : NonZeroU16 → Type 0
IsNumber number = non_zero_u16_get number < 2 ^ 16

abbrev pub AreKeyOctets : List ℕ → Type 0
AreKeyOctets octets = (1 ≤ length octets) × (length octets ≤ most_key_octets) × IsBytes octets

abbrev pub IsCommand : Command → Type 0
IsCommand c = IsAddress (address_named c) × IfSome (number_named c) IsNumber × IfSome (budget_named c) IsNumber

-- the octets of the key that a command names, in hexadecimal digits
abbrev pub key_digits : Command → List ℕ
key_digits c = option_map_or (λ key. encode_lower key.octets) (key_named c) []

-- a text is one line with its line feed, and the line says a command
abbrev pub WritesCommand : List ℕ → Command → Type 0
WritesCommand text c = (line : List ℕ) × (parts 10 text ≡ line ∷ [] ∷ []) × (command_in (words line) ≡ Ok c)

-- an address as a word, a space, and a name
abbrev pub name_behind : List ℕ → Option (Address × List ℕ)
name_behind said =
    let name = after_first (λ c. c == 32) said in
    if length name == 0 then None else option_map (λ address. (address, name)) (address_in (before_first (λ c. c == 32) said))

-- the name in a line, and its address, if it is such a line
abbrev pub name_in : List ℕ → Option (Address × List ℕ)
name_in line = if starts_with nat_eq line (codes "# name ") then name_behind (drop 7 line) else None

-- a name is not empty, and of one line
abbrev pub IsName : List ℕ → Type 0
IsName name = (1 ≤ length name) × (list_all (λ c. not (c == 10)) name ≡ true)
