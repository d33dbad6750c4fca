-- The line of a command says it.
use Rattle.std.proofs.Common.{◌≡◌, ℕ, ◌<◌, ◌==◌, true, false, List, [], ◌∷◌, ◌++◌, length, Option, Some, None, IfSome, Ok, refl, sym, ap, ◌∙◌, arith, append_assoc, append-nil}
use Rattle.std.specs.{Prelude.codes, Prelude.not, List.join_with_byte, List.list_all, Option.option_map_or}
use Rattle.std.specs.{declared.num.NonZeroU16.NonZeroU16, Char.is_ascii_digit, Char.is_ascii_lowercase}
use Rattle.hex.specs.Hex.{encode_lower, is_hex_digit}
use Rattle.ntp_mac.specs.{Key.SymmetricKey, declared.key.Algorithm.Algorithm}
use Rattle.ntp_mac.specs.declared.key.Algorithm.TheVariants.{Md5, Sha1}
use Rattle.ntp_admin.specs.{Words.parts, Words.algorithm_in, Words.address_text, Words.number_behind, Spells.command_in}
use Rattle.ntp_service.specs.{Commands.address_named, Commands.number_named, Vocabulary.command_word}
use Rattle.ntp_service.specs.declared.command.Command.{Command}
use Rattle.ntp_service.specs.declared.command.Command.TheVariants as command
use Rattle.ntp_clerk.specs.CommandText.{algorithm_text, budget_named, key_named, key_behind, command_text, key_digits, AreKeyOctets, IsNumber, IsCommand, WritesCommand}
use Rattle.ntp_clerk.specs.Grants.{number_text}
use Rattle.ntp_clerk.proofs.Joined.{lacks, AllLack, parts-all, lacks-all, parts-first-line, lacks-by}
use Rattle.ntp_clerk.proofs.Spelled.{reads-address, reads-number, reads-key, lacks-address, lacks-decimal, lacks-digits}

-- an octet that no word of a command has
record Outside (c : ℕ) : Type 0 where
  digit : is_ascii_digit c ≡ false
  hex : is_hex_digit c ≡ false
  dot : not (46 == c) ≡ true
  lower : is_ascii_lowercase c ≡ false
  md5 : lacks c (codes "md5") ≡ true
  sha1 : lacks c (codes "sha1") ≡ true

space : Outside 32
space = record { digit = refl; hex = refl; dot = refl; lower = refl; md5 = refl; sha1 = refl }

line_feed : Outside 10
line_feed = record { digit = refl; hex = refl; dot = refl; lower = refl; md5 = refl; sha1 = refl }

lacks-algorithm : (c : ℕ) → Outside c → (algorithm : Algorithm) → lacks c (algorithm_text algorithm) ≡ true
lacks-algorithm c out Md5 = out.md5
lacks-algorithm c out Sha1 = out.sha1

reads-algorithm : (algorithm : Algorithm) → algorithm_in (algorithm_text algorithm) ≡ Some algorithm
reads-algorithm algorithm = grind arith

-- the octets of a command's key can be a key's
abbrev pub HasKeyOctets : Command → Type 0
HasKeyOctets o = IfSome (key_named o) (λ key. AreKeyOctets key.octets)

-- a number is one word, where there is one; a key is two, its algorithm and this word for it
abbrev number_words : Option NonZeroU16 → List (List ℕ)
number_words number = option_map_or (λ n. number_text n ∷ []) number []

abbrev key_words : List ℕ → Option SymmetricKey → List (List ℕ)
key_words key_word key = option_map_or (λ k. algorithm_text k.algorithm ∷ key_word ∷ []) key []

-- the words of a command, with this word for its key
abbrev words_of : List ℕ → Command → List (List ℕ)
words_of key_word c =
    command_word c ∷ address_text (address_named c)
    ∷ (number_words (number_named c) ++ (key_words key_word (key_named c) ++ number_words (budget_named c)))

-- words behind others, with a space before each
abbrev behind : List (List ℕ) → List ℕ
behind [] = []
behind (word ∷ words) = 32 ∷ (word ++ behind words)

behind-append : (xs ys : List (List ℕ)) → behind (xs ++ ys) ≡ behind xs ++ behind ys
behind-append [] ys = refl
behind-append (x ∷ xs) ys =
    ap (λ end. 32 ∷ (x ++ end)) (behind-append xs ys) ∙ ap (λ text. 32 ∷ text) (sym (append_assoc x (behind xs) (behind ys)))

joins-behind : (word : List ℕ) (words : List (List ℕ)) → join_with_byte 32 (word ∷ words) ≡ word ++ behind words
joins-behind word [] = sym (append-nil word)
joins-behind word (next ∷ words) = ap (λ end. word ++ (32 ∷ end)) (joins-behind next words)

number-behind : (number : Option NonZeroU16) → number_behind number ≡ behind (number_words number)
number-behind number = grind (arith, append-nil)

keyed : (h k : List ℕ) → 32 ∷ [] ++ h ++ 32 ∷ [] ++ k ≡ 32 ∷ (h ++ (32 ∷ (k ++ [])))
keyed h k = simp (append_assoc, append-nil)

key-behind : (key_word : List ℕ) (key : Option SymmetricKey) → key_behind key_word key ≡ behind (key_words key_word key)
key-behind key_word key = grind (arith, keyed)

-- its text is they, with one space between each two
text-joins : (key_word : List ℕ) (c : Command) → command_text key_word c ≡ join_with_byte 32 (words_of key_word c)
unfolding command_text
text-joins key_word c = grind (arith, number-behind, key-behind, behind-append, joins-behind)

-- they lack it
AllLack-append : (c : ℕ) (xs ys : List (List ℕ)) → AllLack c xs → AllLack c ys → AllLack c (xs ++ ys)
AllLack-append c [] ys few more = more
AllLack-append c (x ∷ xs) ys few more = (few.0, AllLack-append c xs ys few.1 more)

number-lacks : (c : ℕ) → Outside c → (number : Option NonZeroU16) → IfSome number IsNumber → AllLack c (number_words number)
number-lacks c out None is = tt
number-lacks c out (Some n) is = (lacks-decimal c n.value out.digit (omega (arith, is)), tt)

key-lacks : (c : ℕ) → Outside c → (key : Option SymmetricKey) → IfSome key (λ k. AreKeyOctets k.octets)
    → AllLack c (key_words (option_map_or (λ k. encode_lower k.octets) key []) key)
key-lacks c out None are = tt
key-lacks c out (Some k) are = (lacks-algorithm c out k.algorithm, (lacks-digits c k.octets out.hex are.2, tt))

word-lowercase : (c : Command) → list_all is_ascii_lowercase (command_word c) ≡ true
word-lowercase c = grind arith

words-lack : (c : ℕ) → Outside c → (o : Command) → IsCommand o → HasKeyOctets o → AllLack c (words_of (key_digits o) o)
words-lack c out o is are =
    let key = key-lacks c out (key_named o) are in
    let budget = number-lacks c out (budget_named o) is.2 in (
      lacks-by is_ascii_lowercase c out.lower (command_word o) (word-lowercase o),
      (
        lacks-address c out.digit out.dot (address_named o) is.0,
        AllLack-append c _ _ (number-lacks c out (number_named o) is.1) (AllLack-append c _ _ key budget),
      ),
    )

-- they are the command's
pub words-say : (o : Command) → IsCommand o → HasKeyOctets o → command_in (words_of (key_digits o) o) ≡ Ok o
unfolding command_in
words-say (command.Enrol address number key budget) is are =
    rw (reads-address address is.0, reads-number number is.1, reads-algorithm key.algorithm, reads-key key.octets are, reads-number budget is.2) refl
words-say (command.Revoke address) is are = rw (reads-address address is.0) refl
words-say (command.Budget address budget) is are = rw (reads-address address is.0, reads-number budget is.2) refl
words-say (command.Rollover address number key) is are =
    rw (reads-address address is.0, reads-number number is.1, reads-algorithm key.algorithm, reads-key key.octets are) refl
words-say (command.Retire address number) is are = rw (reads-address address is.0, reads-number number is.1) refl

-- the line of a command, with its line feed
pub line-says : (o : Command) (text : List ℕ) → IsCommand o → HasKeyOctets o → text ≡ command_text (key_digits o) o ++ (10 ∷ []) → WritesCommand text o
line-says o text is are whole =
    let all = words_of (key_digits o) o in
    let line = join_with_byte 32 all in
    let some : 0 < length all = omega arith in (
      line,
      ap (parts 10) (whole ∙ ap (λ words. words ++ (10 ∷ [])) (text-joins (key_digits o) o))
          ∙ parts-first-line line [] (lacks-all 10 32 refl all some (words-lack 10 line_feed o is are)),
      ap command_in (parts-all 32 all some (words-lack 32 space o is are)) ∙ words-say o is are,
    )
