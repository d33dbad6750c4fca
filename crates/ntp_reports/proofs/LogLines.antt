-- The pieces of lines of the log, in the order in which they are written.
use Rattle.std.proofs.Common.{◌≡◌, ℕ, List, [], ◌∷◌, ◌++◌, length, map, Option, Some, None, sym, ap, ◌∙◌, subst, append_assoc, append-nil}
use Rattle.std.specs.{Prelude.codes, Prelude.slice_index, List.join_with_byte, Option.option_map_or, Fmt.decimal}
use Rattle.std.specs.{Int.NonZero.non_zero_u16_get, declared.num.NonZeroU16.NonZeroU16, Io.KnownBytes.Appends}
use Rattle.std.proofs.KnownBytes.{Appends-trans}
use Rattle.ntp_packet.proofs.PublicLaws.{four-cells}
use Rattle.ntp_service.specs.declared.{address.Address.Address, command.Command.Command, observation.LineOutcome.LineOutcome}
use Rattle.ntp_service.specs.{Commands.address_named, Commands.number_named, Vocabulary.command_word}
use Rattle.ntp_admin.specs.Words.{address_text, number_behind}
use Rattle.ntp_reports.specs.{AnswerText.line_outcome_text, Logging.logged_command, Logging.logged_line}

-- four numbers with dots, between two texts
dotted : (v a b c d tail : List ℕ) → v ++ (32 ∷ (a ++ (46 ∷ (b ++ (46 ∷ (c ++ (46 ∷ (d ++ tail))))))))
    ≡ v ++ 32 ∷ [] ++ (a ++ (46 ∷ (b ++ (46 ∷ (c ++ (46 ∷ d)))))) ++ tail
dotted v a b c d tail = simp append_assoc

-- the text of an address, number by number
by-numbers : (octets : List ℕ) → length octets ≡ 4 → join_with_byte 46 (map decimal octets)
    ≡ decimal (slice_index octets 0) ++ (46 ∷ (decimal (slice_index octets 1)
    ++ (46 ∷ (decimal (slice_index octets 2) ++ (46 ∷ decimal (slice_index octets 3))))))
by-numbers octets four = ap (λ xs. join_with_byte 46 (map decimal xs)) (sym (four-cells octets four))

text-numbers : (a : Address) → length a.0 ≡ 4 → address_text a
    ≡ decimal (slice_index a.0 0) ++ (46 ∷ (decimal (slice_index a.0 1)
    ++ (46 ∷ (decimal (slice_index a.0 2) ++ (46 ∷ decimal (slice_index a.0 3))))))
unfolding address_text
text-numbers a four = by-numbers a.0 four

-- what is written of a command with this word and this address
abbrev pub written : List ℕ → Address → List ℕ → List ℕ
written word a tail =
    word ++ (32 ∷ (decimal (slice_index a.0 0) ++ (46 ∷ (decimal (slice_index a.0 1)
    ++ (46 ∷ (decimal (slice_index a.0 2) ++ (46 ∷ (decimal (slice_index a.0 3) ++ tail))))))))

whole : (word : List ℕ) (a : Address) (o : Option NonZeroU16) (number : List ℕ) → length a.0 ≡ 4 → number_behind o ≡ number
    → written word a (number ++ 58 ∷ 32 ∷ []) ≡ word ++ codes " " ++ address_text a ++ number_behind o ++ codes ": "
whole word a o number four is =
    dotted word (decimal (slice_index a.0 0)) (decimal (slice_index a.0 1)) (decimal (slice_index a.0 2)) (decimal (slice_index a.0 3))
    (number ++ 58 ∷ 32 ∷ [])
    ∙ ap (λ text. word ++ codes " " ++ text ++ (number ++ 58 ∷ 32 ∷ [])) (sym (text-numbers a four))
    ∙ sym (append_assoc (word ++ codes " " ++ address_text a) number (58 ∷ 32 ∷ []))
    ∙ ap (λ n. word ++ codes " " ++ address_text a ++ n ++ 58 ∷ 32 ∷ []) (sym is)

pub with-number : (old new : Option (List ℕ)) (word : List ℕ) (a : Address) (o : Option NonZeroU16) (number : NonZeroU16) → length a.0 ≡ 4
    → o ≡ Some number
    → Appends old new (written word a (32 ∷ (decimal (non_zero_u16_get number) ++ 58 ∷ 32 ∷ [])))
    → Appends old new (word ++ codes " " ++ address_text a ++ number_behind o ++ codes ": ")
with-number old new word a o number four is e =
    subst (λ text. Appends old new text) (whole word a o (32 ∷ decimal (non_zero_u16_get number)) four (ap number_behind is)) e

pub with-none : (old new : Option (List ℕ)) (word : List ℕ) (a : Address) (o : Option NonZeroU16) → length a.0 ≡ 4 → o ≡ None
    → Appends old new (written word a (58 ∷ 32 ∷ []))
    → Appends old new (word ++ codes " " ++ address_text a ++ number_behind o ++ codes ": ")
with-none old new word a o four is e = subst (λ text. Appends old new text) (whole word a o [] four (ap number_behind is)) e

-- what is told of a command, by its word, its address and its number
pub of-command : (old new : Option (List ℕ)) (c : Command) (word : List ℕ) (a : Address) (o : Option NonZeroU16) → word ≡ command_word c
    → a ≡ address_named c → o ≡ number_named c
    → Appends old new (word ++ codes " " ++ address_text a ++ number_behind o ++ codes ": ") → Appends old new (logged_command c)
of-command old new c word a o e f g written = rw (e, f, g) at written

-- ---- a line: its beginning, its command or none, and what became of it
abbrev pub beginning : ℕ → List ℕ
beginning number = codes "commands: line " ++ (decimal number ++ codes ": ")

pub line-with : (a b c d : Option (List ℕ)) (number : ℕ) (command : Option Command) (named : Command) (outcome : LineOutcome) → command ≡ Some named
    → Appends a b (beginning number) → Appends b c (logged_command named) → Appends c d (line_outcome_text outcome)
    → Appends a d (logged_line number command outcome)
line-with a b c d number command named outcome is first second behind =
    let told : option_map_or logged_command command [] ≡ logged_command named = ap (λ o. option_map_or logged_command o []) is in
    subst (λ text. Appends a d (codes "commands: line " ++ decimal number ++ codes ": " ++ text ++ line_outcome_text outcome)) (sym told)
    (Appends-trans a c d _ (line_outcome_text outcome) (Appends-trans a b c (beginning number) (logged_command named) first second) behind)

pub line-without : (a b d : Option (List ℕ)) (number : ℕ) (command : Option Command) (outcome : LineOutcome) → command ≡ None
    → Appends a b (beginning number) → Appends b d (line_outcome_text outcome) → Appends a d (logged_line number command outcome)
line-without a b d number command outcome is first behind =
    let told : option_map_or logged_command command [] ≡ [] = ap (λ o. option_map_or logged_command o []) is in
    subst (λ text. Appends a d (codes "commands: line " ++ decimal number ++ codes ": " ++ text ++ line_outcome_text outcome)) (sym told)
    (subst (λ text. Appends a d (text ++ line_outcome_text outcome)) (sym (append-nil (beginning number)))
    (Appends-trans a b d (beginning number) (line_outcome_text outcome) first behind))
