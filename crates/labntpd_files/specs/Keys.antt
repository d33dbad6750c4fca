-- The keys of a configuration file: which of them a table may have.
use Rattle.std.specs.Prelude.{ℕ, Bool, false, List, [], ◌∷◌, map, codes, Option, Some, None, if◌then◌else◌}
use Rattle.std.specs.{List.list_any, Option.option_map_or, Str.bytes_eq}
use Rattle.toml.specs.Data.{Members, no_members, member, get_member, as_str}
use Rattle.ntp_admin.specs.Words.{◌>>=◌}
use Rattle.labntpd_files.specs.{declared.setting.Setting.Setting, declared.setting.Kind.Kind}

-- a key, and what is wanted there
abbrev pub Row : Type 0
Row = List ℕ × Kind

abbrev pub row : Setting → Row
row setting = (setting.0.now, setting.1)

abbrev pub names : List Setting → List (List ℕ)
names settings = map (λ setting. setting.0.now) settings

-- whether the source of a clock is fixed
abbrev pub is_fixed : Members → Bool
is_fixed clock = option_map_or (bytes_eq (codes "fixed")) (get_member (codes "source") clock >>= as_str) false

-- the keys of the top level, and those of the table `[clock]`, by its source
abbrev pub top_keys : List (List ℕ)
top_keys =
    map codes ("listen" ∷ "served_as" ∷ "commands" ∷ "answers" ∷ "statistics" ∷ "customers" ∷ "receive_buffer" ∷ "send_buffer"
    ∷ "longest_wait" ∷ "spin" ∷ "clock" ∷ [])

abbrev pub clock_keys : Members → List (List ℕ)
clock_keys clock =
    map codes (if is_fixed clock then "source" ∷ "reference" ∷ []
    else "source" ∷ "number" ∷ "algorithm" ∷ "key_file" ∷ "valid_for" ∷ "most_root_distance" ∷ "most_reference_age"
    ∷ "most_step" ∷ [])

-- whether a key is one of the known ones
abbrev pub is_known : List (List ℕ) → List ℕ → Bool
is_known known key = list_any (bytes_eq key) known

-- the first key of a table that is none of these; the keys of a table stand in the order of their octets
abbrev pub unknown_in : List (List ℕ) → Members → Option (List ℕ)
unknown_in known no_members = None
unknown_in known (member key value others) = if is_known known key then unknown_in known others else Some key
