-- A table's keys, as its members have them.
use Rattle.std.proofs.Common.{◌≡◌, ℕ, List, [], ◌∷◌, Option, Some, None, String, Global, string_bytes, refl, ap}
use Rattle.std.specs.{Prelude.if◌then◌else◌, Prelude.◌||◌, List.list_any, Str.bytes_eq}
use Rattle.std.specs.Map.{keys_of}
use Rattle.toml.specs.View.{members_view}
use Rattle.toml.proofs.Views.{Entry}
use Rattle.labntpd_files.specs.{Keys.is_known, Keys.names, Keys.unknown_in, declared.setting.Setting.Setting}

-- the first of some keys that is none of these
abbrev pub unknown_among : List (List ℕ) → List (String Global) → Option (List ℕ)
unknown_among known [] = None
unknown_among known (key ∷ others) = if is_known known (string_bytes key) then unknown_among known others else Some (string_bytes key)

pub unknown_in-view : (known : List (List ℕ)) (es : List Entry) → unknown_in known (members_view es) ≡ unknown_among known (keys_of es)
unknown_in-view known [] = refl
unknown_in-view known (e ∷ es) = ap (λ o. if is_known known (string_bytes e.0) then o else Some (string_bytes e.0)) (unknown_in-view known es)

-- whether a setting has a key, as its name says
pub any_of_names : (key : List ℕ) (settings : List Setting)
    → list_any (λ setting. bytes_eq key setting.0.now) settings ≡ is_known (names settings) key
any_of_names key [] = refl
any_of_names key (setting ∷ others) = ap (λ b. bytes_eq key setting.0.now || b) (any_of_names key others)
