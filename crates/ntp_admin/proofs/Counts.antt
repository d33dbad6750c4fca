-- How many keys a table has, and how many entries its map.
use Rattle.std.proofs.Common.{◌≡◌, suc, List, [], ◌∷◌, length, refl, ap}
use Rattle.toml.specs.View.{members_view}
use Rattle.toml.proofs.Views.{Entry}
use Rattle.ntp_admin.specs.Form.{key_count}

pub key_count-view : (es : List Entry) → key_count (members_view es) ≡ length es
key_count-view [] = refl
key_count-view (e ∷ es) = ap suc (key_count-view es)
