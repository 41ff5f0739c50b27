-- The lone member of an object, beside that of its tree.
use Rattle.std.proofs.Common.{◌≡◌, ◌≢◌, ℕ, List, [], ◌∷◌, length, Option, Some, None, String, Global, string_bytes, refl, arith, slice_get}
use Rattle.serde_json.specs.View.{view, members_view}
use Rattle.serde_json.specs.declared.value.Value.{Value}
use Rattle.serde_json.proofs.Views.{Entry}
use Rattle.vub_script.specs.Objects.{lone_member}

pub lone_none : (es : List Entry) → length es ≢ 1 → None ≡ lone_member (members_view es)
lone_none [] h = refl
lone_none (e ∷ []) h = absurd (h refl)
lone_none (e ∷ d ∷ es) h = refl

pub lone_some : (es : List Entry) (k : String Global) (v : Value) → length es ≡ 1 → slice_get es 0 ≡ Some (k, v) → Some (string_bytes k, view v) ≡ lone_member (members_view es)
lone_some [] k v h f = absurd (omega arith)
lone_some (e ∷ []) k v h f = let same : e ≡ (k, v) = cc in rw same refl
lone_some (e ∷ d ∷ es) k v h f = absurd (omega arith)
