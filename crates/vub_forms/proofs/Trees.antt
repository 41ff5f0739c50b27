-- A value's parts, beside the trees that they are.
use Rattle.std.proofs.Common.{◌≡◌, ◌≢◌, ℕ, List, [], ◌∷◌, ◌++◌, map, length, drop, Option, Some, None, option_map, String, Vec, Global, string_bytes, refl, sym, ap, ◌∙◌, arith, slice_get, Bool, ◌&&◌, BTreeMap}
use Rattle.std.specs.List.{list_all}
use Rattle.std.specs.Map.{keys_of}
use Rattle.std.specs.BTreeMap.{keys}
use Rattle.serde_json.specs.Data.{Data}
use Rattle.serde_json.specs.Find.{as_array}
use Rattle.serde_json.specs.View.{view, items_view, members_view}
use Rattle.serde_json.specs.declared.value.Value.{Value, Array, Object}
use Rattle.serde_json.proofs.Views.{Entry, view-Array, view-Object}
use Rattle.vub_forms.specs.Lists.{items_list, each, list_of}
use Rattle.vub_forms.specs.Requests.{request_form, request_of}
use Rattle.vub_forms.specs.Keys.{keys_are, object_keys_are}

pub items_listed : (vs : List Value) → items_list (items_view vs) ≡ map view vs
items_listed [] = refl
items_listed (v ∷ vs) = ap (λ ds. view v ∷ ds) (items_listed vs)

pub list_of_array : {A : Type 0} (f : Data → Option A) (v : Vec Value Global) → list_of f (view (Array v)) ≡ each f (map view v.items)
list_of_array f v = ap (list_of f) (view-Array v) ∙ ap (each f) (items_listed v.items)

pub request_of_array : (v : Vec Value Global) → request_of (view (Array v)) ≡ request_form (map view v.items)
unfolding request_of
request_of_array v = ap request_of (view-Array v) ∙ ap request_form (items_listed v.items)

entries_keys : (p : List ℕ → Bool) (es : List Entry) → keys_are p (members_view es) ≡ list_all (λ k. p (string_bytes k)) (keys_of es)
entries_keys p [] = refl
entries_keys p (e ∷ es) = ap (λ b. p (string_bytes e.0) && b) (entries_keys p es)

-- that all keys of a map pass is that those of its tree do
pub object_keys : (p : List ℕ → Bool) (m : BTreeMap (String Global) Value) → list_all (λ k. p (string_bytes k)) (keys m) ≡ object_keys_are p (view (Object m))
object_keys p m = sym (entries_keys p m.entries) ∙ ap (object_keys_are p) (sym (view-Object m))

-- what the elements from i on give, after those before them
abbrev pub onward : {A : Type 0} → (Data → Option A) → List A → ℕ → List Value → Option (List A)
onward f front i vs = option_map (λ xs. front ++ xs) (each f (map view (drop i vs)))

pub elements_of_array : (v : Vec Value Global) → option_map items_list (as_array (view (Array v))) ≡ Some (map view v.items)
elements_of_array v = ap (λ d. option_map items_list (as_array d)) (view-Array v) ∙ ap Some (items_listed v.items)
