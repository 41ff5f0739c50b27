-- An action of the guest: `["store",object,offset,HEX]`, `["signal",object]` or `["harvest",object,word]`.
use Rattle.std.specs.Prelude.{if◌then◌else◌, List, [], ◌∷◌, codes, Option, Some, None}
use Rattle.serde_json.specs.Data.{Data}
use Rattle.serde_json.specs.Find.{as_array}
use Rattle.vub_model.specs.declared.setup.Guest.{Guest}
use Rattle.vub_model.specs.declared.setup.Guest.TheVariants.{Store, Signal, Harvest}
use Rattle.vub_forms.specs.Reading.{◌>>=◌}
use Rattle.vub_forms.specs.Numbers.{number_of, u32_of}
use Rattle.vub_forms.specs.Hexadecimal.{bytes_of}
use Rattle.vub_forms.specs.Leaves.{is_text}
use Rattle.vub_forms.specs.Lists.{items_list}
use Rattle.vub_forms.specs.Arguments.{one, two, three}

abbrev pub store_of : List Data → Option Guest
store_of ds = three u32_of number_of bytes_of ds >>= λ x. Some (Store x.0 x.1 x.2)

abbrev pub signal_of : List Data → Option Guest
signal_of ds = one u32_of ds >>= λ x. Some (Signal x)

abbrev pub harvest_of : List Data → Option Guest
harvest_of ds = two u32_of number_of ds >>= λ x. Some (Harvest x.0 x.1)

-- the action with this name and these arguments
abbrev pub action_called : Data → List Data → Option Guest
action_called word ds =
    if is_text word (codes "store") then store_of ds
    else if is_text word (codes "signal") then signal_of ds
    else if is_text word (codes "harvest") then harvest_of ds
    else None

abbrev pub guest_form : List Data → Option Guest
guest_form [] = None
guest_form (word ∷ ds) = action_called word ds

unfoldable pub guest_of : Data → Option Guest
guest_of d = as_array d >>= λ ds. guest_form (items_list ds)
