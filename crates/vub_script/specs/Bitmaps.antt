-- How a script's device tracks the pages that it changes: `"none"` or `"pages"`.
use Rattle.std.specs.Prelude.{if◌then◌else◌, codes, Option, Some, None}
use Rattle.serde_json.specs.Data.{Data}
use Rattle.vub_script.specs.declared.device_form.BitmapForm.{BitmapForm}
use Rattle.vub_script.specs.declared.device_form.BitmapForm.TheVariants as bitmap
use Rattle.vub_forms.specs.Leaves.{is_text}

abbrev pub bitmap_of : Data → Option BitmapForm
bitmap_of d =
    if is_text d (codes "none") then Some bitmap.None
    else if is_text d (codes "pages") then Some bitmap.Pages
    else None
