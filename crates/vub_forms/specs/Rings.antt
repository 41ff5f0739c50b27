-- A ring as it stands when the run begins: an object with all nine keys and no others.
use Rattle.std.specs.Prelude.{if◌then◌else◌, List, [], ◌∷◌, codes, Option, Some, None}
use Rattle.serde_json.specs.Data.{Data}
use Rattle.serde_json.specs.Find.{as_array, get}
use Rattle.vub_model.specs.declared.setup.Info.{Info}
use Rattle.vub_model.specs.declared.setup.GivenRing.{GivenRing}
use Rattle.vub_forms.specs.Reading.{◌>>=◌, given}
use Rattle.vub_forms.specs.Numbers.{number_of, u32_of, u16_of}
use Rattle.vub_forms.specs.Leaves.{bool_of, or_null}
use Rattle.vub_forms.specs.Lists.{items_list}
use Rattle.vub_forms.specs.Keys.{has_ring_form}

-- the addresses of a ring's areas: `[desc,avail,used]`
abbrev pub info_parts : Data → Data → Data → Option Info
info_parts a b c = do
  desc ← number_of a
  avail ← number_of b
  used ← number_of c
  Some (record { desc = desc; avail = avail; used = used })

abbrev pub info_form : List Data → Option Info
info_form [] = None
info_form (a ∷ []) = None
info_form (a ∷ b ∷ []) = None
info_form (a ∷ b ∷ c ∷ []) = info_parts a b c
info_form (a ∷ b ∷ c ∷ d ∷ more) = None

unfoldable pub info_of : Data → Option Info
info_of d = as_array d >>= λ ds. info_form (items_list ds)

unfoldable pub ring_fields : Data → Option GivenRing
ring_fields d = do
  queue ← given u32_of (get (codes "queue") d)
  size ← given u16_of (get (codes "size") d)
  info ← given (or_null info_of) (get (codes "info") d)
  base ← given u16_of (get (codes "base") d)
  next_used ← given u16_of (get (codes "next_used") d)
  kick ← given (or_null u32_of) (get (codes "kick") d)
  call ← given (or_null u32_of) (get (codes "call") d)
  ready ← given bool_of (get (codes "ready") d)
  enabled ← given bool_of (get (codes "enabled") d)
  Some (record { queue = queue; size = size; info = info; base = base; next_used = next_used; kick = kick; call = call; ready = ready; enabled = enabled })

unfoldable pub ring_of : Data → Option GivenRing
ring_of d = if has_ring_form d then ring_fields d else None
