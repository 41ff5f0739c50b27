-- Law of the used index that a put writes.
use Rattle.std.specs.Prelude.{◌≡◌, ℕ, true, List}
use Rattle.std.specs.Int.{w16}
use Rattle.vub_mem.specs.Memory.{Guest}
use Rattle.vub_mem.specs.Place.{covers, number_at}
use Rattle.vub_mem.specs.ReadBack.{IsPlacedApart}
use Rattle.vub_mem.specs.Sound.{IsSound}
use Rattle.vub_queue.specs.EntryNumber.{after}
use Rattle.vub_queue.specs.Layout.{used_index_at}
use Rattle.vub_queue.specs.Put.{put_guest}
use Rattle.vub_queue.specs.Ring.{Ring}
use Rattle.vub_queue.specs.declared.chain.Chain.{Chain}

-- The used index that a put writes is read back, whatever else the put writes: the index is written last. Its two bytes
-- are to lie at two places, since regions need no alignment and two addresses may show one byte.
abbrev pub PutIndexIsReadBack : Type 0
PutIndexIsReadBack =
    (g : Guest) (r : Ring) (c : Chain) (reply : List ℕ) → IsSound g → covers g.regions (used_index_at r) 2 ≡ true →
    IsPlacedApart g.regions (used_index_at r) 2 →
    number_at w16 (put_guest g r c reply) (used_index_at r) ≡ after r.next_used
