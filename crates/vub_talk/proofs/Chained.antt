-- The chain of an entry that is taken from a memory that is ready: what the device may write lies in the buffers.
use Rattle.std.proofs.Common.{◌≡◌, ℕ, ◌+◌, ◌*◌, Bool, true, false, cond, List, [], ◌∷◌, map, filter, refl, sym, ap, subst, ◌∙◌, arith}
use Rattle.vub_mem.specs.Memory.{Guest}
use Rattle.vub_queue.specs.Chain.{Links, Stands, descriptor_at, is_writable, segment_of, segments_of}
use Rattle.vub_queue.specs.Function.{took_of}
use Rattle.vub_queue.specs.Layout.{Table, slot_of, table_of}
use Rattle.vub_queue.specs.Ring.{Ring}
use Rattle.vub_queue.specs.Take.{Taken}
use Rattle.vub_queue.specs.declared.chain.Chain.{Chain}
use Rattle.vub_queue.specs.declared.descriptor.Descriptor.{Descriptor}
use Rattle.vub_queue.specs.declared.segment.Segment.{Segment}
use Rattle.vub_queue.specs.declared.took.Took.{Took}
use Rattle.vub_queue.specs.declared.took.Took.TheVariants as took
use Rattle.vub_queue.proofs.Walks.{takes_some}
use Rattle.vub_driver.specs.declared.layout.Layout.{Layout}
use Rattle.vub_talk.specs.Ready.{IsHarmless, IsTableHarmless}
use Rattle.vub_talk.proofs.Guarding.{AreInBuffers}

one-more : (l : Layout) (d : Descriptor) (ds : List Descriptor) → IsHarmless l d → AreInBuffers l (segments_of ds) → AreInBuffers l (segments_of (d ∷ ds))
unfolding segments_of
one-more l d ds own rest = by (is_writable d) refl where
  by : (b : Bool) → is_writable d ≡ b → AreInBuffers l (map segment_of (cond b (d ∷ filter is_writable ds) (filter is_writable ds)))
  by true is = (own is, rest)
  by false is = rest

none-left : (l : Layout) → AreInBuffers l (segments_of [])
unfolding segments_of
none-left l = tt

module _ (l : Layout) (g : Guest) (t : Table) (base : t.base ≡ l.desc) (size : t.size ≡ l.size) (table : IsTableHarmless l g) where
  stands-harmless : (i : ℕ) (d : Descriptor) → Stands g t i d → IsHarmless l d
  stands-harmless i d s =
      let D : Descriptor → Type 0 = λ x. IsHarmless l x in
      let here : l.desc + 16 * i ≡ slot_of t i = omega (arith, base) in
      subst D (ap (descriptor_at g) here ∙ sym s.is) (table i (omega (arith, s.below, size)))

  links-in : (i : ℕ) (ds : List Descriptor) → Links g t i ds → AreInBuffers l (segments_of ds)
  links-in i [] links = absurd links
  links-in i (d ∷ []) links = one-more l d [] (stands-harmless i d links.0) (none-left l)
  links-in i (d ∷ e ∷ ds) links = one-more l d (e ∷ ds) (stands-harmless i d links.0) (links-in d.next (e ∷ ds) links.2)

pub taken-in : (l : Layout) (g : Guest) (r : Ring) (c : Chain) → (table_of r).base ≡ l.desc → (table_of r).size ≡ l.size → IsTableHarmless l g → took_of g r ≡ took.Entry c → AreInBuffers l c.segments
taken-in l g r c base size table is =
    let T : Took → Type 0 = λ t. Taken g r t in
    let entry = subst T is (takes_some g r) in
    let S : List Segment → Type 0 = λ ss. AreInBuffers l ss in
    subst S (sym (ap (λ (x : Chain). x.segments) entry.3)) (links-in l g (table_of r) base size table c.head entry.0 entry.2.links)
