-- A take reads the same in two memories that agree where it reads.
use Rattle.std.proofs.Common.{◌≡◌, ℕ, ◌+◌, Bool, true, false, cond, List, [], ◌∷◌, ◌++◌, Result, Ok, refl, sym, ap, ap₂, subst, ◌∙◌, arith}
use Rattle.std.specs.Int.{w16, w32, w64}
use Rattle.vub_mem.specs.Memory.{Guest}
use Rattle.vub_mem.specs.Place.{number_at, bytes_at}
use Rattle.vub_queue.specs.Chain.{descriptor_at, is_writable, Stands, Links, IsChain, read_part, request_of, segments_of, room_of, chain_of}
use Rattle.vub_queue.specs.Function.{took_of}
use Rattle.vub_queue.specs.Layout.{Table, slot_of, table_of, avail_index_at, avail_slot_at}
use Rattle.vub_queue.specs.Ring.{Ring}
use Rattle.vub_queue.specs.Take.{head_of, IsEntry}
use Rattle.vub_queue.specs.declared.chain.Chain.{Chain}
use Rattle.vub_queue.specs.declared.damage.Damage.{Damage}
use Rattle.vub_queue.specs.declared.descriptor.Descriptor.{Descriptor}
use Rattle.vub_queue.specs.declared.head.Head.{Head}
use Rattle.vub_queue.specs.declared.head.Head.TheVariants.{At}
use Rattle.vub_queue.specs.declared.took.Took.TheVariants as took
use Rattle.vub_queue.proofs.Walks.{walks_all, takes_some, IsWalk}
use Rattle.vub_queue.proofs.Takes.{taken_one}
use Rattle.vub_model.specs.Written.{spots_of}
use Rattle.vub_laws.specs.Alone.{table_spots, request_spots, walk_reads, head_reads, take_reads}
use Rattle.vub_laws.proofs.EntriesLeft.{EntryAt, entry-at, head-by, head-is}
use Rattle.vub_laws.proofs.Logless.{same-covers}
use Rattle.vub_laws.proofs.Agreeing.{Agree, Off, off-piece, bytes-same, number-same, Clear, off-clear, clear-left, clear-right}

module _ (F : ℕ → ℕ → Type 0) (g h : Guest) (x : Agree F g h) where
  head-logless : (r : Ring) (word slot : ℕ) → head-by h.regions r word slot ≡ head-by g.regions r word slot
  unfolding head-by
  head-logless r word slot = rw (same-covers h.regions g.regions x.regions (avail_index_at r) 2, same-covers h.regions g.regions x.regions (avail_slot_at r) 2) refl

  same-head : (r : Ring) → Off F g.regions (avail_index_at r) 2 → Off F g.regions (avail_slot_at r) 2 → head_of h r ≡ head_of g r
  same-head r index slot =
      head-is h r
      ∙ head-logless r (number_at w16 h (avail_index_at r)) (number_at w16 h (avail_slot_at r))
      ∙ ap₂ (λ a b. head-by g.regions r a b) (number-same F w16 g h (avail_index_at r) index x) (number-same F w16 g h (avail_slot_at r) slot x)
      ∙ sym (head-is g r)

  same-descriptor : (a : ℕ) → Off F g.regions a 16 → descriptor_at h a ≡ descriptor_at g a
  unfolding descriptor_at
  same-descriptor a off =
      let here : a + 0 ≡ a = omega arith in
      let O : ℕ → Type 0 = λ y. Off F g.regions y 8 in
      let addr = number-same F w64 g h a (subst O here (off-piece F g.regions a 16 0 8 (omega arith) off)) x in
      let len = number-same F w32 g h (a + 8) (off-piece F g.regions a 16 8 4 (omega arith) off) x in
      let flags = number-same F w16 g h (a + 12) (off-piece F g.regions a 16 12 2 (omega arith) off) x in
      let next = number-same F w16 g h (a + 14) (off-piece F g.regions a 16 14 2 (omega arith) off) x in
      rw (addr, len, flags, next) refl

  same-stands : (t : Table) (i : ℕ) (d : Descriptor) → Off F g.regions (slot_of t i) 16 → Stands g t i d → Stands h t i d
  same-stands t i d off s = record {
    below = s.below;
    read = same-covers h.regions g.regions x.regions (slot_of t i) 16 ∙ s.read;
    is = s.is ∙ sym (same-descriptor (slot_of t i) off);
    direct = s.direct;
    covered = same-covers h.regions g.regions x.regions d.addr d.len ∙ s.covered;
  }

  same-links : (t : Table) (i : ℕ) (ds : List Descriptor) → Clear F (table_spots g.regions t i ds) → Links g t i ds → Links h t i ds
  same-links t i [] clear l = l
  same-links t i (d ∷ []) clear l =
      (same-stands t i d (off-clear F g.regions (slot_of t i) 16 (clear-left F (spots_of g.regions (slot_of t i) 16) [] clear)) l.0, l.1)
  same-links t i (d ∷ e ∷ ds) clear l =
      let first = spots_of g.regions (slot_of t i) 16 in
      let more = table_spots g.regions t d.next (e ∷ ds) in
      (same-stands t i d (off-clear F g.regions (slot_of t i) 16 (clear-left F first more clear)) l.0, l.1, same-links t d.next (e ∷ ds) (clear-right F first more clear) l.2)

  same-part : (d : Descriptor) (b : Bool) → Clear F (cond b [] (spots_of g.regions d.addr d.len)) → cond b [] (bytes_at h d.addr d.len) ≡ cond b [] (bytes_at g d.addr d.len)
  same-part d true clear = refl
  same-part d false clear = bytes-same F g h d.addr d.len (off-clear F g.regions d.addr d.len clear) x

  same-request : (ds : List Descriptor) → Clear F (request_spots g.regions ds) → request_of h ds ≡ request_of g ds
  unfolding request_of read_part
  same-request [] clear = refl
  same-request (d ∷ ds) clear =
      let first = cond (is_writable d) [] (spots_of g.regions d.addr d.len) in
      let more = request_spots g.regions ds in
      ap₂ (λ a b. a ++ b) (same-part d (is_writable d) (clear-left F first more clear)) (same-request ds (clear-right F first more clear))

  -- the same entry is taken
  pub take-same : (r : Ring) (c : Chain) → Clear F (take_reads g r) → took_of g r ≡ took.Entry c → took_of h r ≡ took.Entry c
  take-same r c clear is =
      let e : EntryAt g r c = entry-at g r c is in
      let index = spots_of g.regions (avail_index_at r) 2 in
      let slot = spots_of g.regions (avail_slot_at r) 2 in
      let walked = walk_reads g.regions (table_of r) e.head (Ok e.ds) in
      let C : Head → Type 0 = λ x. Clear F (head_reads g r x) in
      let W : Result (List Descriptor) Damage → Type 0 = λ w. Clear F (slot ++ walk_reads g.regions (table_of r) e.head w) in
      let after : Clear F (slot ++ walked) = subst W e.walk (subst C e.at (clear-right F index (head_reads g r (head_of g r)) clear)) in
      let table = table_spots g.regions (table_of r) e.head e.ds in
      let request = request_spots g.regions e.ds in
      let inner : Clear F walked = clear-right F slot walked after in
      let K : Result (List Descriptor) Damage → Type 0 = λ w. IsWalk g (table_of r) e.head w in
      let chain : IsChain g (table_of r) e.head e.ds = subst K e.walk (walks_all g (table_of r) e.head) in
      let head : head_of h r ≡ At e.head = same-head r (off-clear F g.regions (avail_index_at r) 2 (clear-left F index (head_reads g r (head_of g r)) clear)) (off-clear F g.regions (avail_slot_at r) 2 (clear-left F slot walked after)) ∙ e.at in
      let moved : IsChain h (table_of r) e.head e.ds = record { links = same-links (table_of r) e.head e.ds (clear-left F table request inner) chain.links; short = chain.short; small = chain.small } in
      let made : chain_of g e.head e.ds ≡ chain_of h e.head e.ds = ap (λ q. record { head = e.head; request = q; segments = segments_of e.ds; room = room_of e.ds }) (sym (same-request e.ds (clear-right F table request inner))) in
      let E : Chain → Type 0 = λ y. IsEntry h r y in
      let entry : IsEntry h r c = subst E (sym e.is) (subst E (sym made) (e.ds, head, moved, refl)) in
      taken_one h r (took_of h r) (took.Entry c) (takes_some h r) entry
