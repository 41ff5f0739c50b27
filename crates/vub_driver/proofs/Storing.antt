-- A submit in a memory of one region is four stores.
use Rattle.std.proofs.Common.{◌≡◌, ℕ, ◌+◌, ◌-◌, ◌<◌, ◌≤◌, true, List, [], ◌∷◌, length, take, drop, None, Some, refl, sym, ap, subst, ◌∙◌, arith}
use Rattle.std.specs.Int.{w16, to_le_bytes}
use Rattle.std.proofs.lemmas.List.{take_all, drop_all}
use Rattle.vub_mem.specs.declared.region.Region.{Region}
use Rattle.vub_mem.specs.Memory.{Guest}
use Rattle.vub_mem.specs.Place.{content_of, region_of, store_at, with_bytes, write_at}
use Rattle.vub_mem.specs.Sound.{IsSound}
use Rattle.vub_mem.proofs.Contents.{store_none, sound_store, length-with_bytes}
use Rattle.vub_mem.proofs.Ranges.{found}
use Rattle.vub_mem.proofs.Writes.{write_none, write_more, write_all}
use Rattle.vub_driver.specs.Calls.{chain_bytes, index_of, submit_guest}
use Rattle.vub_driver.specs.Law.{IsCoveredBy}
use Rattle.vub_driver.specs.Layouts.{new_fault}
use Rattle.vub_driver.specs.Places.{head_of, request_at, descriptors_at, avail_slot_at, avail_index_at}
use Rattle.vub_driver.specs.Stores.{stored, four_stored}
use Rattle.vub_driver.specs.declared.layout.Layout.{Layout}
use Rattle.vub_driver.proofs.Areas.{lies_in, flat_in}
use Rattle.vub_driver.proofs.Cells.{in_chain, in_index, in_request, in_slot}
use Rattle.vub_driver.proofs.Fitting.{IsApart, apart_taken}
use Rattle.vub_driver.proofs.Flat.{Inside, region_in}
use Rattle.vub_driver.proofs.Writes.{Lies, inside, length-chain_bytes}

-- a sound memory of this region alone
record IsOne (r : Region) (g : Guest) : Type 0 where
  one : g.regions ≡ r ∷ []
  sound : IsSound g
  backed : r.offset + r.len ≤ length (content_of g.contents r.object)

-- a store into the region leaves such a memory
one_stored : (r : Region) (g : Guest) (a : ℕ) (bs : List ℕ) → IsOne r g → Inside r a (length bs) → IsOne r (stored r g a bs)
unfolding store_at
one_stored r g a bs m h =
    let fits : r.offset + (a - r.start) + length bs ≤ length (content_of g.contents r.object) = omega (arith, m.backed, h.0, h.1) in
    record {
      one = m.one;
      sound = sound_store g.regions g.contents (with_bytes g.contents r.object (r.offset + (a - r.start)) bs) r.object (r.offset + (a - r.start)) bs fits m.sound refl;
      backed = omega (arith, m.backed, length-with_bytes g.contents r.object (r.offset + (a - r.start)) bs r.object fits);
    }

-- a write is a store
one_store : (r : Region) (g : Guest) (a : ℕ) (bs : List ℕ) → IsOne r g → Inside r a (length bs) → write_at g a bs ≡ stored r g a bs
unfolding write_at store_at
one_store r g a [] m h = ap (λ cs. record g { contents = cs }) (store_none g.contents r.object (r.offset + (a - r.start)) [] (omega arith))
one_store r g a (b ∷ bs) m h =
    let at : region_of g.regions a ≡ Some r = ap (λ rs. region_of rs a) m.one ∙ region_in r a (h.0, omega (arith, h.1)) in
    let from = found g.regions a r m.sound.bounded at in
    let rest : drop (length (b ∷ bs)) (b ∷ bs) ≡ [] = drop_all (length (b ∷ bs)) (b ∷ bs) (omega arith) in
    let whole : take (length (b ∷ bs)) (b ∷ bs) ≡ b ∷ bs = take_all (length (b ∷ bs)) (b ∷ bs) (omega arith) in
    sym (write_all g.regions g.contents (with_bytes g.contents r.object (r.offset + (a - r.start)) (b ∷ bs)) a (b ∷ bs) (a + length (b ∷ bs)) [] true refl refl
    (write_more g.regions g.contents g.contents (with_bytes g.contents r.object (r.offset + (a - r.start)) (b ∷ bs)) a (b ∷ bs) a (length (b ∷ bs)) (b ∷ bs) (b ∷ bs) [] r
    (write_none g.regions g.contents a (b ∷ bs) m.sound) from (omega (arith, h.0, h.1)) (omega arith) (sym whole) (sym rest) refl refl))

four_stores : (l : Layout) (r : Region) (g : Guest) (n room : ℕ) (request : List ℕ) → IsApart l → Lies r l → IsOne r g → length request ≤ l.slot →
    submit_guest l g n request room ≡ four_stored r l g n request room
unfolding submit_guest
four_stores l r g n room request apart lies m short =
    let bytes : List ℕ = chain_bytes l n (length request) room in
    let long : length (chain_bytes l n (length request) room) ≡ 32 = length-chain_bytes l n (length request) room in
    let first : Inside r (request_at l n) (length request) = inside r lies.buffers (in_request l n (length request) apart short) in
    let second : Inside r (descriptors_at l n) (length (chain_bytes l n (length request) room)) =
    subst (λ k. Inside r (descriptors_at l n) k) (sym long) (inside r lies.desc (in_chain l n apart)) in
    let third : Inside r (avail_slot_at l n) 2 = inside r lies.avail (in_slot l n apart) in
    let fourth : Inside r (avail_index_at l) 2 = inside r lies.avail (in_index l) in
    let g1 : Guest = stored r g (request_at l n) request in
    let g2 : Guest = stored r (stored r g (request_at l n) request) (descriptors_at l n) (chain_bytes l n (length request) room) in
    let m1 = one_stored r g (request_at l n) request m first in
    let m2 = one_stored r (stored r g (request_at l n) request) (descriptors_at l n) (chain_bytes l n (length request) room) m1 second in
    let m3 = one_stored r (stored r (stored r g (request_at l n) request) (descriptors_at l n) (chain_bytes l n (length request) room)) (avail_slot_at l n) (to_le_bytes w16 (head_of l n)) m2 third in
    ap (λ x. write_at (write_at (write_at x (descriptors_at l n) (chain_bytes l n (length request) room)) (avail_slot_at l n) (to_le_bytes w16 (head_of l n))) (avail_index_at l) (to_le_bytes w16 (index_of (n + 1))))
    (one_store r g (request_at l n) request m first)
    ∙ ap (λ x. write_at (write_at x (avail_slot_at l n) (to_le_bytes w16 (head_of l n))) (avail_index_at l) (to_le_bytes w16 (index_of (n + 1))))
    (one_store r (stored r g (request_at l n) request) (descriptors_at l n) (chain_bytes l n (length request) room) m1 second)
    ∙ ap (λ x. write_at x (avail_index_at l) (to_le_bytes w16 (index_of (n + 1))))
    (one_store r (stored r (stored r g (request_at l n) request) (descriptors_at l n) (chain_bytes l n (length request) room)) (avail_slot_at l n) (to_le_bytes w16 (head_of l n)) m2 third)
    ∙ one_store r (stored r (stored r (stored r g (request_at l n) request) (descriptors_at l n) (chain_bytes l n (length request) room)) (avail_slot_at l n) (to_le_bytes w16 (head_of l n))) (avail_index_at l) (to_le_bytes w16 (index_of (n + 1))) m3 fourth

pub submits_store : (l : Layout) (r : Region) (g : Guest) (n room : ℕ) (request : List ℕ) → new_fault l ≡ None → 0 < l.slot → IsCoveredBy l r g → length request ≤ l.slot →
    submit_guest l g n request room ≡ four_stored r l g n request room
submits_store l r g n room request taken some covered short =
    let apart : IsApart l = apart_taken l some taken in
    let flat = flat_in l r g covered in
    four_stores l r g n room request apart (lies_in l r g apart some covered) (record { one = covered.one; sound = covered.sound; backed = flat.backed }) short
