-- A submit leaves memory ready for one request more.
use Rattle.std.proofs.Common.{◌≡◌, ℕ, ◌+◌, ◌<◌, ◌≤◌, inl, inr, false, List, [], ◌∷◌, length, sym, ap, subst, ◌∙◌, arith}
use Rattle.std.specs.Int.{w16, to_le_bytes}
use Rattle.vub_mem.specs.Laws.{IsElsewhere}
use Rattle.vub_mem.specs.Memory.{Guest}
use Rattle.vub_mem.specs.Place.{bytes_at, write_at}
use Rattle.vub_mem.proofs.Frames.{regions-write_at, length-write_at, write_apart}
use Rattle.vub_driver.specs.Calls.{chain_bytes, index_of, submit_guest}
use Rattle.vub_driver.specs.Places.{half_of, place_of, head_of, request_at, descriptors_at, avail_slot_at, avail_index_at}
use Rattle.vub_driver.specs.declared.layout.Layout.{Layout}
use Rattle.vub_driver.proofs.Flat.{IsFlat, bytes_back}
use Rattle.vub_driver.proofs.Fitting.{place_below}
use Rattle.vub_driver.proofs.Writes.{length-chain_bytes}
use Rattle.vub_model.specs.Headline.{ChangesOnly}
use Rattle.vub_model.specs.Written.{spots_of}
use Rattle.vub_talk.specs.Asking.{is_large, region}
use Rattle.vub_talk.specs.declared.ask.Ask.{Ask}
use Rattle.vub_talk.specs.Ready.{IsLaid, IsReady}
use Rattle.vub_talk.proofs.Accepting.{request_fits}
use Rattle.vub_talk.proofs.Acting.{RoomFits, room_fits, request-off, slot-off}
use Rattle.vub_talk.proofs.Guarding.{Sits, sits, spot-back, spot-here}
use Rattle.vub_talk.proofs.Keeping.{Keeps, keeps}
use Rattle.vub_talk.proofs.Stored.{Beside, other-kept, index-kept, chain-kept}

-- a write changes no byte beside it
write-only : (g : Guest) (a : ℕ) (bs : List ℕ) → g.regions ≡ region ∷ [] → ChangesOnly (spots_of (region ∷ []) a (length bs)) g (write_at g a bs)
write-only g a bs flat = record {
  regions = regions-write_at g a bs;
  lengths = λ o. length-write_at g a bs o;
  bytes = λ o i apart.
      let E : List _ → Type 0 = λ rs. IsElsewhere rs a (length bs) o i in
      write_apart g a bs o i (subst E (sym flat) (λ k below lies. apart (spot-here (length bs) a k o i below lies)));
}

module _ (l : Layout) (at : Sits l) (n : ℕ) (g : Guest) (was : IsReady l n g) where
  beside : (a : ℕ) (bs : List ℕ) → Keeps (Beside a (length bs)) g (write_at g a bs)
  beside a bs =
      keeps (Beside a (length bs)) g (write_at g a bs) (spots_of (region ∷ []) a (length bs)) was.one
      (λ o i is has.
      let range = spot-back (length bs) a o i is in
      elim has.1 [
        | inl less ↦ omega (arith, range.1.low, less)
        | inr more ↦ omega (arith, range.1.high, more)
      ])
      (write-only g a bs was.one)

  flat : IsFlat region g
  flat = record { one = was.one; backed = omega (arith, was.long) }

  -- the four writes
  request-written : (m : ℕ) (request : List ℕ) → length request ≤ l.slot → IsReady l n (write_at g (request_at l m) request)
  request-written m request short = other-kept l at n g (write_at g (request_at l m) request) was (length-write_at g (request_at l m) request 0) (request_at l m) (length request) (beside (request_at l m) request) (request-off l at m (length request) short)

  chain-written : (m size room : ℕ) → RoomFits l room → IsReady l n (write_at g (descriptors_at l m) (chain_bytes l m size room))
  chain-written m size room fits =
      let bs = chain_bytes l m size room in
      let long : length (chain_bytes l m size room) ≡ 32 = length-chain_bytes l m size room in
      let place : place_of l m < half_of l = place_below l m at.fit in
      let h = write_at g (descriptors_at l m) (chain_bytes l m size room) in
      let B : ℕ → Type 0 = λ k. Keeps (Beside (descriptors_at l m) k) g (write_at g (descriptors_at l m) (chain_bytes l m size room)) in
      let back : bytes_at h (descriptors_at l m) 32 ≡ chain_bytes l m size room =
      ap (bytes_at h (descriptors_at l m)) (sym long) ∙ bytes_back region g (descriptors_at l m) bs flat (omega (arith, at.within.desc.0), omega (arith, long, place, at.fit.even, at.within.desc.1)) in
      chain-kept l at n g h was (length-write_at g (descriptors_at l m) bs 0) m size room fits.short fits.few (subst B long (beside (descriptors_at l m) bs)) back

  slot-written : (m : ℕ) → IsReady l n (write_at g (avail_slot_at l m) (to_le_bytes w16 (head_of l m)))
  slot-written m =
      let bs = to_le_bytes w16 (head_of l m) in
      other-kept l at n g (write_at g (avail_slot_at l m) bs) was (length-write_at g (avail_slot_at l m) bs 0) (avail_slot_at l m) 2 (beside (avail_slot_at l m) bs) (slot-off l at m)

  index-written : (m : ℕ) → IsReady l m (write_at g (avail_index_at l) (to_le_bytes w16 (index_of m)))
  index-written m =
      let bs = to_le_bytes w16 (index_of m) in
      index-kept l at n g (write_at g (avail_index_at l) bs) was (length-write_at g (avail_index_at l) bs 0) m (beside (avail_index_at l) bs)
      (bytes_back region g (avail_index_at l) bs flat (omega (arith, at.within.avail.0), omega (arith, at.within.avail.1)))

pub submit-ready : (l : Layout) (at : Sits l) (n : ℕ) (g : Guest) (request : List ℕ) (room : ℕ) → length request ≤ l.slot → RoomFits l room → IsReady l n g → IsReady l (n + 1) (submit_guest l g n request room)
unfolding submit_guest
submit-ready l at n g request room short fits was =
    let first = request-written l at n g was n request short in
    let second = chain-written l at n (write_at g (request_at l n) request) first n (length request) room fits in
    let third = slot-written l at n (write_at (write_at g (request_at l n) request) (descriptors_at l n) (chain_bytes l n (length request) room)) second n in
    index-written l at n (write_at (write_at (write_at g (request_at l n) request) (descriptors_at l n) (chain_bytes l n (length request) room)) (avail_slot_at l n) (to_le_bytes w16 (head_of l n))) third (n + 1)

-- memory that is ready for so many requests
pub ready-at : (l : Layout) (n m : ℕ) (g : Guest) → n ≡ m → IsReady l n g → IsReady l m g
ready-at l n m g same ready = let R : ℕ → Type 0 = λ x. IsReady l x g in subst R same ready

-- the submit of one ask of a batch
pub submitted-ready : (l : Layout) (n i : ℕ) (k : Layout) (number : ℕ) (g h : Guest) (a : Ask) → k ≡ l → number ≡ n + i → is_large l a ≡ false → IsLaid l → IsReady l (n + i) g → h ≡ submit_guest k g number a.request a.room → IsReady l (n + (i + 1)) h
submitted-ready l n i k number g h a layout same small laid was is =
    let R : Guest → Type 0 = λ x. IsReady l (n + i + 1) x in
    let here : submit_guest l g (n + i) a.request a.room ≡ h = sym (is ∙ ap (λ x. submit_guest x g number a.request a.room) layout ∙ ap (λ x. submit_guest l g x a.request a.room) same) in
    let next : n + i + 1 ≡ n + (i + 1) = omega arith in
    ready-at l (n + i + 1) (n + (i + 1)) h next
    (subst R here (submit-ready l (sits l laid) (n + i) g a.request a.room (request_fits l (length a.request) a.room small) (room_fits l (length a.request) a.room small) was))

-- the memory behind a batch is that of the next
pub carried : (l k : Layout) (number count done more : ℕ) (g : Guest) → k ≡ l → number ≡ done → count ≡ more → IsReady l (number + count) g → IsReady l (done + more) g
carried l k number count done more g layout same long ready = ready-at l (number + count) (done + more) g (omega (arith, same, long)) ready
