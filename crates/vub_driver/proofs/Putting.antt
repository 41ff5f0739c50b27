-- A put keeps what every step keeps.
use Rattle.std.proofs.Common.{◌≡◌, ℕ, ◌+◌, ◌*◌, ◌<◌, ◌≤◌, inl, inr, List, [], ◌∷◌, ◌++◌, length, Some, None, refl, sym, ap, ap₂, subst, ◌∙◌, arith}
use Rattle.std.specs.Int.{w16, to_le_bytes}
use Rattle.std.proofs.lemmas.List.{length_push, take_all}
use Rattle.vub_mem.specs.declared.region.Region.{Region}
use Rattle.vub_mem.specs.Memory.{Guest}
use Rattle.vub_mem.specs.Place.{bytes_at, write_at}
use Rattle.vub_queue.specs.EntryNumber.{after}
use Rattle.vub_queue.specs.Layout.{used_element_at as ring_element_at, used_index_at as ring_used_at}
use Rattle.vub_queue.specs.Notification.{ring_told}
use Rattle.vub_queue.specs.Put.{put_guest, write_reply as fill, write_used as use_entry, ring_used}
use Rattle.vub_queue.specs.declared.chain.Chain.{Chain}
use Rattle.vub_driver.specs.Calls.{index_of}
use Rattle.vub_driver.specs.Machine.{World}
use Rattle.vub_driver.specs.Places.{half_of, head_of, reply_at, used_index_at, used_element_at, avail_event_at}
use Rattle.vub_driver.proofs.Flat.{flat_write, bytes_beside}
use Rattle.vub_driver.proofs.Cells.{far, turned, in_event, in_reply, element_event, event_used}
use Rattle.vub_driver.proofs.Writes.{Marks, Reads, Fits, element_bytes, write_reply, write_element, write_used, last_or}
use Rattle.vub_driver.proofs.Kept.{Keeps, HeldIs, IsSmall, ask_in, reply_in, reply_old, reply_new, marks_in, taken_by, take_grown}
use Rattle.vub_driver.proofs.Taking.{at_is, slot_number, next_index}

abbrev with_reply : World → Chain → List ℕ → World
with_reply w c bs = record w { guest = put_guest w.guest w.ring c bs; ring = ring_told (ring_used w.ring); held = None; replies = w.replies ++ bs ∷ [] }

abbrev filled : World → List ℕ → Guest
filled w bs = write_at w.guest (reply_at w.driver.layout (length w.replies)) bs

abbrev elemented : World → List ℕ → Guest
elemented w bs = write_at (filled w bs) (used_element_at w.driver.layout (length w.replies)) (element_bytes (head_of w.driver.layout (length w.replies)) (length bs))

abbrev used_up : World → List ℕ → Guest
used_up w bs = write_at (elemented w bs) (used_index_at w.driver.layout) (to_le_bytes w16 (index_of (length w.replies + 1)))

module _ (r : Region) (w : World) (c : Chain) (bs : List ℕ) (k : Keeps r w) (held : w.held ≡ Some c) (fit : length bs ≤ c.room) where
  is_held : HeldIs w.driver.layout (length w.replies) (ask_in w.asked (length w.replies)) (Some c)
  is_held = subst (HeldIs w.driver.layout (length w.replies) (ask_in w.asked (length w.replies))) held k.holding

  count : length w.taken ≡ length w.replies + 1
  count = k.held ∙ ap (λ h. taken_by h (length w.replies)) held

  room : length bs ≤ (ask_in w.asked (length w.replies)).room
  room = (let same : c.room ≡ (ask_in w.asked (length w.replies)).room = is_held.2 in omega arith)

  below : length w.replies < w.driver.submitted
  below = omega (arith, count, k.behind)

  space : length bs ≤ w.driver.layout.slot
  space = omega (arith, room, (k.small (length w.replies) below).space)

  full : length w.replies < w.driver.collected + half_of w.driver.layout
  full = omega (arith, below, k.near)

  old : (n : ℕ) → n < length w.replies → reply_in (w.replies ++ bs ∷ []) n ≡ reply_in w.replies n
  old n h = reply_old w.replies bs n h

  new : reply_in (w.replies ++ bs ∷ []) (length w.replies) ≡ bs
  new = reply_new w.replies bs

  short : (n : ℕ) → w.driver.collected ≤ n → n < length w.replies + 1 → length (reply_in (w.replies ++ bs ∷ []) n) ≤ (ask_in w.asked n).room
  short n from to = elim (last_or n (length w.replies) to) [
    | inl older ↦ subst (λ x. length x ≤ (ask_in w.asked n).room) (sym (old n older)) (k.short n from older)
    | inr same ↦ subst (λ i. length (reply_in (w.replies ++ bs ∷ []) i) ≤ (ask_in w.asked i).room) (sym same) (subst (λ x. length x ≤ (ask_in w.asked (length w.replies)).room) (sym new) room)
  ]

  fits : (m : Marks) → m.requests ≡ w.driver.submitted → m.taken ≡ length w.taken → m.collected ≡ w.driver.collected → m.replies ≤ length w.replies + 1 →
      Fits w.driver.layout (ask_in w.asked) (reply_in (w.replies ++ bs ∷ [])) m
  fits m asked taken same few = record {
    requests = λ n from to. (k.small n (omega (arith, asked))).bytes;
    replies = λ n from to.
        let small : IsSmall w.driver.layout (ask_in w.asked n) = k.small n (omega (arith, few, below)) in
        omega (arith, short n (omega (arith, same)) (omega (arith, few)), small.space);
  }

  reads : Reads w.driver.layout r (ask_in w.asked) (reply_in (w.replies ++ bs ∷ [])) (marks_in w) w.guest
  reads = record {
    flat = k.reads.flat;
    index = k.reads.index;
    requests = k.reads.requests;
    chains = k.reads.chains;
    slots = k.reads.slots;
    used = k.reads.used;
    elements = λ n from to. k.reads.elements n from to ∙ ap (λ x. element_bytes (head_of w.driver.layout n) (length x)) (sym (old n to));
    replies = λ n from to. subst (λ x. bytes_at w.guest (reply_at w.driver.layout n) (length x) ≡ x) (sym (old n to)) (k.reads.replies n from to);
  }

  after_reply : Reads w.driver.layout r (ask_in w.asked) (reply_in (w.replies ++ bs ∷ [])) (record (marks_in w) { replies = length w.replies + 1 }) (filled w bs)
  after_reply =
      write_reply w.driver.layout r (ask_in w.asked) (reply_in (w.replies ++ bs ∷ [])) (marks_in w) w.guest k.apart k.lies reads (fits (marks_in w) refl refl refl (omega arith))
      (length w.replies) bs refl new space (omega (arith, count)) k.near k.put full

  after_element : Reads w.driver.layout r (ask_in w.asked) (reply_in (w.replies ++ bs ∷ [])) (record (marks_in w) { replies = length w.replies + 1; elements = length w.replies + 1 }) (elemented w bs)
  after_element =
      let m : Marks = record (marks_in w) { replies = length w.replies + 1 } in
      write_element w.driver.layout r (ask_in w.asked) (reply_in (w.replies ++ bs ∷ [])) m (filled w bs) k.apart k.lies after_reply (fits m refl refl refl (omega arith))
      (length w.replies) (length bs) refl (ap length new) full

  after_index : Reads w.driver.layout r (ask_in w.asked) (reply_in (w.replies ++ bs ∷ []))
      (record (marks_in w) { replies = length w.replies + 1; elements = length w.replies + 1; used = length w.replies + 1 }) (used_up w bs)
  after_index =
      let m : Marks = record (marks_in w) { replies = length w.replies + 1; elements = length w.replies + 1 } in
      write_used w.driver.layout r (ask_in w.asked) (reply_in (w.replies ++ bs ∷ [])) m (elemented w bs) k.apart k.lies after_element (fits m refl refl refl (omega arith)) (length w.replies + 1)

  put_is : put_guest w.guest w.ring c bs ≡ used_up w bs
  unfolding put_guest fill use_entry
  put_is =
      let element : ring_element_at w.ring ≡ used_element_at w.driver.layout (length w.replies) =
      ap₂ (λ a n. a.used + (4 + 8 * n)) (at_is w.ring w.driver.layout k.addresses) (slot_number w.driver.layout (length w.replies) w.ring.next_used w.ring.size k.apart k.next_used k.size) in
      let index : ring_used_at w.ring ≡ used_index_at w.driver.layout = ap (λ a. a.used + 2) (at_is w.ring w.driver.layout k.addresses) in
      let word : after w.ring.next_used ≡ index_of (length w.replies + 1) = ap after k.next_used ∙ next_index (length w.replies) in
      let reply : fill w.guest c.segments bs ≡ filled w bs =
      ap (λ ss. fill w.guest ss bs) is_held.1 ∙ ap (λ x. write_at w.guest (reply_at w.driver.layout (length w.replies)) x) (take_all (ask_in w.asked (length w.replies)).room bs room) in
      ap₂ (λ a n. write_at (write_at (fill w.guest c.segments bs) (ring_element_at w.ring) (element_bytes c.head (length bs))) a (to_le_bytes w16 n)) index word
      ∙ ap₂ (λ a n. write_at (write_at (fill w.guest c.segments bs) a (element_bytes n (length bs))) (used_index_at w.driver.layout) (to_le_bytes w16 (index_of (length w.replies + 1)))) element is_held.0
      ∙ ap (λ g. write_at (write_at g (used_element_at w.driver.layout (length w.replies)) (element_bytes (head_of w.driver.layout (length w.replies)) (length bs))) (used_index_at w.driver.layout) (to_le_bytes w16 (index_of (length w.replies + 1)))) reply

  -- the three writes leave avail_event
  event_stays : bytes_at (put_guest w.guest w.ring c bs) (avail_event_at w.driver.layout) 2 ≡ bytes_at w.guest (avail_event_at w.driver.layout) 2
  event_stays =
      let n : ℕ = length w.replies in
      let first = flat_write r w.guest (reply_at w.driver.layout (length w.replies)) bs k.reads.flat in
      let second = flat_write r (filled w bs) (used_element_at w.driver.layout (length w.replies)) (element_bytes (head_of w.driver.layout (length w.replies)) (length bs)) first in
      ap (λ g. bytes_at g (avail_event_at w.driver.layout) 2) put_is
      ∙ bytes_beside r (elemented w bs) (used_index_at w.driver.layout) (avail_event_at w.driver.layout) 2 (to_le_bytes w16 (index_of (length w.replies + 1))) second (event_used w.driver.layout)
      ∙ bytes_beside r (filled w bs) (used_element_at w.driver.layout (length w.replies)) (avail_event_at w.driver.layout) 2 (element_bytes (head_of w.driver.layout (length w.replies)) (length bs)) first
      (turned (used_element_at w.driver.layout (length w.replies)) 8 (avail_event_at w.driver.layout) 2 (element_event w.driver.layout (length w.replies) k.apart))
      ∙ bytes_beside r w.guest (reply_at w.driver.layout (length w.replies)) (avail_event_at w.driver.layout) 2 bs k.reads.flat
      (far k.apart.used_buffers (in_event w.driver.layout) (in_reply w.driver.layout (length w.replies) (length bs) k.apart space))

  keeps : Keeps r (with_reply w c bs)
  keeps =
      let more : length w.replies + 1 ≡ length (w.replies ++ bs ∷ []) = sym (length_push w.replies bs) in
      record {
        apart = k.apart;
        lies = k.lies;
        event_idx = k.event_idx;
        tested = k.tested;
        long = k.long;
        rooms = k.rooms;
        asked = k.asked;
        small = k.small;
        count = k.count;
        first = k.first ∙ sym (take_grown 0 w.driver.collected w.replies bs k.put);
        put = omega (arith, k.put, more);
        held = count ∙ more;
        taken = k.taken;
        behind = k.behind;
        near = k.near;
        size = k.size;
        addresses = k.addresses;
        next_avail = k.next_avail;
        next_used = ap after k.next_used ∙ next_index (length w.replies) ∙ ap index_of more;
        reads = subst (λ n. Reads w.driver.layout r (ask_in w.asked) (reply_in (w.replies ++ bs ∷ [])) (record (marks_in w) { replies = n; elements = n; used = n }) (put_guest w.guest w.ring c bs)) more
            (subst (Reads w.driver.layout r (ask_in w.asked) (reply_in (w.replies ++ bs ∷ [])) (record (marks_in w) { replies = length w.replies + 1; elements = length w.replies + 1; used = length w.replies + 1 })) (sym put_is) after_index);
        short = λ n from to. short n from (omega (arith, more));
        holding = tt;
        event = λ waits. elim (k.event waits) [ inl off ↦ inl off | inr asked ↦ inr (event_stays ∙ asked) ];
      }

pub keeps_put : (r : Region) (w : World) (c : Chain) (bs : List ℕ) → Keeps r w → w.held ≡ Some c → length bs ≤ c.room → Keeps r (with_reply w c bs)
keeps_put r w c bs k held fit = keeps r w c bs k held fit
