-- The next ask, of which the guest has stored a part: nobody reads it yet, and it stands until its index is stored.
use Rattle.std.proofs.Common.{◌≡◌, ℕ, ◌+◌, ◌*◌, ◌<◌, ◌≤◌, inl, inr, false, List, [], ◌∷◌, ◌++◌, length, Some, None, refl, sym, ap, ap₂, subst, ◌∙◌, arith}
use Rattle.std.specs.Int.{w16, to_le_bytes}
use Rattle.std.proofs.lemmas.List.{length_push, take_all}
use Rattle.vub_mem.specs.Memory.{Guest}
use Rattle.vub_mem.specs.Place.{bytes_at, write_at}
use Rattle.vub_queue.specs.EntryNumber.{after}
use Rattle.vub_queue.specs.Layout.{used_element_at as ring_element_at, used_index_at as ring_used_at}
use Rattle.vub_queue.specs.Notification.{ring_told}
use Rattle.vub_queue.specs.Put.{put_guest, write_reply as fill, write_used as use_entry, ring_used}
use Rattle.vub_queue.specs.Ring.{Ring}
use Rattle.vub_queue.specs.declared.chain.Chain.{Chain}
use Rattle.vub_driver.specs.Calls.{chain_bytes, index_of, submit_guest}
use Rattle.vub_driver.specs.Machine.{Asked, World as Dialog}
use Rattle.vub_driver.specs.Places.{half_of, head_of, request_at, reply_at, descriptors_at, avail_index_at, avail_slot_at, used_index_at, used_element_at}
use Rattle.vub_driver.specs.declared.layout.Layout.{Layout}
use Rattle.vub_driver.proofs.Writes.{Marks, Reads, Fits, chain_of_asked, element_bytes, length-chain_bytes, write_request, write_chain, write_slot, write_reply, write_element, write_used, last_or}
use Rattle.vub_driver.proofs.Kept.{Keeps, HeldIs, IsSmall, ask_in, reply_in, ask_old, ask_new, reply_old, reply_new, marks_in, put_low, taken_by}
use Rattle.vub_driver.proofs.Taking.{at_is, slot_number, next_index}
use Rattle.vub_talk.specs.Asking.{region}
use Rattle.vub_talk.proofs.Storing.{write_again}

abbrev marks_ahead : Dialog → ℕ → ℕ → ℕ → Marks
marks_ahead d requests chains slots = record (marks_in d) { requests = requests; chains = chains; slots = slots }

-- so far the bytes, the descriptors and the slot of the requests stand, the next one's too
abbrev pub Ahead : Dialog → Asked → ℕ → ℕ → ℕ → Type 0
Ahead d a requests chains slots = Reads d.driver.layout region (ask_in (d.asked ++ a ∷ [])) (reply_in d.replies) (marks_ahead d requests chains slots) d.guest

-- another memory in which the same is read
pub keeps_guest : (d : Dialog) (g : Guest) → Keeps region d → d.ring.event_idx ≡ false → Reads d.driver.layout region (ask_in d.asked) (reply_in d.replies) (marks_in d) g → Keeps region (record d { guest = g })
keeps_guest d g k off reads = record {
  apart = k.apart;
  lies = k.lies;
  event_idx = k.event_idx;
  tested = k.tested;
  long = k.long;
  rooms = k.rooms;
  asked = k.asked;
  small = k.small;
  count = k.count;
  first = k.first;
  put = k.put;
  held = k.held;
  taken = k.taken;
  behind = k.behind;
  near = k.near;
  size = k.size;
  addresses = k.addresses;
  next_avail = k.next_avail;
  next_used = k.next_used;
  reads = reads;
  short = k.short;
  holding = k.holding;
  event = λ waits. inl off;
}

-- a ring that goes on at the same numbers
pub keeps_ring : (d : Dialog) (q : Ring) → Keeps region d → d.ring.event_idx ≡ q.event_idx → q.size ≡ d.ring.size → q.addresses ≡ d.ring.addresses → q.next_avail ≡ d.ring.next_avail → q.next_used ≡ d.ring.next_used →
    q.event_idx ≡ false → Keeps region (record d { ring = q })
keeps_ring d q k event size addresses avail used off = record {
  apart = k.apart;
  lies = k.lies;
  event_idx = k.event_idx ∙ event;
  tested = k.tested;
  long = k.long;
  rooms = k.rooms;
  asked = k.asked;
  small = k.small;
  count = k.count;
  first = k.first;
  put = k.put;
  held = k.held;
  taken = k.taken;
  behind = k.behind;
  near = k.near;
  size = size ∙ k.size;
  addresses = addresses ∙ k.addresses;
  next_avail = avail ∙ k.next_avail;
  next_used = used ∙ k.next_used;
  reads = k.reads;
  short = k.short;
  holding = k.holding;
  event = λ waits. inl off;
}

module _ (d : Dialog) (a : Asked) (k : Keeps region d) (off : d.ring.event_idx ≡ false) (space : d.driver.submitted < d.driver.collected + half_of d.driver.layout) (ok : IsSmall d.driver.layout a) where
  abbrev n : ℕ
  n = d.driver.submitted

  abbrev l : Layout
  l = d.driver.layout

  abbrev asks : ℕ → Asked
  asks = ask_in (d.asked ++ a ∷ [])

  abbrev with_guest : Guest → Dialog
  with_guest g = record d { guest = g }

  old : (i : ℕ) → i < n → asks i ≡ ask_in d.asked i
  old i h = ask_old d.asked a i (omega (arith, k.asked))

  new : asks n ≡ a
  new = ask_new d.asked a n k.asked

  small : (i : ℕ) → i < n + 1 → IsSmall l (asks i)
  small i h = elim (last_or i n h) [
    | inl older ↦ subst (IsSmall l) (sym (old i older)) (k.small i older)
    | inr same ↦ subst (λ j. IsSmall l (asks j)) (sym same) (subst (IsSmall l) (sym new) ok)
  ]

  order : d.driver.collected ≤ length d.taken
  order = omega (arith, k.put, put_low region d k)

  fits : (requests chains slots : ℕ) → requests ≤ n + 1 → Fits l asks (reply_in d.replies) (marks_ahead d requests chains slots)
  fits requests chains slots few = record {
    requests = λ i from to. (small i (omega arith)).bytes;
    replies = λ i from to.
        let less : i < n = omega (arith, put_low region d k, k.behind) in
        let its : IsSmall l (ask_in d.asked i) = k.small i less in
        omega (arith, k.short i from to, its.space);
  }

  pub nothing_ahead : Ahead d a n n n
  nothing_ahead = record {
    flat = k.reads.flat;
    index = k.reads.index;
    slots = k.reads.slots;
    used = k.reads.used;
    elements = k.reads.elements;
    replies = k.reads.replies;
    requests = λ i from to. subst (λ q. bytes_at d.guest (request_at l i) (length q.request) ≡ q.request) (sym (old i to)) (k.reads.requests i from to);
    chains = λ i from to. k.reads.chains i from to ∙ ap (chain_of_asked l i) (sym (old i to));
  }

  -- what is ahead is no part of what is read
  behind : (g : Guest) (requests chains slots : ℕ) → n ≤ requests → n ≤ chains → n ≤ slots → Reads l region asks (reply_in d.replies) (marks_ahead d requests chains slots) g →
      Keeps region (with_guest g)
  behind g requests chains slots first second third reads = keeps_guest d g k off (record {
    flat = reads.flat;
    index = reads.index;
    slots = λ i from to. reads.slots i from (omega arith);
    used = reads.used;
    elements = reads.elements;
    replies = reads.replies;
    requests = λ i from to. subst (λ q. bytes_at g (request_at l i) (length q.request) ≡ q.request) (old i to) (reads.requests i from (omega arith));
    chains = λ i from to. reads.chains i from (omega arith) ∙ ap (chain_of_asked l i) (old i to);
  })

  abbrev Step : Guest → ℕ → ℕ → ℕ → Type 0
  Step g requests chains slots = Keeps region (with_guest g) × Ahead (with_guest g) a requests chains slots

  pub request_stored : Ahead d a n n n → Step (write_at d.guest (request_at l n) a.request) (n + 1) n n
  request_stored reads =
      let more : Ahead (with_guest (write_at d.guest (request_at l n) a.request)) a (n + 1) n n =
      write_request l region asks (reply_in d.replies) (marks_ahead d n n n) d.guest k.apart k.lies reads (fits n n n (omega arith))
      n a.request refl (ap (λ q. q.request) new) ok.bytes order space (omega (arith, put_low region d k, k.behind)) in
      (behind (write_at d.guest (request_at l n) a.request) (n + 1) n n (omega arith) (omega arith) (omega arith) more, more)

  pub chain_stored : Ahead d a (n + 1) n n → Step (write_at d.guest (descriptors_at l n) (chain_bytes l n (length a.request) a.room)) (n + 1) (n + 1) n
  chain_stored reads =
      let more : Ahead (with_guest (write_at d.guest (descriptors_at l n) (chain_bytes l n (length a.request) a.room))) a (n + 1) (n + 1) n =
      write_chain l region asks (reply_in d.replies) (marks_ahead d (n + 1) n n) d.guest k.apart k.lies reads (fits (n + 1) n n (omega arith))
      n (chain_bytes l n (length a.request) a.room) refl (ap (chain_of_asked l n) new) order space in
      (behind (write_at d.guest (descriptors_at l n) (chain_bytes l n (length a.request) a.room)) (n + 1) (n + 1) n (omega arith) (omega arith) (omega arith) more, more)

  pub slot_stored : Ahead d a (n + 1) (n + 1) n → Step (write_at d.guest (avail_slot_at l n) (to_le_bytes w16 (head_of l n))) (n + 1) (n + 1) (n + 1)
  slot_stored reads =
      let more : Ahead (with_guest (write_at d.guest (avail_slot_at l n) (to_le_bytes w16 (head_of l n)))) a (n + 1) (n + 1) (n + 1) =
      write_slot l region asks (reply_in d.replies) (marks_ahead d (n + 1) (n + 1) n) d.guest k.apart k.lies reads (fits (n + 1) (n + 1) n (omega arith)) n refl order space in
      (behind (write_at d.guest (avail_slot_at l n) (to_le_bytes w16 (head_of l n))) (n + 1) (n + 1) (n + 1) (omega arith) (omega arith) (omega arith) more, more)

  -- with the index the request is submitted
  pub index_submits : Ahead d a (n + 1) (n + 1) (n + 1) → write_at d.guest (avail_index_at l) (to_le_bytes w16 (index_of (n + 1))) ≡ submit_guest l d.guest n a.request a.room
  unfolding submit_guest
  index_submits reads =
      let own : length d.taken ≤ n = k.behind in
      let last : n < n + 1 = omega arith in
      let long : length (chain_bytes l n (length a.request) a.room) ≡ 32 = length-chain_bytes l n (length a.request) a.room in
      let request : write_at d.guest (request_at l n) a.request ≡ d.guest =
      write_again d.guest (request_at l n) a.request (subst (λ q. bytes_at d.guest (request_at l n) (length q.request) ≡ q.request) new (reads.requests n own last)) in
      let chain : write_at d.guest (descriptors_at l n) (chain_bytes l n (length a.request) a.room) ≡ d.guest =
      write_again d.guest (descriptors_at l n) (chain_bytes l n (length a.request) a.room)
      (ap (bytes_at d.guest (descriptors_at l n)) long ∙ reads.chains n own last ∙ ap (chain_of_asked l n) new) in
      let slot : write_at d.guest (avail_slot_at l n) (to_le_bytes w16 (head_of l n)) ≡ d.guest =
      write_again d.guest (avail_slot_at l n) (to_le_bytes w16 (head_of l n)) (reads.slots n own last) in
      ap (λ g. write_at g (avail_index_at l) (to_le_bytes w16 (index_of (n + 1))))
      (sym (ap (λ g. write_at (write_at g (descriptors_at l n) (chain_bytes l n (length a.request) a.room)) (avail_slot_at l n) (to_le_bytes w16 (head_of l n))) request
      ∙ ap (λ g. write_at g (avail_slot_at l n) (to_le_bytes w16 (head_of l n))) chain
      ∙ slot))

  -- a take leaves what is ahead
  pub ahead_taken : (q : Ring) (c : Chain) (x : Asked) (requests chains slots : ℕ) → Ahead d a requests chains slots →
      Ahead (record d { ring = q; taken = d.taken ++ x ∷ []; held = Some c }) a requests chains slots
  ahead_taken q c x requests chains slots reads =
      let more : length (d.taken ++ x ∷ []) ≡ length d.taken + 1 = length_push d.taken x in
      record {
        flat = reads.flat;
        index = reads.index;
        used = reads.used;
        elements = reads.elements;
        replies = reads.replies;
        requests = λ i from to. reads.requests i (omega (arith, more)) to;
        chains = λ i from to. reads.chains i (omega (arith, more)) to;
        slots = λ i from to. reads.slots i (omega (arith, more)) to;
      }

  -- a put leaves it too
  module _ (c : Chain) (bs : List ℕ) (held : d.held ≡ Some c) (fit : length bs ≤ c.room) where
    abbrev p : ℕ
    p = length d.replies

    abbrev replies : ℕ → List ℕ
    replies = reply_in (d.replies ++ bs ∷ [])

    is_held : HeldIs l p (ask_in d.asked p) (Some c)
    is_held = subst (HeldIs l p (ask_in d.asked p)) held k.holding

    count : length d.taken ≡ p + 1
    count = k.held ∙ ap (λ h. taken_by h p) held

    room : length bs ≤ (ask_in d.asked p).room
    room = (let same : c.room ≡ (ask_in d.asked p).room = is_held.2 in omega arith)

    below : p < n
    below = omega (arith, count, k.behind)

    slot_room : length bs ≤ l.slot
    slot_room = omega (arith, room, (k.small p below).space)

    full : p < d.driver.collected + half_of l
    full = omega (arith, below, k.near)

    old_reply : (i : ℕ) → i < p → replies i ≡ reply_in d.replies i
    old_reply i h = reply_old d.replies bs i h

    new_reply : replies p ≡ bs
    new_reply = reply_new d.replies bs

    short : (i : ℕ) → d.driver.collected ≤ i → i < p + 1 → length (replies i) ≤ l.slot
    short i from to = elim (last_or i p to) [
      | inl older ↦
          let its : IsSmall l (ask_in d.asked i) = k.small i (omega (arith, below)) in
          omega (arith, ap length (old_reply i older), k.short i from older, its.space)
      | inr same ↦ subst (λ j. length (replies j) ≤ l.slot) (sym same) (subst (λ x. length x ≤ l.slot) (sym new_reply) slot_room)
    ]

    fits_put : (m : Marks) → m.requests ≤ n + 1 → m.collected ≡ d.driver.collected → m.replies ≤ p + 1 → Fits l asks replies m
    fits_put m few same most = record {
      requests = λ i from to. (small i (omega arith)).bytes;
      replies = λ i from to. short i (omega (arith, same)) (omega arith);
    }

    put_is : put_guest d.guest d.ring c bs
        ≡ write_at (write_at (write_at d.guest (reply_at l p) bs) (used_element_at l p) (element_bytes (head_of l p) (length bs))) (used_index_at l) (to_le_bytes w16 (index_of (p + 1)))
    unfolding put_guest fill use_entry
    put_is =
        let element : ring_element_at d.ring ≡ used_element_at l p = ap₂ (λ x i. x.used + (4 + 8 * i)) (at_is d.ring l k.addresses) (slot_number l p d.ring.next_used d.ring.size k.apart k.next_used k.size) in
        let index : ring_used_at d.ring ≡ used_index_at l = ap (λ x. x.used + 2) (at_is d.ring l k.addresses) in
        let word : after d.ring.next_used ≡ index_of (p + 1) = ap after k.next_used ∙ next_index p in
        let reply : fill d.guest c.segments bs ≡ write_at d.guest (reply_at l p) bs =
        ap (λ ss. fill d.guest ss bs) is_held.1 ∙ ap (λ x. write_at d.guest (reply_at l p) x) (take_all (ask_in d.asked p).room bs room) in
        ap₂ (λ x i. write_at (write_at (fill d.guest c.segments bs) (ring_element_at d.ring) (element_bytes c.head (length bs))) x (to_le_bytes w16 i)) index word
        ∙ ap₂ (λ x i. write_at (write_at (fill d.guest c.segments bs) x (element_bytes i (length bs))) (used_index_at l) (to_le_bytes w16 (index_of (p + 1)))) element is_held.0
        ∙ ap (λ g. write_at (write_at g (used_element_at l p) (element_bytes (head_of l p) (length bs))) (used_index_at l) (to_le_bytes w16 (index_of (p + 1)))) reply

    pub ahead_put : (requests chains slots : ℕ) → requests ≤ n + 1 → Ahead d a requests chains slots →
        Ahead (record d { guest = put_guest d.guest d.ring c bs; ring = ring_told (ring_used d.ring); held = None; replies = d.replies ++ bs ∷ [] }) a requests chains slots
    ahead_put requests chains slots few reads =
        let more : p + 1 ≡ length (d.replies ++ bs ∷ []) = sym (length_push d.replies bs) in
        let m : Marks = marks_ahead d requests chains slots in
        let m1 : Marks = record (marks_ahead d requests chains slots) { replies = p + 1 } in
        let m2 : Marks = record (marks_ahead d requests chains slots) { replies = p + 1; elements = p + 1 } in
        let first : Reads l region asks replies (marks_ahead d requests chains slots) d.guest = record {
          flat = reads.flat;
          index = reads.index;
          requests = reads.requests;
          chains = reads.chains;
          slots = reads.slots;
          used = reads.used;
          elements = λ i from to. reads.elements i from to ∙ ap (λ x. element_bytes (head_of l i) (length x)) (sym (old_reply i to));
          replies = λ i from to. subst (λ x. bytes_at d.guest (reply_at l i) (length x) ≡ x) (sym (old_reply i to)) (reads.replies i from to);
        } in
        let g1 : Guest = write_at d.guest (reply_at l p) bs in
        let g2 : Guest = write_at (write_at d.guest (reply_at l p) bs) (used_element_at l p) (element_bytes (head_of l p) (length bs)) in
        let second = write_reply l region asks replies m d.guest k.apart k.lies first (fits_put m few refl (omega arith)) p bs refl new_reply slot_room (omega (arith, count)) (omega (arith, few, space)) k.put full in
        let third = write_element l region asks replies m1 g1 k.apart k.lies second (fits_put m1 few refl (omega arith)) p (length bs) refl (ap length new_reply) full in
        let fourth = write_used l region asks replies m2 g2 k.apart k.lies third (fits_put m2 few refl (omega arith)) (p + 1) in
        subst (λ i. Reads l region asks replies (record (marks_ahead d requests chains slots) { replies = i; elements = i; used = i }) (put_guest d.guest d.ring c bs)) more
        (subst (Reads l region asks replies (record (marks_ahead d requests chains slots) { replies = p + 1; elements = p + 1; used = p + 1 })) (sym put_is) fourth)
