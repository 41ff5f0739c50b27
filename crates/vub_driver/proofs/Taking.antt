-- A take keeps what every step keeps: an entry that is taken is the next request that was accepted.
use Rattle.std.proofs.Common.{◌≡◌, ◌⊎◌, ℕ, ◌+◌, ◌*◌, ◌%◌, ◌^◌, ◌<◌, ◌≤◌, inl, inr, Bool, true, false, true≢false, not, cond, List, [], ◌∷◌, ◌++◌, length, take, drop, Some, None, refl, sym, ap, ap₂, subst, ◌∙◌, arith, eqb, ltb, bit_and}
use Rattle.std.specs.Int.{w16, w32, w64, to_le_bytes, from_le_bytes}
use Rattle.std.specs.List.{sum_by}
use Rattle.std.proofs.lemmas.Bool.{eqb-true, eqb-false}
use Rattle.std.proofs.lemmas.List.{append-nil, length_push, take_more}
use Rattle.std.proofs.lemmas.Nat.{from_le_bytes-to_le_bytes_2, from_le_bytes-to_le_bytes_4, from_le_bytes-to_le_bytes_8}
use Rattle.vub_mem.specs.declared.region.Region.{Region}
use Rattle.vub_mem.specs.Memory.{Guest}
use Rattle.vub_mem.specs.Place.{bytes_at, covers, number_at, write_at}
use Rattle.vub_queue.specs.Chain.{Links, descriptor_at, has_next, is_writable, read_part, request_of, segments_of, segment_of, room_of}
use Rattle.vub_queue.specs.EntryNumber.{minus, after, index_covers, left_of}
use Rattle.vub_queue.specs.Layout.{Table, table_of, slot_of, at_of, avail_slot_at as ring_slot_at, avail_event_at as ring_event_at}
use Rattle.vub_queue.specs.Ring.{Ring}
use Rattle.vub_queue.specs.Take.{IsEntry, IsEmpty, head_of as next_head, guest_taken}
use Rattle.vub_queue.specs.declared.chain.Chain.{Chain}
use Rattle.vub_queue.specs.declared.damage.Damage.TheVariants.{RingOutside, IndexAhead}
use Rattle.vub_queue.specs.declared.descriptor.Descriptor.{Descriptor}
use Rattle.vub_queue.specs.declared.head.Head.{Head}
use Rattle.vub_queue.specs.declared.head.Head.TheVariants.{Empty, At, Broken}
use Rattle.vub_queue.specs.declared.took.Took.TheVariants as took
use Rattle.vub_queue.proofs.Numbers.{slot_of_number}
use Rattle.vub_driver.specs.Calls.{chain_bytes, index_of}
use Rattle.vub_driver.specs.Machine.{Asked, World}
use Rattle.vub_driver.specs.Places.{half_of, head_of, request_at, reply_at, descriptors_at, avail_index_at, avail_slot_at, avail_event_at}
use Rattle.vub_driver.specs.declared.layout.Layout.{Layout}
use Rattle.vub_driver.proofs.Flat.{Inside, bytes_back, bytes_sub}
use Rattle.vub_driver.proofs.Fitting.{IsApart, place_below}
use Rattle.vub_driver.proofs.Cells.{in_event, in_reply}
use Rattle.vub_driver.proofs.Writes.{Reads, write_event}
use Rattle.vub_driver.proofs.Kept.{Keeps, HeldIs, IsSmall, ask_in, reply_in, marks_in, fits_in, put_low, taken_by, index_small, word_is, same_index, minus_zero, minus_same}

-- what the tests of the next head tell
tests : Bool → Bool → Bool → Bool → ℕ → Head
tests covered ahead none slot n = cond (not covered) (Broken RingOutside) (cond ahead (Broken IndexAhead) (cond none Empty (cond (not slot) (Broken RingOutside) (At n))))

number_in : Head → ℕ
number_in (At n) = n
number_in Empty = 0
number_in (Broken e) = 0

at_from : (covered ahead none slot : Bool) (n h : ℕ) → tests covered ahead none slot n ≡ At h → (none ≡ false) × (n ≡ h)
unfolding tests number_in
at_from false ahead none slot n h is = absurd (let no : ⊥ = cc in no)
at_from true true none slot n h is = absurd (let no : ⊥ = cc in no)
at_from true false true slot n h is = absurd (let no : ⊥ = cc in no)
at_from true false false false n h is = absurd (let no : ⊥ = cc in no)
at_from true false false true n h is = (refl, ap number_in is)

empty_from : (covered ahead none slot : Bool) (n : ℕ) → tests covered ahead none slot n ≡ Empty → none ≡ true
unfolding tests
empty_from false ahead none slot n is = absurd (let no : ⊥ = cc in no)
empty_from true true none slot n is = absurd (let no : ⊥ = cc in no)
empty_from true false true slot n is = refl
empty_from true false false false n is = absurd (let no : ⊥ = cc in no)
empty_from true false false true n is = absurd (let no : ⊥ = cc in no)

head_at : (g : Guest) (q : Ring) (h : ℕ) → next_head g q ≡ At h → (eqb (left_of g q) 0 ≡ false) × (number_at w16 g (ring_slot_at q) ≡ h)
unfolding next_head tests
head_at g q h is = at_from (index_covers g q) (ltb q.size (left_of g q)) (eqb (left_of g q) 0) (covers g.regions (ring_slot_at q) 2) (number_at w16 g (ring_slot_at q)) h is

head_empty : (g : Guest) (q : Ring) → next_head g q ≡ Empty → eqb (left_of g q) 0 ≡ true
unfolding next_head tests
head_empty g q is = empty_from (index_covers g q) (ltb q.size (left_of g q)) (eqb (left_of g q) 0) (covers g.regions (ring_slot_at q) 2) (number_at w16 g (ring_slot_at q)) is

-- where the parts of the ring lie
pub at_is : (q : Ring) (l : Layout) → q.addresses ≡ Some (record { desc = l.desc; avail = l.avail; used = l.used }) → at_of q ≡ record { desc = l.desc; avail = l.avail; used = l.used }
at_is q l is = ap (λ a. at_of (record q { addresses = a })) is

-- a number of 16 bits has the slot that its count has
pub slot_number : (l : Layout) (n i s : ℕ) → IsApart l → i ≡ index_of n → s ≡ l.size → i % s ≡ n % l.size
slot_number l n i s apart index size = ap₂ (λ a b. a % b) index size ∙ slot_of_number n l.size apart.power (omega (arith, apart.fit.small))

pub next_index : (n : ℕ) → after (index_of n) ≡ index_of (n + 1)
next_index n = omega arith

-- a chain of two: the first flag is NEXT, the second WRITE
flags_one : (d : Descriptor) → d.flags ≡ 1 → (has_next d ≡ true) × (is_writable d ≡ false)
flags_one d is = (ap (λ f. not (eqb (bit_and f 1) 0)) is, ap (λ f. not (eqb (bit_and f 2) 0)) is)

flags_two : (d : Descriptor) → d.flags ≡ 2 → (has_next d ≡ false) × (is_writable d ≡ true)
flags_two d is = (ap (λ f. not (eqb (bit_and f 1) 0)) is, ap (λ f. not (eqb (bit_and f 2) 0)) is)

two_links : (g : Guest) (t : Table) (i j : ℕ) (ds : List Descriptor) → (descriptor_at g (slot_of t i)).flags ≡ 1 → (descriptor_at g (slot_of t i)).next ≡ j → (descriptor_at g (slot_of t j)).flags ≡ 2 → Links g t i ds →
    ds ≡ descriptor_at g (slot_of t i) ∷ descriptor_at g (slot_of t j) ∷ []
two_links g t i j [] first next second links = absurd links
two_links g t i j (d ∷ []) first next second links = absurd (true≢false (sym (flags_one (descriptor_at g (slot_of t i)) first).0 ∙ ap has_next (sym links.0.is) ∙ links.1))
two_links g t i j (d ∷ e ∷ []) first next second links =
    let follows : d.next ≡ j = ap (λ x. x.next) links.0.is ∙ next in
    ap₂ (λ x y. x ∷ y ∷ []) links.0.is (links.2.0.is ∙ ap (λ k. descriptor_at g (slot_of t k)) follows)
two_links g t i j (d ∷ e ∷ x ∷ ds) first next second links =
    let follows : d.next ≡ j = ap (λ y. y.next) links.0.is ∙ next in
    absurd (true≢false (sym links.2.1 ∙ ap has_next (links.2.0.is ∙ ap (λ k. descriptor_at g (slot_of t k)) follows) ∙ (flags_two (descriptor_at g (slot_of t j)) second).0))

segments_two : (d e : Descriptor) → d.flags ≡ 1 → e.flags ≡ 2 → segments_of (d ∷ e ∷ []) ≡ segment_of e ∷ []
unfolding segments_of
segments_two d e first second = rw (((flags_one d first).1), ((flags_two e second).1)) refl

room_two : (d e : Descriptor) → d.flags ≡ 1 → e.flags ≡ 2 → room_of (d ∷ e ∷ []) ≡ e.len
unfolding room_of
room_two d e first second = ap (λ ss. sum_by (λ s. s.len) ss) (segments_two d e first second) ∙ omega arith

request_two : (g : Guest) (d e : Descriptor) → d.flags ≡ 1 → e.flags ≡ 2 → request_of g (d ∷ e ∷ []) ≡ bytes_at g d.addr d.len
unfolding request_of read_part
request_two g d e first second = rw (((flags_one d first).1), ((flags_two e second).1)) (append-nil (bytes_at g d.addr d.len))

-- numbers in the 32 bytes of two descriptors
word_at : (g : Guest) (a x : ℕ) (bs : List ℕ) → x + 2 ≤ 32 → bytes_at g a 32 ≡ bs → number_at w16 g (a + x) ≡ from_le_bytes w16 (take 2 (drop x bs))
unfolding number_at
word_at g a x bs fits is = ap (from_le_bytes w16) (bytes_sub g a 32 x 2 fits ∙ ap (λ b. take 2 (drop x b)) is)

len_at : (g : Guest) (a x : ℕ) (bs : List ℕ) → x + 4 ≤ 32 → bytes_at g a 32 ≡ bs → number_at w32 g (a + x) ≡ from_le_bytes w32 (take 4 (drop x bs))
unfolding number_at
len_at g a x bs fits is = ap (from_le_bytes w32) (bytes_sub g a 32 x 4 fits ∙ ap (λ b. take 4 (drop x b)) is)

addr_at : (g : Guest) (a x : ℕ) (bs : List ℕ) → x + 8 ≤ 32 → bytes_at g a 32 ≡ bs → number_at w64 g (a + x) ≡ from_le_bytes w64 (take 8 (drop x bs))
unfolding number_at
addr_at g a x bs fits is = ap (from_le_bytes w64) (bytes_sub g a 32 x 8 fits ∙ ap (λ b. take 8 (drop x b)) is)

-- the two descriptors of a request
record Two (l : Layout) (n size most : ℕ) (d e : Descriptor) : Type 0 where
  first : d.flags ≡ 1
  next : d.next ≡ head_of l n + 1
  addr : d.addr ≡ request_at l n
  len : d.len ≡ size
  second : e.flags ≡ 2
  space : e.addr ≡ reply_at l n
  room : e.len ≡ most

two_at : (g : Guest) (l : Layout) (n size most : ℕ) → IsApart l → reply_at l n < 2 ^ 64 → size < 2 ^ 32 → most < 2 ^ 32 → bytes_at g (descriptors_at l n) 32 ≡ chain_bytes l n size most →
    Two l n size most (descriptor_at g (descriptors_at l n)) (descriptor_at g (descriptors_at l n + 16))
unfolding descriptor_at chain_bytes
two_at g l n size most apart low small few is = record {
  first = word_at g (descriptors_at l n) 12 (chain_bytes l n size most) (omega arith) is;
  next = word_at g (descriptors_at l n) 14 (chain_bytes l n size most) (omega arith) is
      ∙ from_le_bytes-to_le_bytes_2 (head_of l n + 1) (omega (arith, place_below l n apart.fit, apart.fit.small, apart.fit.even));
  addr = (let here : descriptors_at l n ≡ descriptors_at l n + 0 = omega arith in ap (number_at w64 g) here)
      ∙ addr_at g (descriptors_at l n) 0 (chain_bytes l n size most) (omega arith) is ∙ from_le_bytes-to_le_bytes_8 (request_at l n) (omega arith);
  len = len_at g (descriptors_at l n) 8 (chain_bytes l n size most) (omega arith) is ∙ from_le_bytes-to_le_bytes_4 size small;
  second = (let here : descriptors_at l n + 16 + 12 ≡ descriptors_at l n + 28 = omega arith in ap (number_at w16 g) here)
      ∙ word_at g (descriptors_at l n) 28 (chain_bytes l n size most) (omega arith) is;
  space = addr_at g (descriptors_at l n) 16 (chain_bytes l n size most) (omega arith) is ∙ from_le_bytes-to_le_bytes_8 (reply_at l n) low;
  room = (let here : descriptors_at l n + 16 + 8 ≡ descriptors_at l n + 24 = omega arith in ap (number_at w32 g) here)
      ∙ len_at g (descriptors_at l n) 24 (chain_bytes l n size most) (omega arith) is ∙ from_le_bytes-to_le_bytes_4 most few;
}

-- what a chain of these two descriptors is
record IsOf (l : Layout) (n : ℕ) (asked : Asked) (c : Chain) : Type 0 where
  head : c.head ≡ head_of l n
  request : c.request ≡ asked.request
  segments : c.segments ≡ record { addr = reply_at l n; len = asked.room } ∷ []
  room : c.room ≡ asked.room

chain_is : (g : Guest) (l : Layout) (n : ℕ) (asked : Asked) (c : Chain) (d e : Descriptor) → c.head ≡ head_of l n →
    c.request ≡ request_of g (d ∷ e ∷ []) → c.segments ≡ segments_of (d ∷ e ∷ []) → c.room ≡ room_of (d ∷ e ∷ []) →
    Two l n (length asked.request) asked.room d e → bytes_at g (request_at l n) (length asked.request) ≡ asked.request → IsOf l n asked c
chain_is g l n asked c d e head request segments room two bytes = record {
  head = head;
  request = request ∙ request_two g d e two.first two.second ∙ ap₂ (bytes_at g) two.addr two.len ∙ bytes;
  segments = segments ∙ segments_two d e two.first two.second ∙ ap₂ (λ a k. record { addr = a; len = k } ∷ []) two.space two.room;
  room = room ∙ room_two d e two.first two.second ∙ two.room;
}

module _ (r : Region) (w : World) (k : Keeps r w) where
  -- the next slot of the ring
  ring_slot : ring_slot_at w.ring ≡ avail_slot_at w.driver.layout (length w.taken)
  ring_slot =
      ap₂ (λ a n. a.avail + (4 + 2 * n)) (at_is w.ring w.driver.layout k.addresses)
      (slot_number w.driver.layout (length w.taken) w.ring.next_avail w.ring.size k.apart k.next_avail k.size)

  left_is : left_of w.guest w.ring ≡ minus (index_of w.driver.submitted) (index_of (length w.taken))
  left_is =
      ap₂ (λ a n. minus (number_at w16 w.guest (a.avail + 2)) n) (at_is w.ring w.driver.layout k.addresses) k.next_avail
      ∙ ap (λ x. minus x (index_of (length w.taken))) (word_is w.guest (avail_index_at w.driver.layout) (index_of w.driver.submitted) (index_small w.driver.submitted) k.reads.index)

  some_left : eqb (left_of w.guest w.ring) 0 ≡ false → length w.taken < w.driver.submitted
  some_left some =
      let cases : (length w.taken < w.driver.submitted) ⊎ (length w.taken ≡ w.driver.submitted) = (let order : length w.taken ≤ w.driver.submitted = k.behind in grind arith) in
      elim cases [
        | inl below ↦ below
        | inr same ↦ absurd (eqb-false (left_of w.guest w.ring) 0 some
            (left_is ∙ ap (λ n. minus (index_of w.driver.submitted) (index_of n)) same ∙ minus_same (index_of w.driver.submitted) (index_small w.driver.submitted)))
      ]

  none_left : eqb (left_of w.guest w.ring) 0 ≡ true → length w.taken ≡ w.driver.submitted
  none_left none =
      same_index (length w.taken) w.driver.submitted (half_of w.driver.layout) k.behind (omega (arith, k.near, k.put, put_low r w k)) (omega (arith, k.apart.fit.small, k.apart.fit.even))
      (sym (minus_zero (index_of w.driver.submitted) (index_of (length w.taken)) (index_small w.driver.submitted) (index_small (length w.taken)) (sym left_is ∙ eqb-true (left_of w.guest w.ring) 0 none)))

  -- the entry that is taken is the next accepted request
  entry_is : (c : Chain) → IsEntry w.guest w.ring c → (length w.taken < w.driver.submitted) × IsOf w.driver.layout (length w.taken) (ask_in w.asked (length w.taken)) c
  entry_is c entry =
      let at = head_at w.guest w.ring c.head entry.1 in
      let below : length w.taken < w.driver.submitted = some_left at.0 in
      let own : length w.taken ≤ length w.taken = omega arith in
      let head : c.head ≡ head_of w.driver.layout (length w.taken) =
      sym at.1 ∙ ap (number_at w16 w.guest) ring_slot
      ∙ word_is w.guest (avail_slot_at w.driver.layout (length w.taken)) (head_of w.driver.layout (length w.taken))
      (omega (arith, place_below w.driver.layout (length w.taken) k.apart.fit, k.apart.fit.small, k.apart.fit.even)) (k.reads.slots (length w.taken) own below) in
      let small : IsSmall w.driver.layout (ask_in w.asked (length w.taken)) = k.small (length w.taken) below in
      let space = in_reply w.driver.layout (length w.taken) 0 k.apart (omega arith) in
      let two = two_at w.guest w.driver.layout (length w.taken) (length (ask_in w.asked (length w.taken)).request) (ask_in w.asked (length w.taken)).room k.apart
      (omega (arith, space.high, k.apart.fit.buffers)) (omega (arith, small.both)) (omega (arith, small.both)) (k.reads.chains (length w.taken) own below) in
      let base : (table_of w.ring).base ≡ w.driver.layout.desc = ap (λ a. a.desc) (at_is w.ring w.driver.layout k.addresses) in
      let one : slot_of (table_of w.ring) c.head ≡ descriptors_at w.driver.layout (length w.taken) = ap₂ (λ b n. b + 16 * n) base head in
      let other : slot_of (table_of w.ring) (head_of w.driver.layout (length w.taken) + 1) ≡ descriptors_at w.driver.layout (length w.taken) + 16 =
      ap (λ b. b + 16 * (head_of w.driver.layout (length w.taken) + 1)) base ∙ omega arith in
      let list : entry.0 ≡ descriptor_at w.guest (descriptors_at w.driver.layout (length w.taken)) ∷ descriptor_at w.guest (descriptors_at w.driver.layout (length w.taken) + 16) ∷ [] =
      two_links w.guest (table_of w.ring) c.head (head_of w.driver.layout (length w.taken) + 1) entry.0
      (ap (λ a. (descriptor_at w.guest a).flags) one ∙ two.first) (ap (λ a. (descriptor_at w.guest a).next) one ∙ two.next) (ap (λ a. (descriptor_at w.guest a).flags) other ∙ two.second) entry.2.links
      ∙ ap₂ (λ a b. descriptor_at w.guest a ∷ descriptor_at w.guest b ∷ []) one other in (
        below,
        chain_is w.guest w.driver.layout (length w.taken) (ask_in w.asked (length w.taken)) c _ _ head
            (ap (λ x. x.request) entry.3 ∙ ap (request_of w.guest) list) (ap (λ x. x.segments) entry.3 ∙ ap segments_of list) (ap (λ x. x.room) entry.3 ∙ ap room_of list)
            two (k.reads.requests (length w.taken) own below),
      )

  pub keeps_entry : (c : Chain) → w.held ≡ None → IsEntry w.guest w.ring c →
      Keeps r (record w { ring = record w.ring { next_avail = after w.ring.next_avail }; taken = w.taken ++ record { request = c.request; room = c.room } ∷ []; held = Some c })
  keeps_entry c free entry =
      let is = entry_is c entry in
      let more : length (w.taken ++ record { request = c.request; room = c.room } ∷ []) ≡ length w.taken + 1 = length_push w.taken (record { request = c.request; room = c.room }) in
      let same : length w.taken ≡ length w.replies = k.held ∙ ap (λ h. taken_by h (length w.replies)) free in
      let here : length w.taken < length w.asked = omega (arith, is.0, k.asked) in
      record {
        apart = k.apart;
        lies = k.lies;
        event_idx = k.event_idx;
        tested = k.tested;
        long = k.long;
        rooms = k.rooms;
        asked = k.asked;
        small = k.small;
        count = k.count;
        first = k.first;
        put = k.put;
        held = more ∙ ap (λ n. n + 1) same;
        taken =
            ap₂ (λ ts a. ts ++ a ∷ []) k.taken (ap₂ (λ q n. record { request = q; room = n }) is.1.request is.1.room)
            ∙ sym (take_more w.asked (length w.taken) (record { request = []; room = 0 }) here) ∙ ap (λ n. take n w.asked) (sym more);
        behind = omega (arith, more, is.0);
        near = k.near;
        size = k.size;
        addresses = k.addresses;
        next_avail = ap after k.next_avail ∙ next_index (length w.taken) ∙ ap index_of (sym more);
        next_used = k.next_used;
        reads = record {
          flat = k.reads.flat;
          index = k.reads.index;
          used = k.reads.used;
          elements = k.reads.elements;
          replies = k.reads.replies;
          requests = λ n from to. k.reads.requests n (omega (arith, more)) to;
          chains = λ n from to. k.reads.chains n (omega (arith, more)) to;
          slots = λ n from to. k.reads.slots n (omega (arith, more)) to;
        };
        short = k.short;
        holding = subst (λ n. HeldIs w.driver.layout n (ask_in w.asked n) (Some c)) same (is.1.head, is.1.segments, is.1.room);
        event = k.event;
      }

  event_at : ring_event_at w.ring ≡ avail_event_at w.driver.layout
  event_at = ap₂ (λ a n. a.used + (4 + 8 * n)) (at_is w.ring w.driver.layout k.addresses) k.size

  reads_event : (word : ℕ) → Reads w.driver.layout r (ask_in w.asked) (reply_in w.replies) (marks_in w) (write_at w.guest (avail_event_at w.driver.layout) (to_le_bytes w16 word))
  reads_event word = write_event w.driver.layout r (ask_in w.asked) (reply_in w.replies) (marks_in w) w.guest k.apart k.lies k.reads (fits_in r w k) word

  event_inside : Inside r (avail_event_at w.driver.layout) 2
  event_inside =
      let cell = in_event w.driver.layout in
      (omega (arith, k.lies.used.0, cell.low), omega (arith, k.lies.used.1, cell.high))

  nothing_when : (b : Bool) → w.ring.event_idx ≡ b → w.held ≡ None → IsEmpty w.guest w.ring →
      Keeps r (record w { guest = cond b (write_at w.guest (ring_event_at w.ring) (to_le_bytes w16 w.ring.next_avail)) w.guest; held = None; waits = true })
  nothing_when false off free empty = record {
    apart = k.apart;
    lies = k.lies;
    event_idx = k.event_idx;
    tested = k.tested;
    long = k.long;
    rooms = k.rooms;
    asked = k.asked;
    small = k.small;
    count = k.count;
    first = k.first;
    put = k.put;
    held = k.held ∙ ap (λ h. taken_by h (length w.replies)) free;
    taken = k.taken;
    behind = k.behind;
    near = k.near;
    size = k.size;
    addresses = k.addresses;
    next_avail = k.next_avail;
    next_used = k.next_used;
    reads = k.reads;
    short = k.short;
    holding = tt;
    event = λ waits. inl off;
  }
  nothing_when true on free empty =
      let same : length w.taken ≡ w.driver.submitted = none_left (head_empty w.guest w.ring empty) in
      let word : w.ring.next_avail ≡ index_of w.driver.submitted = k.next_avail ∙ ap index_of same in
      subst (λ a. Keeps r (record w { guest = write_at w.guest a (to_le_bytes w16 w.ring.next_avail); held = None; waits = true })) (sym event_at) (record {
        apart = k.apart;
        lies = k.lies;
        event_idx = k.event_idx;
        tested = k.tested;
        long = k.long;
        rooms = k.rooms;
        asked = k.asked;
        small = k.small;
        count = k.count;
        first = k.first;
        put = k.put;
        held = k.held ∙ ap (λ h. taken_by h (length w.replies)) free;
        taken = k.taken;
        behind = k.behind;
        near = k.near;
        size = k.size;
        addresses = k.addresses;
        next_avail = k.next_avail;
        next_used = k.next_used;
        reads = reads_event w.ring.next_avail;
        short = k.short;
        holding = tt;
        event = λ waits. inr (bytes_back r w.guest (avail_event_at w.driver.layout) (to_le_bytes w16 w.ring.next_avail) k.reads.flat event_inside ∙ ap (to_le_bytes w16) word);
      })

  pub keeps_nothing : w.held ≡ None → IsEmpty w.guest w.ring → Keeps r (record w { guest = guest_taken w.guest w.ring took.None; held = None; waits = true })
  keeps_nothing free empty = nothing_when w.ring.event_idx refl free empty

  pub keeps_damaged : w.held ≡ None → Keeps r (record w { held = None })
  keeps_damaged free = subst (λ h. Keeps r (record w { held = h })) free k
