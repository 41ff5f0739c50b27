-- A submit keeps what every step keeps, and asks for a signal where the device waits.
use Rattle.std.proofs.Common.{◌≡◌, ℕ, ◌+◌, ◌-◌, ◌^◌, ◌<◌, ◌≤◌, inl, inr, Bool, true, false, true≢false, ◌||◌, cond, List, [], ◌∷◌, ◌++◌, length, get_or, set, Option, Some, None, refl, sym, ap, subst, ◌∙◌, arith, eqb, ltb, get_or-set_same, get_or-set_other, length-set}
use Rattle.std.specs.Int.{w16, to_le_bytes}
use Rattle.std.proofs.lemmas.Bool.{eqb-false, ltb-false, or_parts, lt-ltb}
use Rattle.std.proofs.lemmas.List.{take-append-le, length_push}
use Rattle.vub_mem.specs.declared.region.Region.{Region}
use Rattle.vub_mem.specs.Memory.{Guest}
use Rattle.vub_mem.specs.Place.{bytes_at, number_at}
use Rattle.vub_queue.specs.EntryNumber.{minus}
use Rattle.vub_queue.specs.declared.chain.Chain.{Chain}
use Rattle.vub_driver.specs.Calls.{chain_bytes, index_of, with_request, with_chain, with_slot, submit_guest, submit_fault, needs_signal, state_submitted}
use Rattle.vub_driver.specs.Machine.{Asked, World}
use Rattle.vub_driver.specs.Places.{half_of, place_of, head_of, request_at, descriptors_at, avail_index_at, avail_slot_at, avail_event_at}
use Rattle.vub_driver.specs.State.{State}
use Rattle.vub_driver.specs.declared.error.DriverError.{DriverError}
use Rattle.vub_driver.specs.declared.error.DriverError.TheVariants.{Full, TooLarge}
use Rattle.vub_driver.specs.declared.layout.Layout.{Layout}
use Rattle.vub_driver.proofs.Flat.{IsFlat, flat_write, bytes_beside}
use Rattle.vub_driver.proofs.Fitting.{AreApart, IsApart, place_below}
use Rattle.vub_driver.proofs.Cells.{far, far_back, in_chain, in_slot, in_index, in_event, in_request, places_apart}
use Rattle.vub_driver.proofs.Writes.{Marks, Reads, Fits, chain_of_asked, length-chain_bytes, write_request, write_chain, write_slot, write_index, last_or}
use Rattle.vub_driver.proofs.Kept.{Keeps, HeldIs, IsSmall, ask_in, reply_in, ask_old, ask_new, marks_in, fits_in, put_low, taken_by, index_small, word_is}

-- what an accepted submit has passed
pub record Passes (s : State) (asked : Asked) : Type 0 where
  pub space : s.submitted < s.collected + half_of s.layout
  pub small : IsSmall s.layout asked

none_past : (b : Bool) (e : DriverError) (x : Option DriverError) → cond b (Some e) x ≡ None → (b ≡ false) × (x ≡ None)
none_past false e x h = (refl, h)
none_past true e x h = absurd (let no : ⊥ = cc in no)

some_space : (s c h : ℕ) → s ≤ c + h → (s - c ≡ h → ⊥) → s < c + h
some_space s c h near other = grind arith

pub passes : (s : State) (g : Guest) (asked : Asked) → s.submitted ≤ s.collected + half_of s.layout → submit_fault g.regions s (length asked.request) asked.room ≡ None → Passes s asked
unfolding submit_fault
passes s g asked near is =
    let full = none_past (eqb (s.submitted - s.collected) (half_of s.layout)) Full _ is in
    let large = none_past ((ltb s.layout.slot (length asked.request) || ltb s.layout.slot asked.room) || ltb (2 ^ 32 - 1) (length asked.request + asked.room)) TooLarge _ full.1 in
    let both = or_parts (ltb s.layout.slot (length asked.request) || ltb s.layout.slot asked.room) (ltb (2 ^ 32 - 1) (length asked.request + asked.room)) large.0 in
    let each = or_parts (ltb s.layout.slot (length asked.request)) (ltb s.layout.slot asked.room) both.0 in
    record {
      space = some_space s.submitted s.collected (half_of s.layout) near (eqb-false (s.submitted - s.collected) (half_of s.layout) full.0);
      small = record {
        bytes = ltb-false s.layout.slot (length asked.request) each.0;
        space = ltb-false s.layout.slot asked.room each.1;
        both = (let sum : length asked.request + asked.room ≤ 2 ^ 32 - 1 = ltb-false (2 ^ 32 - 1) (length asked.request + asked.room) both.1 in omega arith);
      };
    }

abbrev with_asked : World → Asked → World
with_asked w a = record w {
  driver = state_submitted w.driver a.room;
  guest = submit_guest w.driver.layout w.guest w.driver.submitted a.request a.room;
  asked = w.asked ++ a ∷ [];
  waits = false;
}

module _ (r : Region) (w : World) (a : Asked) (k : Keeps r w) (ok : Passes w.driver a) where
  old : (n : ℕ) → n < w.driver.submitted → ask_in (w.asked ++ a ∷ []) n ≡ ask_in w.asked n
  old n h = ask_old w.asked a n (omega (arith, k.asked))

  new : ask_in (w.asked ++ a ∷ []) w.driver.submitted ≡ a
  new = ask_new w.asked a w.driver.submitted k.asked

  small : (n : ℕ) → n < w.driver.submitted + 1 → IsSmall w.driver.layout (ask_in (w.asked ++ a ∷ []) n)
  small n h = elim (last_or n w.driver.submitted h) [
    | inl older ↦ subst (IsSmall w.driver.layout) (sym (old n older)) (k.small n older)
    | inr same ↦ subst (λ i. IsSmall w.driver.layout (ask_in (w.asked ++ a ∷ []) i)) (sym same) (subst (IsSmall w.driver.layout) (sym new) ok.small)
  ]

  fits : (m : Marks) → m.requests ≤ w.driver.submitted + 1 → m.collected ≡ w.driver.collected → m.replies ≡ length w.replies → Fits w.driver.layout (ask_in (w.asked ++ a ∷ [])) (reply_in w.replies) m
  fits m few same put = record {
    requests = λ n from to. (small n (omega arith)).bytes;
    replies = λ n from to. (fits_in r w k).replies n (omega (arith, same)) (omega (arith, put));
  }

  reads : Reads w.driver.layout r (ask_in (w.asked ++ a ∷ [])) (reply_in w.replies) (marks_in w) w.guest
  reads = record {
    flat = k.reads.flat;
    index = k.reads.index;
    slots = k.reads.slots;
    used = k.reads.used;
    elements = k.reads.elements;
    replies = k.reads.replies;
    requests = λ n from to. subst (λ q. bytes_at w.guest (request_at w.driver.layout n) (length q.request) ≡ q.request) (sym (old n to)) (k.reads.requests n from to);
    chains = λ n from to. k.reads.chains n from to ∙ ap (chain_of_asked w.driver.layout n) (sym (old n to));
  }

  order : w.driver.collected ≤ length w.taken
  order = omega (arith, k.put, put_low r w k)

  after_request : Reads w.driver.layout r (ask_in (w.asked ++ a ∷ [])) (reply_in w.replies) (record (marks_in w) { requests = w.driver.submitted + 1 })
      (with_request w.driver.layout w.guest w.driver.submitted a.request)
  after_request =
      write_request w.driver.layout r (ask_in (w.asked ++ a ∷ [])) (reply_in w.replies) (marks_in w) w.guest k.apart k.lies reads (fits (marks_in w) (omega arith) refl refl)
      w.driver.submitted a.request refl (ap (λ q. q.request) new) ok.small.bytes order ok.space (omega (arith, put_low r w k, k.behind))

  after_chain : Reads w.driver.layout r (ask_in (w.asked ++ a ∷ [])) (reply_in w.replies) (record (marks_in w) { requests = w.driver.submitted + 1; chains = w.driver.submitted + 1 })
      (with_chain w.driver.layout w.guest w.driver.submitted a.request a.room)
  after_chain =
      let m : Marks = record (marks_in w) { requests = w.driver.submitted + 1 } in
      write_chain w.driver.layout r (ask_in (w.asked ++ a ∷ [])) (reply_in w.replies) m (with_request w.driver.layout w.guest w.driver.submitted a.request)
      k.apart k.lies after_request (fits m (omega arith) refl refl)
      w.driver.submitted (chain_bytes w.driver.layout w.driver.submitted (length a.request) a.room) refl (ap (chain_of_asked w.driver.layout w.driver.submitted) new) order ok.space

  after_slot : Reads w.driver.layout r (ask_in (w.asked ++ a ∷ [])) (reply_in w.replies) (record (marks_in w) { requests = w.driver.submitted + 1; chains = w.driver.submitted + 1; slots = w.driver.submitted + 1 })
      (with_slot w.driver.layout w.guest w.driver.submitted a.request a.room)
  after_slot =
      let m : Marks = record (marks_in w) { requests = w.driver.submitted + 1; chains = w.driver.submitted + 1 } in
      write_slot w.driver.layout r (ask_in (w.asked ++ a ∷ [])) (reply_in w.replies) m (with_chain w.driver.layout w.guest w.driver.submitted a.request a.room)
      k.apart k.lies after_chain (fits m (omega arith) refl refl) w.driver.submitted refl order ok.space

  after_index : Reads w.driver.layout r (ask_in (w.asked ++ a ∷ [])) (reply_in w.replies) (marks_in (with_asked w a)) (submit_guest w.driver.layout w.guest w.driver.submitted a.request a.room)
  unfolding submit_guest
  after_index =
      let m : Marks = record (marks_in w) { requests = w.driver.submitted + 1; chains = w.driver.submitted + 1; slots = w.driver.submitted + 1 } in
      write_index w.driver.layout r (ask_in (w.asked ++ a ∷ [])) (reply_in w.replies) m (with_slot w.driver.layout w.guest w.driver.submitted a.request a.room)
      k.apart k.lies after_slot (fits m (omega arith) refl refl) (w.driver.submitted + 1)

  rooms : (n : ℕ) → w.driver.collected ≤ n → n < w.driver.submitted + 1 →
      get_or (set w.driver.rooms (place_of w.driver.layout w.driver.submitted) a.room) (place_of w.driver.layout n) 0 ≡ (ask_in (w.asked ++ a ∷ []) n).room
  rooms n from to = elim (last_or n w.driver.submitted to) [
    | inl older ↦
        get_or-set_other w.driver.rooms (place_of w.driver.layout w.driver.submitted) (place_of w.driver.layout n) a.room 0
        (places_apart w.driver.layout n w.driver.submitted k.apart older (omega (arith, ok.space)))
        ∙ k.rooms n from older ∙ ap (λ q. q.room) (sym (old n older))
    | inr same ↦
        subst (λ i. get_or (set w.driver.rooms (place_of w.driver.layout w.driver.submitted) a.room) (place_of w.driver.layout i) 0 ≡ (ask_in (w.asked ++ a ∷ []) i).room) (sym same)
        (get_or-set_same w.driver.rooms (place_of w.driver.layout w.driver.submitted) a.room 0 (omega (arith, k.long, place_below w.driver.layout w.driver.submitted k.apart.fit))
        ∙ ap (λ q. q.room) (sym new))
  ]

  holding : (held : Option Chain) → length w.taken ≡ taken_by held (length w.replies) → HeldIs w.driver.layout (length w.replies) (ask_in w.asked (length w.replies)) held →
      HeldIs w.driver.layout (length w.replies) (ask_in (w.asked ++ a ∷ []) (length w.replies)) held
  holding None count is = tt
  holding (Some c) count is =
      let below : length w.replies < w.driver.submitted = omega (arith, k.behind) in
      subst (λ q. HeldIs w.driver.layout (length w.replies) q (Some c)) (sym (old (length w.replies) below)) is

  keeps : Keeps r (with_asked w a)
  keeps = record {
    apart = k.apart;
    lies = k.lies;
    event_idx = k.event_idx;
    tested = refl;
    long = length-set w.driver.rooms (place_of w.driver.layout w.driver.submitted) a.room ∙ k.long;
    rooms = rooms;
    asked = length_push w.asked a ∙ ap (λ n. n + 1) k.asked;
    small = small;
    count = k.count;
    first = k.first;
    put = k.put;
    held = k.held;
    taken = k.taken ∙ sym (take-append-le (length w.taken) w.asked (a ∷ []) (omega (arith, k.asked, k.behind)));
    behind = omega (arith, k.behind);
    near = omega (arith, ok.space);
    size = k.size;
    addresses = k.addresses;
    next_avail = k.next_avail;
    next_used = k.next_used;
    reads = after_index;
    short = λ n from to. subst (λ q. length (reply_in w.replies n) ≤ q.room) (sym (old n (omega (arith, put_low r w k, k.behind)))) (k.short n from to);
    holding = holding w.held k.held k.holding;
    event = λ no. absurd (true≢false (sym no));
  }

pub keeps_submitted : (r : Region) (w : World) (a : Asked) → Keeps r w → submit_fault w.guest.regions w.driver (length a.request) a.room ≡ None → Keeps r (with_asked w a)
keeps_submitted r w a k ok = keeps r w a k (passes w.driver w.guest a k.near ok)

-- the four writes leave avail_event
event_stays : (l : Layout) (r : Region) (g : Guest) (n room : ℕ) (request : List ℕ) → IsApart l → IsFlat r g → length request ≤ l.slot →
    bytes_at (submit_guest l g n request room) (avail_event_at l) 2 ≡ bytes_at g (avail_event_at l) 2
unfolding submit_guest
event_stays l r g n room request apart flat short =
    let first = flat_write r g (request_at l n) request flat in
    let second = flat_write r (with_request l g n request) (descriptors_at l n) (chain_bytes l n (length request) room) first in
    let third = flat_write r (with_chain l g n request room) (avail_slot_at l n) (to_le_bytes w16 (head_of l n)) second in
    let long : 32 ≡ length (chain_bytes l n (length request) room) = sym (length-chain_bytes l n (length request) room) in
    bytes_beside r (with_slot l g n request room) (avail_index_at l) (avail_event_at l) 2 (to_le_bytes w16 (index_of (n + 1))) third (far_back apart.avail_used (in_index l) (in_event l))
    ∙ bytes_beside r (with_chain l g n request room) (avail_slot_at l n) (avail_event_at l) 2 (to_le_bytes w16 (head_of l n)) second (far_back apart.avail_used (in_slot l n apart) (in_event l))
    ∙ bytes_beside r (with_request l g n request) (descriptors_at l n) (avail_event_at l) 2 (chain_bytes l n (length request) room) first
    (subst (λ j. AreApart (avail_event_at l) 2 (descriptors_at l n) j) long (far_back apart.desc_used (in_chain l n apart) (in_event l)))
    ∙ bytes_beside r g (request_at l n) (avail_event_at l) 2 request flat (far apart.used_buffers (in_event l) (in_request l n (length request) apart short))

both_true : (b x : Bool) → x ≡ true → cond b x true ≡ true
both_true true x h = h
both_true false x h = refl

one_more : (s : ℕ) → minus (index_of (s + 1)) (index_of s) ≡ 1
one_more s = omega arith

off_true : (b x : Bool) → b ≡ false → cond b x true ≡ true
off_true false x h = refl
off_true true x h = absurd (true≢false h)

-- where the device waits, the next accepted request asks for a signal
pub signalled : (r : Region) (w : World) (a : Asked) → Keeps r w → w.waits ≡ true → submit_fault w.guest.regions w.driver (length a.request) a.room ≡ None →
    needs_signal w.driver (submit_guest w.driver.layout w.guest w.driver.submitted a.request a.room) ≡ true
unfolding needs_signal
signalled r w a k waits ok =
    let g : Guest = submit_guest w.driver.layout w.guest w.driver.submitted a.request a.room in
    let p = passes w.driver w.guest a k.near ok in
    elim (k.event waits) [
      | inl off ↦ off_true w.driver.event_idx _ (k.event_idx ∙ off)
      | inr asked ↦
          let word : number_at w16 (submit_guest w.driver.layout w.guest w.driver.submitted a.request a.room) (avail_event_at w.driver.layout) ≡ index_of w.driver.submitted =
          word_is (submit_guest w.driver.layout w.guest w.driver.submitted a.request a.room) (avail_event_at w.driver.layout) (index_of w.driver.submitted) (index_small w.driver.submitted)
          (event_stays w.driver.layout r w.guest w.driver.submitted a.room a.request k.apart k.reads.flat p.small.bytes ∙ asked) in
          let new : minus (minus (index_of (w.driver.submitted + 1)) (number_at w16 (submit_guest w.driver.layout w.guest w.driver.submitted a.request a.room) (avail_event_at w.driver.layout))) 1 ≡ 0 =
          ap (λ x. minus (minus (index_of (w.driver.submitted + 1)) x) 1) word ∙ ap (λ x. minus x 1) (one_more w.driver.submitted) in
          let old : minus (index_of (w.driver.submitted + 1)) w.driver.tested ≡ 1 = ap (minus (index_of (w.driver.submitted + 1))) k.tested ∙ one_more w.driver.submitted in
          both_true w.driver.event_idx _ (lt-ltb _ _ (omega (arith, new, old)))
    ]
