-- What is read of a ring, and what each of the eight writes of driver and device leaves of it.
use Rattle.std.proofs.Common.{◌≡◌, ◌⊎◌, ℕ, ◌+◌, ◌*◌, ◌<◌, ◌≤◌, inl, inr, List, ◌++◌, length, refl, sym, ap, subst, ◌∙◌, arith}
use Rattle.std.specs.Int.{w16, w32, to_le_bytes}
use Rattle.vub_mem.specs.declared.region.Region.{Region}
use Rattle.vub_mem.specs.Memory.{Guest}
use Rattle.vub_mem.specs.Place.{bytes_at, write_at}
use Rattle.vub_driver.specs.Calls.{chain_bytes, index_of}
use Rattle.vub_driver.specs.Machine.{Asked}
use Rattle.vub_driver.specs.Places.{half_of, head_of, request_at, reply_at, descriptors_at, avail_index_at, avail_slot_at, used_index_at, used_element_at, avail_event_at}
use Rattle.vub_driver.specs.declared.layout.Layout.{Layout}
use Rattle.vub_driver.proofs.Flat.{IsFlat, Inside, flat_write, bytes_beside, bytes_back}
use Rattle.vub_driver.proofs.Fitting.{AreApart, IsApart}
use Rattle.vub_driver.proofs.Cells.{In, far, far_back, turned, in_chain, in_slot, in_index, in_used, in_element, in_event, in_request, in_reply, places_apart, slots_apart, request_request, reply_request, reply_reply, chain_chain, slot_slot, slot_index, element_element, element_used, event_used, element_event}

abbrev pub element_bytes : ℕ → ℕ → List ℕ
element_bytes head len = to_le_bytes w32 head ++ to_le_bytes w32 len

pub length-chain_bytes : (l : Layout) (n len room : ℕ) → length (chain_bytes l n len room) ≡ 32
unfolding chain_bytes
length-chain_bytes l n len room = refl

-- the areas lie in the region
pub record Lies (r : Region) (l : Layout) : Type 0 where
  pub desc : Inside r l.desc (16 * l.size)
  pub avail : Inside r l.avail (6 + 2 * l.size)
  pub used : Inside r l.used (6 + 8 * l.size)
  pub buffers : Inside r l.buffers (l.slot * l.size)

-- How far the memory is: the available index; requests, chains and slots from the next entry to take on; the used index;
-- elements and replies from the next one to collect on.
pub record Marks : Type 0 where
  pub index : ℕ
  pub requests : ℕ
  pub chains : ℕ
  pub slots : ℕ
  pub taken : ℕ
  pub used : ℕ
  pub elements : ℕ
  pub replies : ℕ
  pub collected : ℕ

-- the chain of what is asked
abbrev pub chain_of_asked : Layout → ℕ → Asked → List ℕ
chain_of_asked l n asked = chain_bytes l n (length asked.request) asked.room

pub record Reads (l : Layout) (r : Region) (ask : ℕ → Asked) (reply : ℕ → List ℕ) (m : Marks) (g : Guest) : Type 0 where
  pub flat : IsFlat r g
  pub index : bytes_at g (avail_index_at l) 2 ≡ to_le_bytes w16 (index_of m.index)
  pub requests : (n : ℕ) → m.taken ≤ n → n < m.requests → bytes_at g (request_at l n) (length (ask n).request) ≡ (ask n).request
  pub chains : (n : ℕ) → m.taken ≤ n → n < m.chains → bytes_at g (descriptors_at l n) 32 ≡ chain_of_asked l n (ask n)
  pub slots : (n : ℕ) → m.taken ≤ n → n < m.slots → bytes_at g (avail_slot_at l n) 2 ≡ to_le_bytes w16 (head_of l n)
  pub used : bytes_at g (used_index_at l) 2 ≡ to_le_bytes w16 (index_of m.used)
  pub elements : (n : ℕ) → m.collected ≤ n → n < m.elements → bytes_at g (used_element_at l n) 8 ≡ element_bytes (head_of l n) (length (reply n))
  pub replies : (n : ℕ) → m.collected ≤ n → n < m.replies → bytes_at g (reply_at l n) (length (reply n)) ≡ reply n

-- each request from the next entry on, and each reply from the next one to collect on, fits its buffer
pub record Fits (l : Layout) (ask : ℕ → Asked) (reply : ℕ → List ℕ) (m : Marks) : Type 0 where
  pub requests : (n : ℕ) → m.taken ≤ n → n < m.requests → length (ask n).request ≤ l.slot
  pub replies : (n : ℕ) → m.collected ≤ n → n < m.replies → length (reply n) ≤ l.slot

pub inside : (r : Region) {x k a n : ℕ} → Inside r a n → In x k a n → Inside r x k
inside r area cell = (omega (arith, area.0, cell.low), omega (arith, area.1, cell.high))

pub last_or : (n m : ℕ) → n < m + 1 → (n < m) ⊎ (n ≡ m)
last_or n m h = grind arith

module _ (l : Layout) (r : Region) (ask : ℕ → Asked) (reply : ℕ → List ℕ) (m : Marks) (g : Guest) (apart : IsApart l) (lies : Lies r l) (reads : Reads l r ask reply m g) (fits : Fits l ask reply m) where
  -- what is read beside a write stays
  stays : (a : ℕ) (bs : List ℕ) (x n : ℕ) (cs : List ℕ) → AreApart x n a (length bs) → bytes_at g x n ≡ cs → bytes_at (write_at g a bs) x n ≡ cs
  stays a bs x n cs off is = bytes_beside r g a x n bs reads.flat off ∙ is

  pub write_request : (n : ℕ) (bs : List ℕ) → n ≡ m.requests → (ask n).request ≡ bs → length bs ≤ l.slot → m.collected ≤ m.taken → n < m.collected + half_of l → m.replies ≤ n →
      Reads l r ask reply (record m { requests = n + 1 }) (write_at g (request_at l n) bs)
  write_request n bs next is short order full put =
      let cell = in_request l n (length bs) apart short in
      record {
        flat = flat_write r g (request_at l n) bs reads.flat;
        index = stays (request_at l n) bs (avail_index_at l) 2 _ (far apart.avail_buffers (in_index l) cell) reads.index;
        requests = λ i from to. elim (last_or i n to) [
          | inl older ↦
              let below : i < m.requests = omega arith in
              stays (request_at l n) bs (request_at l i) (length (ask i).request) (ask i).request
              (request_request l i n (length (ask i).request) (length bs) (places_apart l i n apart older (omega arith)) (fits.requests i from below) short)
              (reads.requests i from below)
          | inr same ↦ subst (λ j. bytes_at (write_at g (request_at l n) bs) (request_at l j) (length (ask j).request) ≡ (ask j).request) (sym same)
              (subst (λ q. bytes_at (write_at g (request_at l n) bs) (request_at l n) (length q) ≡ q) (sym is) (bytes_back r g (request_at l n) bs reads.flat (inside r lies.buffers cell)))
        ];
        chains = λ i from to. stays (request_at l n) bs (descriptors_at l i) 32 _ (far apart.desc_buffers (in_chain l i apart) cell) (reads.chains i from to);
        slots = λ i from to. stays (request_at l n) bs (avail_slot_at l i) 2 _ (far apart.avail_buffers (in_slot l i apart) cell) (reads.slots i from to);
        used = stays (request_at l n) bs (used_index_at l) 2 _ (far apart.used_buffers (in_used l) cell) reads.used;
        elements = λ i from to. stays (request_at l n) bs (used_element_at l i) 8 _ (far apart.used_buffers (in_element l i apart) cell) (reads.elements i from to);
        replies = λ i from to. stays (request_at l n) bs (reply_at l i) (length (reply i)) (reply i)
            (reply_request l i n (length (reply i)) (length bs) (places_apart l i n apart (omega arith) (omega arith)) (fits.replies i from to) short) (reads.replies i from to);
      }

  pub write_chain : (n : ℕ) (bs : List ℕ) → n ≡ m.chains → chain_of_asked l n (ask n) ≡ bs → m.collected ≤ m.taken → n < m.collected + half_of l →
      Reads l r ask reply (record m { chains = n + 1 }) (write_at g (descriptors_at l n) bs)
  write_chain n bs next is order full =
      let long : length bs ≡ 32 = ap length (sym is) ∙ length-chain_bytes l n (length (ask n).request) (ask n).room in
      let cell : In (descriptors_at l n) (length bs) l.desc (16 * l.size) = subst (λ k. In (descriptors_at l n) k l.desc (16 * l.size)) (sym long) (in_chain l n apart) in
      record {
        flat = flat_write r g (descriptors_at l n) bs reads.flat;
        index = stays (descriptors_at l n) bs (avail_index_at l) 2 _ (far_back apart.desc_avail cell (in_index l)) reads.index;
        requests = λ i from to. stays (descriptors_at l n) bs (request_at l i) (length (ask i).request) (ask i).request
            (far_back apart.desc_buffers cell (in_request l i (length (ask i).request) apart (fits.requests i from to))) (reads.requests i from to);
        chains = λ i from to. elim (last_or i n to) [
          | inl older ↦
              let below : i < m.chains = omega arith in
              stays (descriptors_at l n) bs (descriptors_at l i) 32 _
              (subst (λ k. AreApart (descriptors_at l i) 32 (descriptors_at l n) k) (sym long) (chain_chain l i n (places_apart l i n apart older (omega arith)))) (reads.chains i from below)
          | inr same ↦ subst (λ j. bytes_at (write_at g (descriptors_at l n) bs) (descriptors_at l j) 32 ≡ chain_of_asked l j (ask j)) (sym same)
              (ap (bytes_at (write_at g (descriptors_at l n) bs) (descriptors_at l n)) (sym long) ∙ bytes_back r g (descriptors_at l n) bs reads.flat (inside r lies.desc cell) ∙ sym is)
        ];
        slots = λ i from to. stays (descriptors_at l n) bs (avail_slot_at l i) 2 _ (far_back apart.desc_avail cell (in_slot l i apart)) (reads.slots i from to);
        used = stays (descriptors_at l n) bs (used_index_at l) 2 _ (far_back apart.desc_used cell (in_used l)) reads.used;
        elements = λ i from to. stays (descriptors_at l n) bs (used_element_at l i) 8 _ (far_back apart.desc_used cell (in_element l i apart)) (reads.elements i from to);
        replies = λ i from to. stays (descriptors_at l n) bs (reply_at l i) (length (reply i)) (reply i)
            (far_back apart.desc_buffers cell (in_reply l i (length (reply i)) apart (fits.replies i from to))) (reads.replies i from to);
      }

  pub write_slot : (n : ℕ) → n ≡ m.slots → m.collected ≤ m.taken → n < m.collected + half_of l →
      Reads l r ask reply (record m { slots = n + 1 }) (write_at g (avail_slot_at l n) (to_le_bytes w16 (head_of l n)))
  write_slot n next order full =
      let bs : List ℕ = to_le_bytes w16 (head_of l n) in
      let cell = in_slot l n apart in
      record {
        flat = flat_write r g (avail_slot_at l n) bs reads.flat;
        index = stays (avail_slot_at l n) bs (avail_index_at l) 2 _ (turned (avail_slot_at l n) 2 (avail_index_at l) 2 (slot_index l n)) reads.index;
        requests = λ i from to. stays (avail_slot_at l n) bs (request_at l i) (length (ask i).request) (ask i).request
            (far_back apart.avail_buffers cell (in_request l i (length (ask i).request) apart (fits.requests i from to))) (reads.requests i from to);
        chains = λ i from to. stays (avail_slot_at l n) bs (descriptors_at l i) 32 _ (far apart.desc_avail (in_chain l i apart) cell) (reads.chains i from to);
        slots = λ i from to. elim (last_or i n to) [
          | inl older ↦
              let below : i < m.slots = omega arith in
              stays (avail_slot_at l n) bs (avail_slot_at l i) 2 _ (slot_slot l i n (slots_apart l i n apart older (omega arith))) (reads.slots i from below)
          | inr same ↦ subst (λ j. bytes_at (write_at g (avail_slot_at l n) bs) (avail_slot_at l j) 2 ≡ to_le_bytes w16 (head_of l j)) (sym same)
              (bytes_back r g (avail_slot_at l n) bs reads.flat (inside r lies.avail cell))
        ];
        used = stays (avail_slot_at l n) bs (used_index_at l) 2 _ (far_back apart.avail_used cell (in_used l)) reads.used;
        elements = λ i from to. stays (avail_slot_at l n) bs (used_element_at l i) 8 _ (far_back apart.avail_used cell (in_element l i apart)) (reads.elements i from to);
        replies = λ i from to. stays (avail_slot_at l n) bs (reply_at l i) (length (reply i)) (reply i)
            (far_back apart.avail_buffers cell (in_reply l i (length (reply i)) apart (fits.replies i from to))) (reads.replies i from to);
      }

  pub write_index : (n : ℕ) → Reads l r ask reply (record m { index = n }) (write_at g (avail_index_at l) (to_le_bytes w16 (index_of n)))
  write_index n =
      let bs : List ℕ = to_le_bytes w16 (index_of n) in
      let cell = in_index l in
      record {
        flat = flat_write r g (avail_index_at l) bs reads.flat;
        index = bytes_back r g (avail_index_at l) bs reads.flat (inside r lies.avail cell);
        requests = λ i from to. stays (avail_index_at l) bs (request_at l i) (length (ask i).request) (ask i).request
            (far_back apart.avail_buffers cell (in_request l i (length (ask i).request) apart (fits.requests i from to))) (reads.requests i from to);
        chains = λ i from to. stays (avail_index_at l) bs (descriptors_at l i) 32 _ (far apart.desc_avail (in_chain l i apart) cell) (reads.chains i from to);
        slots = λ i from to. stays (avail_index_at l) bs (avail_slot_at l i) 2 _ (slot_index l i) (reads.slots i from to);
        used = stays (avail_index_at l) bs (used_index_at l) 2 _ (far_back apart.avail_used cell (in_used l)) reads.used;
        elements = λ i from to. stays (avail_index_at l) bs (used_element_at l i) 8 _ (far_back apart.avail_used cell (in_element l i apart)) (reads.elements i from to);
        replies = λ i from to. stays (avail_index_at l) bs (reply_at l i) (length (reply i)) (reply i)
            (far_back apart.avail_buffers cell (in_reply l i (length (reply i)) apart (fits.replies i from to))) (reads.replies i from to);
      }

  pub write_reply : (n : ℕ) (bs : List ℕ) → n ≡ m.replies → reply n ≡ bs → length bs ≤ l.slot → n < m.taken → m.requests ≤ m.collected + half_of l → m.collected ≤ n → n < m.collected + half_of l →
      Reads l r ask reply (record m { replies = n + 1 }) (write_at g (reply_at l n) bs)
  write_reply n bs next is short held near put full =
      let cell = in_reply l n (length bs) apart short in
      record {
        flat = flat_write r g (reply_at l n) bs reads.flat;
        index = stays (reply_at l n) bs (avail_index_at l) 2 _ (far apart.avail_buffers (in_index l) cell) reads.index;
        requests = λ i from to. stays (reply_at l n) bs (request_at l i) (length (ask i).request) (ask i).request
            (turned (reply_at l n) (length bs) (request_at l i) (length (ask i).request) (reply_request l n i (length bs) (length (ask i).request) (places_apart l n i apart (omega arith) (omega arith)) short (fits.requests i from to))) (reads.requests i from to);
        chains = λ i from to. stays (reply_at l n) bs (descriptors_at l i) 32 _ (far apart.desc_buffers (in_chain l i apart) cell) (reads.chains i from to);
        slots = λ i from to. stays (reply_at l n) bs (avail_slot_at l i) 2 _ (far apart.avail_buffers (in_slot l i apart) cell) (reads.slots i from to);
        used = stays (reply_at l n) bs (used_index_at l) 2 _ (far apart.used_buffers (in_used l) cell) reads.used;
        elements = λ i from to. stays (reply_at l n) bs (used_element_at l i) 8 _ (far apart.used_buffers (in_element l i apart) cell) (reads.elements i from to);
        replies = λ i from to. elim (last_or i n to) [
          | inl older ↦
              let below : i < m.replies = omega arith in
              stays (reply_at l n) bs (reply_at l i) (length (reply i)) (reply i)
              (reply_reply l i n (length (reply i)) (length bs) (places_apart l i n apart older (omega arith)) (fits.replies i from below) short) (reads.replies i from below)
          | inr same ↦ subst (λ j. bytes_at (write_at g (reply_at l n) bs) (reply_at l j) (length (reply j)) ≡ reply j) (sym same)
              (subst (λ q. bytes_at (write_at g (reply_at l n) bs) (reply_at l n) (length q) ≡ q) (sym is) (bytes_back r g (reply_at l n) bs reads.flat (inside r lies.buffers cell)))
        ];
      }

  pub write_element : (n len : ℕ) → n ≡ m.elements → length (reply n) ≡ len → n < m.collected + half_of l →
      Reads l r ask reply (record m { elements = n + 1 }) (write_at g (used_element_at l n) (element_bytes (head_of l n) len))
  write_element n len next is full =
      let bs : List ℕ = element_bytes (head_of l n) len in
      let cell = in_element l n apart in
      record {
        flat = flat_write r g (used_element_at l n) bs reads.flat;
        index = stays (used_element_at l n) bs (avail_index_at l) 2 _ (far apart.avail_used (in_index l) cell) reads.index;
        requests = λ i from to. stays (used_element_at l n) bs (request_at l i) (length (ask i).request) (ask i).request
            (far_back apart.used_buffers cell (in_request l i (length (ask i).request) apart (fits.requests i from to))) (reads.requests i from to);
        chains = λ i from to. stays (used_element_at l n) bs (descriptors_at l i) 32 _ (far apart.desc_used (in_chain l i apart) cell) (reads.chains i from to);
        slots = λ i from to. stays (used_element_at l n) bs (avail_slot_at l i) 2 _ (far apart.avail_used (in_slot l i apart) cell) (reads.slots i from to);
        used = stays (used_element_at l n) bs (used_index_at l) 2 _ (turned (used_element_at l n) 8 (used_index_at l) 2 (element_used l n)) reads.used;
        elements = λ i from to. elim (last_or i n to) [
          | inl older ↦
              let below : i < m.elements = omega arith in
              stays (used_element_at l n) bs (used_element_at l i) 8 _ (element_element l i n (slots_apart l i n apart older (omega arith))) (reads.elements i from below)
          | inr same ↦ subst (λ j. bytes_at (write_at g (used_element_at l n) bs) (used_element_at l j) 8 ≡ element_bytes (head_of l j) (length (reply j))) (sym same)
              (bytes_back r g (used_element_at l n) bs reads.flat (inside r lies.used cell) ∙ ap (element_bytes (head_of l n)) (sym is))
        ];
        replies = λ i from to. stays (used_element_at l n) bs (reply_at l i) (length (reply i)) (reply i)
            (far_back apart.used_buffers cell (in_reply l i (length (reply i)) apart (fits.replies i from to))) (reads.replies i from to);
      }

  pub write_used : (n : ℕ) → Reads l r ask reply (record m { used = n }) (write_at g (used_index_at l) (to_le_bytes w16 (index_of n)))
  write_used n =
      let bs : List ℕ = to_le_bytes w16 (index_of n) in
      let cell = in_used l in
      record {
        flat = flat_write r g (used_index_at l) bs reads.flat;
        index = stays (used_index_at l) bs (avail_index_at l) 2 _ (far apart.avail_used (in_index l) cell) reads.index;
        requests = λ i from to. stays (used_index_at l) bs (request_at l i) (length (ask i).request) (ask i).request
            (far_back apart.used_buffers cell (in_request l i (length (ask i).request) apart (fits.requests i from to))) (reads.requests i from to);
        chains = λ i from to. stays (used_index_at l) bs (descriptors_at l i) 32 _ (far apart.desc_used (in_chain l i apart) cell) (reads.chains i from to);
        slots = λ i from to. stays (used_index_at l) bs (avail_slot_at l i) 2 _ (far apart.avail_used (in_slot l i apart) cell) (reads.slots i from to);
        used = bytes_back r g (used_index_at l) bs reads.flat (inside r lies.used cell);
        elements = λ i from to. stays (used_index_at l) bs (used_element_at l i) 8 _ (element_used l i) (reads.elements i from to);
        replies = λ i from to. stays (used_index_at l) bs (reply_at l i) (length (reply i)) (reply i)
            (far_back apart.used_buffers cell (in_reply l i (length (reply i)) apart (fits.replies i from to))) (reads.replies i from to);
      }

  pub write_event : (word : ℕ) → Reads l r ask reply m (write_at g (avail_event_at l) (to_le_bytes w16 word))
  write_event word =
      let bs : List ℕ = to_le_bytes w16 word in
      let cell = in_event l in
      record {
        flat = flat_write r g (avail_event_at l) bs reads.flat;
        index = stays (avail_event_at l) bs (avail_index_at l) 2 _ (far apart.avail_used (in_index l) cell) reads.index;
        requests = λ i from to. stays (avail_event_at l) bs (request_at l i) (length (ask i).request) (ask i).request
            (far_back apart.used_buffers cell (in_request l i (length (ask i).request) apart (fits.requests i from to))) (reads.requests i from to);
        chains = λ i from to. stays (avail_event_at l) bs (descriptors_at l i) 32 _ (far apart.desc_used (in_chain l i apart) cell) (reads.chains i from to);
        slots = λ i from to. stays (avail_event_at l) bs (avail_slot_at l i) 2 _ (far apart.avail_used (in_slot l i apart) cell) (reads.slots i from to);
        used = stays (avail_event_at l) bs (used_index_at l) 2 _ (turned (avail_event_at l) 2 (used_index_at l) 2 (event_used l)) reads.used;
        elements = λ i from to. stays (avail_event_at l) bs (used_element_at l i) 8 _ (element_event l i apart) (reads.elements i from to);
        replies = λ i from to. stays (avail_event_at l) bs (reply_at l i) (length (reply i)) (reply i)
            (far_back apart.used_buffers cell (in_reply l i (length (reply i)) apart (fits.replies i from to))) (reads.replies i from to);
      }
