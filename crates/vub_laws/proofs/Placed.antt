-- A placing has a place for each byte.
use Rattle.std.proofs.Common.{◌≡◌, ℕ, zero, suc, ◌+◌, ◌≤◌, Bool, true, false, cond, not, Option, Some, None, is_some, List, [], ◌∷◌, ◌++◌, length, take, drop, Ok, Err, length-append, length-drop, take-append-drop, refl, sym, ap, ◌∙◌, arith}
use Rattle.std.specs.Prelude.{sum_by}
use Rattle.std.specs.Int.{w16, w32, to_le_bytes}
use Rattle.std.specs.List.{list_all, range_with_len}
use Rattle.std.proofs.lemmas.Bool.{and_parts}
use Rattle.std.proofs.lemmas.List.Sums.{sum_by-cons}
use Rattle.vub_mem.specs.declared.region.Region.{Region}
use Rattle.vub_mem.specs.Place.{covers, region_of}
use Rattle.vub_queue.specs.EntryNumber.{after}
use Rattle.vub_queue.specs.Layout.{used_element_at, used_index_at}
use Rattle.vub_queue.specs.Notification.{used_event_covers}
use Rattle.vub_queue.specs.Put.{put_answer, room_covers, used_covers}
use Rattle.vub_queue.specs.Ring.{Ring}
use Rattle.vub_queue.specs.declared.chain.Chain.{Chain}
use Rattle.vub_queue.specs.declared.putting.PutFault.TheVariants as put_fault
use Rattle.vub_queue.specs.declared.segment.Segment.{Segment}
use Rattle.vub_model.specs.Written.{spot_in, spots_of, reply_spots}
use Rattle.vub_laws.specs.Orderly.{PlacesEachByte}

one-spot : (r : Option Region) (a : ℕ) → is_some r ≡ true → length (spot_in r a) ≡ 1
one-spot None a some = absurd cc
one-spot (Some r) a some = refl

-- each address of a range that is covered lies somewhere
spots-long : (rs : List Region) (n a : ℕ) → covers rs a n ≡ true → length (spots_of rs a n) ≡ n
unfolding covers
spots-long rs zero a is = refl
spots-long rs (suc n) a is =
    let parts = and_parts (is_some (region_of rs a)) (list_all (λ x. is_some (region_of rs x)) (range_with_len (a + 1) n)) is in
    let one = one-spot (region_of rs a) a parts.0 in
    let more = spots-long rs n (a + 1) parts.1 in
    let all = length-append (spot_in (region_of rs a) a) (spots_of rs (a + 1) n) in
    omega (arith, one, more, all)

reply-long : (rs : List Region) (ss : List Segment) (reply : List ℕ) → room_covers rs ss reply ≡ true → length reply ≤ sum_by (λ s. s.len) ss → length (reply_spots rs ss reply) ≡ length reply
unfolding room_covers
reply-long rs [] reply is fits = omega (arith, fits)
reply-long rs (s ∷ ss) reply is fits =
    let front = take s.len reply in
    let back = drop s.len reply in
    let parts = and_parts (covers rs s.addr (length front)) (room_covers rs ss back) is in
    let sum = sum_by-cons (λ (s : Segment). s.len) s ss in
    let size = length-drop s.len reply in
    let first = spots-long rs (length front) s.addr parts.0 in
    let rest = reply-long rs ss back parts.1 (omega (arith, fits, sum, size)) in
    let all = length-append (spots_of rs s.addr (length front)) (reply_spots rs ss back) in
    let whole = sym (length-append front back) ∙ ap length (take-append-drop s.len reply) in
    omega (arith, first, rest, all, whole)

put-tests : (rs : List Region) (r : Ring) (c : Chain) (reply : List ℕ) (wanted told : Bool) → put_answer rs r c reply wanted ≡ Ok told → (room_covers rs c.segments reply ≡ true) × (used_covers rs r ≡ true)
unfolding put_answer
put-tests rs r c reply wanted told is = by (room_covers rs c.segments reply) (used_covers rs r) (used_event_covers rs r) is where
  by : (x y z : Bool) → cond (not x) (Err put_fault.RoomOutside) (cond (not y) (Err put_fault.RingOutside) (cond (not z) (Err put_fault.RingOutside) (Ok wanted))) ≡ Ok told → (x ≡ true) × (y ≡ true)
  by true true z e = (refl, refl)
  by true false z e = absurd cc
  by false y z e = absurd cc

ring-covers : (rs : List Region) (r : Ring) → used_covers rs r ≡ true → (covers rs (used_element_at r) 8 ≡ true) × (covers rs (used_index_at r) 2 ≡ true)
unfolding used_covers
ring-covers rs r is = and_parts (covers rs (used_element_at r) 8) (covers rs (used_index_at r) 2) is

pub places-each-byte : PlacesEachByte
places-each-byte rs r e reply wanted told is fits =
    let tests = put-tests rs r e.chain reply wanted told is in
    let ring = ring-covers rs r tests.1 in
    let room = reply_spots rs e.chain.segments reply in
    let element = spots_of rs (used_element_at r) 8 in
    let index = spots_of rs (used_index_at r) 2 in
    let one = reply-long rs e.chain.segments reply tests.0 fits in
    let two = spots-long rs 8 (used_element_at r) ring.0 in
    let three = spots-long rs 2 (used_index_at r) ring.1 in
    let spots = length-append room (element ++ index) in
    let end = length-append element index in
    let entry = to_le_bytes w32 e.chain.head ++ to_le_bytes w32 (length reply) in
    let word = to_le_bytes w16 (after r.next_used) in
    let bytes = length-append (reply ++ entry) word in
    let first = length-append reply entry in
    let eight : length (to_le_bytes w32 e.chain.head ++ to_le_bytes w32 (length reply)) ≡ 8 = refl in
    let last : length (to_le_bytes w16 (after r.next_used)) ≡ 2 = refl in
    let left : length (room ++ (element ++ index)) ≡ length reply + 10 = omega (arith, one, two, three, spots, end) in
    let right : length ((reply ++ entry) ++ word) ≡ length reply + 10 = omega (arith, bytes, first, eight, last) in
    left ∙ sym right
