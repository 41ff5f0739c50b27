-- What putting a reply answers and does.
use Rattle.std.specs.Prelude.{ℕ, Bool, true, not, ◌&&◌, if◌then◌else◌, nat_lt, List, [], ◌∷◌, ◌++◌, length, take, drop}
use Rattle.std.specs.Prelude.{Result, Ok, Err}
use Rattle.std.specs.Int.{w16, w32, to_le_bytes}
use Rattle.vub_mem.specs.Memory.{Guest}
use Rattle.vub_mem.specs.Marks.{Mark, marks_of}
use Rattle.vub_mem.specs.Place.{covers, write_at}
use Rattle.vub_mem.specs.declared.region.Region.{Region}
use Rattle.vub_queue.specs.EntryNumber.{after}
use Rattle.vub_queue.specs.Layout.{used_element_at, used_index_at}
use Rattle.vub_queue.specs.Notification.{used_event_covers}
use Rattle.vub_queue.specs.Ring.{Ring}
use Rattle.vub_queue.specs.declared.chain.Chain.{Chain}
use Rattle.vub_queue.specs.declared.error.QueueError.{QueueError}
use Rattle.vub_queue.specs.declared.error.QueueError.TheVariants.{InvalidDescriptorIndex, Outside}
use Rattle.vub_queue.specs.declared.putting.PutFault.{PutFault}
use Rattle.vub_queue.specs.declared.putting.PutFault.TheVariants.{RoomOutside, RingOutside}
use Rattle.vub_queue.specs.declared.segment.Segment.{Segment}

-- The reply lies over the segments in order: the first takes as many bytes as it holds, and so on.

-- whether the bytes that the reply fills lie in guest memory
unfoldable pub room_covers : List Region → List Segment → List ℕ → Bool
room_covers rs [] reply = true
room_covers rs (s ∷ ss) reply = covers rs s.addr (length (take s.len reply)) && room_covers rs ss (drop s.len reply)

-- the memory after the reply is written
unfoldable pub write_reply : Guest → List Segment → List ℕ → Guest
write_reply g [] reply = g
write_reply g (s ∷ ss) reply = write_reply (write_at g s.addr (take s.len reply)) ss (drop s.len reply)

-- the pages that this marks
unfoldable pub reply_marks : List Region → List Segment → List ℕ → List Mark
reply_marks rs [] reply = []
reply_marks rs (s ∷ ss) reply = marks_of rs s.addr (length (take s.len reply)) ++ reply_marks rs ss (drop s.len reply)

-- whether the element of the next use and the index word of the used ring lie in guest memory
unfoldable pub used_covers : List Region → Ring → Bool
used_covers rs r = covers rs (used_element_at r) 8 && covers rs (used_index_at r) 2

-- the memory after the element (head, length) and then the index word (virtio 1.2, 2.7.8)
unfoldable pub write_used : Guest → Ring → ℕ → ℕ → Guest
write_used g r head len =
    write_at (write_at g (used_element_at r) (to_le_bytes w32 head ++ to_le_bytes w32 len)) (used_index_at r)
    (to_le_bytes w16 (after r.next_used))

unfoldable pub used_marks : List Region → Ring → List Mark
used_marks rs r = marks_of rs (used_element_at r) 8 ++ marks_of rs (used_index_at r) 2

-- the ring after a use
abbrev pub ring_used : Ring → Ring
ring_used r = record r { next_used = after r.next_used }

-- what using a head without a reply answers
abbrev pub add_answer : List Region → Ring → ℕ → Result (Unit {0}) QueueError
add_answer rs r head =
    if not (nat_lt head r.size) then Err InvalidDescriptorIndex else
    if not (used_covers rs r) then Err Outside else
    Ok tt

-- the memory after the reply, the element and the index word
unfoldable pub put_guest : Guest → Ring → Chain → List ℕ → Guest
put_guest g r c reply = write_used (write_reply g c.segments reply) r c.head (length reply)

abbrev pub put_marks : List Region → Ring → Chain → List ℕ → List Mark
put_marks rs r c reply = reply_marks rs c.segments reply ++ used_marks rs r

-- What a put answers: its tests in order, and then whether the driver wants to be notified.
unfoldable pub put_answer : List Region → Ring → Chain → List ℕ → Bool → Result Bool PutFault
put_answer rs r c reply wanted =
    if not (room_covers rs c.segments reply) then Err RoomOutside else
    if not (used_covers rs r) then Err RingOutside else
    if not (used_event_covers rs r) then Err RingOutside else
    Ok wanted
