-- A use answers what the function of memory and ring says.
use Rattle.std.proofs.Common.{◌≡◌, ℕ, Bool, true, false, not, if◌then◌else◌, List, Result, Ok, Err, OnOk, sym, ap, ◌∙◌}
use Rattle.vub_mem.specs.Memory.{Guest}
use Rattle.vub_mem.specs.declared.region.Region.{Region}
use Rattle.vub_queue.specs.Ring.{Ring}
use Rattle.vub_queue.specs.Put.{put_answer, put_guest, ring_used, room_covers, used_covers}
use Rattle.vub_queue.specs.Notification.{wants_notification, used_event_covers}
use Rattle.vub_queue.specs.declared.chain.Chain.{Chain}
use Rattle.vub_queue.specs.declared.putting.PutFault.{PutFault}
use Rattle.vub_queue.specs.declared.putting.PutFault.TheVariants.{RoomOutside, RingOutside}
use Rattle.vub_model.specs.RingRecord.{Vring, has_addresses}
use Rattle.vub_ring.specs.Play.{put_found}

-- the tests in order
abbrev tested : Bool → Bool → Bool → Bool → Result Bool PutFault
tested room words event wanted = if not room then Err RoomOutside else if not words then Err RingOutside else if not event then Err RingOutside else Ok wanted

err-at : (room words event v w : Bool) (f : PutFault) → tested room words event v ≡ Err f → tested room words event w ≡ Err f
err-at false words event v w f h = h
err-at true false event v w f h = h
err-at true true false v w f h = h
err-at true true true v w f h = absurd (cc)

-- a refusal does not hang on whether the driver wants to be told
err-same : (rs : List Region) (q : Ring) (c : Chain) (reply : List ℕ) (v w : Bool) (f : PutFault) → put_answer rs q c reply v ≡ Err f → put_answer rs q c reply w ≡ Err f
unfolding put_answer
err-same rs q c reply v w f h = err-at (room_covers rs c.segments reply) (used_covers rs q) (used_event_covers rs q) v w f h

found-at : (g : Guest) (r : Vring) (c : Chain) (reply : List ℕ) (has : Bool) (result : Result Bool PutFault) → has_addresses r ≡ true → result ≡ put_answer g.regions r.queue c reply (wants_notification (put_guest g r.queue c reply) (ring_used r.queue)) → result ≡ put_found g r c reply
unfolding put_found
found-at g r c reply has result set is =
    is ∙ ap (λ b. if b then put_answer g.regions r.queue c reply (wants_notification (put_guest g r.queue c reply) (ring_used r.queue)) else Err RingOutside) (sym set)

answer-at : (g after : Guest) (q : Ring) (c : Chain) (reply : List ℕ) (result : Result Bool PutFault) → result ≡ put_answer g.regions q c reply (wants_notification after (ring_used q)) → OnOk result (after ≡ put_guest g q c reply) → result ≡ put_answer g.regions q c reply (wants_notification (put_guest g q c reply) (ring_used q))
answer-at g after q c reply (Ok w) is wrote = is ∙ ap (λ m. put_answer g.regions q c reply (wants_notification m (ring_used q))) wrote
answer-at g after q c reply (Err f) is wrote = sym (err-same g.regions q c reply (wants_notification after (ring_used q)) (wants_notification (put_guest g q c reply) (ring_used q)) f (sym is))

pub put_in : (g after : Guest) (r : Vring) (q : Ring) (c : Chain) (reply : List ℕ) (result : Result Bool PutFault) → has_addresses r ≡ true → q ≡ r.queue → result ≡ put_answer g.regions q c reply (wants_notification after (ring_used q)) → OnOk result (after ≡ put_guest g q c reply) → result ≡ put_found g r c reply
put_in g after r q c reply result set is answer wrote =
    found-at g r c reply true result set (answer-at g after q c reply result answer wrote ∙ ap (λ queue. put_answer g.regions queue c reply (wants_notification (put_guest g queue c reply) (ring_used queue))) is)
