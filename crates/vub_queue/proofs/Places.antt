-- Which bytes putting and taking leave alone.
use Rattle.std.proofs.Common.{◌≡◌, ℕ, Bool, true, false, cond, List, [], ◌∷◌, ◌++◌, length, take, drop, refl, sym, subst, ◌∙◌}
use Rattle.std.specs.Int.{w16, w32, to_le_bytes}
use Rattle.vub_mem.specs.Laws.{IsElsewhere, byte_of}
use Rattle.vub_mem.specs.Memory.{Guest}
use Rattle.vub_mem.specs.Place.{write_at}
use Rattle.vub_mem.proofs.Frames.{regions-write_at, write_apart}
use Rattle.vub_queue.specs.EntryNumber.{after}
use Rattle.vub_queue.specs.Laws.{IsOffReply}
use Rattle.vub_queue.specs.Layout.{avail_event_at, used_element_at, used_index_at}
use Rattle.vub_queue.specs.Put.{put_guest, write_reply, write_used}
use Rattle.vub_queue.specs.Ring.{Ring}
use Rattle.vub_queue.specs.Take.{guest_taken}
use Rattle.vub_queue.specs.declared.chain.Chain.{Chain}
use Rattle.vub_queue.specs.declared.segment.Segment.{Segment}
use Rattle.vub_queue.specs.declared.took.Took.{Took}
use Rattle.vub_queue.specs.declared.took.Took.TheVariants as took

pub regions-write_reply : (g : Guest) (ss : List Segment) (reply : List ℕ) → (write_reply g ss reply).regions ≡ g.regions
unfolding write_reply
regions-write_reply g [] reply = refl
regions-write_reply g (s ∷ ss) reply =
    regions-write_reply (write_at g s.addr (take s.len reply)) ss (drop s.len reply) ∙ regions-write_at g s.addr (take s.len reply)

-- a place that the reply does not fill keeps its byte
reply_apart : (g : Guest) (ss : List Segment) (reply : List ℕ) (o i : ℕ) → IsOffReply g.regions ss reply o i → byte_of (write_reply g ss reply) o i ≡ byte_of g o i
unfolding write_reply
reply_apart g [] reply o i apart = refl
reply_apart g (s ∷ ss) reply o i apart =
    reply_apart (write_at g s.addr (take s.len reply)) ss (drop s.len reply) o i (subst (λ rs. IsOffReply rs ss (drop s.len reply) o i) (sym (regions-write_at g s.addr (take s.len reply))) apart.1)
    ∙ write_apart g s.addr (take s.len reply) o i apart.0

-- a write of n bytes keeps a place that is elsewhere
write_keeps : (g : Guest) (a n : ℕ) (bs : List ℕ) (o i : ℕ) → length bs ≡ n → IsElsewhere g.regions a n o i → byte_of (write_at g a bs) o i ≡ byte_of g o i
write_keeps g a n bs o i e apart = write_apart g a bs o i (subst (λ m. IsElsewhere g.regions a m o i) (sym e) apart)

used_apart : (g : Guest) (r : Ring) (head len o i : ℕ) → IsElsewhere g.regions (used_element_at r) 8 o i → IsElsewhere g.regions (used_index_at r) 2 o i → byte_of (write_used g r head len) o i ≡ byte_of g o i
unfolding write_used
used_apart g r head len o i element index =
    let bytes : List ℕ = to_le_bytes w32 head ++ to_le_bytes w32 len in
    write_keeps (write_at g (used_element_at r) bytes) (used_index_at r) 2 (to_le_bytes w16 (after r.next_used)) o i refl (subst (λ rs. IsElsewhere rs (used_index_at r) 2 o i) (sym (regions-write_at g (used_element_at r) bytes)) index)
    ∙ write_keeps g (used_element_at r) 8 bytes o i refl element

pub put_apart : (g : Guest) (r : Ring) (c : Chain) (reply : List ℕ) (o i : ℕ) → IsOffReply g.regions c.segments reply o i → IsElsewhere g.regions (used_element_at r) 8 o i → IsElsewhere g.regions (used_index_at r) 2 o i → byte_of (put_guest g r c reply) o i ≡ byte_of g o i
unfolding put_guest
put_apart g r c reply o i off element index =
    used_apart (write_reply g c.segments reply) r c.head (length reply) o i
    (subst (λ rs. IsElsewhere rs (used_element_at r) 8 o i) (sym (regions-write_reply g c.segments reply)) element)
    (subst (λ rs. IsElsewhere rs (used_index_at r) 2 o i) (sym (regions-write_reply g c.segments reply)) index)
    ∙ reply_apart g c.segments reply o i off

written_if : (g : Guest) (b : Bool) (a : ℕ) (bs : List ℕ) (o i : ℕ) → IsElsewhere g.regions a (length bs) o i → byte_of (cond b (write_at g a bs) g) o i ≡ byte_of g o i
written_if g true a bs o i apart = write_apart g a bs o i apart
written_if g false a bs o i apart = refl

pub take_apart : (g : Guest) (r : Ring) (t : Took) (o i : ℕ) → IsElsewhere g.regions (avail_event_at r) 2 o i → byte_of (guest_taken g r t) o i ≡ byte_of g o i
take_apart g r (took.Entry c) o i apart = refl
take_apart g r took.None o i apart = written_if g r.event_idx (avail_event_at r) (to_le_bytes w16 r.next_avail) o i apart
take_apart g r (took.Damaged d) o i apart = refl

not_written : (g h : Guest) (b : Bool) → b ≡ false → cond b h g ≡ g
not_written g h b off = rw off refl

pub take_nothing : (g : Guest) (r : Ring) (t : Took) → r.event_idx ≡ false → guest_taken g r t ≡ g
take_nothing g r (took.Entry c) off = refl
take_nothing g r took.None off = not_written g (write_at g (avail_event_at r) (to_le_bytes w16 r.next_avail)) r.event_idx off
take_nothing g r (took.Damaged d) off = refl
