-- A step of a worker or of the guest leaves what a plan is fixed by: the frame, and the regions of guest memory.
use Rattle.std.proofs.Common.{◌≡◌, ℕ, Bool, true, false, List, [], ◌∷◌, Option, Some, None, refl, ap, ◌∙◌, slice_set}
use Rattle.std.proofs.Math.Seq.{map-set_same}
use Rattle.vub_mem.specs.Memory.{Guest as Memory}
use Rattle.vub_queue.specs.Put.{put_guest}
use Rattle.vub_model.specs.declared.entry.Entry.{Entry}
use Rattle.vub_model.specs.declared.play.Play.{Play}
use Rattle.vub_model.specs.declared.play.Play.TheVariants as play
use Rattle.vub_model.specs.declared.phase.Phase.{Phase}
use Rattle.vub_model.specs.declared.phase.Phase.TheVariants.{Serving, Served}
use Rattle.vub_model.specs.declared.ring_op.RingOp.TheVariants as op
use Rattle.vub_model.specs.Frame.{known_of, frame_of}
use Rattle.vub_model.specs.RingRecord.{Vring, closed_ring, changed}
use Rattle.vub_model.specs.Service.{Meaning}
use Rattle.vub_model.specs.Shared.{Shared, ring_at}
use Rattle.vub_model.specs.Wiring.{Wiring}
use Rattle.vub_model.specs.Work.{Local, MayWork, after_work, used, called}
use Rattle.vub_model.proofs.Cases.{work-cases, event-shared, none-leaf}
use Rattle.vub_model.proofs.Counting.{frame-raised, frame-read, regions-taken, regions-put}
use Rattle.vub_model.proofs.WorkSteps.{take-leaf, put-leaf, taken-ring}
use Rattle.vub_core.specs.Stepped.{IsTurn}

pub record Framed {V : Type 0} (old new : Shared V) : Type 0 where
  pub frame : frame_of new ≡ frame_of old
  pub regions : new.guest.regions ≡ old.guest.regions

pub alike : {V : Type 0} (h : Shared V) → Framed h h
alike h = record { frame = refl; regions = refl }

-- a ring is written that keeps its kick and flags, and guest memory
written : {V : Type 0} (h : Shared V) (memory : Memory) (p : ℕ) (r : Vring) → memory.regions ≡ h.guest.regions → known_of r ≡ known_of (ring_at h p)
    → Framed h (record h { guest = memory; rings = slice_set h.rings p r })
written h memory p r regions known = record {
  frame = ap (λ k. record { known = k; lists = h.table.lists; claims = (frame_of h).claims; events = (frame_of h).events }) (map-set_same known_of h.rings p r closed_ring known);
  regions = regions;
}

module _ {V : Type 0} (m : Meaning V) (g : Wiring) (k : ℕ) (h : Shared V) where
  after-called : (e : Entry) (reply : List ℕ) (call : Option ℕ) (wanted : Bool) → Framed h (used h e reply) → Framed h (called (used h e reply) call wanted)
  after-called e reply call false so = so
  after-called e reply None true so = so
  after-called e reply (Some object) true so = record { frame = frame-raised (used h e reply) object ∙ so.frame; regions = so.regions }

  take-framed : (queues : List ℕ) → Framed h (after_work m g k h (Serving queues) play.Take).shared
  take-framed [] = alike h
  take-framed (p ∷ rest) =
      take-leaf g k h (λ z. Framed h z.shared) p rest
      (λ c live. written h h.guest p (taken-ring (ring_at h p)) refl refl)
      (λ empty. none-leaf h (λ (z : Shared V). Framed h z) p (λ on. record { frame = refl; regions = regions-taken h.guest (ring_at h p).queue }) (λ off. alike h))
      (λ d. alike h)

  put-framed : (e : Entry) (reply queues : List ℕ) → Framed h (after_work m g k h (Served e reply queues) play.Put).shared
  put-framed e reply queues =
      put-leaf g k h (λ z. Framed h z.shared) e reply queues
      (λ wanted. after-called e reply (ring_at h e.queue).call wanted (let put = written h (put_guest h.guest (ring_at h e.queue).queue e.chain reply) e.queue (changed (ring_at h e.queue) op.Put) (regions-put h.guest (ring_at h e.queue).queue e.chain reply) refl in record { frame = put.frame; regions = put.regions }))
      (λ fault. written h h.guest e.queue (changed (ring_at h e.queue) op.Hold) refl refl)

  work-framed : (phase : Phase) (l : Play) → MayWork g k h phase l → Framed h (after_work m g k h phase l).shared
  work-framed =
      work-cases g k h (λ phase l. Framed h (after_work m g k h phase l).shared)
      (λ object ready. alike h)
      (λ object token. event-shared g k h (λ (z : Shared V). Framed h z) object token (alike h) (λ o. record { frame = frame-read h o; regions = refl }))
      (record { frame = refl; regions = refl })
      (λ token said. alike h)
      (λ queues. take-framed queues)
      (λ e queues. record { frame = refl; regions = refl })
      (λ e reply queues. put-framed e reply queues)

  step-framed : (l : Play) (before now : Phase) (new : Shared V) → MayWork g k h before l → record { shared = new; phase = now } ≡ after_work m g k h before l → Framed h new
  step-framed l before now new may row =
      let so = work-framed before l may in
      record { frame = ap (λ (x : Local V). frame_of x.shared) row ∙ so.frame; regions = ap (λ (x : Local V). x.shared.guest.regions) row ∙ so.regions }

  pub turn-framed : (l : Play) (before now : Phase) (new : Shared V) → IsTurn m g k l before now h new → Framed h new
  turn-framed play.Pass before now new row = record { frame = ap (λ (x : Shared V). frame_of x) row.1; regions = ap (λ (x : Shared V). x.guest.regions) row.1 }
  turn-framed l before now new row = step-framed l before now new row.0 row.1
