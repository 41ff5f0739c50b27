-- What a play leaves of a session, by what its step leaves.
use Rattle.std.proofs.Common.{◌≡◌, ℕ, ◌≤◌, true, false, ◌⊎◌, inl, inr, List, length, map, slice_set, Option, Some, None, refl, ap, sym, ◌∙◌}
use Rattle.std.proofs.lemmas.List.{set-get_or, set_past, map-set}
use Rattle.std.proofs.Math.Seq.{map-set_same}
use Rattle.std.proofs.Math.ListN.{get_or-map}
use Rattle.vub_base.specs.Told.{Told}
use Rattle.vub_proto.specs.declared.answer.Answer.{Answer}
use Rattle.vub_proto.specs.declared.answer.Answer.TheVariants as answer
use Rattle.vub_model.specs.declared.ring_op.RingOp.TheVariants as op
use Rattle.vub_model.specs.declared.ring_op.RingSaid.{RingSaid}
use Rattle.vub_model.specs.declared.ring_op.RingSaid.TheVariants as ring_said
use Rattle.vub_model.specs.declared.small.Small.{Small}
use Rattle.vub_model.specs.declared.small.Small.TheVariants.{Claim, Release, Add, Delete, Listen, Unlisten, Bell, Remove, Insert, Set, Info, Table, Log, Device, Answer as Answering}
use Rattle.vub_model.specs.declared.wiring.Known.{Known}
use Rattle.vub_model.specs.Control.{small_after, waits_now, next_used_at, answer_of}
use Rattle.vub_model.specs.Frame.{known_of}
use Rattle.vub_model.specs.FrameSteps.{known_after}
use Rattle.vub_model.specs.Plans.{says, next_of}
use Rattle.vub_model.specs.RingRecord.{closed_ring, ring_after}
use Rattle.vub_model.specs.Shared.{Shared, ring_at}
use Rattle.vub_model.specs.Wiring.{Wiring}
use Rattle.vub_model.proofs.FrameSmall.{known-changed, info-kept}
use Rattle.vub_vring.specs.Calls.{RingCall}
use Rattle.vub_plan.specs.Wires.{known_in}
use Rattle.vub_handler.specs.Acting.{calls_host}
use Rattle.vub_handler.specs.Playing.{known_by}
use Rattle.vub_handler.proofs.Telling.{told-map}

-- What is known

pub unset : (known : List Known) (queue : ℕ) (k : Known) → length known ≤ queue → slice_set known queue k ≡ known
unset known queue k past = set_past known queue k past

module _ {V : Type 0} (g : Wiring) (a : Shared V) where
  known-at : (queue : ℕ) → known_in (map known_of a.rings) queue ≡ known_of (ring_at a queue)
  known-at queue = get_or-map known_of a.rings queue closed_ring

  -- what is known stays what is known
  pub known-small : (s : Small) → waits_now a s ≡ false → map known_of (small_after g a s).rings ≡ known_by s (map known_of a.rings)
  known-small (Claim object queue) free = refl
  known-small (Release object) free = refl
  known-small (Add worker object token) free = refl
  known-small (Delete worker object) free = refl
  known-small (Listen worker object token) free = refl
  known-small (Unlisten worker object above) free = refl
  known-small (Bell object) free = refl
  known-small (Remove worker number) free = refl
  known-small (Insert worker number) free = refl
  known-small (Set queue o) free =
      map-set known_of a.rings queue (ring_after (ring_at a queue) o)
      ∙ ap (λ (k : Known). slice_set (map known_of a.rings) queue k) (known-changed (ring_at a queue) o free ∙ ap (λ (k : Known). known_after k o) (sym (known-at queue)))
  known-small (Info queue desc avail used) free = map-set_same known_of a.rings queue (ring_after (ring_at a queue) (op.SetInfo desc avail used (next_used_at a.guest used))) closed_ring (info-kept (ring_at a queue) desc avail used (next_used_at a.guest used))
  known-small (Table change) free = refl
  known-small (Log object offset size) free = refl
  known-small (Device call) free = refl
  known-small Answering free = refl

-- a step that calls the host leaves what is known
pub host-known : (s : Small) (known : List Known) → calls_host s ≡ true → known_by s known ≡ known
host-known (Claim object queue) known is = refl
host-known (Release object) known is = refl
host-known (Add worker object token) known is = refl
host-known (Delete worker object) known is = refl
host-known (Listen worker object token) known is = refl
host-known (Unlisten worker object above) known is = refl
host-known (Bell object) known is = refl
host-known (Remove worker number) known is = refl
host-known (Insert worker number) known is = refl
host-known (Set queue o) known is = absurd cc
host-known (Info queue desc avail used) known is = refl
host-known (Table change) known is = refl
host-known (Log object offset size) known is = refl
host-known (Device call) known is = refl
host-known Answering known is = refl

-- What is answered

module _ {V : Type 0} (old new : Option (Shared V)) where
  base-row : (a b : Shared V) (next queue : ℕ) → RingCall queue op.GetBase (ring_said.Base next) a b → (answer.Base queue next ≡ answer_of a (next_of queue)) × (b ≡ a)
  base-row a b next queue call =
      let is : next ≡ (ring_at a queue).queue.next_avail = (let says : ring_said.Base next ≡ ring_said.Base (ring_at a queue).queue.next_avail = call.0 in cc) in
      (ap (answer.Base queue) is, call.1 ∙ ap (λ (rings : List _). record a { rings = rings }) (set-get_or a.rings queue closed_ring))

  -- the base that a ring says
  pub base_told : (next queue : ℕ) → Told old new (RingCall queue op.GetBase (ring_said.Base next)) → Told old new (λ h k. (answer.Base queue next ≡ answer_of h (next_of queue)) × (k ≡ h))
  base_told next queue told = told-map old new _ _ (λ a b call. base-row a b next queue call) told

  no-base : (s : RingSaid) (queue : ℕ) (x : Answer) → (s ≡ ring_said.Done) ⊎ (s ≡ ring_said.Waits) → Told old new (RingCall queue op.GetBase s) → Told old new (λ h k. (x ≡ answer_of h (next_of queue)) × (k ≡ h))
  no-base s queue x (inl is) told = told-map old new _ _ (λ a b call. absurd (let says : ring_said.Done ≡ ring_said.Base (ring_at a queue).queue.next_avail = sym is ∙ call.0 in cc)) told
  no-base s queue x (inr is) told = told-map old new _ _ (λ a b call. absurd (let says : ring_said.Waits ≡ ring_said.Base (ring_at a queue).queue.next_avail = sym is ∙ call.0 in cc)) told

  pub done_told : (queue : ℕ) (x : Answer) → Told old new (RingCall queue op.GetBase ring_said.Done) → Told old new (λ h k. (x ≡ answer_of h (next_of queue)) × (k ≡ h))
  done_told queue x told = no-base ring_said.Done queue x (inl refl) told

  pub waits_told : (queue : ℕ) (x : Answer) → Told old new (RingCall queue op.GetBase ring_said.Waits) → Told old new (λ h k. (x ≡ answer_of h (next_of queue)) × (k ≡ h))
  waits_told queue x told = no-base ring_said.Waits queue x (inr refl) told

-- an answer that is known before
pub says_told : {V : Type 0} (held : Option (Shared V)) (a x : Answer) → x ≡ a → Told held held (λ h k. (x ≡ answer_of h (says a)) × (k ≡ h))
says_told None a x is = tt
says_told (Some h) a x is = (is, refl)
