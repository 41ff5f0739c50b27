-- An answered base is that of a ring that has no entry in flight.
use Rattle.std.proofs.Common.{◌≡◌, ℕ, Bool, false, List, [], ◌∷◌, refl, sym, ap, ◌∙◌, subst}
use Rattle.vub_proto.specs.declared.device_said.DeviceSaid.{DeviceSaid}
use Rattle.vub_model.specs.declared.flight.Flight.TheVariants as flight
use Rattle.vub_model.specs.declared.small.Small.{Small}
use Rattle.vub_model.specs.declared.small.Small.TheVariants.{Answer as Answering}
use Rattle.vub_model.specs.declared.wiring.Known.{Known}
use Rattle.vub_model.specs.Shared.{ring_at}
use Rattle.vub_model.specs.Plans.{Reply, next_of}
use Rattle.vub_model.specs.Control.{MayControl}
use Rattle.vub_model.specs.Frame.{frame_of}
use Rattle.vub_model.specs.World.{World}
use Rattle.vub_model.specs.Schedule.{Safe, Invariant}
use Rattle.vub_model.proofs.SchedWork.{known-ring}

-- where an Answer is due that tells a base, no entry of that ring is in flight
pub base-stands : {V : Type 0} (w : World V) (calm : ℕ → Bool) → Invariant w calm → (said : DeviceSaid) → MayControl w.shared w.control.plan.steps Answering said → (queue : ℕ) → w.control.plan.reply ≡ next_of queue → (ring_at w.shared queue).flight ≡ flight.InFlight → ⊥
base-stands w calm i said may queue is flies = by w.control.plan.steps refl may where
  by : (steps : List Small) → w.control.plan.steps ≡ steps → MayControl w.shared steps Answering said → ⊥
  by [] are may = may
  by (s ∷ rest) are may =
      let P : Reply → List Small → Type 0 = λ reply steps. Safe w.wiring (frame_of w.shared) reply steps in
      let S : Small → Type 0 = λ s. Safe w.wiring (frame_of w.shared) (next_of queue) (s ∷ rest) in
      let safe = subst S (sym may.0) (subst (λ l. P (next_of queue) l) are (subst (λ r. P r w.control.plan.steps) is i.safe)) in
      let its = i.flies queue flies in
      let on = (i.hands its.0 queue its.2).1.ready in
      let off : (ring_at w.shared queue).queue.ready ≡ false = ap (λ (k : Known). k.ready) (sym (known-ring w.shared queue)) ∙ safe.0.1 in
      absurd cc
