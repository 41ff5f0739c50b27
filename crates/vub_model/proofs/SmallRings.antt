-- What a control step makes of the rings: it leaves each, or sets one as it may be set.
use Rattle.std.proofs.Common.{◌≡◌, ℕ, ◌<◌, ◌^◌, Bool, inl, inr, List, [], ◌∷◌, length, refl, sym, ap, subst, arith, slice_index_or, ◌∙◌}
use Rattle.std.proofs.lemmas.Bool.{cases_eq, cases_lt}
use Rattle.vub_proto.specs.declared.device_said.DeviceSaid.{DeviceSaid}
use Rattle.vub_model.specs.declared.ring_op.RingOp.TheVariants as op
use Rattle.vub_model.specs.declared.small.Small.{Small}
use Rattle.vub_model.specs.declared.small.Small.TheVariants.{Claim, Release, Add, Delete, Listen, Unlisten, Bell, Remove, Insert, Set, Info, Table, Log, Device, Answer as Answering}
use Rattle.vub_model.specs.RingRecord.{Vring, closed_ring, ring_after}
use Rattle.vub_model.specs.Shared.{Shared, ring_at, with_ring}
use Rattle.vub_model.specs.Control.{MayControl, small_after, next_used_at, tail_of}
use Rattle.vub_model.specs.Frame.{frame_of}
use Rattle.vub_model.specs.World.{World}
use Rattle.vub_model.specs.Schedule.{Safe, Fits, Invariant}
use Rattle.vub_model.proofs.Counting.{ring-own, ring-other, ring-past}
use Rattle.vub_model.proofs.Settings.{Kept, rebased, by-setting, by-info, Leaves, leaves-kept}

-- the plan's first step fits
pub first-fits : {V : Type 0} (w : World V) (calm : ℕ → Bool) → Invariant w calm → (s : Small) (said : DeviceSaid) → MayControl w.shared w.control.plan.steps s said → Fits w.wiring (frame_of w.shared) w.control.plan.reply s (tail_of w.control.plan.steps)
first-fits w calm i s said may = by w.control.plan.steps refl may where
  by : (steps : List Small) → w.control.plan.steps ≡ steps → MayControl w.shared steps s said → Fits w.wiring (frame_of w.shared) w.control.plan.reply s (tail_of w.control.plan.steps)
  by [] is may = absurd may
  by (t ∷ rest) is may =
      let P : List Small → Type 0 = λ l. Safe w.wiring (frame_of w.shared) w.control.plan.reply l in
      let S : Small → Type 0 = λ s. Fits w.wiring (frame_of w.shared) w.control.plan.reply s rest in
      let L : List Small → Type 0 = λ l. Fits w.wiring (frame_of w.shared) w.control.plan.reply s l in
      subst L (sym (ap tail_of is)) (subst S (sym may.0) (subst P is i.safe).0)

-- a write of one ring
pub ring-all : {V : Type 0} (h : Shared V) (p : ℕ) (r : Vring) (P : ℕ → Vring → Type 0) → (P p (ring_at h p) → P p r) → (q : ℕ) → P q (ring_at h q) → P q (ring_at (with_ring h p r) q)
ring-all h p r P new q was =
    elim (cases_eq q p) [
      | inl same ↦ (let F : ℕ → Type 0 = λ q. P q (ring_at h q) → P q (ring_at (with_ring h p r) q) in (subst F (sym same) here) was)
      | inr other ↦ (let F : Vring → Type 0 = λ x. P q x in subst F (sym (ring-other h p r q other)) was)
    ] where
      here : P p (ring_at h p) → P p (ring_at (with_ring h p r) p)
      here was = elim (cases_lt p (length h.rings)) [
        | inl within ↦ (let F : Vring → Type 0 = λ x. P p x in subst F (sym (ring-own h p r within)) (new was))
        | inr past ↦ (let F : List Vring → Type 0 = λ l. P p (slice_index_or l p closed_ring) in subst F (sym (ring-past h p r past)) was)
      ]

module _ {V : Type 0} (w : World V) (calm : ℕ → Bool) (i : Invariant w calm) (s : Small) (said : DeviceSaid) (may : MayControl w.shared w.control.plan.steps s said) where
  -- what each setting keeps holds of each ring after the step
  pub ring-small : (P : ℕ → Vring → Type 0) → ((q : ℕ) → Kept (P q) (ring_at w.shared q)) → ((q n : ℕ) → s ≡ Set q (op.SetBase n) → n < 2 ^ 16 → P q (rebased (ring_at w.shared q) n))
      → (q : ℕ) → P q (ring_at (small_after w.wiring w.shared s) q)
  ring-small P kept base q = by s refl (first-fits w calm i s said may) where
    by : (t : Small) → s ≡ t → Fits w.wiring (frame_of w.shared) w.control.plan.reply t (tail_of w.control.plan.steps) → P q (ring_at (small_after w.wiring w.shared t) q)
    by (Set p o) is fits =
        ring-all w.shared p (ring_after (ring_at w.shared p) o) P
        (λ was. by-setting (P p) (ring_at w.shared p) (kept p) w.wiring (frame_of w.shared) p o fits.1 (λ n same low. base p n (is ∙ ap (Set p) same) low)) q (kept q).same
    by (Info p desc avail used) is fits =
        ring-all w.shared p (ring_after (ring_at w.shared p) (op.SetInfo desc avail used (next_used_at w.shared.guest used))) P
        (λ was. by-info (P p) (ring_at w.shared p) (kept p) desc avail used (next_used_at w.shared.guest used)) q (kept q).same
    by (Claim o p) is fits = (kept q).same
    by (Release o) is fits = (kept q).same
    by (Add k o n) is fits = (kept q).same
    by (Delete k o) is fits = (kept q).same
    by (Listen k o n) is fits = (kept q).same
    by (Unlisten k o a) is fits = (kept q).same
    by (Bell o) is fits = (kept q).same
    by (Remove k n) is fits = (kept q).same
    by (Insert k n) is fits = (kept q).same
    by (Table change) is fits = (kept q).same
    by (Log o offset size) is fits = (kept q).same
    by (Device call) is fits = (kept q).same
    by Answering is fits = (kept q).same

  -- it leaves the flights and takes no entry
  pub small-leaves : (q : ℕ) → Leaves (ring_at w.shared q) (ring_at (small_after w.wiring w.shared s) q)
  small-leaves = ring-small (λ q x. Leaves (ring_at w.shared q) x) (λ q. leaves-kept (ring_at w.shared q)) (λ q n is low. record { flight = refl; addresses = λ has. has; taken = omega arith })
