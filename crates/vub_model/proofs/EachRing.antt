-- What each write of a ring keeps holds of all rings after each step.
use Rattle.std.proofs.Common.{ℕ, ◌<◌, ◌^◌, Bool, true, false, List, [], ◌∷◌, Option, Some, None, sym, subst}
use Rattle.vub_model.specs.declared.entry.Entry.{Entry}
use Rattle.vub_model.specs.declared.party.Party.{Party}
use Rattle.vub_model.specs.declared.party.Party.TheVariants as party
use Rattle.vub_model.specs.declared.play.Play.{Play}
use Rattle.vub_model.specs.declared.play.Play.TheVariants as play
use Rattle.vub_model.specs.declared.phase.Phase.{Phase}
use Rattle.vub_model.specs.declared.ring_op.RingOp.TheVariants as op
use Rattle.vub_model.specs.declared.setup.Guest.{Guest}
use Rattle.vub_model.specs.declared.setup.Guest.TheVariants.{Store, Signal, Harvest}
use Rattle.vub_model.specs.declared.small.Small.{Small}
use Rattle.vub_model.specs.RingRecord.{Vring, changed, ring_after}
use Rattle.vub_model.specs.Shared.{Shared, ring_at, with_ring}
use Rattle.vub_model.specs.Wiring.{Wiring}
use Rattle.vub_model.specs.Work.{Local, MayWork, after_work, after_take, after_put, after_said, called, used, put_said}
use Rattle.vub_proto.specs.declared.device_said.DeviceSaid.{DeviceSaid}
use Rattle.vub_model.specs.Control.{MayControl, small_after}
use Rattle.vub_model.specs.Service.{Meaning}
use Rattle.vub_model.specs.World.{World, May, after, after_guest, phase_at}
use Rattle.vub_model.specs.RunOf.{Turn}
use Rattle.vub_model.specs.Schedule.{Invariant}
use Rattle.vub_model.proofs.Cases.{work-cases, event-shared, take-leaf, none-leaf, said-cases}
use Rattle.vub_model.proofs.Turns.{turn-cases}
use Rattle.vub_model.proofs.Live.{looked-live, live-taken}
use Rattle.vub_model.proofs.SmallRings.{ring-all, ring-small}
use Rattle.vub_model.proofs.Settings.{Kept, rebased}

-- each write of a ring keeps this
pub record KeptByWrites (P : Vring → Type 0) : Type 0 where
  pub settings : (r : Vring) → P r → Kept P r
  pub base : (r : Vring) → P r → (n : ℕ) → n < 2 ^ 16 → P (rebased r n)
  pub taken : (r : Vring) → P r → P (changed r op.Taken)
  pub put : (r : Vring) → P r → P (ring_after r op.Put)
  pub hold : (r : Vring) → P r → P (ring_after r op.Hold)

-- it holds of each ring
abbrev pub AllRings : {V : Type 0} → (Vring → Type 0) → Shared V → Type 0
AllRings P h = (q : ℕ) → P (ring_at h q)

module _ (P : Vring → Type 0) (keeps : KeptByWrites P) where
  set-kept : {V : Type 0} (h : Shared V) (p : ℕ) (r : Vring) → (P (ring_at h p) → P r) → AllRings P h → AllRings P (with_ring h p r)
  set-kept h p r new all q = ring-all h p r (λ q r. P r) new q (all q)

  module _ {V : Type 0} (g : Wiring) (h : Shared V) (all : AllRings P h) where
    abbrev After : Local V → Type 0
    After local = AllRings P local.shared

    take-kept : (queues : List ℕ) → After (after_take h queues)
    take-kept [] = all
    take-kept (p ∷ rest) =
        take-leaf h After p rest
        (λ c is. let S : Vring → Type 0 = λ r. AllRings P (with_ring h p r) in subst S (sym (live-taken (ring_at h p) (looked-live h p c is))) (set-kept h p (changed (ring_at h p) op.Taken) (λ was. keeps.taken (ring_at h p) was) all))
        (λ is. none-leaf h (λ x. AllRings P x) p (λ live. all) (λ dead. all))
        (λ d is. all)

    called-kept : (z : Shared V) (call : Option ℕ) (wanted : Bool) → AllRings P z → AllRings P (called z call wanted)
    called-kept z call false at = at
    called-kept z None true at = at
    called-kept z (Some object) true at = at

    put-kept : (e : Entry) (reply queues : List ℕ) → After (after_put h e reply queues)
    put-kept e reply queues =
        said-cases (put_said h e reply) (λ said. After (after_said h e reply queues said))
        (λ wanted is. called-kept (used h e reply) (ring_at h e.queue).call wanted (λ q. set-kept h e.queue (ring_after (ring_at h e.queue) op.Put) (λ was. keeps.put (ring_at h e.queue) was) all q))
        (λ fault is. set-kept h e.queue (ring_after (ring_at h e.queue) op.Hold) (λ was. keeps.hold (ring_at h e.queue) was) all)

    work-kept : (m : Meaning V) (k : ℕ) (phase : Phase) (l : Play) → MayWork g k h phase l → After (after_work m g k h phase l)
    work-kept m k =
        work-cases g k h (λ phase l. After (after_work m g k h phase l))
        (λ object ready. all)
        (λ object token. event-shared g k h (λ x. AllRings P x) object token all (λ o. all))
        all
        (λ token said. all)
        take-kept
        (λ e queues. all)
        put-kept

  module _ {V : Type 0} (m : Meaning V) (w : World V) (calm : ℕ → Bool) (i : Invariant w calm) (all : AllRings P w.shared) where
    guest-kept : (actions : List Guest) → AllRings P (after_guest w actions).shared
    guest-kept [] = all
    guest-kept (Store object offset bytes ∷ actions) = all
    guest-kept (Harvest object word ∷ actions) = all
    guest-kept (Signal object ∷ actions) = all

    small-kept : (s : Small) (said : DeviceSaid) → MayControl w.shared w.control.plan.steps s said → AllRings P (small_after w.wiring w.shared s)
    small-kept s said may = ring-small w calm i s said may (λ q r. P r) (λ q. keeps.settings (ring_at w.shared q) (all q)) (λ q n is low. keeps.base (ring_at w.shared q) (all q) n low)

    step-kept : (p : Party) (l : Play) → May w p l → AllRings P (after m w p l).shared
    step-kept party.Guest play.Guest may = guest-kept w.guest
    step-kept party.Control (play.Control s said) may = small-kept s said may
    step-kept (party.Worker k) l may = work-kept w.wiring w.shared all m k (phase_at w.phases k) l may
    step-kept p l may = absurd may

    -- a turn keeps what each write of a ring keeps
    pub turn-kept : (p : Party) (z : World V) (l : Play) → Turn m w p l z → AllRings P z.shared
    turn-kept p z = turn-cases m w p z (λ l. AllRings P z.shared) (λ same. subst (λ (x : World V). AllRings P x.shared) (sym same) all) (λ l may is. subst (λ (x : World V). AllRings P x.shared) (sym is) (step-kept p l may))
