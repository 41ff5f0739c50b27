-- The opening of a machine is the same for every service.
use Rattle.std.proofs.Common.{◌≡◌, [], length, map, drop, refl, sym, ap, ◌∙◌}
use Rattle.vub_model.specs.declared.constants.Constants.{Constants}
use Rattle.vub_model.specs.declared.setup.Setup.{Setup}
use Rattle.vub_model.specs.declared.phase.Phase.TheVariants.{Idle}
use Rattle.vub_model.specs.Control.{Control, begun}
use Rattle.vub_model.specs.Shared.{Shared}
use Rattle.vub_model.specs.Opening.{opening, opening_control, new_control, unwritten, wiring_of}
use Rattle.vub_model.specs.World.{World}
use Rattle.vub_plan.specs.Halves.{of_plan, plan_at}
use Rattle.vub_loop.specs.Handler.{phase_of}
use Rattle.vub_core.specs.declared.machine.Machine.{Machine}
use Rattle.vub_core.specs.Machine.{control_of, begun_of, world_of, opened_world}
use Rattle.vub_vring.specs.Store.{shared_of}
use Rattle.vub_open.specs.Opened.{unserved}
use Rattle.vub_open.proofs.OpenedFor.{opened_for}

-- a world with other shared parts and another control
abbrev with_parts : {U V : Type 0} → World U → Shared V → Control → World V
with_parts w h c = record { shared = h; wiring = w.wiring; phases = w.phases; guest = w.guest; control = c; takes = w.takes; uses = w.uses; written = w.written; harvests = w.harvests }

-- a machine that opens a set-up opens it for every service
pub world_for : {V : Type 0} (k : Constants) (s : Setup) (v : V) (m : Machine) → opened_world s m ≡ opening k s (tt {0}) → world_of s m v ≡ opening k s v
unfolding opening
world_for k s v m opens =
    let g = (opening k s (tt {0})).wiring in
    let shared : shared_of m.store (tt {0}) ≡ (opening k s (tt {0})).shared = ap (λ w. w.shared) opens in
    let own : shared_of m.store v ≡ (opening k s v).shared = opened_for k s v m.store shared in
    let control : begun_of s m ≡ opening_control k s v =
    ap (λ w. w.control) opens
    ∙ ap (λ (h : Shared (Unit {0})). begun g h (new_control s)) (sym shared)
    ∙ ap (λ h. begun g h (new_control s)) own in
    ap (λ w. with_parts w (shared_of m.store v) (begun_of s m)) opens
    ∙ ap (λ h. with_parts (opening k s (tt {0})) h (begun_of s m)) own
    ∙ ap (λ c. with_parts (opening k s (tt {0})) (opening k s v).shared c) control

pub wiring_opens : (k : Constants) (s : Setup) → wiring_of k (length s.objects) ≡ (opening k s (tt {0})).wiring
unfolding opening
wiring_opens k s = refl

-- what opens a set-up
pub record Opens (k : Constants) (s : Setup) (m : Machine) : Type 0 where
  pub shared : unserved m.store ≡ (opening k s (tt {0})).shared
  pub phases : map (λ h. phase_of h) m.workers.items ≡ map (λ mask. Idle) k.masks
  pub wiring : m.handler.wiring ≡ (opening k s (tt {0})).wiring
  pub session : m.handler.session ≡ (new_control s).session
  pub half : m.half ≡ of_plan (new_control s).plan
  pub asked : m.asked ≡ 0
  pub answers : m.answers.items ≡ []
  pub acted : m.acted ≡ 0
  pub takes : m.records.takes.items ≡ []
  pub uses : m.records.uses.items ≡ []
  pub written : m.records.written ≡ map unwritten s.objects
  pub harvests : m.records.harvests.items ≡ []

pub control_opens : (k : Constants) (s : Setup) (m : Machine) → Opens k s m → begun_of s m ≡ (opening k s (tt {0})).control
unfolding opening
control_opens k s m o =
    let c : Control = control_of s m in
    let n : Control = new_control s in
    let h : Shared (Unit {0}) = unserved m.store in
    let g = m.handler.wiring in
    ap (λ x. begun g h (record c { session = x })) o.session
    ∙ ap (λ b. begun g h (record n { plan = plan_at m.store.memory.guest.regions b; requests = drop m.asked s.requests; answers = m.answers.items })) o.half
    ∙ ap (λ i. begun g h (record n { requests = drop i s.requests; answers = m.answers.items })) o.asked
    ∙ ap (λ x. begun g h (record n { answers = x })) o.answers
    ∙ ap (λ x. begun x h n) o.wiring
    ∙ ap (λ x. begun (opening k s (tt {0})).wiring x n) o.shared

pub machine_opens : (k : Constants) (s : Setup) (m : Machine) → Opens k s m → opened_world s m ≡ opening k s (tt {0})
unfolding opening
machine_opens k s m o =
    let w : World (Unit {0}) = opened_world s m in
    let z : World (Unit {0}) = opening k s (tt {0}) in
    ap (λ x. record w { shared = x }) o.shared
    ∙ ap (λ x. record w { shared = z.shared; wiring = x }) o.wiring
    ∙ ap (λ x. record w { shared = z.shared; wiring = z.wiring; phases = x }) o.phases
    ∙ ap (λ x. record z { guest = drop x s.guest; control = w.control; takes = w.takes; uses = w.uses; written = w.written; harvests = w.harvests }) o.acted
    ∙ ap (λ x. record z { control = x; takes = w.takes; uses = w.uses; written = w.written; harvests = w.harvests }) (control_opens k s m o)
    ∙ ap (λ x. record z { takes = x; uses = w.uses; written = w.written; harvests = w.harvests }) o.takes
    ∙ ap (λ x. record z { uses = x; written = w.written; harvests = w.harvests }) o.uses
    ∙ ap (λ x. record z { written = x; harvests = w.harvests }) o.written
    ∙ ap (λ x. record z { harvests = x }) o.harvests
