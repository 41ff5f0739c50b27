-- A step of control with what the machine records of it is a turn of the world.
use Rattle.std.proofs.Common.{◌≡◌, List, [], ◌∷◌, ◌++◌, map, drop, append-nil, refl, sym, ap, subst, ◌∙◌}
use Rattle.std.specs.Option.{option_to_list}
use Rattle.vub_proto.specs.declared.device_said.DeviceSaid.{DeviceSaid}
use Rattle.vub_model.specs.declared.label.Label.{Label}
use Rattle.vub_model.specs.declared.label.Label.TheVariants as label
use Rattle.vub_model.specs.declared.party.Party.TheVariants as party
use Rattle.vub_model.specs.declared.play.Play.TheVariants as play
use Rattle.vub_model.specs.declared.records.DeviceCall.{DeviceCall}
use Rattle.vub_model.specs.declared.setup.Setup.{Setup}
use Rattle.vub_model.specs.declared.small.Small.{Small}
use Rattle.vub_model.specs.declared.small.Small.TheVariants.{Device as Asks}
use Rattle.vub_model.specs.Control.{Control, StandsStill, MayControl, begun, played, small_after}
use Rattle.vub_model.specs.DeviceCalls.{Call, Telling, call_at, device_call}
use Rattle.vub_model.specs.RunOf.{Turn}
use Rattle.vub_model.specs.Service.{Meaning}
use Rattle.vub_model.specs.Shared.{Shared}
use Rattle.vub_model.specs.World.{World}
use Rattle.vub_model.proofs.Drive.{control-stands}
use Rattle.vub_vring.specs.Store.{shared_of}
use Rattle.vub_loop.specs.Handler.{phase_of}
use Rattle.vub_plan.specs.Halves.{plan_at}
use Rattle.vub_handler.specs.declared.played.Played.{Played}
use Rattle.vub_core.specs.declared.machine.Machine.{Machine}
use Rattle.vub_core.specs.Begun.{HasBegun, KeepsParts}
use Rattle.vub_core.specs.DeviceRun.{DeviceState, HasMade}
use Rattle.vub_core.specs.Machine.{control_of, begun_of, world_of}
use Rattle.vub_handler.specs.Acting.{called}
use Rattle.vub_core.specs.Session.{Sitting, IsPlayedStep, StoodStill, asked_first}
use Rattle.vub_core.specs.Turned.{HasTurned}

-- Calls

pub call-is : {V : Type 0} (w : World V) (s : Small) (said : DeviceSaid) → call_at w party.Control (play.Control s said) ≡ called s said
call-is w (Asks op) said = refl
call-is w s said = refl

asked-alone : (s : Small) (rest : List Small) → asked_first (s ∷ rest) ≡ asked_first (s ∷ [])
asked-alone (Asks op) rest = refl
asked-alone s rest = refl

-- the step that was played is the first
pub asked-is : {V : Type 0} (h : Shared V) (steps : List Small) (s : Small) (said : DeviceSaid) → MayControl h steps s said → asked_first steps ≡ asked_first (s ∷ [])
asked-is h [] s said may = absurd may
asked-is h (t ∷ rest) s said may = asked-alone t rest ∙ ap (λ x. asked_first (x ∷ [])) (sym may.0)

-- Worlds

module _ {V : Type 0} (setup : Setup) (old new : Machine) (v z : V) where
  others : new.workers ≡ old.workers → new.acted ≡ old.acted → new.records ≡ old.records
      → world_of setup new z ≡ record (world_of setup old v) { shared = shared_of new.store z; wiring = new.handler.wiring; control = begun_of setup new }
  others workers acted records =
      let n : World V = world_of setup new z in
      ap (λ ws. record n { phases = map (λ w. phase_of w) ws.items }) workers
      ∙ ap (λ k. record n { phases = map (λ w. phase_of w) old.workers.items; guest = drop k setup.guest }) acted
      ∙ ap (λ r. record n { phases = map (λ w. phase_of w) old.workers.items; guest = drop old.acted setup.guest; takes = r.takes.items; uses = r.uses.items; written = r.written; harvests = r.harvests.items }) records

-- where the next request is begun, the world is the same
pub world-begun : {V : Type 0} (setup : Setup) (old new : Machine) (v : V) → HasBegun setup old new → KeepsParts old new → world_of setup new v ≡ world_of setup old v
world-begun setup old new v has kept =
    let w = world_of setup old v in
    others setup old new v v kept.workers kept.acted kept.records
    ∙ ap (λ s. record w { shared = shared_of s v; wiring = new.handler.wiring; control = begun_of setup new }) kept.store
    ∙ ap (λ h. record w { wiring = h.wiring; control = begun_of setup new }) kept.handler
    ∙ ap (λ c. record w { control = c }) has.world

module _ {V D : Type 0} (m : Meaning V) (t : Telling D) (setup : Setup) (old mid new : Machine) (v z : V) (has : HasBegun setup old mid) (kept : KeepsParts old mid) (d e : DeviceState D)
    (workers : new.workers ≡ mid.workers) (acted : new.acted ≡ mid.acted) (records : new.records ≡ mid.records) (asked : new.asked ≡ mid.asked) where
  -- the next request is begun
  same : begun_of setup mid ≡ control_of setup mid
  same = has.world ∙ sym has.begun

  abbrev w : World V
  w = world_of setup mid v

  abbrev before : Sitting
  before = record { player = mid.handler; half = mid.half }

  abbrev now : Sitting
  now = record { player = new.handler; half = new.half }

  control-played : (p : Played) (step : IsPlayedStep t before now (shared_of mid.store v) (shared_of new.store z) d e p) → new.answers.items ≡ mid.answers.items ++ option_to_list p.answer
      → control_of setup new ≡ played mid.handler.wiring (shared_of mid.store v) (control_of setup mid) p.small step.said
  control-played p step answers =
      let c : Control = control_of setup new in
      ap (λ x. record c { session = x }) step.row.session
      ∙ ap (λ x. record (played mid.handler.wiring (shared_of mid.store v) (control_of setup mid) p.small step.said) { plan = x; requests = drop new.asked setup.requests; answers = new.answers.items }) step.row.rest
      ∙ ap (λ n. record (played mid.handler.wiring (shared_of mid.store v) (control_of setup mid) p.small step.said) { requests = drop n setup.requests; answers = new.answers.items }) asked
      ∙ ap (λ x. record (played mid.handler.wiring (shared_of mid.store v) (control_of setup mid) p.small step.said) { answers = x }) (answers ∙ ap (λ x. mid.answers.items ++ x) step.row.answer)

  step-turn : (p : Played) (step : IsPlayedStep t before now (shared_of mid.store v) (shared_of new.store z) d e p) → new.answers.items ≡ mid.answers.items ++ option_to_list p.answer
      → Turn m w party.Control (play.Control p.small step.said) (world_of setup new z)
  step-turn p step answers =
      let h : Shared V = shared_of mid.store v in
      let z-shared : Shared V = shared_of new.store z in
      let g = mid.handler.wiring in
      let c = played g h (control_of setup mid) p.small step.said in
      let may : MayControl h (begun_of setup mid).plan.steps p.small step.said = (let P : Control → Type 0 = λ x. MayControl h x.plan.steps p.small step.said in subst P (sym same) step.row.may) in (
        may,
        others setup mid new v z workers acted records
            ∙ ap (λ x. record w { shared = z-shared; wiring = new.handler.wiring; control = begun new.handler.wiring z-shared x }) (control-played p step answers)
            ∙ ap (λ x. record w { shared = z-shared; wiring = x; control = begun x z-shared c }) step.wiring
            ∙ ap (λ x. record w { shared = x; control = begun g x c }) step.row.shared
            ∙ ap (λ x. record w { shared = small_after g h p.small; control = begun g (small_after g h p.small) (played g h x p.small step.said) }) (sym same),
      )

  -- a step of control
  pub step-turned : (l : Label) (calls : List DeviceCall) (p : Played) (step : IsPlayedStep t before now (shared_of mid.store v) (shared_of new.store z) d e p) → l ≡ label.Control p.small → new.answers.items ≡ mid.answers.items ++ option_to_list p.answer
      → calls ≡ old.calls.items ++ map device_call (called p.small step.said)
      → HasTurned m t party.Control l (world_of setup old v) (world_of setup new z) old.calls.items calls d e
  step-turned l calls p step is answers recorded =
      let begun-same = world-begun setup old mid v has kept in
      let own = call-is (world_of setup old v) p.small step.said in
      let T : World V → Type 0 = λ x. Turn m x party.Control (play.Control p.small step.said) (world_of setup new z) in
      let M : List Call → Type 0 = λ cs. HasMade t d e cs in
      record {
        play = play.Control p.small step.said;
        label_is = is;
        turn = subst T begun-same (step-turn p step answers);
        least = tt;
        made = subst M (sym own) step.made;
        recorded_is = recorded ∙ ap (λ cs. old.calls.items ++ map device_call cs) (sym own);
        fits = tt;
      }

  -- a pass of control
  still-turn : StoodStill t before now (shared_of mid.store v) (shared_of new.store z) d e → new.answers.items ≡ mid.answers.items → Turn m w party.Control play.Pass (world_of setup new z)
  still-turn still answers =
      let h : Shared V = shared_of mid.store v in
      let S : Control → Type 0 = λ x. StandsStill h x.plan.steps in
      let C : Shared V → Sitting → Control = λ x s. record { session = s.player.session; plan = plan_at x.guest.regions s.half; requests = drop new.asked setup.requests; answers = new.answers.items } in (
        (control-stands w).1 (subst S (sym same) still.still),
        others setup mid new v z workers acted records
            ∙ ap (λ x. record w { shared = x; wiring = new.handler.wiring; control = begun new.handler.wiring x (C x now) }) still.shared
            ∙ ap (λ s. record w { wiring = s.player.wiring; control = begun s.player.wiring h (C h s) }) still.sitting
            ∙ ap (λ n. record w { control = begun mid.handler.wiring h (record (control_of setup mid) { requests = drop n setup.requests; answers = new.answers.items }) }) asked
            ∙ ap (λ x. record w { control = begun mid.handler.wiring h (record (control_of setup mid) { answers = x }) }) answers,
      )

  pub still-turned : (l : Label) (calls : List DeviceCall) → StoodStill t before now (shared_of mid.store v) (shared_of new.store z) d e → l ≡ label.Pass → new.answers.items ≡ mid.answers.items → calls ≡ old.calls.items
      → HasTurned m t party.Control l (world_of setup old v) (world_of setup new z) old.calls.items calls d e
  still-turned l calls still is answers recorded =
      let T : World V → Type 0 = λ x. Turn m x party.Control play.Pass (world_of setup new z) in
      record {
        play = play.Pass;
        label_is = is;
        turn = subst T (world-begun setup old mid v has kept) (still-turn still answers);
        least = tt;
        made = still.made;
        recorded_is = recorded ∙ sym (append-nil old.calls.items);
        fits = tt;
      }
