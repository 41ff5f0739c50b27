-- What a loop that plays a run may rely on at each turn: what the next step of control names is there, a harvest that is
-- next can be made, a request that is yet to begin has the same plan after a turn of another party, and control has no
-- step exactly where its plan is at its end or waits.
use Rattle.std.proofs.Common.{arith, ◌≡◌, ◌↔◌, ℕ, ◌*◌, ◌<◌, Bool, true, false, List, [], ◌∷◌, length, Option, Some, None, is_some, refl, sym, ap, ◌∙◌, subst}
use Rattle.std.specs.List.{AllByRecursion}
use Rattle.std.proofs.Math.ListN.{get_or-map}
use Rattle.vub_event.specs.declared.event.Event.{Event}
use Rattle.vub_event.specs.HostTable.{event_at}
use Rattle.vub_log.specs.Plain.{harvest_count}
use Rattle.vub_proto.specs.declared.device_said.DeviceSaid.{DeviceSaid}
use Rattle.vub_proto.specs.declared.request.Request.{Request}
use Rattle.vub_proto.specs.declared.request.Request.TheVariants as request
use Rattle.vub_model.specs.declared.constants.Constants.{Constants}
use Rattle.vub_model.specs.declared.party.Party.{Party}
use Rattle.vub_model.specs.declared.party.Party.TheVariants as party
use Rattle.vub_model.specs.declared.play.Play.{Play}
use Rattle.vub_model.specs.declared.play.Play.TheVariants as play
use Rattle.vub_model.specs.declared.setup.Guest.{Guest}
use Rattle.vub_model.specs.declared.setup.Guest.TheVariants.{Harvest}
use Rattle.vub_model.specs.declared.setup.Setup.{Setup}
use Rattle.vub_model.specs.declared.small.Small.{Small}
use Rattle.vub_model.specs.declared.small.Small.TheVariants.{Claim, Add, Delete, Listen, Unlisten}
use Rattle.vub_model.specs.Control.{Control, waits_now, StandsStill, MayControl, tail_of, begun, begun_from, played}
use Rattle.vub_model.specs.Frame.{Frame, claim_of, frame_of, is_there}
use Rattle.vub_model.specs.Logs.{log_at}
use Rattle.vub_model.specs.Opening.{opening, wiring_of, new_control}
use Rattle.vub_model.specs.Plans.{plan_of}
use Rattle.vub_model.specs.RunOf.{HasNoStep, Turn}
use Rattle.vub_model.specs.Schedule.{Safe, Fits, First, IsKickAt, RequestFits, NamesThere, Invariant}
use Rattle.vub_model.specs.Service.{Meaning}
use Rattle.vub_model.specs.Shared.{Shared}
use Rattle.vub_model.specs.ValidSetup.{IsValid}
use Rattle.vub_model.specs.Wiring.{Wiring, opened_at}
use Rattle.vub_model.specs.World.{World, phase_at, May, after, after_guest, after_control}
use Rattle.vub_model.proofs.FrameSmall.{frame-small}
use Rattle.vub_model.proofs.LogSound.{CanHarvest}
use Rattle.vub_model.proofs.OpeningMeets.{requests-fit}
use Rattle.vub_model.proofs.Resting.{some-outcome, may-say}
use Rattle.vub_model.proofs.SchedWork.{claim-event}
use Rattle.vub_model.proofs.Shapes.{Shape, alike, acted-shape, shape}
use Rattle.vub_model.proofs.SmallRings.{first-fits}
use Rattle.vub_model.proofs.SmallSteps.{names}
use Rattle.vub_model.proofs.Sound.{IsSound}
use Rattle.vub_model.proofs.Turns.{turn-cases}

-- What the next step names

-- a plan's first step
pub first-is : {V : Type 0} (w : World V) (s : Small) (rest : List Small) → w.control.plan.steps ≡ s ∷ rest → First w.control.plan.steps s
first-is w s rest is = let P : List Small → Type 0 = λ steps. First steps s in subst P (sym is) refl

-- it fits the frame
fits-first : {V : Type 0} (w : World V) (calm : ℕ → Bool) → Invariant w calm → (s : Small) → First w.control.plan.steps s → Fits w.wiring (frame_of w.shared) w.control.plan.reply s (tail_of w.control.plan.steps)
fits-first w calm i s first = by w.control.plan.steps refl first where
  by : (steps : List Small) → w.control.plan.steps ≡ steps → First steps s → Fits w.wiring (frame_of w.shared) w.control.plan.reply s (tail_of w.control.plan.steps)
  by [] is first = absurd first
  by (t ∷ rest) is first =
      let P : List Small → Type 0 = λ l. Safe w.wiring (frame_of w.shared) w.control.plan.reply l in
      let S : Small → Type 0 = λ s. Fits w.wiring (frame_of w.shared) w.control.plan.reply s rest in
      let L : List Small → Type 0 = λ l. Fits w.wiring (frame_of w.shared) w.control.plan.reply s l in
      subst L (sym (ap tail_of is)) (subst S first (subst P is i.safe).0)

claimed-there : (e : Option Event) (queue : ℕ) → claim_of e ≡ Some queue → is_some e ≡ true
claimed-there None queue is = absurd cc
claimed-there (Some e) queue is = refl

-- the worker is there, and so is its interest list
pub record HasList {V : Type 0} (w : World V) (worker : ℕ) : Type 0 where
  pub below : worker < length w.wiring.opened
  pub list : (opened_at w.wiring worker).list < length w.shared.table.lists

module _ {V : Type 0} (n : ℕ) (w : World V) (sound : IsSound n w) where
  has-list : (k : ℕ) → k < length w.wiring.opened → HasList w k
  has-list k below = record { below = below; list = sound.invariant.wired.within k below }

  -- a kick is there, and the worker of its queue
  kick-there : (k t o : ℕ) → IsKickAt w.wiring (frame_of w.shared) k t o → is_there (frame_of w.shared) o ≡ true
  kick-there k t o at =
      get_or-map is_some w.shared.table.objects o None
      ∙ claimed-there (event_at w.shared.table o) at.queue (sym (claim-event w.shared o) ∙ sound.invariant.linked.claimed at.queue o at.kick)

  kick-list : (k t o : ℕ) → IsKickAt w.wiring (frame_of w.shared) k t o → HasList w k
  kick-list k t o at = has-list k (sound.invariant.wired.placed at.queue k t at.placed)

  pub add-there : (k o t : ℕ) → First w.control.plan.steps (Add k o t) → is_there (frame_of w.shared) o ≡ true
  add-there k o t first = kick-there k t o (fits-first w sound.calm sound.invariant (Add k o t) first).0

  pub add-list : (k o t : ℕ) → First w.control.plan.steps (Add k o t) → HasList w k
  add-list k o t first = kick-list k t o (fits-first w sound.calm sound.invariant (Add k o t) first).0

  pub delete-there : (k o : ℕ) → First w.control.plan.steps (Delete k o) → is_there (frame_of w.shared) o ≡ true
  delete-there k o first = let its = fits-first w sound.calm sound.invariant (Delete k o) first in kick-there k its.0 o its.1

  pub delete-list : (k o : ℕ) → First w.control.plan.steps (Delete k o) → HasList w k
  delete-list k o first = let its = fits-first w sound.calm sound.invariant (Delete k o) first in kick-list k its.0 o its.1

  pub listen-there : (k o t : ℕ) → First w.control.plan.steps (Listen k o t) → is_there (frame_of w.shared) o ≡ true
  listen-there k o t first = (fits-first w sound.calm sound.invariant (Listen k o t) first).4

  pub listen-list : (k o t : ℕ) → First w.control.plan.steps (Listen k o t) → HasList w k
  listen-list k o t first = has-list k (fits-first w sound.calm sound.invariant (Listen k o t) first).1

  pub unlisten-there : (k o above : ℕ) → First w.control.plan.steps (Unlisten k o above) → is_there (frame_of w.shared) o ≡ true
  unlisten-there k o above first = (fits-first w sound.calm sound.invariant (Unlisten k o above) first).3

  pub unlisten-list : (k o above : ℕ) → First w.control.plan.steps (Unlisten k o above) → HasList w k
  unlisten-list k o above first = has-list k (fits-first w sound.calm sound.invariant (Unlisten k o above) first).1

  pub claim-there : (o queue : ℕ) → First w.control.plan.steps (Claim o queue) → is_there (frame_of w.shared) o ≡ true
  claim-there o queue first = (fits-first w sound.calm sound.invariant (Claim o queue) first).1

-- What the guest harvests

module _ {V : Type 0} (n : ℕ) (w : World V) (sound : IsSound n w) (object word : ℕ) (actions : List Guest) (next : w.guest ≡ Harvest object word ∷ actions) where
  -- a harvest that is next is of a word that its log has
  pub harvest-has : 4 * word < (log_at w.shared.logs object).len
  harvest-has = let P : List Guest → Type 0 = λ l. AllByRecursion (CanHarvest w.shared.logs) l in (subst P next sound.logs.able).0

  -- which was not harvested as often as it can be
  pub harvest-left : harvest_count (log_at w.shared.logs object) word < 4294967295
  harvest-left = omega (arith, sound.logs.counted object word, sound.logs.few)

-- What a turn leaves

-- a turn of the guest or of a worker leaves wiring, control and the shape of what is shared
pub record LeavesControl {V : Type 0} (old new : World V) : Type 0 where
  pub wiring : new.wiring ≡ old.wiring
  pub control : new.control ≡ old.control
  pub shape : Shape old.shared new.shared

module _ {V : Type 0} (m : Meaning V) (n : ℕ) (w : World V) (sound : IsSound n w) where
  guest-leaves : (actions : List Guest) → LeavesControl w (after_guest w actions)
  guest-leaves [] = record { wiring = refl; control = refl; shape = alike w.shared }
  guest-leaves (action ∷ actions) = record { wiring = refl; control = refl; shape = acted-shape w.shared action }

  step-leaves : (p : Party) (l : Play) → (p ≡ party.Control → ⊥) → May w p l → LeavesControl w (after m w p l)
  step-leaves party.Guest play.Guest other may = guest-leaves w.guest
  step-leaves (party.Worker k) l other may = record { wiring = refl; control = refl; shape = shape m w.wiring k w.shared (phase_at w.phases k) l may (sound.invariant.phases k) }
  step-leaves party.Control l other may = absurd (other refl)
  step-leaves p l other may = absurd may

  pub turn-leaves : (p : Party) (z : World V) → (p ≡ party.Control → ⊥) → (l : Play) → Turn m w p l z → LeavesControl w z
  turn-leaves p z other =
      turn-cases m w p z (λ l. LeavesControl w z)
      (λ same. subst (λ (x : World V). LeavesControl w x) (sym same) (record { wiring = refl; control = refl; shape = alike w.shared }))
      (λ l may is. subst (λ (x : World V). LeavesControl w x) (sym is) (step-leaves p l other may))

  -- so a request that is yet to begin has the same plan after it
  pub begun-kept : (p : Party) (z : World V) → (p ≡ party.Control → ⊥) → (l : Play) → Turn m w p l z → (c : Control) → begun z.wiring z.shared c ≡ begun w.wiring w.shared c
  begun-kept p z other l turn c =
      let its = turn-leaves p z other l turn in
      ap (λ g. begun_from g (frame_of z.shared) z.shared.guest.regions c c.plan.steps c.requests) its.wiring
      ∙ (ap (λ f. begun_from w.wiring f z.shared.guest.regions c c.plan.steps c.requests) its.shape.frame
      ∙ ap (λ rs. begun_from w.wiring (frame_of w.shared) rs c c.plan.steps c.requests) its.shape.regions)

  -- Events: none comes or goes

  is-ready : (steps : List Small) (s : Small) (said : DeviceSaid) → MayControl w.shared steps s said → waits_now w.shared s ≡ false
  is-ready [] s said may = absurd may
  is-ready (t ∷ rest) s said may = let P : Small → Type 0 = λ x. waits_now w.shared x ≡ false in subst P (sym may.0) may.1

  abbrev EventsKept : World V → Type 0
  EventsKept z = (frame_of z.shared).events ≡ (frame_of w.shared).events

  control-events : (s : Small) (said : DeviceSaid) → MayControl w.shared w.control.plan.steps s said → EventsKept (after_control w s said)
  control-events s said may =
      let its = names w.wiring w.shared w.control.plan.reply s (tail_of w.control.plan.steps) (first-fits w sound.calm sound.invariant s said may) in
      ap (λ (f : Frame). f.events) (frame-small w.wiring w.shared s its.0 (is-ready w.control.plan.steps s said may)) ∙ its.1

  step-events : (p : Party) (l : Play) → May w p l → EventsKept (after m w p l)
  step-events party.Guest play.Guest may = ap (λ (f : Frame). f.events) (guest-leaves w.guest).shape.frame
  step-events party.Control (play.Control s said) may = control-events s said may
  step-events (party.Worker k) l may = ap (λ (f : Frame). f.events) (shape m w.wiring k w.shared (phase_at w.phases k) l may (sound.invariant.phases k)).frame
  step-events p l may = absurd may

  pub events-kept : (p : Party) (z : World V) (l : Play) → Turn m w p l z → (frame_of z.shared).events ≡ (frame_of w.shared).events
  events-kept p z =
      turn-cases m w p z (λ l. EventsKept z)
      (λ same. subst EventsKept (sym same) refl)
      (λ l may is. subst EventsKept (sym is) (step-events p l may))

  -- what requests name stays there
  pub names-kept : (p : Party) (z : World V) (l : Play) → Turn m w p l z → (requests : List Request) → AllByRecursion (NamesThere (frame_of w.shared).events) requests → AllByRecursion (NamesThere (frame_of z.shared).events) requests
  names-kept p z l turn requests all =
      let P : List Bool → Type 0 = λ events. AllByRecursion (NamesThere events) requests in
      subst P (sym (events-kept p z l turn)) all

-- A control whose next request is yet to begin

-- the world's control is this one with its next request begun, if one is due
abbrev pub StandsFor : {V : Type 0} → World V → Control → Type 0
StandsFor w c = w.control ≡ begun w.wiring w.shared c

-- so it is at the opening with the set-up's requests, none begun
pub opening-stands-for : {V : Type 0} (constants : Constants) (setup : Setup) (v : V) → StandsFor (opening constants setup v) (new_control setup)
unfolding opening
opening-stands-for constants setup v = refl

-- and after a step of control with what that step makes of it
pub played-stands-for : {V : Type 0} (w : World V) (s : Small) (said : DeviceSaid) → StandsFor (after_control w s said) (played w.wiring w.shared w.control s said)
played-stands-for w s said = refl

-- and it stays so in the turns of other parties
pub stands-for-kept : {V : Type 0} (m : Meaning V) (n : ℕ) (w : World V) → IsSound n w → (p : Party) (z : World V) → (p ≡ party.Control → ⊥) → (l : Play) → Turn m w p l z → (c : Control) → StandsFor w c → StandsFor z c
stands-for-kept m n w sound p z other l turn c is = (turn-leaves m n w sound p z other l turn).control ∙ (is ∙ sym (begun-kept m n w sound p z other l turn c))

module _ {V : Type 0} (g : Wiring) (h : Shared V) (c : Control) where
  -- where a step is left, nothing begins
  pub begun-goes : (s : Small) (rest : List Small) → c.plan.steps ≡ s ∷ rest → begun g h c ≡ c
  begun-goes s rest is = ap (λ steps. begun_from g (frame_of h) h.guest.regions c steps c.requests) is

  -- nor where no request is left
  pub begun-ends : c.plan.steps ≡ [] → c.requests ≡ [] → begun g h c ≡ c
  begun-ends is none =
      ap (λ steps. begun_from g (frame_of h) h.guest.regions c steps c.requests) is
      ∙ ap (λ requests. begun_from g (frame_of h) h.guest.regions c [] requests) none

  -- else the next request does
  pub begun-next : (r : Request) (more : List Request) → c.plan.steps ≡ [] → c.requests ≡ r ∷ more
      → begun g h c ≡ record c { plan = plan_of g (frame_of h) h.guest.regions c.session r; requests = more }
  begun-next r more is are =
      ap (λ steps. begun_from g (frame_of h) h.guest.regions c steps c.requests) is
      ∙ ap (λ requests. begun_from g (frame_of h) h.guest.regions c [] requests) are

-- What requests name

fits-names : (g : Wiring) (events : List Bool) (r : Request) → RequestFits g events r → NamesThere events r
fits-names g events (request.RegisterListener worker object set token) fits = fits.0
fits-names g events (request.UnregisterListener worker object set token) fits = fits
fits-names g events r fits = tt

all-names : (g : Wiring) (events : List Bool) (requests : List Request) → AllByRecursion (RequestFits g events) requests → AllByRecursion (NamesThere events) requests
all-names g events [] fit = tt
all-names g events (r ∷ requests) fit = (fits-names g events r fit.0, all-names g events requests fit.1)

-- the events of the requests that are left are there
pub names-there : {V : Type 0} (n : ℕ) (w : World V) → IsSound n w → AllByRecursion (NamesThere (frame_of w.shared).events) w.control.requests
names-there n w sound = all-names w.wiring (frame_of w.shared).events w.control.requests sound.invariant.requests

-- and at the opening of a valid set-up those of all its requests
pub names-opening : {V : Type 0} (constants : Constants) (setup : Setup) (v : V) → IsValid constants setup → AllByRecursion (NamesThere (frame_of (opening constants setup v).shared).events) setup.requests
names-opening constants setup v valid = all-names (wiring_of constants (length setup.objects)) (frame_of (opening constants setup v).shared).events setup.requests (requests-fit constants setup v valid)

-- Control at rest

module _ {V : Type 0} (w : World V) where
  stands : HasNoStep w party.Control → (steps : List Small) → w.control.plan.steps ≡ steps → StandsStill w.shared steps
  stands none [] is = tt
  stands none (s ∷ rest) is = by (waits_now w.shared s) refl where
    by : (b : Bool) → waits_now w.shared s ≡ b → waits_now w.shared s ≡ true
    by true waits = waits
    by false ready =
        let P : List Small → Type 0 = λ steps. MayControl w.shared steps s (some-outcome s) in
        absurd (none (play.Control s (some-outcome s)) (subst P (sym is) (refl, ready, may-say s)))

  has-none : (steps : List Small) (s : Small) (said : DeviceSaid) → StandsStill w.shared steps → MayControl w.shared steps s said → ⊥
  has-none [] s said still may = may
  has-none (t ∷ rest) s said still may = let waits : waits_now w.shared t ≡ true = still in let ready = may.1 in absurd cc

  no-step : StandsStill w.shared w.control.plan.steps → HasNoStep w party.Control
  no-step still (play.Control s said) may = has-none w.control.plan.steps s said still may
  no-step still l may = may

  -- control has no step exactly where its plan is at its end or waits
  pub control-stands : HasNoStep w party.Control ↔ StandsStill w.shared w.control.plan.steps
  control-stands = ((λ none. stands none w.control.plan.steps refl), no-step)
