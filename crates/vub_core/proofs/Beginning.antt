-- The next request is begun where it is due.
use Rattle.std.proofs.Common.{◌≡◌, ℕ, zero, suc, ◌+◌, ◌<◌, ◌≤◌, Bool, true, false, List, [], ◌∷◌, length, map, drop, get_or, refl, sym, ap, subst, ◌∙◌, arith}
use Rattle.std.specs.List.{AllByRecursion}
use Rattle.std.proofs.lemmas.List.{drop_more, drop_all}
use Rattle.vub_proto.specs.declared.request.Request.{Request}
use Rattle.vub_proto.specs.declared.request.Request.TheVariants as request
use Rattle.vub_model.specs.declared.setup.Setup.{Setup}
use Rattle.vub_model.specs.declared.small.Small.{Small}
use Rattle.vub_model.specs.Control.{Control, begun}
use Rattle.vub_model.specs.Frame.{Frame, known_of, frame_of}
use Rattle.vub_model.specs.Plans.{is_empty, plan_of}
use Rattle.vub_model.specs.Schedule as schedule
use Rattle.vub_model.specs.Shared.{Shared}
use Rattle.vub_model.specs.Wiring.{Wiring}
use Rattle.vub_model.proofs.Drive.{begun-goes, begun-ends, begun-next}
use Rattle.vub_vring.specs.Store.{shared_of}
use Rattle.vub_plan.specs.Halves.{Begun, plan_at, IsPlanOf}
use Rattle.vub_plan.specs.Halves as halves
use Rattle.vub_core.specs.declared.machine.Machine.{Machine}
use Rattle.vub_core.specs.Begun.{HasBegun, KeepsParts}
use Rattle.vub_core.specs.Machine.{control_of, begun_of}
use Rattle.vub_core.specs.Ready.{RequestsName}
use Rattle.vub_core.proofs.Plans.{HasStep, plan-goes}

-- where a step is left, nothing begins
pub goes-on : {V : Type 0} (g : Wiring) (h : Shared V) (c : Control) → HasStep c.plan.steps → begun g h c ≡ c
goes-on g h c has = by c.plan.steps refl has where
  by : (steps : List Small) → c.plan.steps ≡ steps → HasStep steps → begun g h c ≡ c
  by [] is has = absurd has
  by (s ∷ rest) is has = begun-goes g h c s rest is

has-step : (steps : List Small) → false ≡ is_empty steps → HasStep steps
has-step [] is = (let bad : false ≡ true = is in absurd cc)
has-step (s ∷ rest) is = tt

has-none : (steps : List Small) → true ≡ is_empty steps → steps ≡ []
has-none [] is = refl
has-none (s ∷ rest) is = (let bad : true ≡ false = is in absurd cc)

names-there : (f : Frame) (r : Request) → schedule.NamesThere f.events r → halves.NamesThere f r
names-there f (request.RegisterListener worker event set token) there = there
names-there f (request.UnregisterListener worker event set token) there = there
names-there f r there = tt

named-at : (events : List Bool) (requests : List Request) (i : ℕ) (d : Request) → i < length requests → AllByRecursion (schedule.NamesThere events) requests → schedule.NamesThere events (get_or requests i d)
named-at events [] i d within all = absurd (omega arith)
named-at events (r ∷ rs) zero d within all = all.0
named-at events (r ∷ rs) (suc i) d within all = named-at events rs i d (omega arith) all.1

module _ (setup : Setup) (old : Machine) where
  abbrev h : Shared (Unit {0})
  h = shared_of old.store (tt {0})

  -- a step is left
  pub none-due : false ≡ is_empty (plan_at old.store.memory.guest.regions old.half).steps → HasBegun setup old old
  none-due is = record {
    begun = sym (goes-on old.handler.wiring h (control_of setup old) (has-step _ is));
    world = refl;
  }

  -- no request is left
  pub none-left : true ≡ is_empty (plan_at old.store.memory.guest.regions old.half).steps → length setup.requests ≤ old.asked → HasBegun setup old old
  none-left is past = record {
    begun = sym (begun-ends old.handler.wiring h (control_of setup old) (has-none _ is) (drop_all old.asked setup.requests past));
    world = refl;
  }

  -- the next begins
  pub one-begun : (new : Machine) (half : Begun) (d : Request) → true ≡ is_empty (plan_at old.store.memory.guest.regions old.half).steps → old.asked < length setup.requests
      → old.handler.known ≡ map known_of old.store.rings.items → RequestsName setup old
      → IsPlanOf old.handler.wiring old.handler.known old.handler.session (get_or setup.requests old.asked d) half
      → KeepsParts old new → new.half ≡ half → new.asked ≡ old.asked + 1 → HasBegun setup old new
  one-begun new half d is within known names planned kept half-is asked =
      let r = get_or setup.requests old.asked d in
      let g = old.handler.wiring in
      let c : Control = control_of setup old in
      let plan : plan_at old.store.memory.guest.regions half ≡ plan_of g (frame_of h) old.store.memory.guest.regions old.handler.session r =
      planned (frame_of h) old.store.memory.guest.regions (sym known) (names-there (frame_of h) r (named-at (frame_of h).events setup.requests old.asked d within names)) in
      let next = begun-next g h c r (drop (old.asked + 1) setup.requests) (has-none _ is) (drop_more setup.requests old.asked d within) in
      let now : control_of setup new ≡ begun_of setup old =
      ap (λ p. record (control_of setup new) { session = p.session }) kept.handler
      ∙ ap (λ s. record c { plan = plan_at s.memory.guest.regions new.half; requests = drop new.asked setup.requests; answers = new.answers.items }) kept.store
      ∙ ap (λ b. record c { plan = plan_at old.store.memory.guest.regions b; requests = drop new.asked setup.requests; answers = new.answers.items }) half-is
      ∙ ap (λ p. record c { plan = p; requests = drop new.asked setup.requests; answers = new.answers.items }) plan
      ∙ ap (λ n. record c { plan = plan_of g (frame_of h) h.guest.regions c.session r; requests = drop n setup.requests; answers = new.answers.items }) asked
      ∙ ap (λ a. record c { plan = plan_of g (frame_of h) h.guest.regions c.session r; requests = drop (old.asked + 1) setup.requests; answers = a.items }) kept.answers
      ∙ sym next in
      let S : Control → Type 0 = λ x. HasStep x.plan.steps in
      let has : HasStep (control_of setup new).plan.steps = subst S (sym (now ∙ next)) (plan-goes g (frame_of h) c.session h.guest.regions r) in
      record {
        begun = now;
        world = goes-on new.handler.wiring (shared_of new.store (tt {0})) (control_of setup new) has ∙ now;
      }
