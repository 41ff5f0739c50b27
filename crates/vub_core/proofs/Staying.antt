-- What control has to do stays in the turns of others.
use Rattle.std.proofs.Common.{◌≡◌, ℕ, List, map, drop, sym, ap, subst, ◌∙◌}
use Rattle.std.specs.Global.{Vec}
use Rattle.vub_mem.specs.declared.region.Region.{Region}
use Rattle.vub_proto.specs.declared.answer.Answer.{Answer}
use Rattle.vub_model.specs.declared.party.Party.{Party}
use Rattle.vub_model.specs.declared.play.Play.{Play}
use Rattle.vub_model.specs.declared.setup.Setup.{Setup}
use Rattle.vub_model.specs.Control.{Control, begun_from}
use Rattle.vub_model.specs.Frame.{Frame, known_of, frame_of}
use Rattle.vub_model.specs.RunOf.{Turn}
use Rattle.vub_model.specs.Service.{Meaning}
use Rattle.vub_model.specs.World.{World}
use Rattle.vub_vring.specs.Store.{shared_of}
use Rattle.vub_plan.specs.Halves.{Begun, plan_at}
use Rattle.vub_handler.specs.Player.{Player}
use Rattle.vub_core.specs.declared.machine.Machine.{Machine}
use Rattle.vub_core.specs.Machine.{begun_of}
use Rattle.vub_core.proofs.Framed.{Framed}

module _ {V : Type 0} (setup : Setup) (old new : Machine) (v z : V) (framed : Framed (shared_of old.store v) (shared_of new.store z)) (handler : new.handler ≡ old.handler) where
  pub control-kept : new.half ≡ old.half → new.asked ≡ old.asked → new.answers ≡ old.answers → begun_of setup new ≡ begun_of setup old
  control-kept half asked answers =
      let C : List Region → Player → Begun → ℕ → List Answer → Control = λ rs p b n given. record { session = p.session; plan = plan_at rs b; requests = drop n setup.requests; answers = given } in
      let B : Frame → List Region → Player → Begun → ℕ → List Answer → Control = λ f rs p b n given. begun_from p.wiring f rs (C rs p b n given) (C rs p b n given).plan.steps (C rs p b n given).requests in
      ap (λ f. B f new.store.memory.guest.regions new.handler new.half new.asked new.answers.items) framed.frame
      ∙ ap (λ rs. B (frame_of (shared_of old.store v)) rs new.handler new.half new.asked new.answers.items) framed.regions
      ∙ ap (λ p. B (frame_of (shared_of old.store v)) old.store.memory.guest.regions p new.half new.asked new.answers.items) handler
      ∙ ap (λ b. B (frame_of (shared_of old.store v)) old.store.memory.guest.regions old.handler b new.asked new.answers.items) half
      ∙ ap (λ n. B (frame_of (shared_of old.store v)) old.store.memory.guest.regions old.handler old.half n new.answers.items) asked
      ∙ ap (λ (given : Vec Answer). B (frame_of (shared_of old.store v)) old.store.memory.guest.regions old.handler old.half old.asked given.items) answers

  pub known-kept : old.handler.known ≡ map known_of old.store.rings.items → new.handler.known ≡ map known_of new.store.rings.items
  known-kept known = ap (λ (p : Player). p.known) handler ∙ known ∙ sym (ap (λ (f : Frame). f.known) framed.frame)

-- a turn of another party, which leaves control
pub with-control : {V : Type 0} (m : Meaning V) (w n : World V) (p : Party) (l : Play) (c : Control) → c ≡ n.control → Turn m w p l (record n { control = c }) → Turn m w p l n
with-control {V} m w n p l c is turn = let T : Control → Type 0 = λ x. Turn m w p l (record n { control = x }) in subst T is turn
