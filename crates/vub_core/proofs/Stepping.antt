-- A worker's step with its records, as a turn of the world that the machine keeps.
use Rattle.std.proofs.Common.{◌≡◌, ℕ, ◌<◌, Bool, List, ◌++◌, length, map, get_or, set, Option, sym, ap, subst, ◌∙◌}
use Rattle.std.proofs.lemmas.List.{map-set, get_or-map}
use Rattle.vub_proto.specs.declared.used.Used.{Used}
use Rattle.vub_model.specs.declared.cause.StopCause.TheVariants.{Exit}
use Rattle.vub_model.specs.declared.play.Play.{Play}
use Rattle.vub_model.specs.declared.party.Party.TheVariants as party
use Rattle.vub_model.specs.declared.phase.Phase.{Phase}
use Rattle.vub_model.specs.declared.phase.Phase.TheVariants.{Stopped}
use Rattle.vub_model.specs.declared.records.Harvested.{Harvested}
use Rattle.vub_model.specs.declared.records.Take.{Take}
use Rattle.vub_model.specs.Shared.{Shared}
use Rattle.vub_model.specs.Service.{Meaning}
use Rattle.vub_model.specs.World.{World, phase_at, takes_by}
use Rattle.vub_model.specs.RunOf.{Turn}
use Rattle.vub_loop.specs.declared.finished.Finished.{Finished}
use Rattle.vub_loop.specs.Worker.{Worker}
use Rattle.vub_loop.specs.Finished.{finished_by}
use Rattle.vub_loop.specs.Handler.{phase_of}
use Rattle.vub_core.specs.Stepped.{IsTurn}
use Rattle.vub_core.specs.declared.footprint.Footprint.{Footprint}
use Rattle.vub_core.specs.Places.{IsFootprint}
use Rattle.vub_core.specs.Recorded.{uses_in, IsWritten}
use Rattle.vub_core.proofs.Turned.{turned}

pub phase-here : (workers : List Worker) (k : ℕ) (old : Worker) (phases : List Phase) → phases ≡ map (λ h. phase_of h) workers → k < length workers → old ≡ get_or workers k old → phase_of old ≡ phase_at phases k
phase-here workers k old phases are within is =
    ap (λ h. phase_of h) is ∙ sym (get_or-map (λ h. phase_of h) workers k old (Stopped Exit) within) ∙ ap (λ ps. phase_at ps k) (sym are)

pub machine-turned : {V : Type 0} (m : Meaning V) (w : World V) (k : ℕ) (workers : List Worker) (old h : Worker) (new : Shared V) (now : Phase) (f : Footprint) (finished : Option Finished) (takes : List Take) (uses : List Used) (written : List (List Bool)) (harvests : List Harvested) (l : Play)
    → harvests ≡ w.harvests → w.phases ≡ map (λ h. phase_of h) workers → k < length workers → old ≡ get_or workers k old
    → IsTurn m w.wiring k l (phase_of old) now w.shared new → IsFootprint w.shared.rings (phase_of old) f → finished ≡ finished_by l (phase_of old) now
    → takes ≡ w.takes ++ takes_by l now → uses ≡ w.uses ++ uses_in finished → IsWritten new.guest.regions f l now finished w.written written → phase_of h ≡ now
    → Turn m w (party.Worker k) l (record w { shared = new; phases = map (λ h. phase_of h) (set workers k h); takes = takes; uses = uses; written = written; harvests = harvests })
machine-turned {V} m w k workers old h new now f finished takes uses written harvests l kept are within is row foot done took used wrote stands =
    let here : phase_of old ≡ phase_at w.phases k = phase-here workers k old w.phases are within is in
    let R : Phase → Type 0 = λ p. IsTurn m w.wiring k l p now w.shared new in
    let F : Phase → Type 0 = λ p. IsFootprint w.shared.rings p f in
    let N : Phase → Type 0 = λ p. finished ≡ finished_by l p now in
    let done-here : finished ≡ finished_by l (phase_at w.phases k) now = subst N here done in
    let U : Option Finished → Type 0 = λ x. uses ≡ w.uses ++ uses_in x in
    let W : Option Finished → Type 0 = λ x. IsWritten new.guest.regions f l now x w.written written in
    let turn = turned m w k new now f takes uses written l (subst R here row) (subst F here foot) took (subst U done-here used) (subst W done-here wrote) in
    let phases : set w.phases k now ≡ map (λ h. phase_of h) (set workers k h) = ap (λ ps. set ps k now) are ∙ ap (λ p. set (map (λ h. phase_of h) workers) k p) (sym stands) ∙ sym (map-set (λ h. phase_of h) workers k h) in
    let T : List Phase → Type 0 = λ ps. Turn m w (party.Worker k) l (record w { shared = new; phases = ps; takes = takes; uses = uses; written = written }) in
    let H : List Harvested → Type 0 = λ hs. Turn m w (party.Worker k) l (record w { shared = new; phases = map (λ h. phase_of h) (set workers k h); takes = takes; uses = uses; written = written; harvests = hs }) in
    subst H (sym kept) (subst T phases turn)
