-- In every run of a valid set-up work drains.
use Rattle.std.proofs.Common.{◌≡◌, ℕ, suc, ◌+◌, ◌<◌, ◌≤◌, List, [], ◌∷◌, length, take, drop, slice_set, refl, sym, subst, arith}
use Rattle.vub_model.specs.declared.constants.Constants.{Constants}
use Rattle.vub_model.specs.declared.party.Party.{Party}
use Rattle.vub_model.specs.declared.party.Party.TheVariants as party
use Rattle.vub_model.specs.declared.play.Play.{Play}
use Rattle.vub_model.specs.declared.play.Play.TheVariants as play
use Rattle.vub_model.specs.declared.setup.Setup.{Setup}
use Rattle.vub_model.specs.declared.small.Small.{Small}
use Rattle.vub_model.specs.Control.{MayControl}
use Rattle.vub_model.specs.Opening.{opening}
use Rattle.vub_model.specs.RingRecord.{limit}
use Rattle.vub_model.specs.RunOf.{party_of, Turn, IsRun, EachTurn, next}
use Rattle.vub_model.specs.Service.{Meaning}
use Rattle.vub_model.specs.ValidSetup.{IsValid}
use Rattle.vub_model.specs.Shared.{Shared}
use Rattle.vub_model.specs.Wiring.{Wiring}
use Rattle.vub_model.specs.Work.{Local, MayWork, after_work}
use Rattle.vub_model.specs.declared.phase.Phase.{Phase}
use Rattle.vub_model.specs.World.{World, May, after, phase_at}
use Rattle.vub_model.proofs.EachTurns.{each-turn}
use Rattle.vub_model.proofs.OpeningSound.{opening-sound}
use Rattle.vub_model.proofs.Owners.{within-phases}
use Rattle.vub_model.proofs.Sound.{IsSound, sound-turn}
use Rattle.vub_model.proofs.Turns.{turn-cases}
use Rattle.vub_laws.specs.Draining.{measure, IsPlain, is_step, SameWords, LowersMeasure, AreDone, IsDraining, Drains, EventsArePlain, StepLowers}
use Rattle.vub_laws.specs.Stretches.{world_at}
use Rattle.vub_laws.proofs.Drains.{drains}
use Rattle.vub_laws.proofs.Plain.{plain-turn, opening-plain}
use Rattle.vub_laws.proofs.Stretches.{run-next, run-later, run-first, each-later, each-first}

-- what is known wherever a run comes to
pub record Goes {V : Type 0} (more : ℕ) (w : World V) : Type 0 where
  pub sound : IsSound more w
  pub plain : IsPlain w.wiring w.shared.table

pass-none : (p : Party) → is_step p play.Pass ≡ 0
pass-none party.Guest = refl
pass-none party.Control = refl
pass-none (party.Worker j) = refl

module _ {V : Type 0} (m : Meaning V) where
  lowers-step : (n : ℕ) (w : World V) (o : Goes (suc n) w) (p : Party) (l : Play) → May w p l → LowersMeasure w p l (after m w p l)
  lowers-step n w o (party.Worker j) l may one words =
      let i = o.sound.invariant in
      let within = within-phases w.wiring w.shared w.phases j l may in
      let less = drains m w o.sound.calm i o.plain j (omega (arith, within, i.phases_size)) l may words in
      omega (arith, less)
  lowers-step n w o party.Guest l may one words = absurd (omega (arith, one))
  lowers-step n w o party.Control l may one words = absurd (omega (arith, one))

  lowers-turn : (n : ℕ) (w : World V) (p : Party) (l : Play) (z : World V) → Goes (suc n) w → Turn m w p l z → LowersMeasure w p l z
  lowers-turn n w p l z o turn =
      turn-cases m w p z (λ l. LowersMeasure w p l z)
      (λ same one. absurd (let none = pass-none p in omega (arith, one, none)))
      (λ l may is. let K : World V → Type 0 = λ x. LowersMeasure w p l x in subst K (sym is) (lowers-step n w o p l may)) l turn

  -- at each turn of a run from a world like the opening
  pub each-lowers : (turns : List ℕ) (plays : List Play) (w z : World V) → Goes (length turns) w → IsRun m turns plays w z → EachTurn LowersMeasure m turns plays w
  each-lowers turns plays w z o run =
      (each-turn m (λ n x. Goes n x) LowersMeasure
      (λ n w p l z o turn. (lowers-turn n w p l z o turn, record { sound = sound-turn m n w p l z o.sound turn; plain = plain-turn m w p l z turn o.plain }))
      turns plays w z o run).0

  -- and leaves the events plain
  pub plain-run : (turns : List ℕ) (plays : List Play) (w z : World V) → Goes (length turns) w → IsRun m turns plays w z → EventsArePlain m turns plays w
  plain-run turns plays w z o run = record {
    first = o.plain;
    later =
        (each-turn m (λ n x. Goes n x) (λ w p l z. IsPlain z.wiring z.shared.table)
        (λ n w p l z o turn. let plain = plain-turn m w p l z turn o.plain in (plain, record { sound = sound-turn m n w p l z o.sound turn; plain = plain }))
        turns plays w z o run).0;
  }

  -- a turn where guest and control are done
  record Falls (w : World V) (p : Party) (l : Play) (z : World V) : Type 0 where
    done : AreDone z
    falls : is_step p l + measure z ≤ measure w

  control-none : (w : World V) → AreDone w → (s : Small) (said : _) → MayControl w.shared w.control.plan.steps s said → ⊥
  control-none w done s said may = let M : List Small → Type 0 = λ steps. MayControl w.shared steps s said in subst M done.1 may

  falls-turn : (w : World V) (p : Party) (l : Play) → AreDone w → Turn m w p l (next m w p l) → LowersMeasure w p l (next m w p l) → SameWords w (next m w p l) → Falls w p l (next m w p l)
  falls-turn w p play.Pass done turn lowers words = let none = pass-none p in record { done = done; falls = omega (arith, none) }
  falls-turn w party.Guest play.Guest done turn lowers words = absurd (turn.0 done.0)
  falls-turn w party.Guest l done turn lowers words = absurd turn.0
  falls-turn w party.Control (play.Control s said) done turn lowers words = absurd (control-none w done s said turn.0)
  falls-turn w party.Control l done turn lowers words = absurd turn.0
  falls-turn w (party.Worker j) l done turn lowers words = record { done = done; falls = (let less = lowers refl words in omega (arith, less)) }

  draining : (turns : List ℕ) (plays : List Play) (w z : World V) → IsRun m turns plays w z → EachTurn LowersMeasure m turns plays w → IsDraining m turns plays w
  draining [] plays w z run lowers done words = omega arith
  draining (turn ∷ turns) [] w z run lowers done words = omega arith
  draining (turn ∷ turns) (l ∷ plays) w z run lowers done words =
      let now = run-next m turn turns l plays w z run in
      let one = falls-turn w (party_of turn) l done now.0 lowers.0 words.0 in
      let rest = draining turns plays (next m w (party_of turn) l) z now.1 lowers.1 one.done words.1 in
      let first = one.falls in
      omega (arith, first, rest)

  -- from a world like the opening
  pub drains-run : (turns : List ℕ) (plays : List Play) (w z : World V) → Goes (length turns) w → IsRun m turns plays w z → Drains m turns plays w
  drains-run turns plays w z o run =
      let lowers = each-lowers turns plays w z o run in
      record {
        lowers = lowers;
        ends = λ place count.
            let later = run-later m place turns plays w z run in
            let mid = world_at m turns plays w place in
            draining (take count (drop place turns)) (take count (drop place plays)) mid (world_at m (drop place turns) (drop place plays) mid count)
            (run-first m count (drop place turns) (drop place plays) mid z later)
            (each-first m LowersMeasure count (drop place turns) (drop place plays) mid (each-later m LowersMeasure place turns plays w lowers));
      }

-- of the opening of a valid set-up too
pub opening-goes : {V : Type 0} (constants : Constants) (setup : Setup) (v : V) → IsValid constants setup → (more : ℕ) → more < limit → Goes more (opening constants setup v)
opening-goes constants setup v valid more short = record { sound = opening-sound constants setup v valid more short; plain = opening-plain constants setup v }

-- a worker's step lowers the measure, as it is told of the worker alone
pub step-lowers : {V : Type 0} (m : Meaning V) (g : Wiring) (k : ℕ) (old : Shared V) (before : Phase) (l : Play) (z : Local V) → MayWork g k old before l → z ≡ after_work m g k old before l → StepLowers g k before old z.phase z.shared
step-lowers {V} m g k old before l z may is w calm wired same stands i plain words =
    let G : Wiring → Shared V → Phase → Local V → Type 0 = λ g old before z. MayWork g k old before l → IsPlain g old.table → SameWords w (record w { shared = z.shared }) → measure (record w { shared = z.shared; phases = slice_set w.phases k z.phase }) < measure w in
    let here : G w.wiring w.shared (phase_at w.phases k) (after_work m w.wiring k w.shared (phase_at w.phases k) l) = λ may plain words.
    let within = within-phases w.wiring w.shared w.phases k l may in
    let less = drains m w calm i plain k (let sized = i.phases_size in omega (arith, within, sized)) l may words in
    omega (arith, less) in
    let one : G g w.shared (phase_at w.phases k) (after_work m g k w.shared (phase_at w.phases k) l) = subst (λ x. G x w.shared (phase_at w.phases k) (after_work m x k w.shared (phase_at w.phases k) l)) wired here in
    let two : G g old (phase_at w.phases k) (after_work m g k old (phase_at w.phases k) l) = subst (λ x. G g x (phase_at w.phases k) (after_work m g k x (phase_at w.phases k) l)) same one in
    let three : G g old before (after_work m g k old before l) = subst (λ x. G g old x (after_work m g k old x l)) stands two in
    (subst (λ x. G g old before x) (sym is) three) may plain words
