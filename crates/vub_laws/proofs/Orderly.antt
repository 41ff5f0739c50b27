-- Every run of a valid set-up is orderly.
use Rattle.std.proofs.Common.{◌≡◌, ℕ, suc, ◌+◌, ◌<◌, ◌≤◌, Bool, false, List, [], ◌∷◌, ◌++◌, length, take, drop, append-nil, length-append, take-append-drop, refl, sym, ap, ap₂, ◌∙◌, subst, arith}
use Rattle.vub_model.specs.declared.constants.Constants.{Constants}
use Rattle.vub_model.specs.declared.flight.Flight.{Flight}
use Rattle.vub_model.specs.declared.flight.Flight.TheVariants as flight
use Rattle.vub_model.specs.declared.party.Party.{Party}
use Rattle.vub_model.specs.declared.party.Party.TheVariants as party
use Rattle.vub_model.specs.declared.phase.Phase.{Phase}
use Rattle.vub_model.specs.declared.phase.Phase.TheVariants.{Idle, Stopped}
use Rattle.vub_model.specs.declared.play.Play.{Play}
use Rattle.vub_model.specs.declared.play.Play.TheVariants as play
use Rattle.vub_model.specs.Schedule.{HasInHand}
use Rattle.vub_laws.specs.Draining.{is_step, steps}
use Rattle.vub_laws.proofs.Independent.{guest-phases}
use Rattle.vub_model.specs.declared.setup.Setup.{Setup}
use Rattle.vub_model.specs.Opening.{opening, is_registered}
use Rattle.vub_model.specs.RingRecord.{limit, is_in_flight}
use Rattle.vub_model.specs.RunOf.{party_of, IsRun, next}
use Rattle.vub_model.specs.Running.{calm_end}
use Rattle.vub_model.specs.Service.{Meaning}
use Rattle.vub_model.specs.Shared.{ring_at}
use Rattle.vub_model.specs.ValidSetup.{IsValid}
use Rattle.vub_model.specs.World.{World, phase_at}
use Rattle.vub_model.proofs.OpeningMeets.{opening-meets, opening-untaken}
use Rattle.vub_model.proofs.Openings.{IsWaiting, opening-is-fresh}
use Rattle.vub_model.proofs.OpeningSound.{opening-sound}
use Rattle.vub_model.proofs.SchedRuns.{IsFew, invariant-run, at-rest}
use Rattle.vub_model.proofs.Sound.{IsSound, sound-turn}
use Rattle.vub_laws.specs.Alone.{alone, placings}
use Rattle.vub_laws.specs.EntriesLeft.{entries_left}
use Rattle.vub_laws.specs.Orderly.{calm_at, NoneFliesAtFirst, StandsAlone, IsOrderly, RunsAreOrderly, SchedulesAgree}
use Rattle.vub_laws.specs.Stretches.{world_after, world_at, stretch}
use Rattle.vub_laws.proofs.DrainRuns.{opening-goes, plain-run, drains-run}
use Rattle.vub_laws.proofs.Independent.{as-alone}
use Rattle.vub_laws.proofs.Stretches.{run-next, run-later, run-first}

module _ {V : Type 0} (m : Meaning V) where
  -- a run's last world is the one after its turns
  run-last : (turns : List ℕ) (plays : List Play) (w z : World V) → IsRun m turns plays w z → z ≡ world_after m turns plays w
  run-last [] [] w z run = run
  run-last [] (l ∷ plays) w z run = absurd run
  run-last (turn ∷ turns) [] w z run = absurd run
  run-last (turn ∷ turns) (l ∷ plays) w z run = run-last turns plays (next m w (party_of turn) l) z (run-next m turn turns l plays w z run).1

  -- a run from a sound world leaves one, with as many turns to go as are left
  sound-later : (more : ℕ) (turns : List ℕ) (plays : List Play) (w z : World V) → IsSound (length turns + more) w → IsRun m turns plays w z → IsSound more z
  sound-later more [] [] w z sound run =
      let none : length {A = ℕ} [] + more ≡ more = omega arith in
      subst (λ (x : World V). IsSound more x) (sym run) (subst (λ n. IsSound n w) none sound)
  sound-later more [] (l ∷ plays) w z sound run = absurd run
  sound-later more (turn ∷ turns) [] w z sound run = absurd run
  sound-later more (turn ∷ turns) (l ∷ plays) w z sound run =
      let one : length (turn ∷ turns) + more ≡ suc (length turns + more) = omega arith in
      let now = run-next m turn turns l plays w z run in
      let mid = next m w (party_of turn) l in
      sound-later more turns plays mid z (sound-turn m (length turns + more) w (party_of turn) l mid (subst (λ n. IsSound n w) one sound) now.0) now.1

  -- where no worker steps, the phases stay
  still-turn : (w : World V) (p : Party) (l : Play) → is_step p l ≡ 0 → (next m w p l).phases ≡ w.phases
  still-turn w p play.Pass none = refl
  still-turn w party.Guest play.Guest none = guest-phases w w.guest
  still-turn w party.Guest l none = refl
  still-turn w party.Control (play.Control s said) none = refl
  still-turn w party.Control l none = refl
  still-turn w (party.Worker j) l none = absurd (omega (arith, none))

  still-phases : (turns : List ℕ) (plays : List Play) (w : World V) → steps turns plays ≡ 0 → (world_after m turns plays w).phases ≡ w.phases
  still-phases [] plays w none = refl
  still-phases (turn ∷ turns) [] w none = refl
  still-phases (turn ∷ turns) (l ∷ plays) w none =
      still-phases turns plays (next m w (party_of turn) l) (omega (arith, none)) ∙ still-turn w (party_of turn) l (omega (arith, none))

waiting-hand : (phase : Phase) (q : ℕ) → IsWaiting phase → HasInHand phase q → ⊥
waiting-hand Idle q waits hand = hand
waiting-hand (Stopped cause) q waits hand = hand
waiting-hand phase q waits hand = absurd waits

not-flying : (f : Flight) → (f ≡ flight.InFlight → ⊥) → is_in_flight f ≡ false
not-flying flight.None none = refl
not-flying flight.Held none = refl
not-flying flight.InFlight none = absurd (none refl)

parts-short : (place count : ℕ) (xs : List ℕ) → length (take place xs) + length (stretch place count xs) ≤ length xs
parts-short place count xs =
    let all = sym (length-append (take place xs) (drop place xs)) ∙ ap length (take-append-drop place xs) in
    let rest = drop place xs in
    let some = sym (length-append (take count rest) (drop count rest)) ∙ ap length (take-append-drop count rest) in
    omega (arith, all, some)

module _ {V : Type 0} (m : Meaning V) (constants : Constants) (setup : Setup) (v : V) (schedule : List ℕ) (plays : List Play) (closing : World V) (short : length schedule < limit) (valid : IsValid constants setup) (run : IsRun m schedule plays (opening constants setup v) closing) where
  abbrev start : World V
  start = opening constants setup v

  abbrev first : ℕ → Bool
  first = is_registered constants setup

  stands-alone : StandsAlone m schedule plays start first
  stands-alone place count queue value free undisturbed =
      let w = world_at m schedule plays start place in
      let turns = stretch place count schedule in
      let played = stretch place count plays in
      let z = world_after m turns played w in
      let before = run-first m place schedule plays start closing run in
      let here : IsRun m turns played w z = run-first m count (drop place schedule) (drop place plays) w closing (run-later m place schedule plays start closing run) in
      let size = length (take place schedule) + length turns in
      let fits : size < limit = (let few = parts-short place count schedule in omega (arith, few, short)) in
      let sound : IsSound (length turns) w = sound-later m (length turns) (take place schedule) (take place plays) start w (opening-sound constants setup v valid size fits) before in
      let more : length turns + 0 ≡ length turns = omega arith in
      let last : IsSound 0 z = sound-later m 0 turns played w z (subst (λ n. IsSound n w) (sym more) sound) here in
      let few : IsFew start (length (take place schedule)) = λ q. (let none = opening-untaken constants setup v valid q in omega (arith, none, fits)) in
      let calm = calm_at m schedule plays start first place in
      let held = invariant-run m (take place schedule) (take place plays) start w first few (opening-meets constants setup v valid) before in
      as-alone m value turns played w z (calm_end m turns played w calm) sound last here
      (λ rests. at-rest m turns played w z calm sound.few held here rests) queue free undisturbed

  none-flies : NoneFliesAtFirst m schedule plays start
  none-flies place queue none =
      let w = world_at m schedule plays start place in
      let fresh = opening-is-fresh constants setup v in
      let size = length (take place schedule) in
      let fits : size < limit = (let few = parts-short place 0 schedule in omega (arith, few, short)) in
      let more : size + 0 ≡ size = omega arith in
      let sound = sound-later m 0 (take place schedule) (take place plays) start w (subst (λ n. IsSound n start) (sym more) (opening-sound constants setup v valid size fits)) (run-first m place schedule plays start closing run) in
      not-flying (ring_at w.shared queue).flight
      (λ flies.
      let hand = sound.invariant.flies queue flies in
      let P : List Phase → Type 0 = λ ps. HasInHand (phase_at ps hand.0) queue in
      waiting-hand (phase_at start.phases hand.0) queue (fresh.waiting hand.0) (subst P (still-phases m (take place schedule) (take place plays) start none) hand.2))

  -- for the promise of a run: it is orderly
  pub laws-of-setup : IsOrderly m constants setup v schedule plays closing
  laws-of-setup =
      let goes = opening-goes constants setup v valid (length schedule) short in
      record {
        last = run-last m schedule plays start closing run;
        plain = plain-run m schedule plays start closing goes run;
        drains = drains-run m schedule plays start closing goes run;
        alone = stands-alone;
        free = none-flies;
      }

pub runs-are-orderly : (V : Type 0) → RunsAreOrderly V
runs-are-orderly V m constants setup v schedule plays closing short valid run = laws-of-setup m constants setup v schedule plays closing short valid run

-- both have served all of what is served alone
pub schedules-agree : (V : Type 0) → SchedulesAgree V
schedules-agree V m v q s t ls ks w x y z c d guest ring a out b out' =
    let one = a.all out.rests out.running out.settled in
    let two = b.all out'.rests out'.running out'.settled in
    sym (append-nil (placings m q s ls w)) ∙ sym (ap (λ r. placings m q s ls w ++ r) one) ∙ sym a.front
    ∙ ap₂ (λ g r. alone m v q (entries_left g r) g r) guest ring
    ∙ b.front ∙ ap (λ r. placings m q t ks x ++ r) two ∙ append-nil (placings m q t ks x)
