-- The schedule invariant holds along every run, so that no kick is lost at rest.
use Rattle.std.proofs.Common.{◌≡◌, ◌≢◌, ℕ, ◌+◌, ◌<◌, ◌≤◌, Bool, true, false, cond, not, ◌&&◌, List, [], ◌∷◌, length, refl, sym, ap, ◌∙◌, subst, arith, eqb}
use Rattle.std.proofs.lemmas.Bool.{and_parts}
use Rattle.vub_model.specs.declared.play.Play.{Play}
use Rattle.vub_model.specs.declared.play.Play.TheVariants as play
use Rattle.vub_model.specs.declared.party.Party.{Party}
use Rattle.vub_model.specs.declared.party.Party.TheVariants as party
use Rattle.vub_model.specs.declared.setup.Guest.{Guest}
use Rattle.vub_model.specs.declared.setup.Guest.TheVariants.{Store, Signal, Harvest}
use Rattle.vub_model.specs.RingRecord.{limit}
use Rattle.vub_model.specs.Shared.{ring_at}
use Rattle.vub_model.specs.Service.{Meaning}
use Rattle.vub_model.specs.World.{World, May, after, after_guest}
use Rattle.vub_model.specs.RunOf.{party_of, Turn, IsRun, IsAtRest}
use Rattle.vub_model.specs.Running.{index_word, signals, signals_kick, unsettles, calm_after, calm_end, NoneIsLost}
use Rattle.vub_model.specs.Schedule.{Invariant}
use Rattle.vub_model.proofs.Turns.{turn-cases, turn-next}
use Rattle.vub_model.proofs.SchedWork.{sched-worker, taken-worker}
use Rattle.vub_model.proofs.SchedGuest.{sched-guest}
use Rattle.vub_model.proofs.SchedControl.{sched-control}
use Rattle.vub_model.proofs.SmallRings.{small-leaves}
use Rattle.vub_model.proofs.Resting.{none-left}

-- each ring has fewer entries taken than the limit, also after this many more
abbrev pub IsFew : {V : Type 0} → World V → ℕ → Type 0
IsFew w more = (q : ℕ) → (ring_at w.shared q).taken + more < limit

guest-step : {V : Type 0} (w : World V) (calm : ℕ → Bool) → Invariant w calm → (actions : List Guest) → actions ≢ []
    → Invariant (after_guest w actions) (λ q. cond (signals_kick w.shared actions q) true (calm q && eqb (index_word (after_guest w actions).shared q) (index_word w.shared q)))
guest-step w calm i [] some = absurd (some refl)
guest-step w calm i (action ∷ actions) some = sched-guest w calm i action actions

-- a step that may be played keeps the invariant
pub invariant-step : {V : Type 0} (m : Meaning V) (w : World V) (calm : ℕ → Bool) → IsFew w 0 → Invariant w calm → (p : Party) (l : Play) → May w p l → Invariant (after m w p l) (calm_after w p l (after m w p l) calm)
invariant-step m w calm few i party.Guest play.Guest may = guest-step w calm i w.guest may
invariant-step m w calm few i (party.Worker k) l may = sched-worker m w calm (λ q. omega (arith, few q)) i k l may
invariant-step m w calm few i party.Control (play.Control s said) may = sched-control w calm i s said may
invariant-step m w calm few i p l may = absurd may

guest-few : {V : Type 0} (w : World V) (actions : List Guest) (q : ℕ) → (ring_at (after_guest w actions).shared q).taken ≤ (ring_at w.shared q).taken + 1
guest-few w [] q = omega arith
guest-few w (Store object offset bytes ∷ actions) q = omega arith
guest-few w (Harvest object word ∷ actions) q = omega arith
guest-few w (Signal object ∷ actions) q = omega arith

-- and takes one entry at most
few-step : {V : Type 0} (m : Meaning V) (w : World V) (calm : ℕ → Bool) → IsFew w 0 → Invariant w calm → (p : Party) (l : Play) → May w p l → (q : ℕ) → (ring_at (after m w p l).shared q).taken ≤ (ring_at w.shared q).taken + 1
few-step m w calm few i party.Guest play.Guest may q = guest-few w w.guest q
few-step m w calm few i (party.Worker k) l may q = taken-worker m w calm (λ q. omega (arith, few q)) i k l may q
few-step m w calm few i party.Control (play.Control s said) may q = let l = (small-leaves w calm i s said may q).taken in omega (arith, l)
few-step m w calm few i p l may q = absurd may

-- where fewer queues are calm the invariant says less
calmer : {V : Type 0} (w : World V) (calm now : ℕ → Bool) → ((q : ℕ) → now q ≡ true → calm q ≡ true) → Invariant w calm → Invariant w now
calmer w calm now less i = record {
  rings_size = i.rings_size;
  phases_size = i.phases_size;
  pending_size = i.pending_size;
  linked = i.linked;
  wired = i.wired;
  safe = i.safe;
  requests = i.requests;
  numbers = i.numbers;
  phases = i.phases;
  flies = i.flies;
  hands = i.hands;
  rung = i.rung;
  awake = λ q k n o at goes kick member on addresses calms left. i.awake q k n o at goes kick member on addresses (less q calms) left;
}

no-unsettle : {V : Type 0} (w : World V) (p : Party) (q : ℕ) → unsettles w p play.Pass q ≡ false
no-unsettle w party.Guest q = refl
no-unsettle w party.Control q = refl
no-unsettle w (party.Worker k) q = refl

no-signal : {V : Type 0} (w : World V) (p : Party) (q : ℕ) → signals w p play.Pass q ≡ false
no-signal w party.Guest q = refl
no-signal w party.Control q = refl
no-signal w (party.Worker k) q = refl

passed-calm : {V : Type 0} (w z : World V) (p : Party) (calm : ℕ → Bool) (q : ℕ) → calm_after w p play.Pass z calm q ≡ true → calm q ≡ true
passed-calm w z p calm q is =
    let here : cond false true (calm q && eqb (index_word z.shared q) (index_word w.shared q)) ≡ true = ap (λ b. cond false true (not b && calm q && eqb (index_word z.shared q) (index_word w.shared q))) (sym (no-unsettle w p q)) ∙ (ap (λ b. cond b true (not (unsettles w p play.Pass q) && calm q && eqb (index_word z.shared q) (index_word w.shared q))) (sym (no-signal w p q)) ∙ is) in
    (and_parts (calm q) (eqb (index_word z.shared q) (index_word w.shared q)) here).0

pub invariant-turn : {V : Type 0} (m : Meaning V) (w : World V) (p : Party) (z : World V) (calm : ℕ → Bool) → IsFew w 0 → Invariant w calm → (l : Play) → Turn m w p l z → Invariant z (calm_after w p l z calm)
invariant-turn {V} m w p z calm few i =
    turn-cases m w p z (λ l. Invariant z (calm_after w p l z calm))
    (λ same. calmer z calm (calm_after w p play.Pass z calm) (λ q is. passed-calm w z p calm q is) (let K : World V → Type 0 = λ x. Invariant x calm in subst K (sym same) i))
    (λ l may is. let K : World V → Type 0 = λ x. Invariant x (calm_after w p l x calm) in subst K (sym is) (invariant-step m w calm few i p l may))

pub few-turn : {V : Type 0} (m : Meaning V) (w : World V) (p : Party) (z : World V) (calm : ℕ → Bool) (more : ℕ) → IsFew w (more + 1) → Invariant w calm → (l : Play) → Turn m w p l z → IsFew z more
few-turn {V} m w p z calm more few i =
    let K : World V → Type 0 = λ x. IsFew x more in
    turn-cases m w p z (λ l. IsFew z more)
    (λ same. subst K (sym same) (λ q. omega (arith, few q)))
    (λ l may is. subst K (sym is) (λ q. omega (arith, few q, few-step m w calm (λ q. omega (arith, few q)) i p l may q)))

-- the invariant holds at the end of a run
pub invariant-run : {V : Type 0} (m : Meaning V) (turns : List ℕ) (labels : List Play) (w z : World V) (calm : ℕ → Bool) → IsFew w (length turns) → Invariant w calm → IsRun m turns labels w z → Invariant z (calm_end m turns labels w calm)
invariant-run {V} m [] [] w z calm few i run = let K : World V → Type 0 = λ x. Invariant x calm in subst K (sym run) i
invariant-run {V} m [] (l ∷ labels) w z calm few i run = absurd run
invariant-run {V} m (turn ∷ turns) [] w z calm few i run = absurd run
invariant-run {V} m (turn ∷ turns) (l ∷ labels) w z calm few i run =
    let p = party_of turn in
    let mid = invariant-turn m w p run.0 calm (λ q. omega (arith, few q)) i l run.1 in
    let still = few-turn m w p run.0 calm (length turns) (λ q. omega (arith, few q)) i l run.1 in
    let rest = invariant-run m turns labels run.0 z (calm_after w p l run.0 calm) still mid run.2 in
    let C : World V → Type 0 = λ x. Invariant z (calm_end m turns labels x (calm_after w p l x calm)) in
    subst C (turn-next m w p l run.0 run.1) rest

-- no kick is lost in a run from a world with the invariant
pub at-rest : {V : Type 0} (m : Meaning V) (turns : List ℕ) (labels : List Play) (w z : World V) (calm : ℕ → Bool) → IsFew w (length turns) → Invariant w calm → IsRun m turns labels w z → IsAtRest z → NoneIsLost z (calm_end m turns labels w calm)
at-rest m turns labels w z calm few i run rest = none-left z (calm_end m turns labels w calm) (invariant-run m turns labels w z calm few i run) rest
