-- A schedule has one run whose polls take the ready member with the least number: its labels and the world in which it
-- ends are determined by the world in which it begins.
use Rattle.std.proofs.Common.{◌≡◌, ℕ, suc, ◌≤◌, ◌==◌, Bool, true, false, ◌||◌, Contains, List, [], ◌∷◌, refl, sym, ap, ◌∙◌, subst, arith, ◌++◌}
use Rattle.std.specs.List.{list_any}
use Rattle.std.proofs.lemmas.Bool.{eqb-true, false≢true}
use Rattle.vub_event.specs.declared.ready.Ready.{Ready}
use Rattle.vub_event.specs.HostTable.{ready_members}
use Rattle.vub_model.specs.declared.entry.Entry.{Entry}
use Rattle.vub_model.specs.declared.play.Play.{Play}
use Rattle.vub_proto.specs.declared.device_said.DeviceSaid.{DeviceSaid}
use Rattle.vub_model.specs.declared.play.Play.TheVariants as play
use Rattle.vub_model.specs.declared.party.Party.{Party}
use Rattle.vub_model.specs.declared.party.Party.TheVariants as party
use Rattle.vub_model.specs.declared.phase.Phase.{Phase}
use Rattle.vub_model.specs.declared.phase.Phase.TheVariants.{Idle, Polled, Sweep, Heard, Serving, Taken, Served}
use Rattle.vub_model.specs.Shared.{Shared, is_ready}
use Rattle.vub_model.specs.Wiring.{Wiring, opened_at}
use Rattle.vub_model.specs.Work.{MayWork}
use Rattle.vub_model.specs.Service.{Meaning}
use Rattle.vub_model.specs.World.{World, May, phase_at}
use Rattle.vub_model.specs.RunOf.{party_of, next, Turn, IsRun, IsLeastPoll, IsLeast, PollsLeast}
use Rattle.vub_model.proofs.Cases.{work-cases}
use Rattle.vub_model.proofs.Turns.{turn-next}
use Rattle.vub_model.specs.DeviceCalls.{Telling, Tells, Call, heard_in, call_at, calls, moved_by}
use Rattle.vub_model.specs.Control.{MayControl, MaySay}
use Rattle.vub_model.specs.declared.small.Small.{Small}
use Rattle.vub_model.specs.declared.small.Small.TheVariants.{Claim, Release, Add, Delete, Listen, Unlisten, Bell, Remove, Insert, Set, Info, Table, Log, Device, Answer as Answering}

-- Polls

-- a number that is at most the object of each report is at most an object that some report has
least-reported : (reports : List Ready) (least object : ℕ) → ((r : Ready) → Contains reports r → least ≤ r.object) → list_any (λ (r : Ready). r.object == object) reports ≡ true → least ≤ object
least-reported [] least object all any = absurd (false≢true any)
least-reported (r ∷ rest) least object all any = by (r.object == object) refl (least-reported rest least object (λ x among. all x (suc among.0, omega (arith, among.1), among.2))) any
  where
    by : (b : Bool) → (r.object == object) ≡ b → (list_any (λ (r : Ready). r.object == object) rest ≡ true → least ≤ object) → (b || list_any (λ (r : Ready). r.object == object) rest) ≡ true → least ≤ object
    by true is later any = let first : least ≤ r.object = all r (0, omega arith, refl) in let same : r.object ≡ object = eqb-true r.object object is in omega arith
    by false is later any = later any

module _ {V D : Type 0} (t : Telling D) (d : D) (g : Wiring) (k : ℕ) (h : Shared V) where
  -- of two polls that take the least member both take the same
  one-poll : (object other : ℕ) → is_ready h.table (opened_at g k).list object ≡ true → IsLeastPoll g k h (play.Poll object) → is_ready h.table (opened_at g k).list other ≡ true → IsLeastPoll g k h (play.Poll other) → object ≡ other
  one-poll object other ready least other-ready other-least =
      let low : object ≤ other = least-reported (ready_members h.table (opened_at g k).list) object other least other-ready in
      let high : other ≤ object = least-reported (ready_members h.table (opened_at g k).list) other object other-least ready in
      omega arith

  -- Steps of a worker: in each phase the worker may play one label, but for the object of a poll

  one-idle : (object : ℕ) → is_ready h.table (opened_at g k).list object ≡ true → IsLeastPoll g k h (play.Poll object) → (other : Play) → MayWork g k h Idle other → IsLeastPoll g k h other → play.Poll object ≡ other
  one-idle object ready least (play.Poll other) may other-least = ap (λ o. play.Poll o) (one-poll object other ready least may other-least)
  one-idle object ready least other may other-least = absurd may

  one-polled : (object token : ℕ) (other : Play) → MayWork g k h (Polled object token) other → play.Event ≡ other
  one-polled object token play.Event may = refl
  one-polled object token other may = absurd may

  one-sweep : (other : Play) → MayWork g k h Sweep other → play.Sweep ≡ other
  one-sweep play.Sweep may = refl
  one-sweep other may = absurd may

  one-heard : (token : ℕ) (said : DeviceSaid) (other : Play) → MayWork g k h (Heard token) other → Tells t d (heard_in k (Heard token) (play.Hear said)) → Tells t d (heard_in k (Heard token) other) → play.Hear said ≡ other
  one-heard token said (play.Hear it) may told other-told = ap (λ o. play.Hear o) (told.0 ∙ sym other-told.0)
  one-heard token said other may told other-told = absurd may

  one-serving : (queues : List ℕ) (other : Play) → MayWork g k h (Serving queues) other → play.Take ≡ other
  one-serving queues play.Take may = refl
  one-serving queues other may = absurd may

  one-taken : (e : Entry) (queues : List ℕ) (other : Play) → MayWork g k h (Taken e queues) other → play.Serve ≡ other
  one-taken e queues play.Serve may = refl
  one-taken e queues other may = absurd may

  one-served : (e : Entry) (reply queues : List ℕ) (other : Play) → MayWork g k h (Served e reply queues) other → play.Put ≡ other
  one-served e reply queues play.Put may = refl
  one-served e reply queues other may = absurd may

  one-work : (phase : Phase) (l : Play) → MayWork g k h phase l → IsLeastPoll g k h l → Tells t d (heard_in k phase l) → (other : Play) → MayWork g k h phase other → IsLeastPoll g k h other → Tells t d (heard_in k phase other) → l ≡ other
  one-work =
      let P : Phase → Play → Type 0 = λ phase l. IsLeastPoll g k h l → Tells t d (heard_in k phase l) → (other : Play) → MayWork g k h phase other → IsLeastPoll g k h other → Tells t d (heard_in k phase other) → l ≡ other in
      work-cases g k h P
      (λ object ready least told other may other-least other-told. one-idle object ready least other may other-least)
      (λ object token least told other may other-least other-told. one-polled object token other may)
      (λ least told other may other-least other-told. one-sweep other may)
      (λ token said least told other may other-least other-told. one-heard token said other may told other-told)
      (λ queues least told other may other-least other-told. one-serving queues other may)
      (λ e queues least told other may other-least other-told. one-taken e queues other may)
      (λ e reply queues least told other may other-least other-told. one-served e reply queues other may)

-- Turns

module _ {V D : Type 0} (t : Telling D) (d : D) (w : World V) where
  -- a step has one outcome
  one-said : (s : Small) (said other : DeviceSaid) → MaySay s said → MaySay s other → Tells t d (call_at w party.Control (play.Control s said)) → Tells t d (call_at w party.Control (play.Control s other)) → said ≡ other
  one-said (Device call) said other may other-may told other-told = told.0 ∙ sym other-told.0
  one-said (Claim o q) said other may other-may told other-told = may ∙ sym other-may
  one-said (Release o) said other may other-may told other-told = may ∙ sym other-may
  one-said (Add k o n) said other may other-may told other-told = may ∙ sym other-may
  one-said (Delete k o) said other may other-may told other-told = may ∙ sym other-may
  one-said (Listen k o n) said other may other-may told other-told = may ∙ sym other-may
  one-said (Unlisten k o a) said other may other-may told other-told = may ∙ sym other-may
  one-said (Bell o) said other may other-may told other-told = may ∙ sym other-may
  one-said (Remove k n) said other may other-may told other-told = may ∙ sym other-may
  one-said (Insert k n) said other may other-may told other-told = may ∙ sym other-may
  one-said (Set q o) said other may other-may told other-told = may ∙ sym other-may
  one-said (Info q desc avail used) said other may other-may told other-told = may ∙ sym other-may
  one-said (Table change) said other may other-may told other-told = may ∙ sym other-may
  one-said (Log o offset size) said other may other-may told other-told = may ∙ sym other-may
  one-said Answering said other may other-may told other-told = may ∙ sym other-may

  -- control has one step
  one-small : (steps : List Small) (s other : Small) (said other-said : DeviceSaid) → MayControl w.shared steps s said → MayControl w.shared steps other other-said → Tells t d (call_at w party.Control (play.Control s said)) → Tells t d (call_at w party.Control (play.Control other other-said)) → play.Control s said ≡ play.Control other other-said
  one-small [] s other said other-said may other-may told other-told = absurd may
  one-small (x ∷ rest) s other said other-said may other-may told other-told =
      let P : Small → Type 0 = λ s. Tells t d (call_at w party.Control (play.Control s said)) in
      let Q : Small → Type 0 = λ s. Tells t d (call_at w party.Control (play.Control s other-said)) in
      let same : said ≡ other-said = one-said x said other-said may.2 other-may.2 (subst P may.0 told) (subst Q other-may.0 other-told) in
      ap (λ s. play.Control s said) (may.0 ∙ sym other-may.0) ∙ ap (λ o. play.Control other o) same

  -- of two labels that a party may play both are the same, where polls take the least member and the device tells its value
  one-step : (p : Party) (l other : Play) → May w p l → IsLeast w p l → Tells t d (call_at w p l) → May w p other → IsLeast w p other → Tells t d (call_at w p other) → l ≡ other
  one-step party.Guest play.Guest play.Guest may least told other-may other-least other-told = refl
  one-step party.Guest play.Guest other may least told other-may other-least other-told = absurd other-may
  one-step party.Guest l other may least told other-may other-least other-told = absurd may
  one-step party.Control (play.Control s said) (play.Control other other-said) may least told other-may other-least other-told = one-small w.control.plan.steps s other said other-said may other-may told other-told
  one-step party.Control (play.Control s said) other may least told other-may other-least other-told = absurd other-may
  one-step party.Control l other may least told other-may other-least other-told = absurd may
  one-step (party.Worker k) l other may least told other-may other-least other-told = one-work t d w.wiring k w.shared (phase_at w.phases k) l may least told other other-may other-least other-told

  -- two turns of a party play the same label: it passes only where it has no step
  one-turn : (m : Meaning V) (p : Party) (l other : Play) (mid other-mid : World V) → Turn m w p l mid → IsLeast w p l → Tells t d (call_at w p l) → Turn m w p other other-mid → IsLeast w p other → Tells t d (call_at w p other) → l ≡ other
  one-turn m p play.Pass play.Pass mid other-mid turn least told other-turn other-least other-told = refl
  one-turn m p play.Pass other mid other-mid turn least told other-turn other-least other-told = absurd (turn.0 other other-turn.0)
  one-turn m p l play.Pass mid other-mid turn least told other-turn other-least other-told = absurd (other-turn.0 l turn.0)
  one-turn m p l other mid other-mid turn least told other-turn other-least other-told = one-step p l other turn.0 least told other-turn.0 other-least other-told

-- what was told of two lists of calls
tells-both : {D : Type 0} (t : Telling D) (d : D) (xs ys : List Call) → Tells t d (xs ++ ys) → Tells t d xs × Tells t (moved_by t d xs) ys
tells-both t d [] ys told = (tt, told)
tells-both t d (x ∷ xs) ys told = let rest = tells-both t (t.moved d x.op) xs ys told.1 in ((told.0, rest.0), rest.1)

-- Runs

-- two runs of a schedule from one world have the same plays and end in the same world, where polls take the least member
-- and the device tells its value
pub one-run : {V D : Type 0} (t : Telling D) (d : D) (m : Meaning V) (turns : List ℕ) (labels others : List Play) (w z end : World V) → IsRun m turns labels w z → PollsLeast m turns labels w → Tells t d (calls m turns labels w) → IsRun m turns others w end → PollsLeast m turns others w → Tells t d (calls m turns others w) → (labels ≡ others) × (z ≡ end)
one-run t d m [] [] [] w z end run least told other-run other-least other-told = (refl, run ∙ sym other-run)
one-run t d m [] [] (other ∷ others) w z end run least told other-run other-least other-told = absurd other-run
one-run t d m [] (l ∷ labels) others w z end run least told other-run other-least other-told = absurd run
one-run t d m (turn ∷ turns) [] others w z end run least told other-run other-least other-told = absurd run
one-run t d m (turn ∷ turns) (l ∷ labels) [] w z end run least told other-run other-least other-told = absurd other-run
one-run {V} t d m (turn ∷ turns) (l ∷ labels) (other ∷ others) w z end run least told other-run other-least other-told =
    let p = party_of turn in
    let first = tells-both t d (call_at w p l) (calls m turns labels (next m w p l)) told in
    let second = tells-both t d (call_at w p other) (calls m turns others (next m w p other)) other-told in
    let same : l ≡ other = one-turn t d w m p l other run.0 other-run.0 run.1 least.0 first.0 other-run.1 other-least.0 second.0 in
    let mid : run.0 ≡ next m w p l = turn-next m w p l run.0 run.1 in
    let other-mid : other-run.0 ≡ next m w p l = turn-next m w p other other-run.0 other-run.1 ∙ ap (λ x. next m w p x) (sym same) in
    let R : World V → Type 0 = λ x. IsRun m turns labels x z in
    let O : World V → Type 0 = λ x. IsRun m turns others x end in
    let L : Play → Type 0 = λ x. PollsLeast m turns others (next m w p x) in
    let T : Play → Type 0 = λ x. Tells t (moved_by t d (call_at w p x)) (calls m turns others (next m w p x)) in
    let rest = one-run t (moved_by t d (call_at w p l)) m turns labels others (next m w p l) z end (subst R mid run.2) least.1 first.1 (subst O other-mid other-run.2) (subst L (sym same) other-least.1) (subst T (sym same) second.1) in
    (ap (λ x. x ∷ labels) same ∙ ap (λ xs. other ∷ xs) rest.0, rest.1)
