-- A queue that nothing disturbs is served as alone.
use Rattle.std.proofs.Common.{◌≡◌, ◌≢◌, ℕ, Option, Some, None, ◌<◌, Bool, true, false, cond, not, ◌||◌, ◌==◌, slice_index_or, inl, inr, List, [], ◌∷◌, ◌++◌, length, refl, sym, ap, subst, ◌∙◌, arith, append_assoc}
use Rattle.std.specs.List.{AllByRecursion}
use Rattle.std.proofs.lemmas.Bool.{cases_lt, cases_eq, eqb-true}
use Rattle.std.proofs.lemmas.List.{get_or-set_same, get_or-set_other, get_or_past, length-set}
use Rattle.vub_mem.specs.Memory.{Guest}
use Rattle.vub_queue.specs.EntryNumber.{index_covers, left_of}
use Rattle.vub_model.specs.declared.cause.StopCause.TheVariants.{Exit}
use Rattle.vub_model.specs.declared.play.Play.{Play}
use Rattle.vub_model.specs.declared.play.Play.TheVariants as play
use Rattle.vub_model.specs.declared.party.Party.{Party}
use Rattle.vub_model.specs.declared.party.Party.TheVariants as party
use Rattle.vub_model.specs.declared.phase.Phase.{Phase}
use Rattle.vub_model.specs.declared.phase.Phase.TheVariants.{Serving, Taken, Served, Stopped}
use Rattle.vub_model.specs.declared.small.Small.{Small}
use Rattle.vub_model.specs.declared.small.Small.TheVariants.{Claim, Release, Add, Delete, Listen, Unlisten, Bell}
use Rattle.vub_model.specs.declared.small.Small.TheVariants.{Remove, Insert, Set, Info, Table, Log, Device}
use Rattle.vub_model.specs.declared.small.Small.TheVariants.{Answer as Answering}
use Rattle.vub_model.specs.declared.wiring.Place.{Place}
use Rattle.vub_model.specs.declared.setup.Guest.{Guest as GuestAction}
use Rattle.vub_model.specs.declared.setup.Guest.TheVariants.{Store, Signal, Harvest}
use Rattle.vub_proto.specs.declared.device_said.DeviceSaid.{DeviceSaid}
use Rattle.vub_model.specs.Control.{small_after}
use Rattle.vub_model.specs.RingRecord.{Vring, closed_ring, has_addresses, is_in_flight}
use Rattle.vub_model.specs.EntryNumber.{has_left}
use Rattle.vub_model.specs.Shared.{Shared, ring_at}
use Rattle.vub_model.specs.Service.{Meaning}
use Rattle.vub_model.specs.Wiring.{Wiring, HasWorker, place_of}
use Rattle.vub_model.specs.Work.{MayWork, after_work}
use Rattle.vub_model.specs.Running.{index_word, HasStopped, IsRunning, NoneIsLost}
use Rattle.vub_model.specs.World.{World, May, after, after_guest, phase_at, written_by}
use Rattle.vub_model.specs.RunOf.{Turn, IsRun, IsAtRest, EachTurn, party_of, next}
use Rattle.vub_model.specs.Schedule.{HasInHand, PhaseFits}
use Rattle.vub_model.specs.Headline.{IsSpot, Asked, asked, asked_at, asked_in}
use Rattle.vub_model.proofs.Cases.{work-cases}
use Rattle.vub_model.proofs.Confined.{confined-work}
use Rattle.vub_model.proofs.Owners.{within-phases}
use Rattle.vub_model.proofs.Shapes.{shape}
use Rattle.vub_model.proofs.Sound.{IsSound, sound-turn}
use Rattle.vub_model.proofs.Turns.{turn-cases, turn-next}
use Rattle.vub_laws.specs.Alone.{Placing, serving_of, alone, placed_at, placings, read_by, is_of, read_at, wrote_at, taken_bytes, others_bytes, SparesQueue, KeepsWord, IsUndisturbed, IsAsAlone}
use Rattle.vub_laws.specs.EntriesLeft.{entries_left}
use Rattle.vub_laws.proofs.Agreeing.{Clear, agree-changed, agree-logged, spot-left, spot-right, clear-left, clear-right}
use Rattle.vub_laws.proofs.Alike.{left-alike}
use Rattle.vub_laws.proofs.Logless.{same-tables}
use Rattle.vub_laws.proofs.Own.{State, IsReplied, own-step, state-moved, placed-none}
use Rattle.vub_laws.proofs.Quiet.{quiet-ring, quiet-agree}
use Rattle.vub_laws.proofs.Stores.{guest-changes, small-contents}
use Rattle.vub_laws.proofs.Uses.{used-run}

all-left : {X : Type 0} (P : X → Type 0) (xs ys : List X) → AllByRecursion P (xs ++ ys) → AllByRecursion P xs
all-left P [] ys all = tt
all-left P (x ∷ xs) ys all = (all.0, all-left P xs ys all.1)

all-right : {X : Type 0} (P : X → Type 0) (xs ys : List X) → AllByRecursion P (xs ++ ys) → AllByRecursion P ys
all-right P [] ys all = all
all-right P (x ∷ xs) ys all = all-right P xs ys all.1

-- Whose step it is

-- a worker steps for its own queues
steps-own : {V : Type 0} (g : Wiring) (k : ℕ) (h : Shared V) (q : ℕ) (phase : Phase) (l : Play) → MayWork g k h phase l → PhaseFits g k phase → ((p : ℕ) → HasInHand phase p → HasWorker g p k) → is_of l phase q ≡ true → HasWorker g q k
steps-own g k h q =
    work-cases g k h (λ phase l. PhaseFits g k phase → ((p : ℕ) → HasInHand phase p → HasWorker g p k) → is_of l phase q ≡ true → HasWorker g q k)
    (λ object ready fits hands is. absurd cc) (λ object token fits hands is. absurd cc) (λ fits hands is. absurd cc) (λ token said fits hands is. absurd cc) by (λ e queues fits hands is. absurd cc)
    (λ e reply queues fits hands is. hands q (eqb-true e.queue q is)) where
      by : (queues : List ℕ) → PhaseFits g k (Serving queues) → ((p : ℕ) → HasInHand (Serving queues) p → HasWorker g p k) → is_of play.Take (Serving queues) q ≡ true → HasWorker g q k
      by [] fits hands is = absurd cc
      by (p ∷ rest) fits hands is = let P : ℕ → Type 0 = λ x. HasWorker g x k in subst P (eqb-true p q is) fits.0

not-true : (b : Bool) → (b ≡ true → ⊥) → b ≡ false
not-true true h = absurd (h refl)
not-true false h = refl

-- What guest and control leave

guest-rings : {V : Type 0} (w : World V) (actions : List GuestAction) → (after_guest w actions).shared.rings ≡ w.shared.rings
guest-rings w [] = refl
guest-rings w (Store o i bs ∷ actions) = refl
guest-rings w (Signal o ∷ actions) = refl
guest-rings w (Harvest o n ∷ actions) = refl

pub guest-phases : {V : Type 0} (w : World V) (actions : List GuestAction) → (after_guest w actions).phases ≡ w.phases
guest-phases w [] = refl
guest-phases w (action ∷ actions) = refl

small-rings : {V : Type 0} (g : Wiring) (h : Shared V) (s : Small) → length (small_after g h s).rings ≡ length h.rings
small-rings g h (Set p o) = length-set h.rings p _
small-rings g h (Info p desc avail used) = length-set h.rings p _
small-rings g h (Claim o q) = refl
small-rings g h (Release o) = refl
small-rings g h (Add k o n) = refl
small-rings g h (Delete k o) = refl
small-rings g h (Listen k o n) = refl
small-rings g h (Unlisten k o a) = refl
small-rings g h (Bell o) = refl
small-rings g h (Remove k n) = refl
small-rings g h (Insert k n) = refl
small-rings g h (Table change) = refl
small-rings g h (Log o offset size) = refl
small-rings g h (Device call) = refl
small-rings g h Answering = refl

-- One turn

module _ {V : Type 0} (m : Meaning V) (v : V) (q : ℕ) (F : ℕ → ℕ → Type 0) (k : ℕ) where
  abbrev WorldState : World V → ℕ → Guest → Vring → Type 0
  WorldState w n a r = State m v q F w.shared (phase_at w.phases k) n a r

  abbrev WorldStepped : World V → List Placing → ℕ → Guest → Vring → Type 0
  WorldStepped z placed n a r = (n' : ℕ) × (a' : Guest) × (r' : Vring) × WorldState z n' a' r' × (alone m v q n a r ≡ placed ++ alone m v q n' a' r')

  -- what is asked of a turn
  record Fits (w : World V) (p : Party) (l : Play) (z : World V) : Type 0 where
    foreign : (o i : ℕ) → IsSpot (wrote_at w q p l) o i → F o i
    clear : Clear F (read_at w q p l)
    replied : AllByRecursion (λ (a : Asked). a.queue ≡ q → a.reply ≡ m.reply_of v a.request a.room) (asked_at m w p l)
    spared : SparesQueue q w p l z
    word : index_word z.shared q ≡ index_word w.shared q

  replied-at : (w : World V) (j : ℕ) (l : Play) (phase : Phase) → phase_at w.phases j ≡ phase → AllByRecursion (λ (a : Asked). a.queue ≡ q → a.reply ≡ m.reply_of v a.request a.room) (asked_at m w (party.Worker j) l) → IsReplied m v q F w.wiring j w.shared l phase
  replied-at w j play.Serve (Taken e queues) is all =
      let P : Phase → Type 0 = λ p. AllByRecursion (λ (a : Asked). a.queue ≡ q → a.reply ≡ m.reply_of v a.request a.room) (asked_in m w.shared.service p) in
      (subst P is all).0
  replied-at w j l phase is all = tt

  module _ (more : ℕ) (w : World V) (sound : IsSound more w) (only : (j : ℕ) → HasWorker w.wiring q j → j ≡ k) where
    foreign-in : (j : ℕ) (l : Play) → Fits w (party.Worker j) l (after m w (party.Worker j) l) → is_of l (phase_at w.phases j) q ≡ false → (o i : ℕ) → IsSpot (written_by w.shared l (phase_at w.phases j)) o i → F o i
    foreign-in j l fits other o i is =
        fits.foreign o i (let B : Bool → Type 0 = λ b. IsSpot (cond b [] (written_by w.shared l (phase_at w.phases j))) o i in subst B (sym other) is)

    clear-in : (j : ℕ) (l : Play) → Fits w (party.Worker j) l (after m w (party.Worker j) l) → is_of l (phase_at w.phases j) q ≡ true → Clear F (read_by w.shared l (phase_at w.phases j))
    clear-in j l fits own = (let B : Bool → Type 0 = λ b. Clear F (cond b (read_by w.shared l (phase_at w.phases j)) []) in subst B own fits.clear)

    worker-own : (l : Play) → MayWork w.wiring k w.shared (phase_at w.phases k) l → Fits w (party.Worker k) l (after m w (party.Worker k) l) → (n : ℕ) (a : Guest) (r : Vring) → WorldState w n a r → WorldStepped (after m w (party.Worker k) l) (placed_at w q (party.Worker k) l) n a r
    worker-own l may fits n a r s =
        let phase = phase_at w.phases k in
        let z = after_work m w.wiring k w.shared phase l in
        let within = within-phases w.wiring w.shared w.phases k l may in
        let step = own-step m v q F w.wiring k w.shared phase l may (sound.invariant.phases k) (foreign-in k l fits) (clear-in k l fits) (replied-at w k l phase refl fits.replied) fits.word n a r s in
        let S : Phase → Type 0 = λ p. State m v q F z.shared p step.0 step.1 step.2 in
        (step.0, step.1, step.2, subst S (sym (get_or-set_same w.phases k z.phase (Stopped Exit) within)) step.3, step.4)

    worker-other : (j : ℕ) → j ≢ k → (l : Play) → MayWork w.wiring j w.shared (phase_at w.phases j) l → Fits w (party.Worker j) l (after m w (party.Worker j) l) → (n : ℕ) (a : Guest) (r : Vring) → WorldState w n a r → WorldStepped (after m w (party.Worker j) l) (placed_at w q (party.Worker j) l) n a r
    worker-other j apart l may fits n a r s =
        let i = sound.invariant in
        let phase = phase_at w.phases j in
        let z = after_work m w.wiring j w.shared phase l in
        let other : is_of l phase q ≡ false = not-true (is_of l phase q) (λ is. apart (only j (steps-own w.wiring j w.shared q phase l may (i.phases j) (λ p hand. (i.hands j p hand).0) is))) in
        let S : Phase → Type 0 = λ p. State m v q F z.shared p n a r in
        let moved = state-moved m v q F w.shared z.shared (shape m w.wiring j w.shared phase l may (i.phases j)).rings (ap serving_of (quiet-ring m w.wiring j w.shared q phase l may other)) (same-tables z.shared.guest.regions w.shared.guest.regions (confined-work w.shared m w.wiring j phase l).regions) fits.word (quiet-agree m w.wiring j w.shared q F phase l (foreign-in j l fits other)) (phase_at w.phases k) n a r s in
        (n, a, r, subst S (sym (get_or-set_other w.phases j k z.phase (Stopped Exit) (λ same. apart (sym same)))) moved, ap (λ p. p ++ alone m v q n a r) (sym (placed-none m v q F w.wiring j w.shared phase l may other)))

    guest-moves : (actions : List GuestAction) → ((o i : ℕ) → IsSpot (wrote_at (record w { guest = actions }) q party.Guest play.Guest) o i → F o i) → index_word (after_guest w actions).shared q ≡ index_word w.shared q → (n : ℕ) (a : Guest) (r : Vring) → WorldState w n a r → WorldState (after_guest w actions) n a r
    guest-moves actions foreign word n a r s =
        let z = after_guest w actions in
        let only = guest-changes w actions in
        let moved = state-moved m v q F w.shared z.shared (ap length (guest-rings w actions)) (ap (λ (rs : List Vring). serving_of (slice_index_or rs q closed_ring)) (guest-rings w actions)) (same-tables z.shared.guest.regions w.shared.guest.regions only.regions) word (λ a x. agree-changed F w.shared.guest a z.shared.guest _ foreign only x) (phase_at w.phases k) n a r s in
        let S : List Phase → Type 0 = λ ps. State m v q F z.shared (phase_at ps k) n a r in
        subst S (sym (guest-phases w actions)) moved

    control-moves : (s : Small) (said : DeviceSaid) → Fits w party.Control (play.Control s said) (after m w party.Control (play.Control s said)) → (n : ℕ) (a : Guest) (r : Vring) → WorldState w n a r → WorldState (after m w party.Control (play.Control s said)) n a r
    control-moves s said fits n a r st =
        let z = small_after w.wiring w.shared s in
        state-moved m v q F w.shared z (small-rings w.wiring w.shared s) fits.spared.0 fits.spared.1 fits.word (λ a x. agree-logged F w.shared.guest a z.guest fits.spared.1 (small-contents w.wiring w.shared s) x) (phase_at w.phases k) n a r st

    step : (p : Party) (l : Play) → May w p l → Fits w p l (after m w p l) → (n : ℕ) (a : Guest) (r : Vring) → WorldState w n a r → WorldStepped (after m w p l) (placed_at w q p l) n a r
    step party.Guest play.Guest may fits n a r s = (n, a, r, guest-moves w.guest fits.foreign fits.word n a r s, refl)
    step party.Control (play.Control small said) may fits n a r s = (n, a, r, control-moves small said fits n a r s, refl)
    step (party.Worker j) l may fits n a r s =
        elim (cases_eq j k) [
          | inl same ↦
              (let P : ℕ → Type 0 = λ x. MayWork w.wiring x w.shared (phase_at w.phases x) l → Fits w (party.Worker x) l (after m w (party.Worker x) l) → WorldStepped (after m w (party.Worker x) l) (placed_at w q (party.Worker x) l) n a r in
              (subst P (sym same) (λ may fits. worker-own l may fits n a r s)) may fits)
          | inr apart ↦ worker-other j apart l may fits n a r s
        ]
    step p l may fits n a r s = absurd may

    placed-pass : (p : Party) → placed_at w q p play.Pass ≡ []
    placed-pass party.Guest = refl
    placed-pass party.Control = refl
    placed-pass (party.Worker j) = refl

    world-turn : (p : Party) (z : World V) (l : Play) → Turn m w p l z → Fits w p l (next m w p l) → (n : ℕ) (a : Guest) (r : Vring) → WorldState w n a r → WorldStepped z (placed_at w q p l) n a r
    world-turn p z l t fits n a r s =
        turn-cases m w p z (λ l. Fits w p l z → WorldStepped z (placed_at w q p l) n a r)
        (λ same fits. let K : World V → Type 0 = λ x. WorldState x n a r in (n, a, r, subst K (sym same) s, ap (λ x. x ++ alone m v q n a r) (sym (placed-pass p))))
        (λ l may is fits.
        let K : World V → Type 0 = λ x. Fits w p l x → WorldStepped x (placed_at w q p l) n a r in
        (subst K (sym is) (λ fits. step p l may fits n a r s)) fits)
        l t (let K : World V → Type 0 = λ x. Fits w p l x in subst K (sym (turn-next m w p l z t)) fits)

  -- Runs

  record FitsAll (turns : List ℕ) (plays : List Play) (w : World V) : Type 0 where
    foreign : (o i : ℕ) → IsSpot (others_bytes m q turns plays w) o i → F o i
    clear : Clear F (taken_bytes m q turns plays w)
    replied : AllByRecursion (λ (a : Asked). a.queue ≡ q → a.reply ≡ m.reply_of v a.request a.room) (asked m turns plays w)
    spared : EachTurn (SparesQueue q) m turns plays w
    words : EachTurn (KeepsWord q) m turns plays w

  fits-first : (turn : ℕ) (turns : List ℕ) (l : Play) (plays : List Play) (w : World V) → FitsAll (turn ∷ turns) (l ∷ plays) w → Fits w (party_of turn) l (next m w (party_of turn) l)
  fits-first turn turns l plays w f =
      let p = party_of turn in
      let z = next m w p l in
      record {
        foreign = λ o i is. f.foreign o i (spot-left (wrote_at w q p l) (others_bytes m q turns plays z) o i is);
        clear = clear-left F (read_at w q p l) (taken_bytes m q turns plays z) f.clear;
        replied = all-left (λ (a : Asked). a.queue ≡ q → a.reply ≡ m.reply_of v a.request a.room) (asked_at m w p l) (asked m turns plays z) f.replied;
        spared = f.spared.0;
        word = f.words.0;
      }

  fits-rest : (turn : ℕ) (turns : List ℕ) (l : Play) (plays : List Play) (w : World V) → FitsAll (turn ∷ turns) (l ∷ plays) w → FitsAll turns plays (next m w (party_of turn) l)
  fits-rest turn turns l plays w f =
      let p = party_of turn in
      let z = next m w p l in
      record {
        foreign = λ o i is. f.foreign o i (spot-right (wrote_at w q p l) (others_bytes m q turns plays z) o i is);
        clear = clear-right F (read_at w q p l) (taken_bytes m q turns plays z) f.clear;
        replied = all-right (λ (a : Asked). a.queue ≡ q → a.reply ≡ m.reply_of v a.request a.room) (asked_at m w p l) (asked m turns plays z) f.replied;
        spared = f.spared.1;
        words = f.words.1;
      }

-- a turn keeps the wiring
guest-wiring : {V : Type 0} (w : World V) (actions : List GuestAction) → (after_guest w actions).wiring ≡ w.wiring
guest-wiring w [] = refl
guest-wiring w (action ∷ actions) = refl

step-wiring : {V : Type 0} (m : Meaning V) (w : World V) (p : Party) (l : Play) → May w p l → (after m w p l).wiring ≡ w.wiring
step-wiring m w party.Guest play.Guest may = guest-wiring w w.guest
step-wiring m w (party.Worker k) l may = refl
step-wiring m w party.Control (play.Control s said) may = refl
step-wiring m w p l may = absurd may

pub turn-wiring : {V : Type 0} (m : Meaning V) (w : World V) (p : Party) (z : World V) (l : Play) → Turn m w p l z → z.wiring ≡ w.wiring
turn-wiring m w p z =
    turn-cases m w p z (λ l. z.wiring ≡ w.wiring)
    (λ same. ap (λ x. x.wiring) same)
    (λ l may is. ap (λ x. x.wiring) is ∙ step-wiring m w p l may)

-- what is placed in a turn and behind it
joined : (xs ys zs a b c : List Placing) → a ≡ xs ++ b → b ≡ ys ++ c → ys ≡ zs → a ≡ (xs ++ zs) ++ c
joined xs ys zs a b c first rest same = first ∙ ap (λ x. xs ++ x) (rest ∙ ap (λ x. x ++ c) same) ∙ sym (append_assoc xs zs c)

module _ {V : Type 0} (m : Meaning V) (v : V) (q : ℕ) (F : ℕ → ℕ → Type 0) (k : ℕ) where
  along : (turns : List ℕ) (plays : List Play) (w z : World V) → IsSound (length turns) w → ((j : ℕ) → HasWorker w.wiring q j → j ≡ k) → IsRun m turns plays w z → FitsAll m v q F k turns plays w
      → (n : ℕ) (a : Guest) (r : Vring) → WorldState m v q F k w n a r → WorldStepped m v q F k z (placings m q turns plays w) n a r
  along [] [] w z sound only run fits n a r s = let K : World V → Type 0 = λ x. WorldState m v q F k x n a r in (n, a, r, subst K (sym run) s, refl)
  along [] (l ∷ plays) w z sound only run fits n a r s = absurd run
  along (turn ∷ turns) [] w z sound only run fits n a r s = absurd run
  along (turn ∷ turns) (l ∷ plays) w z sound only run fits n a r s =
      let p = party_of turn in
      let mid = run.0 in
      let one = world-turn m v q F k (length (turn ∷ turns)) w sound only p mid l run.1 (fits-first m v q F k turn turns l plays w fits) n a r s in
      let G : Wiring → Type 0 = λ g. (j : ℕ) → HasWorker g q j → j ≡ k in
      let only' : (j : ℕ) → HasWorker mid.wiring q j → j ≡ k = subst G (sym (turn-wiring m w p mid l run.1)) only in
      let A : World V → Type 0 = λ x. FitsAll m v q F k turns plays x in
      let fits' : FitsAll m v q F k turns plays mid = subst A (sym (turn-next m w p l mid run.1)) (fits-rest m v q F k turn turns l plays w fits) in
      let rest = along turns plays mid z (sound-turn m (length turns) w p l mid sound run.1) only' run.2 fits' one.0 one.1 one.2 one.3 in
      let now : placings m q turns plays mid ≡ placings m q turns plays (next m w p l) = ap (λ x. placings m q turns plays x) (turn-next m w p l mid run.1) in (
        rest.0,
        rest.1,
        rest.2,
        rest.3,
        joined (placed_at w q p l) (placings m q turns plays mid) (placings m q turns plays (next m w p l)) (alone m v q n a r) (alone m v q one.0 one.1 one.2) (alone m v q rest.0 rest.1 rest.2) one.4 rest.4 now,
      )

run-wiring : {V : Type 0} (m : Meaning V) (turns : List ℕ) (plays : List Play) (w z : World V) → IsRun m turns plays w z → z.wiring ≡ w.wiring
run-wiring m [] [] w z run = ap (λ x. x.wiring) run
run-wiring m [] (l ∷ plays) w z run = absurd run
run-wiring m (turn ∷ turns) [] w z run = absurd run
run-wiring m (turn ∷ turns) (l ∷ plays) w z run = run-wiring m turns plays run.0 z run.2 ∙ turn-wiring m w (party_of turn) run.0 l run.1

-- The end

-- nothing is left, as a number
no-number : (a b c : Bool) (n : ℕ) → (not b || not c) ≡ false → (c ≡ true → n ≡ 0) → cond a (cond b n 0) 0 ≡ 0
no-number true true true n left none = none refl
no-number true true false n left none = absurd cc
no-number true false c n left none = refl
no-number false b c n left none = refl

zero-left : {V : Type 0} (h : Shared V) (q : ℕ) → has_left h.guest (ring_at h q) ≡ false → entries_left h.guest (ring_at h q) ≡ 0
zero-left h q left =
    let r = ring_at h q in
    no-number (has_addresses r) (index_covers h.guest r.queue) (left_of h.guest r.queue == 0) (left_of h.guest r.queue) left (λ is. eqb-true (left_of h.guest r.queue) 0 is)

-- a queue has a worker, or none has it
sole : (g : Wiring) (q : ℕ) (found : Option Place) → place_of g q ≡ found → (k : ℕ) × ((j : ℕ) → HasWorker g q j → j ≡ k)
sole g q None is = (0, λ j has. absurd (let e = sym has.1.place ∙ is in absurd cc))
sole g q (Some p) is = (
  p.worker,
  λ j has. let e : Some (record { worker = j; number = has.0 }) ≡ Some p = sym has.1.place ∙ is in
      let same : record { worker = j; number = has.0 } ≡ p = cc in ap (λ (x : Place). x.worker) same,
)

-- no worker has an entry in hand where none has a step
hand-steps : {V : Type 0} (w : World V) (k q : ℕ) (phase : Phase) → phase_at w.phases k ≡ phase → IsAtRest w → HasInHand phase q → ⊥
hand-steps w k q (Taken e queues) is rest hand = rest (party.Worker k) play.Serve (let P : Phase → Type 0 = λ p. MayWork w.wiring k w.shared p play.Serve in subst P (sym is) tt)
hand-steps w k q (Served e reply queues) is rest hand = rest (party.Worker k) play.Put (let P : Phase → Type 0 = λ p. MayWork w.wiring k w.shared p play.Put in subst P (sym is) tt)
hand-steps w k q phase is rest hand = absurd hand

module _ {V : Type 0} (m : Meaning V) (v : V) (q : ℕ) (F : ℕ → ℕ → Type 0) (k : ℕ) where
  none-done : (z : World V) (phase : Phase) → phase_at z.phases k ≡ phase → IsAtRest z → (HasStopped phase → ⊥) → entries_left z.shared.guest (ring_at z.shared q) ≡ 0 → (n : ℕ) (a : Guest) (r : Vring) → State m v q F z.shared phase n a r → alone m v q n a r ≡ []
  none-done z phase is rest goes none n a r (inl f) =
      let zero-n : n ≡ 0 = f.1.left ∙ sym (left-alike (ring_at z.shared q) r f.1.ring z.shared.guest) ∙ none in
      ap (λ x. alone m v q x a r) zero-n
  none-done z (Taken e queues) is rest goes none n a r (inr (inl f)) = absurd (hand-steps z k e.queue (Taken e queues) is rest refl)
  none-done z (Served e reply queues) is rest goes none n a r (inr (inl f)) = absurd (hand-steps z k e.queue (Served e reply queues) is rest refl)
  none-done z phase is rest goes none n a r (inr (inl f)) = absurd f
  none-done z phase is rest goes none n a r (inr (inr s)) = absurd (goes s)

-- From a sound world in which no entry of the queue is in flight, a queue that nothing disturbs is served as alone.
pub as-alone : {V : Type 0} (m : Meaning V) (v : V) (turns : List ℕ) (plays : List Play) (w z : World V) (calm : ℕ → Bool) → IsSound (length turns) w → IsSound 0 z → IsRun m turns plays w z
    → (IsAtRest z → NoneIsLost z calm) → (q : ℕ) → is_in_flight (ring_at w.shared q).flight ≡ false → IsUndisturbed m v q turns plays w → IsAsAlone m v q turns plays w z calm
as-alone {V} m v turns plays w z calm sound last run lost q free undisturbed =
    let F : ℕ → ℕ → Type 0 = λ o i. IsSpot (others_bytes m q turns plays w) o i in
    let k = sole w.wiring q (place_of w.wiring q) refl in
    let wired = run-wiring m turns plays w z run in
    let h = w.shared in
    let n = entries_left h.guest (ring_at h q) in
    let start : State m v q F h (phase_at w.phases k.0) n h.guest (ring_at h q) =
    inl ((λ hand. let flies = (sound.invariant.hands k.0 q hand).1.flight in let here = ap is_in_flight (sym flies) in absurd (let e = here ∙ free in cc)), record { ring = refl; left = refl; agree = inr (record { regions = refl; lengths = λ o. refl; bytes = λ o i apart. refl }) }) in
    let fits : FitsAll m v q F k.0 turns plays w = record {
      foreign = λ o i is. is;
      clear = λ o i is f. undisturbed.apart o i f is;
      replied = undisturbed.replies;
      spared = undisturbed.spared;
      words = undisturbed.word;
    } in
    let end = along m v q F k.0 turns plays w z sound k.1 run fits n h.guest (ring_at h q) start in
    record {
      rest = alone m v q end.0 end.1 end.2;
      front = end.4;
      uses = used-run m q turns plays w z run;
      all = λ rest runs calms. none-done m v q F k.0 z (phase_at z.phases k.0) refl rest
          (λ stops. runs.goes
          (let P : ℕ → Type 0 = λ x. HasStopped (phase_at z.phases x) in
          let placed : place_of w.wiring q ≡ Some runs.place = ap (λ g. place_of g q) (sym wired) ∙ runs.placed in
          subst P (sym (at-place k.0 k.1 runs.place placed (has-ring runs))) stops))
          (zero-left z.shared q (lost rest q runs calms)) end.0 end.1 end.2 end.3;
    } where
      has-ring : IsRunning z q → q < w.wiring.queues
      has-ring runs =
          elim (cases_lt q (length z.shared.rings)) [
            | inl below ↦ (let sized = last.invariant.rings_size in let wired = ap (λ (g : Wiring). g.queues) (run-wiring m turns plays w z run) in omega (arith, below, sized, wired))
            | inr past ↦ absurd (let none = ap (λ (r : Vring). r.kick) (get_or_past z.shared.rings q closed_ring past) in let some = runs.has_kick in cc)
          ]

      at-place : (k : ℕ) → ((j : ℕ) → HasWorker w.wiring q j → j ≡ k) → (p : Place) → place_of w.wiring q ≡ Some p → q < w.wiring.queues → p.worker ≡ k
      at-place k only p placed there = only p.worker (p.number, record { there = there; place = placed })
