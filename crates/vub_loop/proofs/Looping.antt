-- Turns one after the other: none, one, and some after others.
use Rattle.std.proofs.Common.{◌≡◌, ◌⊎◌, inl, inr, ℕ, ◌≤◌, Bool, true, List, [], ◌∷◌, ◌++◌, Option, Some, None, Result, Ok, Err, refl, sym, ap, subst, ◌∙◌, arith}
use Rattle.std.proofs.lemmas.List.{append_assoc, append-nil}
use Rattle.vub_base.specs.Causes.{Rose}
use Rattle.vub_base.specs.Told.{Told}
use Rattle.vub_model.specs.declared.cause.VringEpollError.{VringEpollError}
use Rattle.vub_model.specs.declared.phase.Phase.{Phase}
use Rattle.vub_model.specs.declared.phase.Phase.TheVariants.{Idle, Polled, Sweep, Heard, Serving, Taken, Served, Stopped}
use Rattle.vub_model.specs.DeviceCalls.{Call, Telling, moved_by}
use Rattle.vub_model.specs.DeviceCalls as device_calls
use Rattle.vub_model.specs.Shared.{Shared}
use Rattle.vub_model.specs.Service.{Meaning}
use Rattle.vub_model.specs.Wiring.{Wiring}
use Rattle.vub_vring.specs.PartsState.{PartsState, HasFailed, Lasts, IsUntouched}
use Rattle.vub_loop.specs.declared.turned.Turned.{Turned}
use Rattle.vub_loop.specs.Faults.{RowOrFault, TurnSteps, StopsOnlyBy, IsHostStop, IsDeviceStop}
use Rattle.vub_loop.specs.Handler.{SameWorker, phase_of}
use Rattle.vub_loop.specs.Hearing.{CallsBy, TurnsDevice, calls_in}
use Rattle.vub_loop.specs.Looping.{LoopTurn, LeadOn, AreTurns, calls_over, TakesTurns, TakesTurn}
use Rattle.vub_loop.specs.Phases.{TurnedIn, has_queues, ServesTo}
use Rattle.vub_loop.specs.Stepping.{LeastTurned, OnPhases, TurnsBy, TurnsLeastBy, TurnFrame}
use Rattle.vub_loop.specs.Worker.{Worker}
use Rattle.vub_loop.proofs.Opened.{same-handler}

-- Counts

rose-before : (i a b : ℕ) → i ≤ a → Rose a b → Rose i b
rose-before i a b later rose = omega (arith, later, rose)

rose-after : (i a b : ℕ) → a ≤ b → Rose i a → Rose i b
rose-after i a b later rose = omega (arith, later, rose)

-- Phases

lead-on : (is_kind : Phase → Bool) (xs ys : List LoopTurn) (before mid now : Phase) → LeadOn is_kind xs before mid → LeadOn is_kind ys mid now → LeadOn is_kind (xs ++ ys) before now
lead-on is_kind [] ys before mid now first then = subst (λ p. LeadOn is_kind ys p now) first then
lead-on is_kind (t ∷ ts) ys before mid now first then = (first.0, first.1, first.2, lead-on is_kind ts ys t.to mid now first.3 then)

joined : (A : Type 0) (i a b : ℕ) → i ≤ a → a ≤ b → (A ⊎ Rose i a) ⊎ Rose a b → A ⊎ Rose i b
joined A i a b h k (inl (inl x)) = inl x
joined A i a b h k (inl (inr x)) = inr (rose-after i a b k x)
joined A i a b h k (inr x) = inr (rose-before i a b h x)

over : (A B R : Type 0) → (A → B) → A ⊎ R → B ⊎ R
over A B R f (inl x) = inl (f x)
over A B R f (inr x) = inr x

stops-none : (before now : Phase) (A B : Type 0) → now ≡ before → StopsOnlyBy before now A B
stops-none before now A B same = record {
  host = λ s. inl (subst IsHostStop same s);
  device = λ s. inl (subst IsDeviceStop same s);
}

stops-on : (before mid now : Phase) (i a b j c d : ℕ) → i ≤ a → a ≤ b → j ≤ c → c ≤ d → StopsOnlyBy before mid (Rose i a) (Rose j c) → StopsOnlyBy mid now (Rose a b) (Rose c d) → StopsOnlyBy before now (Rose i b) (Rose j d)
stops-on before mid now i a b j c d ia ab jc cd first then = record {
  host = λ s. joined (IsHostStop before) i a b ia ab (over (IsHostStop mid) (IsHostStop before ⊎ Rose i a) (Rose a b) first.host (then.host s));
  device = λ s. joined (IsDeviceStop before) j c d jc cd (over (IsDeviceStop mid) (IsDeviceStop before ⊎ Rose j c) (Rose c d) first.device (then.device s));
}

-- Serving

pub queues-serve : (p : Phase) → has_queues p ≡ true → ServesTo p
queues-serve (Serving queues) has = tt
queues-serve (Taken e queues) has = tt
queues-serve (Served e reply queues) has = tt
queues-serve Idle has = absurd (cc)
queues-serve (Polled object token) has = absurd (cc)
queues-serve Sweep has = absurd (cc)
queues-serve (Heard token) has = absurd (cc)
queues-serve (Stopped cause) has = absurd (cc)

-- Calls of the device

calls-append : (worker : ℕ) (xs ys : List LoopTurn) → calls_over worker (xs ++ ys) ≡ calls_over worker xs ++ calls_over worker ys
calls-append worker [] ys = refl
calls-append worker (t ∷ ts) ys = ap (λ cs. calls_in worker t.from t.turn ++ cs) (calls-append worker ts ys) ∙ sym (append_assoc (calls_in worker t.from t.turn) (calls_over worker ts) (calls_over worker ys))

tells-append : {D : Type 0} (t : Telling D) (d : D) (xs ys : List Call) → device_calls.Tells t d xs → device_calls.Tells t (moved_by t d xs) ys → device_calls.Tells t d (xs ++ ys)
tells-append t d [] ys first then = then
tells-append t d (x ∷ xs) ys first then = (first.0, tells-append t (t.moved d x.op) xs ys first.1 then)

moved-append : {D : Type 0} (t : Telling D) (d : D) (xs ys : List Call) → moved_by t d (xs ++ ys) ≡ moved_by t (moved_by t d xs) ys
moved-append t d [] ys = refl
moved-append t d (x ∷ xs) ys = moved-append t (t.moved d x.op) xs ys

abbrev Moves : {D : Type 0} → Telling D → List Call → Option D → Option D → Type 0
Moves t cs old new = Told old new (λ d e. device_calls.Tells t d cs × (e ≡ moved_by t d cs))

moves-append : {D : Type 0} (t : Telling D) (xs ys : List Call) (old mid new : Option D) → Moves t xs old mid → Moves t ys mid new → Moves t (xs ++ ys) old new
moves-append t xs ys None mid new first then = tt
moves-append t xs ys (Some d) None new first then = absurd first
moves-append t xs ys (Some d) (Some e) None first then = absurd then
moves-append {D} t xs ys (Some d) (Some e) (Some f) first then =
    let T : D → Type 0 = λ x. device_calls.Tells t x ys in
    (tells-append t d xs ys first.0 (subst T first.1 then.0), then.1 ∙ ap (λ x. moved_by t x ys) first.1 ∙ sym (moved-append t d xs ys))

moves-none : {D : Type 0} (t : Telling D) (old new : Option D) → new ≡ old → Moves t [] old new
moves-none t None new same = tt
moves-none t (Some d) None same = absurd (cc)
moves-none t (Some d) (Some e) same = (tt, (let is : Some e ≡ Some d = same in cc))

-- What is shared

module _ {V : Type 0} (m : Meaning V) (g : Wiring) (worker : ℕ) where
  widened : (Sound Sure Rise Rises Row After : Type 0) → (Sure → Sound) → (Rise → Rises) → RowOrFault Sound Rise Row After → RowOrFault Sure Rises Row After
  widened Sound Sure Rise Rises Row After sure rises row = record {
    row = elim row.row [ inl made ↦ inl made | inr failed ↦ inr (rises failed.0, failed.1) ];
    sound = λ is. row.sound (sure is);
  }

  turns-widened : (Sound Sure Rise Rises : Type 0) (ts : List LoopTurn) (old new : Shared V) → (Sure → Sound) → (Rise → Rises) → AreTurns Sound Rise m g worker ts old new → AreTurns Sure Rises m g worker ts old new
  turns-widened Sound Sure Rise Rises [] old new sure rises are = are
  turns-widened Sound Sure Rise Rises (t ∷ ts) old new sure rises are =
      (are.0, widened Sound Sure Rise Rises _ _ sure rises are.1, are.2, turns-widened Sound Sure Rise Rises ts are.0 new sure rises are.3)

  turns-append : (Sound Rise : Type 0) (xs ys : List LoopTurn) (old mid new : Shared V) → AreTurns Sound Rise m g worker xs old mid → AreTurns Sound Rise m g worker ys mid new → AreTurns Sound Rise m g worker (xs ++ ys) old new
  turns-append Sound Rise [] ys old mid new first then = subst (λ h. AreTurns Sound Rise m g worker ys h new) first then
  turns-append Sound Rise (t ∷ ts) ys old mid new first then = (first.0, first.1, first.2, turns-append Sound Rise ts ys first.0 mid new first.3 then)

  told-none : (Sound Rise : Type 0) (old new : Option (Shared V)) → new ≡ old → Told old new (AreTurns Sound Rise m g worker [])
  told-none Sound Rise None new same = tt
  told-none Sound Rise (Some a) None same = absurd (cc)
  told-none Sound Rise (Some a) (Some b) same = (let is : Some b ≡ Some a = same in cc)

  told-one : (Sound Rise : Type 0) (t : LoopTurn) (old new : Option (Shared V)) → Told old new (TurnSteps Sound Rise m g worker t.turn t.from t.to) → Told old new (λ a b. LeastTurned g worker a t.turn) → Told old new (AreTurns Sound Rise m g worker (t ∷ []))
  told-one Sound Rise t None new row least = tt
  told-one Sound Rise t (Some a) None row least = row
  told-one Sound Rise t (Some a) (Some b) row least = (b, row, least, refl)

  told-on : (Sound Sounds Rise Rises RiseAll : Type 0) (xs ys : List LoopTurn) (old mid new : Option (Shared V)) → (Sound → Sounds) → (Rise → RiseAll) → (Rises → RiseAll) → Told old mid (AreTurns Sound Rise m g worker xs) → Told mid new (AreTurns Sounds Rises m g worker ys) → Told old new (AreTurns Sound RiseAll m g worker (xs ++ ys))
  told-on Sound Sounds Rise Rises RiseAll xs ys None mid new sure rise rises first then = tt
  told-on Sound Sounds Rise Rises RiseAll xs ys (Some a) None new sure rise rises first then = absurd first
  told-on Sound Sounds Rise Rises RiseAll xs ys (Some a) (Some b) None sure rise rises first then = absurd then
  told-on Sound Sounds Rise Rises RiseAll xs ys (Some a) (Some b) (Some c) sure rise rises first then =
      turns-append Sound RiseAll xs ys a b c (turns-widened Sound Sound Rise RiseAll xs a b (λ s. s) rise first) (turns-widened Sounds Sound Rises RiseAll ys b c sure rises then)

-- What lasts

lasts-on : {V D : Type 0} (old mid new : PartsState V D) → Lasts old mid → Lasts mid new → Lasts old new
lasts-on old mid new first then = record {
  later = omega (arith, first.later, then.later);
  refusals = omega (arith, first.refusals, then.refusals);
  still = λ s. then.still (first.still s);
  loan = then.loan ∙ first.loan;
  constants = then.constants ∙ first.constants;
}

same-on : (before mid now : Worker) → SameWorker before mid → SameWorker mid now → SameWorker before now
same-on before mid now first then = record {
  opened = then.opened ∙ first.opened;
  queues = then.queues ∙ first.queues;
  count = then.count ∙ first.count;
}

untouched-lasts : {V D : Type 0} (old new : PartsState V D) → IsUntouched old new → Lasts old new
untouched-lasts old new same = record {
  later = (let is = same.faults in omega (arith, is));
  refusals = (let is = same.refusals in omega (arith, is));
  still = same.still;
  loan = same.loan;
  constants = same.constants;
}

-- Turns

module _ {V D : Type 0} (m : Meaning V) (t : Telling D) where
  -- none
  pub turns-none : (is_kind : Phase → Bool) (before now : Worker) (old new : PartsState V D) → now ≡ before → new.shared ≡ old.shared → new.device ≡ old.device → Lasts old new → TakesTurns is_kind m t before now old new
  turns-none is_kind before now old new same shared device lasts = record {
    turns = [];
    phases = ap (λ (h : Worker). h.phase) same;
    told = λ g worker is. told-none m g worker old.NeverFails (HasFailed old new) old.shared new.shared shared;
    device = moves-none t old.device new.device device;
    same = record {
      opened = ap (λ (h : Worker). h.opened) same;
      queues = ap (λ (h : Worker). h.queues) same;
      count = ap (λ (h : Worker). h.count) same;
    };
    stops = stops-none (phase_of before) (phase_of now) _ _ (ap (λ (h : Worker). h.phase) same);
    lasts = lasts;
  }

  pub turns-untouched : (is_kind : Phase → Bool) (before : Worker) (old new : PartsState V D) → IsUntouched old new → TakesTurns is_kind m t before before old new
  turns-untouched is_kind before old new same = turns-none is_kind before before old new refl same.shared same.device (untouched-lasts old new same)

  -- one, or want of memory
  turns-one : (before now : Worker) (old new : PartsState V D) (turned : Turned) → TurnsBy m (Ok turned) before now old new → TurnsLeastBy (Ok turned) before old new → OnPhases TurnedIn (Ok turned) before now → TurnsDevice t before old new (Ok turned) → TurnFrame before now old new (Ok turned) → TakesTurn m t before now old new
  turns-one before now old new turned row least phases device frame is_kind is =
      let one : LoopTurn = record { from = phase_of before; turn = turned; to = phase_of now } in
      record {
        turns = one ∷ [];
        phases = (refl, is, phases, refl);
        told = λ g worker handler. told-one m g worker old.NeverFails (HasFailed old new) one old.shared new.shared (row g worker handler) (least g worker handler);
        device = subst (λ cs. CallsBy t cs old new) (sym (append-nil (calls_in before.opened.worker (phase_of before) turned))) device.told;
        same = frame.same;
        stops = frame.stops;
        lasts = frame.lasts;
      }

  pub turn-made : (before now : Worker) (old new : PartsState V D) (result : Result Turned VringEpollError) → TurnsBy m result before now old new → TurnsLeastBy result before old new → OnPhases TurnedIn result before now → TurnsDevice t before old new result → TurnFrame before now old new result → TakesTurn m t before now old new
  turn-made before now old new (Ok turned) row least phases device frame = turns-one before now old new turned row least phases device frame
  turn-made before now old new (Err e) row least phases device frame = λ is_kind is. turns-none is_kind before now old new frame.err frame.shared device.err frame.lasts

  -- some after others
  pub turns-on : (is_kind : Phase → Bool) (before mid now : Worker) (old between new : PartsState V D) → TakesTurns is_kind m t before mid old between → TakesTurns is_kind m t mid now between new → TakesTurns is_kind m t before now old new
  turns-on is_kind before mid now old between new first then = record {
    turns = first.turns ++ then.turns;
    phases = lead-on is_kind first.turns then.turns (phase_of before) (phase_of mid) (phase_of now) first.phases then.phases;
    told = λ g worker is.
        told-on m g worker old.NeverFails between.NeverFails (HasFailed old between) (HasFailed between new) (HasFailed old new) first.turns then.turns old.shared between.shared new.shared first.lasts.still
        (rose-after old.faults between.faults new.faults then.lasts.later) (rose-before old.faults between.faults new.faults first.lasts.later)
        (first.told g worker is) (then.told g worker (same-handler g worker before mid is first.same));
    device = subst (λ cs. CallsBy t cs old new) (sym (calls-append before.opened.worker first.turns then.turns))
        (moves-append t (calls_over before.opened.worker first.turns) (calls_over before.opened.worker then.turns) old.device between.device new.device first.device
        (subst (λ k. CallsBy t (calls_over k then.turns) between new) (ap (λ o. o.worker) first.same.opened) then.device));
    same = same-on before mid now first.same then.same;
    stops = stops-on (phase_of before) (phase_of mid) (phase_of now) old.faults between.faults new.faults old.refusals between.refusals new.refusals first.lasts.later then.lasts.later first.lasts.refusals then.lasts.refusals first.stops then.stops;
    lasts = lasts-on old between new first.lasts then.lasts;
  }

  -- no turn was taken yet
  pub turns-begin : (is_kind : Phase → Bool) (before : Worker) (old : PartsState V D) → TakesTurns is_kind m t before before old old
  turns-begin is_kind before old = turns-none is_kind before before old old refl refl refl record {
    later = omega (arith);
    refusals = omega (arith);
    still = λ s. s;
    loan = refl;
    constants = refl;
  }

  -- one more
  pub turns-more : (is_kind : Phase → Bool) (before mid now : Worker) (old between new : PartsState V D) → TakesTurns is_kind m t before mid old between → is_kind (phase_of mid) ≡ true → TakesTurn m t mid now between new → TakesTurns is_kind m t before now old new
  turns-more is_kind before mid now old between new first is then = turns-on is_kind before mid now old between new first (then is_kind is)
