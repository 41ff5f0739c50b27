-- Workers that are opened one after the other.
use Rattle.std.proofs.Common.{◌≡◌, ℕ, suc, ◌+◌, ◌≤◌, true, List, [], ◌∷◌, ◌++◌, length, Option, Some, None, Result, Ok, Err, IfOk, inl, refl, sym, ap, ◌∙◌, subst, arith, length-append}
use Rattle.std.specs.Option.{ForSome}
use Rattle.vub_base.specs.Causes.{Rose}
use Rattle.vub_base.specs.Told.{Told}
use Rattle.vub_model.specs.declared.cause.VringEpollError.{VringEpollError}
use Rattle.vub_model.specs.declared.cause.VringEpollError.TheVariants as epoll
use Rattle.vub_model.specs.declared.constants.Constants.{Constants}
use Rattle.vub_model.specs.declared.wiring.Opened.{Opened}
use Rattle.vub_model.specs.Shared.{Shared}
use Rattle.vub_queue.specs.declared.error.QueueError.TheVariants.{InvalidMaxSize}
use Rattle.vub_vring.specs.PartsState.{PartsState, Tells, IsUntouched}
use Rattle.vub_vring.specs.Worker.{exit_in, Opens, OpensFor, IsOpeningFault, LeavesMade, KeepsOpening}
use Rattle.vub_plan.specs.Wires.{wires_of}
use Rattle.vub_handler.specs.declared.error.VhostUserHandlerError.{VhostUserHandlerError}
use Rattle.vub_handler.specs.declared.error.VhostUserHandlerError.TheVariants.{CreateVring, CreateEpollHandler, OutOfMemory}
use Rattle.vub_handler.specs.Opening.{OpensAll, KeepsParts, OpensFirst, StopsAt, MakesSession, Makes, IsMakingFault, LeavesOpened, unopened, IsUnmade, DecidesSize, is_greatest_size}
use Rattle.vub_handler.specs.Player.{Player, new_player}

-- What is told, one after the other

pub told-on : {A : Type 0} (a b d : Option A) (P Q R : A → A → Type 0) → ((x y z : A) → P x y → Q y z → R x z) → Told a b P → Told b d Q → Told a d R
told-on None b d P Q R so first then = tt
told-on (Some x) None d P Q R so first then = absurd first
told-on (Some x) (Some y) None P Q R so first then = absurd then
told-on (Some x) (Some y) (Some z) P Q R so first then = so x y z first then

pub told-same : {A : Type 0} (a : Option A) (R : A → A → Type 0) → ((x : A) → R x x) → Told a a R
told-same None R so = tt
told-same (Some x) R so = so x

for-all : {A : Type 0} (o : Option A) (P : A → Type 0) → ((x : A) → P x) → ForSome o P
for-all o P so = λ x is. so x

for-both : {A : Type 0} (o : Option A) (P Q R : A → Type 0) → ((x : A) → P x → Q x → R x) → ForSome o P → ForSome o Q → ForSome o R
for-both o P Q R so p q = λ x is. so x (p x is) (q x is)

for-map : {A : Type 0} (o : Option A) (P Q : A → Type 0) → ((x : A) → P x → Q x) → ForSome o P → ForSome o Q
for-map o P Q so p = λ x is. so x (p x is)

-- One worker more

opens-append : {V : Type 0} (c : Constants) (n m : ℕ) (ws : List Opened) (w : Opened) (a b d : Shared V) → n + length ws ≡ m → OpensAll c n ws a b → w.worker ≡ m → w.exit ≡ exit_in c m → Opens c.queues w b d → OpensAll c n (ws ++ w ∷ []) a d
opens-append {V} c n m [] w a b d count all number exit opens =
    let is : m ≡ n = omega (arith, count) in
    let H : Shared V → Type 0 = λ h. Opens c.queues w h d in
    (d, number ∙ is, exit ∙ ap (exit_in c) is, subst H all opens, refl)
opens-append c n m (x ∷ ws) w a b d count all number exit opens = (all.0, all.1, all.2, all.3, opens-append c (suc n) m ws w all.0 b d (omega (arith, count)) all.4 number exit opens)

keeps-on : {V D : Type 0} {T : Type 0} (old mid new : PartsState V D) (result : Result T VringEpollError) → KeepsParts old mid → KeepsOpening mid new result → KeepsParts old new
keeps-on old mid new result first then = record {
  device = then.device ∙ first.device;
  refusals = then.refusals ∙ first.refusals;
  lasts = record {
    later = omega (arith, first.lasts.later, then.faults.later);
    refusals = omega (arith, first.lasts.refusals, then.refusals);
    still = λ s. then.faults.still (first.lasts.still s);
    loan = then.loan ∙ first.lasts.loan;
    constants = then.constants ∙ first.lasts.constants;
  };
}

keeps-none : {V D : Type 0} (state : PartsState V D) → KeepsParts state state
keeps-none state = record {
  device = refl;
  refusals = refl;
  lasts = record { later = omega (arith); refusals = omega (arith); still = λ s. s; loan = refl; constants = refl };
}

pub opens-begin : {V D : Type 0} (state : PartsState V D) (opened : List Opened) → opened ≡ [] → OpensFirst 0 opened state state
opens-begin {V} {D} state opened none =
    let P : List Opened → Type 0 = λ ws. OpensFirst 0 ws state state in
    subst P (sym none) record {
      workers = for-all state.constants _ (λ c. told-same state.shared _ (λ h. refl));
      size = refl;
      keeps = keeps-none state;
    }

told-first : {V D : Type 0} (old mid : PartsState V D) (P : Constants → Type 0) → KeepsParts old mid → ForSome mid.constants P → ForSome old.constants P
told-first old mid P keeps is = subst (λ k. ForSome k P) keeps.lasts.constants is

pub opens-more : {V D : Type 0} (n : ℕ) (ws more : List Opened) (w : Opened) (old mid new : PartsState V D) → OpensFirst n ws old mid → w.worker ≡ n → ForSome mid.constants (λ c. OpensFor c n w mid.shared new.shared) → KeepsOpening mid new (Ok w) → more ≡ ws ++ w ∷ [] → OpensFirst (n + 1) more old new
opens-more {V} {D} n ws more w old mid new first number opens keeps is =
    let P : List Opened → Type 0 = λ l. OpensFirst (n + 1) l old new in
    subst P (sym is) record {
      workers = for-both old.constants _ _ _ (λ c all one. told-on old.shared mid.shared new.shared _ _ _ (λ a b d x y. opens-append c 0 n ws w a b d (omega (arith, first.size)) x number one.0 y) all one.1) first.workers (told-first old mid _ first.keeps opens);
      size = omega (arith, length-append ws (w ∷ []), first.size);
      keeps = keeps-on old mid new (Ok w) first.keeps keeps;
    }

-- A worker that can't be opened

fault-before : (before mid now : ℕ) (e : VringEpollError) → before ≤ mid → IsOpeningFault mid now e → IsOpeningFault before now e
fault-before before mid now epoll.EpollCreateFd le rose = omega (arith, le, rose)
fault-before before mid now epoll.RegisterExitEvent le rose = omega (arith, le, rose)
fault-before before mid now epoll.NewEventConsumerNotifier le rose = omega (arith, le, rose)
fault-before before mid now epoll.RegisterVringEnabledEvent le rose = omega (arith, le, rose)
fault-before before mid now epoll.OutOfMemory le rose = tt
fault-before before mid now e le rose = absurd rose

pub stops-here : {V D : Type 0} (n : ℕ) (ws : List Opened) (e : VringEpollError) (old mid new : PartsState V D) → OpensFirst n ws old mid → ForSome mid.constants (λ c. Tells mid new (LeavesMade c.queues (exit_in c n) e)) → KeepsOpening {T = Opened} mid new (Err e) → StopsAt e old new
stops-here {V} n ws e old mid new first left keeps = record {
  left = for-both old.constants _ _ _ (λ c all one. told-on old.shared mid.shared new.shared _ _ _ (λ a b d x y.
      let N : ℕ → Type 0 = λ k. LeavesMade c.queues (exit_in c k) e b d in
      record { opened = ws; mid = b; before = x; left = subst N (sym first.size) y }) all one) first.workers (told-first old mid _ first.keeps left);
  cause = fault-before old.faults mid.faults new.faults e first.keeps.lasts.later keeps.faults.cause;
  sound = λ s. keeps.faults.sound (first.keeps.lasts.still s);
  keeps = keeps-on old mid new (Err e) first.keeps keeps;
}

-- memory was refused after these workers
pub stops-full : {V D : Type 0} (n : ℕ) (ws : List Opened) (old new : PartsState V D) → OpensFirst n ws old new → StopsAt epoll.OutOfMemory old new
stops-full {V} n ws old new first = record {
  left = for-map old.constants _ _ (λ c all. told-on old.shared new.shared new.shared _ _ _ (λ a b d x same.
      let P : Shared V → Type 0 = λ k. LeavesMade c.queues (exit_in c (length ws)) epoll.OutOfMemory b k in
      record { opened = ws; mid = b; before = x; left = subst P (sym same) (inl refl, refl) }) all (told-same new.shared (λ x y. y ≡ x) (λ h. refl))) first.workers;
  cause = tt;
  sound = λ s. refl;
  keeps = first.keeps;
}

-- Sessions

rose-of : (before now : ℕ) (e : VringEpollError) → (e ≡ epoll.OutOfMemory → ⊥) → IsOpeningFault before now e → Rose before now
rose-of before now epoll.EpollCreateFd other rose = rose
rose-of before now epoll.RegisterExitEvent other rose = rose
rose-of before now epoll.NewEventConsumerNotifier other rose = rose
rose-of before now epoll.RegisterVringEnabledEvent other rose = rose
rose-of before now epoll.OutOfMemory other rose = absurd (other refl)
rose-of before now e other rose = absurd rose

-- a claim on the error by what it is: want of memory, or the worker's own
by-error : (P : VringEpollError → VhostUserHandlerError → Type 0) → P epoll.OutOfMemory OutOfMemory → ((e : VringEpollError) → (e ≡ epoll.OutOfMemory → ⊥) → P e (CreateEpollHandler e)) → (e : VringEpollError) → P e (unopened e)
by-error P memory other epoll.OutOfMemory = memory
by-error P memory other epoll.EpollCreateFd = other epoll.EpollCreateFd (λ is. cc)
by-error P memory other epoll.EpollWait = other epoll.EpollWait (λ is. cc)
by-error P memory other epoll.RegisterExitEvent = other epoll.RegisterExitEvent (λ is. cc)
by-error P memory other epoll.HandleEventReadKick = other epoll.HandleEventReadKick (λ is. cc)
by-error P memory other (epoll.HandleEventBackendHandling why) = other (epoll.HandleEventBackendHandling why) (λ is. cc)
by-error P memory other epoll.NewEventConsumerNotifier = other epoll.NewEventConsumerNotifier (λ is. cc)
by-error P memory other epoll.RegisterVringEnabledEvent = other epoll.RegisterVringEnabledEvent (λ is. cc)
by-error P memory other epoll.HandleVringEnabledEventConsume = other epoll.HandleVringEnabledEventConsume (λ is. cc)
by-error P memory other (epoll.VringIndexOutOfRange n) = other (epoll.VringIndexOutOfRange n) (λ is. cc)

pub unmade : {V D : Type 0} (old new : PartsState V D) (e : VringEpollError) → StopsAt e old new → IsUnmade old new (unopened e)
unmade old new e stops =
    by-error (λ e x. StopsAt e old new → IsUnmade old new x)
    (λ s. record { cause = tt; sound = λ sound. tt; left = s.left })
    (λ e other s. record { cause = rose-of old.faults new.faults e other s.cause; sound = λ sound. other (s.sound sound); left = s.left })
    e stops

pub size_unopened : (c : Constants) (e : VringEpollError) → is_greatest_size c.max ≡ true → DecidesSize {T = Player} (Err (unopened e)) c
size_unopened c e fits = by-error (λ e x. DecidesSize {T = Player} (Err x) c) tt (λ e other. fits) e

pub unmade_full : {V D : Type 0} (n : ℕ) (ws : List Opened) (old new : PartsState V D) → OpensFirst n ws old new → IsUnmade old new OutOfMemory
unmade_full n ws old new first = unmade old new epoll.OutOfMemory (stops-full n ws old new first)

pub made_over : {V D : Type 0} (n : ℕ) (ws : List Opened) (c : Constants) (player : Player) (old new : PartsState V D) → OpensFirst n ws old new → ForSome old.constants (λ k. c ≡ k) → n ≡ length c.masks → player ≡ new_player (wires_of c ws) → Makes player old new
made_over n ws c player old new first told count is =
    for-both old.constants _ _ _ (λ k all same.
    let P : Constants → Type 0 = λ x. MakesSession x player old new in
    let W : Constants → Type 0 = λ x. Tells old new (OpensAll x 0 ws) in
    subst P same record { opened = ws; player = is; size = first.size ∙ count; workers = subst W (sym same) all }) first.workers told

-- Before the workers are opened

told-still : {A : Type 0} (a b : Option A) (R : A → A → Type 0) → b ≡ a → ((x : A) → R x x) → Told a b R
told-still a b R same so = subst (λ o. Told a o R) (sym same) (told-same a R so)

pub keeps_untouched : {V D : Type 0} (old new : PartsState V D) → IsUntouched old new → KeepsParts old new
keeps_untouched old new same = record {
  device = same.device;
  refusals = same.refusals;
  lasts = record {
    later = (let e = same.faults in omega (arith, e));
    refusals = (let e = same.refusals in omega (arith, e));
    still = same.still;
    loan = same.loan;
    constants = same.constants;
  };
}

pub unmade_early : {V D : Type 0} (old new : PartsState V D) → IsUntouched old new → IsUnmade old new OutOfMemory
unmade_early old new same = record {
  cause = tt;
  sound = λ s. tt;
  left = for-all old.constants _ (λ c. told-still old.shared new.shared _ same.shared (λ x. record { opened = []; mid = x; before = refl; left = (inl refl, refl) }));
}

pub unmade_size : {V D : Type 0} (old new : PartsState V D) → IsUntouched old new → IsUnmade old new (CreateVring InvalidMaxSize)
unmade_size old new same = record {
  cause = tt;
  sound = λ s. tt;
  left = for-all old.constants _ (λ c. told-still old.shared new.shared _ same.shared (λ x. refl));
}

pub keeps_after : {V D : Type 0} (old mid new : PartsState V D) → IsUntouched old mid → KeepsParts mid new → KeepsParts old new
keeps_after old mid new same then = record {
  device = then.device ∙ same.device;
  refusals = then.refusals ∙ same.refusals;
  lasts = record {
    later = (let e = same.faults in let l = then.lasts.later in omega (arith, e, l));
    refusals = (let e = same.refusals in let l = then.lasts.refusals in omega (arith, e, l));
    still = λ s. then.lasts.still (same.still s);
    loan = then.lasts.loan ∙ same.loan;
    constants = then.lasts.constants ∙ same.constants;
  };
}

told-after : {V D : Type 0} (old mid new : PartsState V D) (R : Constants → Shared V → Shared V → Type 0) → IsUntouched old mid → ForSome mid.constants (λ c. Tells mid new (R c)) → ForSome old.constants (λ c. Tells old new (R c))
told-after {V} old mid new R same is =
    let K : Option Constants → Type 0 = λ k. ForSome k (λ c. Told old.shared new.shared (R c)) in
    let H : Option (Shared V) → Type 0 = λ h. ForSome mid.constants (λ c. Told h new.shared (R c)) in
    subst K same.constants (subst H same.shared is)

pub unmade_after : {V D : Type 0} (old mid new : PartsState V D) (e : VhostUserHandlerError) → IsUntouched old mid → IsUnmade mid new e → IsUnmade old new e
unmade_after old mid new e same then = record {
  cause = subst (λ n. IsMakingFault n new.faults e) same.faults then.cause;
  sound = λ s. then.sound (same.still s);
  left = told-after old mid new (λ c. LeavesOpened c e) same then.left;
}

pub makes_after : {V D : Type 0} (old mid new : PartsState V D) (player : Player) → IsUntouched old mid → Makes player mid new → Makes player old new
makes_after {V} {D} old mid new player same then =
    let K : Option Constants → Type 0 = λ k. ForSome k (λ c. MakesSession c player old new) in
    subst K same.constants
    (for-map mid.constants _ _ (λ c made.
    let H : Option (Shared V) → Type 0 = λ h. Told h new.shared (OpensAll c 0 made.opened) in
    record { opened = made.opened; player = made.player; size = made.size; workers = subst H same.shared made.workers }) then)

pub made-after : {V D : Type 0} (old mid new : PartsState V D) (result : Result Player VhostUserHandlerError) → IsUntouched old mid → IfOk result (λ player. Makes player mid new) → IfOk result (λ player. Makes player old new)
made-after old mid new (Ok player) same then = makes_after old mid new player same then
made-after old mid new (Err e) same then = tt
