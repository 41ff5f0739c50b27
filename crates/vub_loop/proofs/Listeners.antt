-- The rows of a listener's calls, and of telling a worker to end, by what the host said.
use Rattle.std.proofs.Common.{◌≡◌, inr, ℕ, Bool, true, false, Option, Some, None, Result, Ok, Err, IfOk, IsErrOf, refl, sym, ap, subst, ◌∙◌}
use Rattle.vub_base.specs.Causes.{Rose}
use Rattle.vub_base.specs.Told.{Told}
use Rattle.vub_proto.specs.declared.answer.ListenerError.TheVariants.{EINVAL}
use Rattle.vub_event.specs.declared.error.HostError.{HostError}
use Rattle.vub_event.specs.declared.error.HostError.TheVariants as host_error
use Rattle.vub_event.specs.declared.event.Event.{Event}
use Rattle.vub_event.specs.declared.event_set.EventSet.{EventSet}
use Rattle.vub_event.specs.HostTable.{HostTable, event_at, with_event}
use Rattle.vub_event.specs.HostCalls.{listen_refusal, unlisten_refusal, due_of}
use Rattle.vub_model.specs.Shared.{Shared, raised, raised_option}
use Rattle.vub_ring.specs.Events.{table_raised}
use Rattle.vub_ring.specs.Faults.{CountsFaults}
use Rattle.vub_ring.specs.declared.ops.PartsError.{PartsError}
use Rattle.vub_ring.specs.declared.ops.PartsError.TheVariants.{Fault, OutOfMemory as Lacking}
use Rattle.vub_ring.proofs.Settling.{signal-settles, same-event}
use Rattle.vub_vring.specs.declared.ops.HostOp.TheVariants as host_op
use Rattle.vub_vring.specs.declared.ops.HostSaid.{HostSaid}
use Rattle.vub_vring.specs.declared.ops.HostSaid.TheVariants as said
use Rattle.vub_vring.specs.Calls.{Called, HostCall, IsSaid}
use Rattle.vub_loop.specs.declared.listening.EpollHandle.{EpollHandle}
use Rattle.vub_loop.specs.declared.listening.ListenerFault.{ListenerFault}
use Rattle.vub_loop.specs.declared.listening.ListenerFault.TheVariants as fault
use Rattle.vub_loop.specs.Faults.{RowOrFault}
use Rattle.vub_loop.specs.Listening.{is_for_listener, listener_answer, listener_error, due_for, Registers, Unregisters}
use Rattle.vub_loop.proofs.Answers.{said-due}
use Rattle.vub_loop.proofs.Telling.{told-map, by-row}

some-is : {A : Type 0} {x y : A} → Some x ≡ Some y → x ≡ y
some-is h = cc

-- what a call that was not made leaves, where it is told
same-told : {A : Type 0} (old new : Option A) → new ≡ old → Told old new (λ a b. b ≡ a)
same-told None new is = tt
same-told (Some a) None is = absurd (cc)
same-told (Some a) (Some b) is = some-is is

-- arguments that are no listener's are refused, whatever the host's refusal would be
refused-due : (due : Option HostError) (fits : Bool) → fits ≡ false → due_for fits due ≡ Some EINVAL
refused-due due fits is = ap (λ (b : Bool). due_for b due) is

accepted-due : (due : Option HostError) (fits : Bool) → fits ≡ true → due ≡ None → due_for fits due ≡ None
accepted-due due fits is none = ap (λ (b : Bool). due_for b due) is ∙ ap (due_for true) none

meant-due : (due : Option HostError) (e : HostError) (fits : Bool) → fits ≡ true → due ≡ Some e → due_for fits due ≡ Some (listener_error e)
meant-due due e fits is some = ap (λ (b : Bool). due_for b due) is ∙ ap (due_for true) some

module _ {V : Type 0} where
  left : (a b : Shared V) (table : HostTable) → b.table ≡ table → b ≡ record a { table = b.table } → b ≡ record a { table = table }
  left a b table is only = only ∙ ap (λ (t : HostTable). record a { table = t }) is

  listen-row : (w : EpollHandle) (object : ℕ) (set : EventSet) (token : ℕ) (s : HostSaid) (a b : Shared V) → is_for_listener w.queues set token ≡ true → IsSaid s → HostCall (host_op.Listen w.list object token) s a b → Registers w object set token (listener_answer (Ok s)) a b
  listen-row w object set token said.Done a b is due call = (accepted-due (listen_refusal a.table w.list object) (is_for_listener w.queues set token) is call.0.0, left a b _ call.0.2 call.1)
  listen-row w object set token (said.Refused e) a b is due call = (meant-due (listen_refusal a.table w.list object) e (is_for_listener w.queues set token) is (said-due (listen_refusal a.table w.list object) e due call.0.0), left a b _ call.0.1 call.1)
  listen-row w object set token (said.Count n) a b is due call = absurd call.0
  listen-row w object set token (said.Number n) a b is due call = absurd call.0
  listen-row w object set token (said.Member m) a b is due call = absurd call.0
  listen-row w object set token (said.Ready m) a b is due call = absurd call.0

  unlisten-row : (w : EpollHandle) (object : ℕ) (set : EventSet) (token : ℕ) (s : HostSaid) (a b : Shared V) → is_for_listener w.queues set token ≡ true → IsSaid s → HostCall (host_op.Unlisten w.list object w.queues) s a b → Unregisters w object set token (listener_answer (Ok s)) a b
  unlisten-row w object set token said.Done a b is due call = (accepted-due (unlisten_refusal a.table w.list object w.queues) (is_for_listener w.queues set token) is call.0.0, left a b _ call.0.2 call.1)
  unlisten-row w object set token (said.Refused e) a b is due call = (meant-due (unlisten_refusal a.table w.list object w.queues) e (is_for_listener w.queues set token) is (said-due (unlisten_refusal a.table w.list object w.queues) e due call.0.0), left a b _ call.0.1 call.1)
  unlisten-row w object set token (said.Count n) a b is due call = absurd call.0
  unlisten-row w object set token (said.Number n) a b is due call = absurd call.0
  unlisten-row w object set token (said.Member m) a b is due call = absurd call.0
  unlisten-row w object set token (said.Ready m) a b is due call = absurd call.0

  -- a call of the host that was made, or was not
  answered : (R : Result (Unit {0}) ListenerFault → Shared V → Shared V → Type 0) (C : HostSaid → Shared V → Shared V → Type 0) (answer : Result HostSaid PartsError) (result : Result (Unit {0}) ListenerFault) (old new : Option (Shared V)) → ((s : HostSaid) (a b : Shared V) → IsSaid s → C s a b → R (listener_answer (Ok s)) a b) → ((a b : Shared V) → b ≡ a → R (Err fault.Host) a b) → ((a b : Shared V) → b ≡ a → R (Err fault.OutOfMemory) a b) → IfOk answer IsSaid → result ≡ listener_answer answer → Called answer old new C → Told old new (R result)
  answered R C (Ok s) result old new row host memory due is call = subst (λ r. Told old new (R r)) (sym is) (told-map _ _ _ _ (λ a b made. row s a b due made) call)
  answered R C (Err Fault) result old new row host memory due is call = subst (λ r. Told old new (R r)) (sym is) (told-map _ _ _ _ host (same-told old new call))
  answered R C (Err Lacking) result old new row host memory due is call = subst (λ r. Told old new (R r)) (sym is) (told-map _ _ _ _ memory (same-told old new call))

  pub listen-told : (w : EpollHandle) (object : ℕ) (set : EventSet) (token : ℕ) (answer : Result HostSaid PartsError) (result : Result (Unit {0}) ListenerFault) (old new : Option (Shared V)) → is_for_listener w.queues set token ≡ true → IfOk answer IsSaid → result ≡ listener_answer answer → Called answer old new (HostCall (host_op.Listen w.list object token)) → Told old new (Registers w object set token result)
  listen-told w object set token answer result old new is due answers call =
      answered (Registers w object set token) (HostCall (host_op.Listen w.list object token)) answer result old new (λ s a b due made. listen-row w object set token s a b is due made) (λ a b same. same) (λ a b same. same) due answers call

  pub unlisten-told : (w : EpollHandle) (object : ℕ) (set : EventSet) (token : ℕ) (answer : Result HostSaid PartsError) (result : Result (Unit {0}) ListenerFault) (old new : Option (Shared V)) → is_for_listener w.queues set token ≡ true → IfOk answer IsSaid → result ≡ listener_answer answer → Called answer old new (HostCall (host_op.Unlisten w.list object w.queues)) → Told old new (Unregisters w object set token result)
  unlisten-told w object set token answer result old new is due answers call =
      answered (Unregisters w object set token) (HostCall (host_op.Unlisten w.list object w.queues)) answer result old new (λ s a b due made. unlisten-row w object set token s a b is due made) (λ a b same. same) (λ a b same. same) due answers call

  -- arguments that are no listener's
  pub register-refused : (w : EpollHandle) (object : ℕ) (set : EventSet) (token : ℕ) (h : Option (Shared V)) → is_for_listener w.queues set token ≡ false → Told h h (Registers {T = Unit {0}} w object set token (Err (fault.Listener EINVAL)))
  register-refused w object set token None is = tt
  register-refused w object set token (Some a) is = (refused-due (listen_refusal a.table w.list object) (is_for_listener w.queues set token) is, refl)

  pub unregister-refused : (w : EpollHandle) (object : ℕ) (set : EventSet) (token : ℕ) (h : Option (Shared V)) → is_for_listener w.queues set token ≡ false → Told h h (Unregisters {T = Unit {0}} w object set token (Err (fault.Listener EINVAL)))
  unregister-refused w object set token None is = tt
  unregister-refused w object set token (Some a) is = (refused-due (unlisten_refusal a.table w.list object w.queues) (is_for_listener w.queues set token) is, refl)

-- Telling a worker to end

-- no refusal but EBADF is due at an event that may be full
only-missing : (found : Option Event) (e : HostError) → due_of (λ event. None) found ≡ Some e → e ≡ host_error.EBADF
only-missing None e due = cc
only-missing (Some event) e due = absurd (cc)

missing-stays : (table : HostTable) (object : ℕ) (found : Option Event) → event_at table object ≡ found → due_of (λ event. None) found ≡ Some host_error.EBADF → table ≡ table_raised table object
missing-stays table object None is due = same-event table object None is ∙ ap (λ f. with_event table object (raised_option f)) (sym is)
missing-stays table object (Some event) is due = absurd (cc)

module _ {V : Type 0} where
  exit-row : (object : ℕ) (s : HostSaid) (a b : Shared V) → IsSaid s → HostCall (host_op.Signal object 1) s a b → b ≡ raised a object
  exit-row object said.Done a b due call = left a b _ (signal-settles {T = Unit {0}} object (Ok tt) a.table b.table call.0).2 call.1
  exit-row object (said.Refused host_error.WouldBlock) a b due call = left a b _ (signal-settles {T = Unit {0}} object (Err host_error.WouldBlock) a.table b.table call.0).2 call.1
  exit-row object (said.Refused host_error.EBADF) a b due call = let settles = signal-settles {T = Unit {0}} object (Err host_error.EBADF) a.table b.table call.0 in left a b _ (settles.1 ∙ missing-stays a.table object (event_at a.table object) refl settles.0) call.1
  exit-row object (said.Refused host_error.EINVAL) a b due call = let none = only-missing (event_at a.table object) host_error.EINVAL (signal-settles {T = Unit {0}} object (Err host_error.EINVAL) a.table b.table call.0).0 in absurd (cc)
  exit-row object (said.Refused host_error.EEXIST) a b due call = let none = only-missing (event_at a.table object) host_error.EEXIST (signal-settles {T = Unit {0}} object (Err host_error.EEXIST) a.table b.table call.0).0 in absurd (cc)
  exit-row object (said.Refused host_error.ENOENT) a b due call = let none = only-missing (event_at a.table object) host_error.ENOENT (signal-settles {T = Unit {0}} object (Err host_error.ENOENT) a.table b.table call.0).0 in absurd (cc)
  exit-row object (said.Refused host_error.ENOBUFS) a b due call = let none = only-missing (event_at a.table object) host_error.ENOBUFS (signal-settles {T = Unit {0}} object (Err host_error.ENOBUFS) a.table b.table call.0).0 in absurd (cc)
  exit-row object (said.Refused host_error.Held) a b due call = let none = only-missing (event_at a.table object) host_error.Held (signal-settles {T = Unit {0}} object (Err host_error.Held) a.table b.table call.0).0 in absurd (cc)
  exit-row object (said.Refused host_error.Failed) a b due call = absurd due
  exit-row object (said.Refused host_error.OutOfMemory) a b due call = absurd due
  exit-row object (said.Count n) a b due call = absurd call.0
  exit-row object (said.Number n) a b due call = absurd call.0
  exit-row object (said.Member m) a b due call = absurd call.0
  exit-row object (said.Ready m) a b due call = absurd call.0

  -- the exit object was signalled, or the host failed at it
  pub exit-told : (object : ℕ) (answer : Result HostSaid PartsError) (before now : ℕ) (Sound Still : Type 0) (old new : Option (Shared V)) → IfOk answer IsSaid → ¬ (IsErrOf answer Lacking) → CountsFaults before now Sound Still answer → Called answer old new (HostCall (host_op.Signal object 1)) → Told old new (λ a b. RowOrFault Sound (Rose before now) (b ≡ raised a object) (b ≡ a))
  exit-told object (Ok s) before now Sound Still old new due memory counts call = told-map _ _ _ _ (λ a b made. by-row _ _ _ (exit-row object s a b due made)) call
  exit-told object (Err Fault) before now Sound Still old new due memory counts call = told-map old new (λ a b. b ≡ a) (λ a b. RowOrFault Sound (Rose before now) (b ≡ raised a object) (b ≡ a)) (λ a b same. record { row = inr (counts.cause.failed refl, same); sound = λ sound. absurd (counts.sound sound refl) }) (same-told old new call)
  exit-told object (Err Lacking) before now Sound Still old new due memory counts call = absurd (memory refl)

  -- a worker without an exit object is sent nothing
  pub exit-none : (Sound Rise : Type 0) (h : Option (Shared V)) → Told h h (λ a b. RowOrFault Sound Rise (b ≡ a) (b ≡ a))
  exit-none Sound Rise None = tt
  exit-none Sound Rise (Some a) = by-row _ _ _ refl
