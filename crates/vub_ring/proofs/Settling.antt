-- What the calls of a host leave of an event, as changes of what is held.
use Rattle.std.proofs.Common.{◌≡◌, ℕ, ◌-◌, Bool, true, [], ◌∷◌, Option, Some, None, Result, Ok, Err, IsErrOf, inl, inr, refl, sym, ap, ◌∙◌, arith}
use Rattle.std.proofs.lemmas.List.{set-get_or}
use Rattle.std.proofs.lemmas.Bool.Decides.{nat_tests}
use Rattle.vub_base.specs.Told.{Told}
use Rattle.vub_event.specs.declared.event.Event.{Event}
use Rattle.vub_event.specs.declared.error.HostError.{HostError}
use Rattle.vub_event.specs.declared.error.HostError.TheVariants.{WouldBlock, EINVAL, EEXIST, ENOENT, EBADF, ENOBUFS, Failed, Held, OutOfMemory}
use Rattle.vub_event.specs.Errors.{RefusesBy}
use Rattle.vub_event.specs.Faults.{CountsFaults}
use Rattle.vub_event.specs.HostTable.{HostTable, event_at, with_event}
use Rattle.vub_event.specs.HostCalls.{Meets, Done, due_of, with_change, value_of, SignalCall, ConsumeCall, signal_refusal, signal_after, consume_refusal, consume_value, consume_after}
use Rattle.vub_event.specs.Counter.{write_refusal, written, read_refusal, read_value, after_read}
use Rattle.vub_model.specs.Shared.{raised_event, raised_option, read_option}
use Rattle.vub_ring.specs.Faults.{CountsFaults as CountsPartsFaults}
use Rattle.vub_ring.specs.Play.{OnTable, CallsIf, table_called, table_wanted}
use Rattle.vub_ring.specs.declared.ops.PartsError.{PartsError}
use Rattle.vub_ring.specs.declared.ops.PartsError.TheVariants.{Fault, OutOfMemory as Lacking}
use Rattle.vub_ring.specs.Events.{settled, unless_failed, table_raised, table_read, RaisesEvent, ReadsEvent}

pub told-map : {A : Type 0} (old new : Option A) (R S : A → A → Type 0) → ((a b : A) → R a b → S a b) → Told old new R → Told old new S
told-map None new R S f h = tt
told-map (Some a) None R S f h = h
told-map (Some a) (Some b) R S f h = f a b h

-- an event put back in its place changes nothing
pub same-event : (table : HostTable) (object : ℕ) (found : Option Event) → event_at table object ≡ found → table ≡ with_event table object found
same-event table object found is =
    sym (ap (λ f. with_event table object f) (sym is) ∙ ap (λ os. record table { objects = os }) (set-get_or table.objects object None))

-- a counter that is not full takes a write of 1, and a full one stays
raised-one : (event : Event) → write_refusal event 1 ≡ None → written event 1 ≡ raised_event event
raised-one event h = grind (arith, nat_tests)

full-stays : (event : Event) → write_refusal event 1 ≡ Some WouldBlock → event ≡ raised_event event
full-stays event h = grind (arith, nat_tests)

-- no other refusal is due at a write of 1
only-full : (event : Event) (e : HostError) → write_refusal event 1 ≡ Some e → e ≡ WouldBlock
only-full event e h = grind (arith, nat_tests)

empty-stays : (event : Event) → read_refusal event ≡ Some WouldBlock → event ≡ after_read event
empty-stays event h =
    let none : event.count ≡ 0 = grind (arith, nat_tests) in
    let same : event.count ≡ event.count - read_value event = omega (arith, none) in
    ap (λ n. record event { count = n }) same

only-empty : (event : Event) (e : HostError) → read_refusal event ≡ Some e → e ≡ WouldBlock
only-empty event e h = grind (arith, nat_tests)

signal-at : {T : Type 0} (old new : HostTable) (object : ℕ) (found : Option Event) (r : Result T HostError) → event_at old object ≡ found → Meets (due_of (λ event. write_refusal event 1) found) Done (with_change (λ event. written event 1) old object found) r old new → Meets (due_of (λ event. None) found) Done (with_event old object (raised_option found)) (settled r) old new
signal-at old new object None (Ok x) is h = absurd (cc)
signal-at old new object (Some event) (Ok x) is h = (refl, tt, h.2 ∙ ap (λ e. with_event old object (Some e)) (raised-one event h.0))
signal-at old new object None (Err WouldBlock) is h = absurd (cc)
signal-at old new object (Some event) (Err WouldBlock) is h =
    (refl, tt, h.1 ∙ (same-event old object (Some event) is ∙ ap (λ e. with_event old object (Some e)) (full-stays event h.0)))
signal-at old new object found (Err Failed) is h = (tt, h.1)
signal-at old new object found (Err OutOfMemory) is h = (tt, h.1)
signal-at old new object None (Err EINVAL) is h = absurd (cc)
signal-at old new object None (Err EEXIST) is h = absurd (cc)
signal-at old new object None (Err ENOENT) is h = absurd (cc)
signal-at old new object None (Err EBADF) is h = h
signal-at old new object None (Err ENOBUFS) is h = absurd (cc)
signal-at old new object None (Err Held) is h = absurd (cc)
signal-at old new object (Some event) (Err EINVAL) is h = let e = only-full event EINVAL h.0 in absurd (cc)
signal-at old new object (Some event) (Err EEXIST) is h = let e = only-full event EEXIST h.0 in absurd (cc)
signal-at old new object (Some event) (Err ENOENT) is h = let e = only-full event ENOENT h.0 in absurd (cc)
signal-at old new object (Some event) (Err EBADF) is h = let e = only-full event EBADF h.0 in absurd (cc)
signal-at old new object (Some event) (Err ENOBUFS) is h = let e = only-full event ENOBUFS h.0 in absurd (cc)
signal-at old new object (Some event) (Err Held) is h = let e = only-full event Held h.0 in absurd (cc)

read-at : (old new : HostTable) (object : ℕ) (found : Option Event) (r : Result ℕ HostError) → event_at old object ≡ found → Meets (due_of read_refusal found) (λ n. n ≡ value_of found) (with_change after_read old object found) r old new → Meets (due_of (λ event. None) found) Done (with_event old object (read_option found)) (settled r) old new
read-at old new object None (Ok x) is h = absurd (cc)
read-at old new object (Some event) (Ok x) is h = (refl, tt, h.2)
read-at old new object None (Err WouldBlock) is h = absurd (cc)
read-at old new object (Some event) (Err WouldBlock) is h =
    (refl, tt, h.1 ∙ (same-event old object (Some event) is ∙ ap (λ e. with_event old object (Some e)) (empty-stays event h.0)))
read-at old new object found (Err Failed) is h = (tt, h.1)
read-at old new object found (Err OutOfMemory) is h = (tt, h.1)
read-at old new object None (Err EINVAL) is h = absurd (cc)
read-at old new object None (Err EEXIST) is h = absurd (cc)
read-at old new object None (Err ENOENT) is h = absurd (cc)
read-at old new object None (Err EBADF) is h = h
read-at old new object None (Err ENOBUFS) is h = absurd (cc)
read-at old new object None (Err Held) is h = absurd (cc)
read-at old new object (Some event) (Err EINVAL) is h = let e = only-empty event EINVAL h.0 in absurd (cc)
read-at old new object (Some event) (Err EEXIST) is h = let e = only-empty event EEXIST h.0 in absurd (cc)
read-at old new object (Some event) (Err ENOENT) is h = let e = only-empty event ENOENT h.0 in absurd (cc)
read-at old new object (Some event) (Err EBADF) is h = let e = only-empty event EBADF h.0 in absurd (cc)
read-at old new object (Some event) (Err ENOBUFS) is h = let e = only-empty event ENOBUFS h.0 in absurd (cc)
read-at old new object (Some event) (Err Held) is h = let e = only-empty event Held h.0 in absurd (cc)

pub signal-settles : {T : Type 0} (object : ℕ) (r : Result T HostError) (old new : HostTable) → SignalCall object 1 r old new → RaisesEvent object (settled r) old new
unfolding signal_refusal signal_after
signal-settles object r old new h = signal-at old new object (event_at old object) r refl h

pub read-settles : (object : ℕ) (r : Result ℕ HostError) (old new : HostTable) → ConsumeCall object r old new → ReadsEvent object (settled r) old new
unfolding consume_refusal consume_after consume_value
read-settles object r old new h = read-at old new object (event_at old object) r refl h

-- the same where the host may tell nothing
pub told_signals : {T : Type 0} (object : ℕ) (r : Result T HostError) (old new : Option HostTable) → Told old new (SignalCall object 1 r) → Told old new (RaisesEvent object (settled r))
told_signals object r old new h = told-map old new (SignalCall object 1 r) (RaisesEvent object (settled r)) (signal-settles object r) h

pub told_reads : (object : ℕ) (r : Result ℕ HostError) (old new : Option HostTable) → Told old new (ConsumeCall object r) → Told old new (ReadsEvent object (settled r))
told_reads object r old new h = told-map old new (ConsumeCall object r) (ReadsEvent object (settled r)) (read-settles object r) h

-- the count of faults is that of the call
failed-settled : {T : Type 0} (r : Result T HostError) → IsErrOf (settled r) Failed → IsErrOf r Failed
failed-settled (Ok x) h = absurd (cc)
failed-settled (Err WouldBlock) h = absurd (cc)
failed-settled (Err EINVAL) h = absurd (cc)
failed-settled (Err EEXIST) h = absurd (cc)
failed-settled (Err ENOENT) h = absurd (cc)
failed-settled (Err EBADF) h = absurd (cc)
failed-settled (Err ENOBUFS) h = absurd (cc)
failed-settled (Err Failed) h = refl
failed-settled (Err Held) h = absurd (cc)
failed-settled (Err OutOfMemory) h = absurd (cc)

pub counts_settled : {T : Type 0} (before now : ℕ) (Sound Still : Type 0) (r : Result T HostError) → CountsFaults before now Sound Still r → CountsFaults before now Sound Still (settled r)
counts_settled before now Sound Still r h = record {
  cause = record { later = h.cause.later; failed = λ e. h.cause.failed (failed-settled r e) };
  still = h.still;
  sound = λ s e. h.sound s (failed-settled r e);
}

pub refuses_settled : {T : Type 0} (r : Result T HostError) → RefusesBy r (Failed ∷ WouldBlock ∷ EINVAL ∷ EBADF ∷ []) → RefusesBy (settled r) (Failed ∷ EINVAL ∷ EBADF ∷ [])
refuses_settled (Ok x) h = tt
refuses_settled (Err WouldBlock) h = tt
refuses_settled (Err EINVAL) h = h
refuses_settled (Err EEXIST) h = h
refuses_settled (Err ENOENT) h = h
refuses_settled (Err EBADF) h = h
refuses_settled (Err ENOBUFS) h = h
refuses_settled (Err Failed) h = h
refuses_settled (Err Held) h = h
refuses_settled (Err OutOfMemory) h = h

-- A refusal other than a fault of the host leaves the table of an event that is not there, which the change leaves too.

raised-none : (table : HostTable) (object : ℕ) (found : Option Event) → event_at table object ≡ found → due_of (λ event. None) found ≡ Some EBADF → table ≡ table_raised table object
raised-none table object None is due = same-event table object None is ∙ ap (λ f. with_event table object (raised_option f)) (sym is)
raised-none table object (Some event) is due = absurd (cc)

read-none : (table : HostTable) (object : ℕ) (found : Option Event) → event_at table object ≡ found → due_of (λ event. None) found ≡ Some EBADF → table ≡ table_read table object
read-none table object None is due = same-event table object None is ∙ ap (λ f. with_event table object (read_option f)) (sym is)
read-none table object (Some event) is due = absurd (cc)

-- nothing else is due
only-missing : (found : Option Event) (e : HostError) → due_of (λ event. None) found ≡ Some e → e ≡ EBADF
only-missing None e due = cc
only-missing (Some event) e due = absurd (cc)

pub told_raised : (object : ℕ) (r : Result (Unit {0}) HostError) (old new : Option HostTable) → RefusesBy r (Failed ∷ EINVAL ∷ EBADF ∷ []) → Told old new (RaisesEvent {T = Unit {0}} object r) → OnTable (unless_failed r) old new (λ done a b. b ≡ table_raised a object)
told_raised object (Ok x) old new only h = told-map old new (RaisesEvent {T = Unit {0}} object (Ok x)) (λ a b. b ≡ table_raised a object) (λ a b m. m.2) h
told_raised object (Err Failed) old new only h = told-map old new (RaisesEvent {T = Unit {0}} object (Err Failed)) (λ a b. b ≡ a) (λ a b m. m.1) h
told_raised object (Err EINVAL) old new only h = told-map old new (RaisesEvent {T = Unit {0}} object (Err EINVAL)) (λ a b. b ≡ table_raised a object) (λ a b m. let e = only-missing (event_at a object) EINVAL m.0 in absurd (cc)) h
told_raised object (Err EBADF) old new only h = told-map old new (RaisesEvent {T = Unit {0}} object (Err EBADF)) (λ a b. b ≡ table_raised a object) (λ a b m. m.1 ∙ raised-none a object (event_at a object) refl m.0) h
told_raised object (Err WouldBlock) old new only h = absurd (cc)
told_raised object (Err EEXIST) old new only h = absurd (cc)
told_raised object (Err ENOENT) old new only h = absurd (cc)
told_raised object (Err ENOBUFS) old new only h = absurd (cc)
told_raised object (Err Held) old new only h = absurd (cc)
told_raised object (Err OutOfMemory) old new only h = absurd (cc)

pub told_read : (object : ℕ) (r : Result (Unit {0}) HostError) (old new : Option HostTable) → RefusesBy r (Failed ∷ EINVAL ∷ EBADF ∷ []) → Told old new (ReadsEvent {T = Unit {0}} object r) → OnTable (unless_failed r) old new (λ done a b. b ≡ table_read a object)
told_read object (Ok x) old new only h = told-map old new (ReadsEvent {T = Unit {0}} object (Ok x)) (λ a b. b ≡ table_read a object) (λ a b m. m.2) h
told_read object (Err Failed) old new only h = told-map old new (ReadsEvent {T = Unit {0}} object (Err Failed)) (λ a b. b ≡ a) (λ a b m. m.1) h
told_read object (Err EINVAL) old new only h = told-map old new (ReadsEvent {T = Unit {0}} object (Err EINVAL)) (λ a b. b ≡ table_read a object) (λ a b m. let e = only-missing (event_at a object) EINVAL m.0 in absurd (cc)) h
told_read object (Err EBADF) old new only h = told-map old new (ReadsEvent {T = Unit {0}} object (Err EBADF)) (λ a b. b ≡ table_read a object) (λ a b m. m.1 ∙ read-none a object (event_at a object) refl m.0) h
told_read object (Err WouldBlock) old new only h = absurd (cc)
told_read object (Err EEXIST) old new only h = absurd (cc)
told_read object (Err ENOENT) old new only h = absurd (cc)
told_read object (Err ENOBUFS) old new only h = absurd (cc)
told_read object (Err Held) old new only h = absurd (cc)
told_read object (Err OutOfMemory) old new only h = absurd (cc)

failed-parts : (r : Result (Unit {0}) HostError) → IsErrOf (unless_failed r) Fault → IsErrOf r Failed
failed-parts (Ok x) h = absurd (cc)
failed-parts (Err Failed) h = refl
failed-parts (Err WouldBlock) h = absurd (cc)
failed-parts (Err EINVAL) h = absurd (cc)
failed-parts (Err EEXIST) h = absurd (cc)
failed-parts (Err ENOENT) h = absurd (cc)
failed-parts (Err EBADF) h = absurd (cc)
failed-parts (Err ENOBUFS) h = absurd (cc)
failed-parts (Err Held) h = absurd (cc)
failed-parts (Err OutOfMemory) h = absurd (cc)

pub counts_unless_failed : (before now : ℕ) (Sound Still : Type 0) (r : Result (Unit {0}) HostError) → CountsFaults before now Sound Still r → CountsPartsFaults before now Sound Still (unless_failed r)
counts_unless_failed before now Sound Still r h = record {
  cause = record { later = h.cause.later; failed = λ e. h.cause.failed (failed-parts r e) };
  still = h.still;
  sound = λ s e. h.sound s (failed-parts r e);
}

-- the call of a ring, after a signal at which the host may have failed
pub called_if : (wanted : Bool) (call : Option ℕ) (result : Result (Unit {0}) PartsError) (before now : ℕ) (Sound Still : Type 0) (old new : Option HostTable) → wanted ≡ true → CountsPartsFaults before now Sound Still result → (IsErrOf result Lacking → ⊥) → OnTable result old new (λ done a b. b ≡ table_called call a) → Told old new (λ a b. CallsIf before now call wanted a b)
called_if wanted call (Ok x) before now Sound Still old new is counts only h =
    told-map old new (λ a b. b ≡ table_called call a) (λ a b. CallsIf before now call wanted a b) (λ a b e. inl (e ∙ ap (λ w. table_wanted call w a) (sym is))) h
called_if wanted call (Err Fault) before now Sound Still old new is counts only h =
    told-map old new (λ a b. b ≡ a) (λ a b. CallsIf before now call wanted a b) (λ a b e. inr (counts.cause.failed refl, is, e)) h
called_if wanted call (Err Lacking) before now Sound Still old new is counts only h = absurd (only refl)

pub called_sound : (wanted : Bool) (call : Option ℕ) (result : Result (Unit {0}) PartsError) (before now : ℕ) (Sound Still : Type 0) (old new : Option HostTable) → wanted ≡ true → CountsPartsFaults before now Sound Still result → (IsErrOf result Lacking → ⊥) → OnTable result old new (λ done a b. b ≡ table_called call a) → Sound → Told old new (λ a b. b ≡ table_wanted call wanted a)
called_sound wanted call (Ok x) before now Sound Still old new is counts only h sound =
    told-map old new (λ a b. b ≡ table_called call a) (λ a b. b ≡ table_wanted call wanted a) (λ a b e. e ∙ ap (λ w. table_wanted call w a) (sym is)) h
called_sound wanted call (Err Fault) before now Sound Still old new is counts only h sound = absurd (counts.sound sound refl)
called_sound wanted call (Err Lacking) before now Sound Still old new is counts only h sound = absurd (only refl)

pub told_same : {A : Type 0} (table : Option A) → Told table table (λ a b. b ≡ a)
told_same None = tt
told_same (Some a) = refl

-- a signal at a host that never fails
pub raised_sound : (object : ℕ) (result : Result (Unit {0}) PartsError) (before now : ℕ) (Sound Still : Type 0) (old new : HostTable) → CountsPartsFaults before now Sound Still result → (IsErrOf result Lacking → ⊥) → OnTable result (Some old) (Some new) (λ done a b. b ≡ table_raised a object) → Sound → new ≡ table_raised old object
raised_sound object (Ok x) before now Sound Still old new counts only h sound = h
raised_sound object (Err Fault) before now Sound Still old new counts only h sound = absurd (counts.sound sound refl)
raised_sound object (Err Lacking) before now Sound Still old new counts only h sound = absurd (only refl)
