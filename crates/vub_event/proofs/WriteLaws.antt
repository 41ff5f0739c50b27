-- What writes and then a read of a counter answer and leave.
use Rattle.std.proofs.Common.{ℕ, zero, suc, ◌+◌, ◌≡◌, List, [], ◌∷◌, ◌++◌, length, get_or, set, Option, Some, None, Result, Ok, Err, sym, ◌∙◌, ap, refl, arith, inl, inr, take, ◌<◌, ◌≤◌, ◌≢◌, add-one, MatchOption}
use Rattle.std.proofs.Math.Seq.{take-length, take-suc}
use Rattle.std.proofs.lemmas.List.{take_all}
use Rattle.std.proofs.lemmas.Bool.Decides.{nat_tests}
use Rattle.vub_event.specs.declared.error.HostError.{HostError}
use Rattle.vub_event.specs.declared.error.HostError.TheVariants.{WouldBlock, EINVAL, EEXIST, ENOENT, EBADF, ENOBUFS, Failed, Held, OutOfMemory}
use Rattle.vub_event.specs.declared.event.Event.{Event}
use Rattle.vub_event.specs.Counter.{written, write_refusal, read_refusal, after_read}
use Rattle.vub_event.specs.HostTable.{HostTable, event_at, with_event}
use Rattle.vub_event.specs.HostCalls.{SignalCall, ConsumeCall, due_of, signal_refusal, signal_after, consume_refusal, consume_value, consume_after}
use Rattle.vub_event.specs.Errors.{RefusesBy, IsDue}
use Rattle.vub_event.specs.Laws.{IsDueOrFault, Stops, ReadsSum, WritesAndReads, accepted_value, accepted_sum, after_writes, writes_after, passed_over, WritesOne, WritesAllAndReads}
use Rattle.vub_base.specs.Told.{Told}
use Rattle.vub_event.proofs.CounterLaws.{written-zero, writes-more, reads-sum}
use Rattle.vub_event.proofs.Telling.{told-then, told-as}
use Rattle.vub_event.proofs.Refusing.{NoMemory, due-or-fault, fault-alone, no-memory}

set-there : (xs : List (Option Event)) (i : ℕ) (event : Event) (v : Option Event) → get_or xs i None ≡ Some event → get_or (set xs i v) i None ≡ v
set-there [] i event v is = absurd cc
set-there (x ∷ xs) zero event v is = refl
set-there (x ∷ xs) (suc i) event v is = set-there xs i event v is

set-same : (xs : List (Option Event)) (i : ℕ) → set xs i (get_or xs i None) ≡ xs
set-same [] i = refl
set-same (x ∷ xs) zero = refl
set-same (x ∷ xs) (suc i) = ap (λ (l : List (Option Event)). x ∷ l) (set-same xs i)

set-twice : (xs : List (Option Event)) (i : ℕ) (v w : Option Event) → set (set xs i v) i w ≡ set xs i w
set-twice [] i v w = refl
set-twice (x ∷ xs) zero v w = refl
set-twice (x ∷ xs) (suc i) v w = ap (λ (l : List (Option Event)). x ∷ l) (set-twice xs i v w)

event-same : (t : HostTable) (object : ℕ) (event : Option Event) → event_at t object ≡ event → with_event t object event ≡ t
event-same t object event is =
    let P : List (Option Event) → HostTable = λ l. record t { objects = l } in
    rw (← is) (ap P (set-same t.objects object))

event-twice : (t : HostTable) (object : ℕ) (v w : Option Event) → with_event (with_event t object v) object w ≡ with_event t object w
event-twice t object v w =
    let P : List (Option Event) → HostTable = λ l. record t { objects = l } in
    ap P (set-twice t.objects object v w)

-- the refusals of a read and of a write
abbrev pub reading : List HostError
reading = Failed ∷ WouldBlock ∷ EBADF ∷ []

abbrev pub writing : List HostError
writing = Failed ∷ WouldBlock ∷ EINVAL ∷ EBADF ∷ []

-- a write and a read, at the event of this number
read-refused : (object value : ℕ) (e : HostError) (old now : HostTable) (event : Option Event) → event_at old object ≡ event → NoMemory e
    → SignalCall {T = Unit {0}} object value (Err e) old now
    → MatchOption event (IsDueOrFault (Some EBADF) e × (now ≡ old))
    (λ event. Stops (write_refusal event value) (with_event old object (Some (written event value))) (read_refusal (written event value)) e old now)
unfolding signal_refusal
read-refused object value e old now None is few signal =
    let due = rw is at signal.0 in (due-or-fault _ e few due, signal.1)
read-refused object value e old now (Some event) is few signal =
    let due = rw is at signal.0 in inl (due, signal.1)

record Wrote (object : ℕ) (accepted : ℕ) (event : Event) (old mid : HostTable) : Type 0 where
  left : mid ≡ with_event old object (Some (written event accepted))
  there : event_at mid object ≡ Some (written event accepted)

wrote : (object accepted : ℕ) (event : Event) (old mid : HostTable) → event_at old object ≡ Some event
    → mid ≡ with_event old object (Some (written event accepted)) → Wrote object accepted event old mid
wrote object accepted event old mid is left = record {
  left = left;
  there = rw left (set-there old.objects object event (Some (written event accepted)) is);
}

-- what a read gives and leaves, where the counter was written
read-after : (object accepted read : ℕ) (event : Event) (old mid now : HostTable) → Wrote object accepted event old mid
    → ConsumeCall object (Ok read) mid now → ReadsSum object (event.count + accepted) read event old now
unfolding consume_refusal consume_value consume_after
read-after object accepted read event old mid now so consume =
    let none = rw so.there at consume.0 in
    let value = rw so.there at consume.1 in
    let left = rw so.there at consume.2 in
    reads-sum object accepted read event old now none value
    (left ∙ ap (λ (t : HostTable). with_event t object (Some (after_read (written event accepted)))) so.left ∙ event-twice old object _ _)

read-refused-after : (object accepted : ℕ) (e : HostError) (event : Event) (old mid now : HostTable) → Wrote object accepted event old mid → NoMemory e
    → ConsumeCall object (Err e) mid now → IsDueOrFault (read_refusal (written event accepted)) e × (now ≡ mid)
unfolding consume_refusal
read-refused-after object accepted e event old mid now so few consume =
    let due = rw so.there at consume.0 in (due-or-fault _ e few due, consume.1)

written-then : (object value : ℕ) (result : Result ℕ HostError) (old mid now : HostTable) (event : Option Event) → event_at old object ≡ event
    → RefusesBy result reading → SignalCall {T = Unit {0}} object value (Ok tt) old mid → ConsumeCall object result mid now
    → WritesAndReads object value result old now
unfolding signal_refusal signal_after
written-then object value result old mid now None is refusals signal consume =
    let refused = rw is at signal.0 in absurd cc
written-then object value (Ok read) old mid now (Some event) is refusals signal consume =
    let left = rw is at signal.2 in
    rw is (rw is at signal.0, read-after object value read event old mid now (wrote object value event old mid is left) consume)
written-then object value (Err e) old mid now (Some event) is refusals signal consume =
    let left = rw is at signal.2 in
    let stop = read-refused-after object value e event old mid now (wrote object value event old mid is left) (no-memory ℕ e reading refusals refl) consume in
    rw is (inr (rw is at signal.0, stop.0, stop.1 ∙ left))

-- several writes
take-next : (l : List ℕ) (i d : ℕ) → i < length l → take (i + 1) l ≡ take i l ++ get_or l i d ∷ []
take-next l i d lt = rw add-one (take-suc l i d lt)

writes-at : (t : HostTable) (object : ℕ) (values : List ℕ) (event : Event) → event_at t object ≡ Some event
    → writes_after t object values ≡ with_event t object (Some (after_writes event values))
writes-at t object values event is = rw is refl

writes-none : (t : HostTable) (object : ℕ) (values : List ℕ) → event_at t object ≡ None → writes_after t object values ≡ t
writes-none t object values is = rw is refl

writes-begin : (t : HostTable) (object : ℕ) (event : Option Event) → event_at t object ≡ event → t ≡ writes_after t object []
writes-begin t object None is = sym (writes-none t object [] is)
writes-begin t object (Some event) is =
    sym (writes-at t object [] event is ∙ ap (λ (e : Event). with_event t object (Some e)) (written-zero event) ∙ event-same t object (Some event) is)

writes-next : (t : HostTable) (object : ℕ) (values : List ℕ) (value : ℕ) (event : Option Event) → event_at t object ≡ event
    → writes_after (writes_after t object values) object (value ∷ []) ≡ writes_after t object (values ++ value ∷ [])
writes-next t object values value None is =
    ap (λ (u : HostTable). writes_after u object (value ∷ [])) (writes-none t object values is)
    ∙ writes-none t object (value ∷ []) is ∙ sym (writes-none t object (values ++ value ∷ []) is)
writes-next t object values value (Some event) is =
    let so = wrote object (accepted_sum event values) event t (writes_after t object values) is (writes-at t object values event is) in
    writes-at (writes_after t object values) object (value ∷ []) (after_writes event values) so.there
    ∙ ap (λ (u : HostTable). with_event u object (Some (after_writes (after_writes event values) (value ∷ [])))) so.left
    ∙ event-twice t object _ _
    ∙ ap (λ (e : Event). with_event t object (Some e)) (writes-more event values value)
    ∙ sym (writes-at t object (values ++ value ∷ []) event is)

abbrev nothing : Event → Option HostError
nothing event = None

pub write-refused : (object value : ℕ) (e : HostError) (old now : HostTable) → RefusesBy {T = Unit {0}} (Err e) writing
    → SignalCall {T = Unit {0}} object value (Err e) old now → WritesAndReads object value (Err e) old now
write-refused object value e old now refusals signal =
    read-refused object value e old now (event_at old object) refl (no-memory (Unit {0}) e writing refusals refl) signal

-- a write that was accepted, one that the counter refused, and one that is no write of a counter
one-accepted : (object value : ℕ) (old now : HostTable) (event : Option Event) → event_at old object ≡ event
    → SignalCall {T = Unit {0}} object value (Ok tt) old now → now ≡ writes_after old object (value ∷ [])
unfolding signal_refusal signal_after
one-accepted object value old now None is signal =
    let refused = rw is at signal.0 in absurd cc
one-accepted object value old now (Some event) is signal =
    let free : write_refusal event value ≡ None = rw is at signal.0 in
    let left : now ≡ with_event old object (Some (written event value)) = rw is at signal.2 in
    let all : value ≡ accepted_value event value + 0 = rw free (omega arith) in
    left ∙ ap (λ (n : ℕ). with_event old object (Some (written event n))) all ∙ sym (writes-at old object (value ∷ []) event is)

one-passed : (object value : ℕ) (e : HostError) (old now : HostTable) (event : Option Event) → event_at old object ≡ event
    → (e ≢ EBADF) → signal_refusal old object value ≡ Some e → now ≡ old → now ≡ writes_after old object (value ∷ [])
unfolding signal_refusal
one-passed object value e old now None is apart due same =
    let refused : Some EBADF ≡ Some e = rw is at due in
    let missing : e ≡ EBADF = cc in absurd (apart missing)
one-passed object value e old now (Some event) is apart due same =
    let refused : write_refusal event value ≡ Some e = rw is at due in
    let none : 0 ≡ accepted_value event value + 0 = rw refused (omega arith) in
    same ∙ sym (event-same old object (Some event) is)
    ∙ ap (λ (e : Event). with_event old object (Some e)) (sym (written-zero event))
    ∙ ap (λ (n : ℕ). with_event old object (Some (written event n))) none ∙ sym (writes-at old object (value ∷ []) event is)

-- a refused write of a counter is none of EBADF
only-counter : (event : Event) (value : ℕ) (e : HostError) → write_refusal event value ≡ Some e → (e ≢ EINVAL) → (e ≢ WouldBlock) → ⊥
only-counter event value e is one two = grind (arith, nat_tests)

one-missing : (object value : ℕ) (e : HostError) (old : HostTable) (event : Option Event) → event_at old object ≡ event
    → (e ≢ EINVAL) → (e ≢ WouldBlock) → signal_refusal old object value ≡ Some e → due_of nothing (event_at old object) ≡ Some e
unfolding signal_refusal
one-missing object value e old None is one two due = rw is (rw is at due)
one-missing object value e old (Some event) is one two due = absurd (only-counter event value e (rw is at due) one two)

pub one-written : (object value : ℕ) (answer : Result (Unit {0}) HostError) (old now : HostTable) → RefusesBy answer writing
    → SignalCall object value answer old now → WritesOne object value (passed_over answer) old now
one-written object value (Ok x) old now refusals signal = one-accepted object value old now (event_at old object) refl signal
one-written object value (Err WouldBlock) old now refusals signal =
    one-passed object value WouldBlock old now (event_at old object) refl (λ is. absurd cc) signal.0 signal.1
one-written object value (Err EINVAL) old now refusals signal =
    one-passed object value EINVAL old now (event_at old object) refl (λ is. absurd cc) signal.0 signal.1
one-written object value (Err EEXIST) old now refusals signal = absurd cc
one-written object value (Err ENOENT) old now refusals signal = absurd cc
one-written object value (Err EBADF) old now refusals signal =
    (one-missing object value EBADF old (event_at old object) refl (λ is. absurd cc) (λ is. absurd cc) signal.0, signal.1)
one-written object value (Err ENOBUFS) old now refusals signal = absurd cc
one-written object value (Err Failed) old now refusals signal = (tt, signal.1)
one-written object value (Err Held) old now refusals signal = absurd cc
one-written object value (Err OutOfMemory) old now refusals signal = absurd cc

-- the read after several writes
all-read : (object : ℕ) (values : List ℕ) (result : Result ℕ HostError) (old mid now : HostTable) (event : Option Event) → event_at old object ≡ event
    → RefusesBy result reading → mid ≡ writes_after old object values → ConsumeCall object result mid now → WritesAllAndReads object values result old now
unfolding consume_refusal
all-read object values (Ok read) old mid now None is refusals so consume =
    let there : event_at mid object ≡ None = rw (so ∙ writes-none old object values is) is in
    let refused = rw there at consume.0 in absurd cc
all-read object values (Err e) old mid now None is refusals so consume =
    let same : mid ≡ old = so ∙ writes-none old object values is in
    let there : event_at mid object ≡ None = rw same is in
    let due : IsDue (Some EBADF) e = rw there at consume.0 in
    rw is (due-or-fault (Some EBADF) e (no-memory ℕ e reading refusals refl) due, consume.1 ∙ same)
all-read object values (Ok read) old mid now (Some event) is refusals so consume =
    let at = wrote object (accepted_sum event values) event old mid is (so ∙ writes-at old object values event is) in
    rw is (read-after object (accepted_sum event values) read event old mid now at consume)
all-read object values (Err e) old mid now (Some event) is refusals so consume =
    let at = wrote object (accepted_sum event values) event old mid is (so ∙ writes-at old object values event is) in
    let stop = read-refused-after object (accepted_sum event values) e event old mid now at (no-memory ℕ e reading refusals refl) consume in
    let all : mid ≡ writes_after old object (take (length values) values) = rw (take-length values) so in
    rw is (stop.0, (length values, stop.1 ∙ (all ∙ writes-at old object (take (length values) values) event is)))

-- a write that ends them
all-stopped : (object : ℕ) (values : List ℕ) (made value : ℕ) (e : HostError) (old mid now : HostTable) (event : Option Event) → event_at old object ≡ event
    → mid ≡ writes_after old object (take made values) → WritesOne {T = Unit {0}} object value (Err e) mid now → WritesAllAndReads object values (Err e) old now
all-stopped object values made value e old mid now None is so write =
    let same : mid ≡ old = so ∙ writes-none old object (take made values) is in
    let there : event_at mid object ≡ None = rw same is in
    let due : IsDueOrFault (Some EBADF) e = rw there at write.0 in
    rw is (due, write.1 ∙ same)
all-stopped object values made value e old mid now (Some event) is so write =
    let at = wrote object (accepted_sum event (take made values)) event old mid is (so ∙ writes-at old object (take made values) event is) in
    let due : IsDueOrFault None e = rw at.there at write.0 in
    rw is (fault-alone (read_refusal (after_writes event values)) e due, (made, write.1 ∙ (so ∙ writes-at old object (take made values) event is)))

-- the same of a host that may tell its table
pub told-written-then : (object value : ℕ) (result : Result ℕ HostError) (a b c : Option HostTable)
    → RefusesBy result reading → Told a b (SignalCall {T = Unit {0}} object value (Ok tt)) → Told b c (ConsumeCall object result)
    → Told a c (WritesAndReads object value result)
told-written-then object value result a b c refusals signal consume =
    told-then a b c (SignalCall {T = Unit {0}} object value (Ok tt)) (ConsumeCall object result) (WritesAndReads object value result)
    (λ old mid now. written-then object value result old mid now (event_at old object) refl refusals) signal consume

pub told-write-refused : (object value : ℕ) (e : HostError) (a b : Option HostTable) → RefusesBy {T = Unit {0}} (Err e) writing
    → Told a b (SignalCall {T = Unit {0}} object value (Err e)) → Told a b (WritesAndReads object value (Err e))
told-write-refused object value e a b refusals signal =
    told-as a b (SignalCall {T = Unit {0}} object value (Err e)) (WritesAndReads object value (Err e)) (λ old now. write-refused object value e old now refusals) signal

pub told-one-written : (object value : ℕ) (answer : Result (Unit {0}) HostError) (a b : Option HostTable) → RefusesBy answer writing
    → Told a b (SignalCall object value answer) → Told a b (WritesOne object value (passed_over answer))
told-one-written object value answer a b refusals signal =
    told-as a b (SignalCall object value answer) (WritesOne object value (passed_over answer)) (λ old now. one-written object value answer old now refusals) signal

-- so many of the writes were made
abbrev pub WroteFirst : ℕ → List ℕ → ℕ → HostTable → HostTable → Type 0
WroteFirst object values made old mid = mid ≡ writes_after old object (take made values)

pub told-begin : (object : ℕ) (values : List ℕ) (a : Option HostTable) → Told a a (WroteFirst object values 0)
told-begin object values None = tt
told-begin object values (Some t) = writes-begin t object (event_at t object) refl

pub told-next : (object : ℕ) (values : List ℕ) (made d : ℕ) (a b c : Option HostTable) → made < length values
    → Told a b (WroteFirst object values made) → Told b c (WritesOne {T = Unit {0}} object (get_or values made d) (Ok tt)) → Told a c (WroteFirst object values (made + 1))
told-next object values made d a b c in' first write =
    let one = take-next values made d in' in
    told-then a b c (WroteFirst object values made) (WritesOne {T = Unit {0}} object (get_or values made d) (Ok tt)) (WroteFirst object values (made + 1))
    (λ old mid now so more.
    more ∙ ap (λ (t : HostTable). writes_after t object (get_or values made d ∷ [])) so
    ∙ writes-next old object (take made values) (get_or values made d) (event_at old object) refl
    ∙ ap (λ (l : List ℕ). writes_after old object l) (sym one)) first write

pub told-all-read : (object : ℕ) (values : List ℕ) (made : ℕ) (result : Result ℕ HostError) (a b c : Option HostTable) → length values ≤ made
    → RefusesBy result reading → Told a b (WroteFirst object values made) → Told b c (ConsumeCall object result) → Told a c (WritesAllAndReads object values result)
told-all-read object values made result a b c done refusals first consume =
    told-then a b c (WroteFirst object values made) (ConsumeCall object result) (WritesAllAndReads object values result)
    (λ old mid now so read.
    all-read object values result old mid now (event_at old object) refl refusals
    (so ∙ ap (λ (l : List ℕ). writes_after old object l) (take_all made values done)) read) first consume

pub told-all-stopped : (object : ℕ) (values : List ℕ) (made value : ℕ) (e : HostError) (a b c : Option HostTable)
    → Told a b (WroteFirst object values made) → Told b c (WritesOne {T = Unit {0}} object value (Err e)) → Told a c (WritesAllAndReads object values (Err e))
told-all-stopped object values made value e a b c first write =
    told-then a b c (WroteFirst object values made) (WritesOne {T = Unit {0}} object value (Err e)) (WritesAllAndReads object values (Err e))
    (λ old mid now so one. all-stopped object values made value e old mid now (event_at old object) refl so one) first write
