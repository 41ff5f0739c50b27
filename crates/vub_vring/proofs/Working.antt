-- Opening a worker, step by step.
use Rattle.std.proofs.Common.{◌≡◌, ℕ, suc, zero, ◌≤◌, ◌<◌, Bool, true, false, nat_lt, nat_eq, if◌then◌else◌, List, [], ◌∷◌, ◌++◌, length, slice_index_or, slice_set, Option, Some, None, is_some, is_none, Result, Ok, Err, not, ◌&&◌, length-append, ◌⊎◌, inl, inr, refl, sym, ap, subst, ◌∙◌, arith}
use Rattle.std.proofs.lemmas.Bool.Decides.{nat_tests}
use Rattle.std.specs.Option.{ForSome}
use Rattle.vub_base.specs.Causes.{Rose}
use Rattle.vub_base.specs.Told.{Told}
use Rattle.vub_event.specs.declared.event.Event.{Event}
use Rattle.vub_event.specs.declared.event_set.EventSet.{EventSet}
use Rattle.vub_event.specs.declared.member.Member.{Member}
use Rattle.vub_event.specs.declared.error.HostError.{HostError}
use Rattle.vub_event.specs.declared.error.HostError.TheVariants.{WouldBlock, EINVAL, EEXIST, ENOENT, EBADF, ENOBUFS, Failed, Held as Claimed, OutOfMemory}
use Rattle.vub_event.specs.HostTable.{HostTable, has_event, has_list, member_at}
use Rattle.vub_event.specs.HostCalls.{new_event, create_list_after, create_event_after, add_refusal, add_after, has_upper_bits, member_for}
use Rattle.vub_event.specs.InterestList.{member_of, with_member}
use Rattle.vub_model.specs.declared.cause.VringEpollError.{VringEpollError}
use Rattle.vub_model.specs.declared.cause.VringEpollError.TheVariants.{EpollCreateFd, EpollWait, RegisterExitEvent, HandleEventReadKick, HandleEventBackendHandling, NewEventConsumerNotifier, RegisterVringEnabledEvent, HandleVringEnabledEventConsume, OutOfMemory as Lacking, VringIndexOutOfRange}
use Rattle.vub_model.specs.declared.constants.Constants.{Constants}
use Rattle.vub_model.specs.declared.wiring.Opened.{Opened}
use Rattle.vub_model.specs.Shared.{Shared}
use Rattle.vub_model.specs.Opening.{listed, exit_member}
use Rattle.vub_vring.specs.declared.ops.HostOp.TheVariants as host
use Rattle.vub_vring.specs.declared.ops.HostSaid.{HostSaid}
use Rattle.vub_vring.specs.declared.ops.HostSaid.TheVariants as said
use Rattle.vub_ring.specs.declared.ops.PartsError.{PartsError}
use Rattle.vub_ring.specs.declared.ops.PartsError.TheVariants as parts_error
use Rattle.vub_vring.specs.Calls.{HostCall, IsSaid}
use Rattle.vub_ring.specs.Faults.{CountsFaults}
use Rattle.vub_vring.specs.Worker.{exit_in, HasExit, Opens, OpensFor, number_of, error_of, MakesList, MakesBell, joined_table, Joins, JoinsExit, IsOpeningFault, OpensBy, with_exit, with_bell, Leaves, LeavesMade, Stops}
use Rattle.vub_ring.proofs.Settling.{told-map}

-- The calls of the host

list-made : {V : Type 0} (s : HostSaid) (old new : Shared V) → HostCall host.CreateList s old new → MakesList (number_of s) old new
list-made (said.Number n) old new m = (m.0.1.0, m.1 ∙ ap (λ t. record old { table = t }) m.0.2)
list-made said.Done old new m = absurd m.0
list-made (said.Count n) old new m = absurd m.0
list-made (said.Member b) old new m = absurd m.0
list-made (said.Ready r) old new m = absurd m.0
list-made (said.Refused e) old new m = absurd m.0

pub told_list : {V : Type 0} (s : HostSaid) (old new : Option (Shared V)) → Told old new (HostCall host.CreateList s) → Told old new (MakesList (number_of s))
told_list s old new h = told-map old new (HostCall host.CreateList s) (MakesList (number_of s)) (list-made s) h

some-is : {A : Type 0} {x y : A} → Some x ≡ Some y → x ≡ y
some-is h = cc

none-due : {A : Type 0} (x : A) → None ≡ Some x → ⊥
none-due x h = cc

bell-made : {V : Type 0} (s : HostSaid) (old new : Shared V) → IsSaid s → HostCall (host.CreateEvent 2048) s old new → MakesBell (number_of s) old new
bell-made (said.Number n) old new is m = (m.0.1.0, m.1 ∙ ap (λ t. record old { table = t }) m.0.2)
bell-made said.Done old new is m = absurd m.0
bell-made (said.Count n) old new is m = absurd m.0
bell-made (said.Member b) old new is m = absurd m.0
bell-made (said.Ready r) old new is m = absurd m.0
bell-made (said.Refused WouldBlock) old new is m = absurd (none-due WouldBlock m.0.0)
bell-made (said.Refused EINVAL) old new is m = absurd (none-due EINVAL m.0.0)
bell-made (said.Refused EEXIST) old new is m = absurd (none-due EEXIST m.0.0)
bell-made (said.Refused ENOENT) old new is m = absurd (none-due ENOENT m.0.0)
bell-made (said.Refused EBADF) old new is m = absurd (none-due EBADF m.0.0)
bell-made (said.Refused ENOBUFS) old new is m = absurd (none-due ENOBUFS m.0.0)
bell-made (said.Refused Failed) old new is m = absurd (is)
bell-made (said.Refused Claimed) old new is m = absurd (none-due Claimed m.0.0)
bell-made (said.Refused OutOfMemory) old new is m = absurd (is)

pub told_bell : {V : Type 0} (s : HostSaid) (old new : Option (Shared V)) → IsSaid s → Told old new (HostCall (host.CreateEvent 2048) s) → Told old new (MakesBell (number_of s))
told_bell s old new is h = told-map old new (HostCall (host.CreateEvent 2048) s) (MakesBell (number_of s)) (λ a b m. bell-made s a b is m) h

joined-when : (table : HostTable) (list : ℕ) (m : Member) (due : Option HostError) → add_refusal table list m ≡ due → (if is_none due then add_after table list m else table) ≡ joined_table table list m
joined-when table list m due is = ap (λ d. if is_none d then add_after table list m else table) (sym is)

join-made : {V : Type 0} (list object : ℕ) (set : EventSet) (token : ℕ) (s : HostSaid) (old new : Shared V) → IsSaid s → HostCall (host.Add list object set token) s old new → Joins list (member_for object set token) old new
join-made list object set token said.Done old new is m = m.1 ∙ ap (λ t. record old { table = t }) (m.0.2 ∙ joined-when old.table list (member_for object set token) None m.0.0)
join-made list object set token (said.Number n) old new is m = absurd m.0
join-made list object set token (said.Count n) old new is m = absurd m.0
join-made list object set token (said.Member b) old new is m = absurd m.0
join-made list object set token (said.Ready r) old new is m = absurd m.0
join-made list object set token (said.Refused WouldBlock) old new is m = m.1 ∙ ap (λ t. record old { table = t }) (m.0.1 ∙ joined-when old.table list (member_for object set token) (Some WouldBlock) m.0.0)
join-made list object set token (said.Refused EINVAL) old new is m = m.1 ∙ ap (λ t. record old { table = t }) (m.0.1 ∙ joined-when old.table list (member_for object set token) (Some EINVAL) m.0.0)
join-made list object set token (said.Refused EEXIST) old new is m = m.1 ∙ ap (λ t. record old { table = t }) (m.0.1 ∙ joined-when old.table list (member_for object set token) (Some EEXIST) m.0.0)
join-made list object set token (said.Refused ENOENT) old new is m = m.1 ∙ ap (λ t. record old { table = t }) (m.0.1 ∙ joined-when old.table list (member_for object set token) (Some ENOENT) m.0.0)
join-made list object set token (said.Refused EBADF) old new is m = m.1 ∙ ap (λ t. record old { table = t }) (m.0.1 ∙ joined-when old.table list (member_for object set token) (Some EBADF) m.0.0)
join-made list object set token (said.Refused ENOBUFS) old new is m = m.1 ∙ ap (λ t. record old { table = t }) (m.0.1 ∙ joined-when old.table list (member_for object set token) (Some ENOBUFS) m.0.0)
join-made list object set token (said.Refused Failed) old new is m = absurd is
join-made list object set token (said.Refused Claimed) old new is m = m.1 ∙ ap (λ t. record old { table = t }) (m.0.1 ∙ joined-when old.table list (member_for object set token) (Some Claimed) m.0.0)
join-made list object set token (said.Refused OutOfMemory) old new is m = absurd is

pub told_join : {V : Type 0} (list object : ℕ) (set : EventSet) (token : ℕ) (s : HostSaid) (old new : Option (Shared V)) → IsSaid s → Told old new (HostCall (host.Add list object set token) s) → Told old new (Joins list (member_for object set token))
told_join list object set token s old new is h = told-map old new (HostCall (host.Add list object set token) s) (Joins list (member_for object set token)) (λ a b m. join-made list object set token s a b is m) h

-- The count of faults

pub opens_ok : {T : Type 0} (x : T) (answer : Result HostSaid PartsError) (before now : ℕ) (Sound Still : Type 0) → CountsFaults before now Sound Still answer → OpensBy before now Sound Still (Ok x)
opens_ok x answer before now Sound Still h = record { later = h.cause.later; cause = tt; still = h.still; sound = λ s. tt }

pub opens_err : {T : Type 0} (e : PartsError) (fault : VringEpollError) (before now : ℕ) (Sound Still : Type 0) → (Rose before now → IsOpeningFault before now fault) → CountsFaults {T = HostSaid} before now Sound Still (Err e) → OpensBy {T = T} before now Sound Still (Err (error_of e fault))
opens_err parts_error.Fault fault before now Sound Still named h =
    record { later = h.cause.later; cause = named (h.cause.failed refl); still = h.still; sound = λ s. absurd (h.sound s refl) }
opens_err parts_error.OutOfMemory fault before now Sound Still named h =
    record { later = h.cause.later; cause = tt; still = h.still; sound = λ s. refl }

rose-later : (before mid now : ℕ) → before ≤ mid → Rose mid now → Rose before now
rose-later before mid now le rose = omega arith

cause-later : (before mid now : ℕ) (e : VringEpollError) → before ≤ mid → IsOpeningFault mid now e → IsOpeningFault before now e
cause-later before mid now EpollCreateFd le cause = rose-later before mid now le cause
cause-later before mid now EpollWait le cause = absurd cause
cause-later before mid now RegisterExitEvent le cause = rose-later before mid now le cause
cause-later before mid now HandleEventReadKick le cause = absurd cause
cause-later before mid now (HandleEventBackendHandling w) le cause = absurd cause
cause-later before mid now NewEventConsumerNotifier le cause = rose-later before mid now le cause
cause-later before mid now RegisterVringEnabledEvent le cause = rose-later before mid now le cause
cause-later before mid now HandleVringEnabledEventConsume le cause = absurd cause
cause-later before mid now Lacking le cause = tt
cause-later before mid now (VringIndexOutOfRange n) le cause = absurd cause

-- one call after another
pub opens_then : {T U : Type 0} (before mid now : ℕ) (Sound Between Still : Type 0) (first : Result T VringEpollError) (second : Result U VringEpollError) → OpensBy before mid Sound Between first → OpensBy mid now Between Still second → OpensBy before now Sound Still second
opens_then before mid now Sound Between Still first (Ok x) a b =
    record { later = omega (arith, a.later, b.later); cause = tt; still = λ s. b.still (a.still s); sound = λ s. tt }
opens_then before mid now Sound Between Still first (Err e) a b =
    record { later = omega (arith, a.later, b.later); cause = cause-later before mid now e a.later b.cause; still = λ s. b.still (a.still s); sound = λ s. b.sound (a.still s) }

-- the same answer, handed on
pub opens_as : {T U : Type 0} (before now : ℕ) (Sound Still : Type 0) (e : VringEpollError) → OpensBy {T = T} before now Sound Still (Err e) → OpensBy {T = U} before now Sound Still (Err e)
opens_as before now Sound Still e h = record { later = h.later; cause = h.cause; still = h.still; sound = h.sound }

pub opens_done : {T U : Type 0} (before now : ℕ) (Sound Still : Type 0) (result : Result T VringEpollError) (x : U) → OpensBy before now Sound Still result → OpensBy before now Sound Still (Ok x)
opens_done before now Sound Still result x h = record { later = h.later; cause = tt; still = h.still; sound = λ s. tt }

-- a call that leaves the count
pub opens_same : {T : Type 0} (before now : ℕ) (Sound Still : Type 0) (x : T) → now ≡ before → (Sound → Still) → OpensBy before now Sound Still (Ok x)
opens_same before now Sound Still x is still = record { later = omega (arith, is); cause = tt; still = still; sound = λ s. tt }

pub opens_lacking : {T : Type 0} (before now : ℕ) (Sound Still : Type 0) → now ≡ before → (Sound → Still) → OpensBy {T = T} before now Sound Still (Err Lacking)
opens_lacking before now Sound Still is still = record { later = omega (arith, is); cause = tt; still = still; sound = λ s. refl }

-- a call that was not made
pub stops_by : {A : Type 0} (e : PartsError) (fault : VringEpollError) (old new : A) → new ≡ old → Stops fault old new (error_of e fault)
stops_by parts_error.Fault fault old new same = (inl refl, same)
stops_by parts_error.OutOfMemory fault old new same = (inr refl, same)

-- The table

last-at : {A : Type 0} (xs : List A) (x d : A) → slice_index_or (xs ++ x ∷ []) (length xs) d ≡ x
last-at [] x d = refl
last-at (y ∷ ys) x d = last-at ys x d

last-set : {A : Type 0} (xs : List A) (x y : A) → slice_set (xs ++ x ∷ []) (length xs) y ≡ xs ++ y ∷ []
last-set [] x y = refl
last-set (z ∷ zs) x y = ap (λ ws. z ∷ ws) (last-set zs x y)

last-below : {A : Type 0} (xs : List A) (x : A) → nat_lt (length xs) (length (xs ++ x ∷ [])) ≡ true
last-below xs x = grind (arith, nat_tests, length-append xs (x ∷ []))

-- nothing is due where list and object are there, the set has no upper bit, and the object is no member
not-due : (list object upper member : Bool) → list ≡ true → object ≡ true → upper ≡ false → member ≡ false → (if not (list && object) then Some EBADF else if upper then Some EINVAL else if member then Some EEXIST else None) ≡ None
not-due true true false false a b c d = refl
not-due false object upper member a b c d = absurd (cc)
not-due true false upper member a b c d = absurd (cc)
not-due true true true member a b c d = absurd (cc)
not-due true true false true a b c d = absurd (cc)

-- a member joins the newest list
join-new : (objects : List (Option Event)) (lists : List (List Member)) (ms : List Member) (m : Member) → is_some (slice_index_or objects m.object None) ≡ true → has_upper_bits m.set.0 ≡ false → is_some (member_of ms m.object) ≡ false → joined_table (record { objects = objects; lists = lists ++ ms ∷ [] }) (length lists) m ≡ record { objects = objects; lists = lists ++ with_member ms m ∷ [] }
unfolding add_refusal add_after
join-new objects lists ms m there upper apart =
    let t : HostTable = record { objects = objects; lists = lists ++ ms ∷ [] } in
    let due : add_refusal t (length lists) m ≡ None = not-due (has_list t (length lists)) (has_event t m.object) (has_upper_bits m.set.0) (is_some (member_at t (length lists) m.object)) (last-below lists ms) there upper (ap (λ xs. is_some (member_of xs m.object)) (last-at lists ms []) ∙ apart) in
    ap (λ d. if is_none d then add_after t (length lists) m else t) due ∙ ap (λ xs. record { objects = objects; lists = xs }) (ap (λ xs. slice_set (lists ++ ms ∷ []) (length lists) (with_member xs m)) (last-at lists ms []) ∙ last-set lists ms (with_member ms m))

below-length : {A : Type 0} (xs : List (Option A)) (i : ℕ) → is_some (slice_index_or xs i None) ≡ true → i < length xs
below-length [] i h = absurd (cc)
below-length (x ∷ xs) zero h = omega arith
below-length (x ∷ xs) (suc i) h = let below : i < length xs = below-length xs i h in omega arith

-- the exit object joins the new list
exit-table : HostTable → ℕ → Option ℕ → ℕ → HostTable
exit-table t list None token = t
exit-table t list (Some exit) token = joined_table t list (listed exit token)

exit-joins : (t : HostTable) (queues : ℕ) (exit : Option ℕ) → HasExit t exit → exit-table (create_list_after t) (length t.lists) exit queues ≡ record { objects = t.objects; lists = t.lists ++ exit_member exit queues ∷ [] }
unfolding exit-table create_list_after
exit-joins t queues None there = refl
exit-joins t queues (Some exit) there = join-new t.objects t.lists [] (listed exit queues) there refl refl

bell-apart : (t : HostTable) (queues : ℕ) (exit : Option ℕ) → HasExit t exit → is_some (member_of (exit_member exit queues) (length t.objects)) ≡ false
bell-apart t queues None there = refl
bell-apart t queues (Some exit) there =
    let below : exit < length t.objects = below-length t.objects exit there in
    let differ : nat_eq exit (length t.objects) ≡ false = grind (arith, nat_tests) in
    ap (λ b. is_some (if b then Some (listed exit queues) else None)) differ

bell-joins : (t : HostTable) (queues : ℕ) (exit : Option ℕ) → HasExit t exit → joined_table (create_event_after (record { objects = t.objects; lists = t.lists ++ exit_member exit queues ∷ [] }) 2048) (length t.lists) (listed (length t.objects) queues) ≡ record { objects = t.objects ++ Some (new_event 0) ∷ []; lists = t.lists ++ with_member (exit_member exit queues) (listed (length t.objects) queues) ∷ [] }
unfolding create_event_after
bell-joins t queues exit there =
    join-new (t.objects ++ Some (new_event 0) ∷ []) t.lists (exit_member exit queues) (listed (length t.objects) queues) (ap is_some (last-at t.objects (Some (new_event 0)) None)) refl (bell-apart t queues exit there)

-- what is held, after the four calls

exit-shared : {V : Type 0} (list : ℕ) (exit : Option ℕ) (token : ℕ) (old new : Shared V) → JoinsExit list exit token old new → new ≡ record old { table = exit-table old.table list exit token }
unfolding exit-table
exit-shared list None token old new is = is
exit-shared list (Some exit) token old new is = is

same-objects : (t : HostTable) (queues : ℕ) (exit : Option ℕ) → HasExit t exit → (exit-table (create_list_after t) (length t.lists) exit queues).objects ≡ t.objects
same-objects t queues exit there = ap (λ table. table.objects) (exit-joins t queues exit there)

opened-shared : {V : Type 0} (queues worker list bell : ℕ) (exit : Option ℕ) (h one two three four : Shared V) → MakesList list h one → JoinsExit list exit queues one two → MakesBell bell two three → Joins list (listed bell queues) three four → Opens queues (record { worker = worker; list = list; bell = bell; exit = exit }) h four
opened-shared {V} queues worker list bell exit h one two three four makes exits bells joins there =
    let second : two ≡ record h { table = exit-table (create_list_after h.table) list exit queues } =
    exit-shared list exit queues one two exits ∙ ap {A = Shared V} (λ x. record x { table = exit-table x.table list exit queues }) makes.1 in
    let Q : ℕ → Type 0 = λ n. exit-table (create_list_after h.table) n exit queues ≡ record { objects = h.table.objects; lists = h.table.lists ++ exit_member exit queues ∷ [] } in
    let table : exit-table (create_list_after h.table) list exit queues ≡ record { objects = h.table.objects; lists = h.table.lists ++ exit_member exit queues ∷ [] } =
    subst Q (sym makes.0) (exit-joins h.table queues exit there) in
    let shared : two ≡ record h { table = record { objects = h.table.objects; lists = h.table.lists ++ exit_member exit queues ∷ [] } } =
    second ∙ ap {A = HostTable} (λ t. record h { table = t }) table in
    let number : bell ≡ length h.table.objects = bells.0 ∙ ap {A = Shared V} (λ x. length x.table.objects) shared in
    let last : four ≡ record h { table = joined_table (create_event_after (record { objects = h.table.objects; lists = h.table.lists ++ exit_member exit queues ∷ [] }) 2048) list (listed bell queues) } =
    joins ∙ (ap {A = Shared V} (λ x. record x { table = joined_table x.table list (listed bell queues) }) bells.1 ∙ ap {A = Shared V} (λ x. record x { table = joined_table (create_event_after x.table 2048) list (listed bell queues) }) shared) in
    let R : ℕ → ℕ → Type 0 = λ l b. joined_table (create_event_after (record { objects = h.table.objects; lists = h.table.lists ++ exit_member exit queues ∷ [] }) 2048) l (listed b queues) ≡ record { objects = h.table.objects ++ Some (new_event 0) ∷ []; lists = h.table.lists ++ with_member (exit_member exit queues) (listed b queues) ∷ [] } in
    let S : ℕ → Type 0 = λ l. R l bell in
    let U : ℕ → Type 0 = λ b. R (length h.table.lists) b in
    (makes.0, number, last ∙ ap {A = HostTable} (λ t. record h { table = t }) (subst S (sym makes.0) (subst U (sym number) (bell-joins h.table queues exit there))))

-- the same where the parts may tell nothing
pub opened_told : {V : Type 0} (queues worker list bell : ℕ) (exit : Option ℕ) (h one two three four : Option (Shared V)) → Told h one (MakesList list) → Told one two (JoinsExit list exit queues) → Told two three (MakesBell bell) → Told three four (Joins list (listed bell queues)) → Told h four (Opens queues (record { worker = worker; list = list; bell = bell; exit = exit }))
opened_told queues worker list bell exit None one two three four a b c d = tt
opened_told queues worker list bell exit (Some h) None two three four a b c d = absurd a
opened_told queues worker list bell exit (Some h) (Some one) None three four a b c d = absurd b
opened_told queues worker list bell exit (Some h) (Some one) (Some two) None four a b c d = absurd c
opened_told queues worker list bell exit (Some h) (Some one) (Some two) (Some three) None a b c d = absurd d
opened_told queues worker list bell exit (Some h) (Some one) (Some two) (Some three) (Some four) a b c d = opened-shared queues worker list bell exit h one two three four a b c d

-- by the device's constants, where they are told
pub opened_for : {V : Type 0} (told : Option Constants) (constants : Constants) (worker : ℕ) (w : Opened) (old new : Option (Shared V)) → ForSome told (λ k. constants ≡ k) → w.exit ≡ exit_in constants worker → Told old new (Opens constants.queues w) → ForSome told (λ k. OpensFor k worker w old new)
opened_for told constants worker w old new are exit opens k is =
    let same : constants ≡ k = are k is in
    let P : Constants → Type 0 = λ c. Told old new (Opens c.queues w) in
    (exit ∙ ap (λ c. exit_in c worker) same, subst P same opens)

-- What is left where a step is not made

exit-is : (t : HostTable) (queues : ℕ) (exit : Option ℕ) → exit-table (create_list_after t) (length t.lists) exit queues ≡ with_exit t queues exit
unfolding exit-table
exit-is t queues None = refl
exit-is t queues (Some exit) = refl

-- the table after the list is made; after the exit object; after the bell
list-left : {V : Type 0} (list : ℕ) (h one : Shared V) → MakesList list h one → one ≡ record h { table = create_list_after h.table }
list-left list h one makes = makes.1

exit-left : {V : Type 0} (queues list : ℕ) (exit : Option ℕ) (h one two : Shared V) → MakesList list h one → JoinsExit list exit queues one two → two ≡ record h { table = with_exit h.table queues exit }
exit-left {V} queues list exit h one two makes exits =
    let second : two ≡ record h { table = exit-table (create_list_after h.table) list exit queues } =
    exit-shared list exit queues one two exits ∙ ap {A = Shared V} (λ x. record x { table = exit-table x.table list exit queues }) makes.1 in
    second ∙ ap {A = HostTable} (λ t. record h { table = t }) (ap (λ n. exit-table (create_list_after h.table) n exit queues) makes.0 ∙ exit-is h.table queues exit)

bell-left : {V : Type 0} (queues list bell : ℕ) (exit : Option ℕ) (h one two three : Shared V) → MakesList list h one → JoinsExit list exit queues one two → MakesBell bell two three → three ≡ record h { table = with_bell h.table queues exit }
bell-left {V} queues list bell exit h one two three makes exits bells =
    bells.1 ∙ ap {A = Shared V} (λ x. record x { table = create_event_after x.table 0x800 }) (exit-left queues list exit h one two makes exits)

-- a step that stops leaves what stood before it
left-at : {V : Type 0} (queues : ℕ) (exit : Option ℕ) (fault e : VringEpollError) (table : HostTable) (h new : Shared V) → Leaves queues exit fault h.table table → Leaves queues exit Lacking h.table table → ((e ≡ fault) ⊎ (e ≡ Lacking)) → new ≡ record h { table = table } → LeavesMade queues exit e h new
left-at {V} queues exit fault e table h new named lacking answer is =
    let P : VringEpollError → HostTable → Type 0 = λ x t. Leaves queues exit x h.table t in
    let same : table ≡ new.table = sym (ap {A = Shared V} (λ x. x.table) is) in
    let leaves : Leaves queues exit e h.table table = elim answer [ inl f ↦ subst (λ x. P x table) (sym f) named | inr l ↦ subst (λ x. P x table) (sym l) lacking ] in
    (subst (P e) same leaves, is ∙ ap {A = HostTable} (λ t. record h { table = t }) same)

pub lacks_held : {V : Type 0} (queues : ℕ) (exit : Option ℕ) (h new : Option (Shared V)) → new ≡ h → Told h new (LeavesMade queues exit Lacking)
lacks_held queues exit None new is = tt
lacks_held queues exit (Some h) None is = absurd (cc)
lacks_held queues exit (Some h) (Some new) is = left-at queues exit EpollCreateFd Lacking h.table h new refl (inl refl) (inr refl) (some-is is)

pub list_stops : {V : Type 0} (queues : ℕ) (exit : Option ℕ) (e : VringEpollError) (h new : Option (Shared V)) → Stops EpollCreateFd h new e → Told h new (LeavesMade queues exit e)
list_stops queues exit e None new s = tt
list_stops queues exit e (Some h) None s = let is = s.1 in absurd (cc)
list_stops queues exit e (Some h) (Some new) s = left-at queues exit EpollCreateFd e h.table h new refl (inl refl) s.0 (some-is s.1)

pub exit_stops : {V : Type 0} (queues list : ℕ) (exit : Option ℕ) (e : VringEpollError) (h one new : Option (Shared V)) → Told h one (MakesList list) → Stops RegisterExitEvent one new e → Told h new (LeavesMade queues exit e)
exit_stops queues list exit e None one new a s = tt
exit_stops queues list exit e (Some h) None new a s = absurd a
exit_stops queues list exit e (Some h) (Some one) None a s = let is = s.1 in absurd (cc)
exit_stops queues list exit e (Some h) (Some one) (Some new) a s =
    left-at queues exit RegisterExitEvent e (create_list_after h.table) h new refl (inr (inl refl)) s.0 (some-is s.1 ∙ list-left list h one a)

pub bell_stops : {V : Type 0} (queues list : ℕ) (exit : Option ℕ) (e : VringEpollError) (h one two new : Option (Shared V)) → Told h one (MakesList list) → Told one two (JoinsExit list exit queues) → Stops NewEventConsumerNotifier two new e → Told h new (LeavesMade queues exit e)
bell_stops queues list exit e None one two new a b s = tt
bell_stops queues list exit e (Some h) None two new a b s = absurd a
bell_stops queues list exit e (Some h) (Some one) None new a b s = absurd b
bell_stops queues list exit e (Some h) (Some one) (Some two) None a b s = let is = s.1 in absurd (cc)
bell_stops queues list exit e (Some h) (Some one) (Some two) (Some new) a b s =
    left-at queues exit NewEventConsumerNotifier e (with_exit h.table queues exit) h new refl (inr (inr (inl refl))) s.0 (some-is s.1 ∙ exit-left queues list exit h one two a b)

pub join_stops : {V : Type 0} (queues list bell : ℕ) (exit : Option ℕ) (e : VringEpollError) (h one two three new : Option (Shared V)) → Told h one (MakesList list) → Told one two (JoinsExit list exit queues) → Told two three (MakesBell bell) → Stops RegisterVringEnabledEvent three new e → Told h new (LeavesMade queues exit e)
join_stops queues list bell exit e None one two three new a b c s = tt
join_stops queues list bell exit e (Some h) None two three new a b c s = absurd a
join_stops queues list bell exit e (Some h) (Some one) None three new a b c s = absurd b
join_stops queues list bell exit e (Some h) (Some one) (Some two) None new a b c s = absurd c
join_stops queues list bell exit e (Some h) (Some one) (Some two) (Some three) None a b c s = let is = s.1 in absurd (cc)
join_stops queues list bell exit e (Some h) (Some one) (Some two) (Some three) (Some new) a b c s =
    left-at queues exit RegisterVringEnabledEvent e (with_bell h.table queues exit) h new refl (inr (inr (inr refl))) s.0 (some-is s.1 ∙ bell-left queues list bell exit h one two three a b c)

-- by the device's constants, where they are told
pub left_for : {V : Type 0} (told : Option Constants) (constants : Constants) (worker : ℕ) (exit : Option ℕ) (e : VringEpollError) (old new : Option (Shared V)) → ForSome told (λ k. constants ≡ k) → exit ≡ exit_in constants worker → Told old new (LeavesMade constants.queues exit e) → ForSome told (λ k. Told old new (LeavesMade k.queues (exit_in k worker) e))
left_for told constants worker exit e old new are is leaves k told-is =
    let same : constants ≡ k = are k told-is in
    let P : Constants → Type 0 = λ c. Told old new (LeavesMade c.queues (exit_in c worker) e) in
    let Q : Option ℕ → Type 0 = λ x. Told old new (LeavesMade constants.queues x e) in
    subst P same (subst Q is leaves)
