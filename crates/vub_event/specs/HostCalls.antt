-- The calls of a host as functions of its table: for each call the refusal that is due, what is answered, and the
-- table that is left. A refused call changes nothing.
use Rattle.std.specs.Prelude.{ℕ, ◌≡◌, ◌==◌, ◌&&◌, ◌||◌, Bool, true, false, not, if◌then◌else◌, nat_lt, List, [], ◌∷◌}
use Rattle.std.specs.Prelude.{◌++◌, take, map, Option, Some, None, is_some, Result, Ok, Err, Contains, slice_get}
use Rattle.std.specs.Int.RustNames.{bit_and, bit_or}
use Rattle.vub_event.specs.declared.error.HostError.{HostError}
use Rattle.vub_event.specs.declared.error.HostError.TheVariants.{EINVAL, EEXIST, ENOENT, EBADF, Held}
use Rattle.vub_event.specs.declared.event.Event.{Event}
use Rattle.vub_event.specs.declared.event_set.EventSet.{EventSet}
use Rattle.vub_event.specs.declared.member.Member.{Member}
use Rattle.vub_event.specs.declared.ready.Ready.{Ready}
use Rattle.std.specs.declared.vec.Vec.{Vec}
use Rattle.std.specs.declared.alloc.Global.{Global}
use Rattle.vub_event.specs.Counter.{write_refusal, written, read_refusal, read_value, after_read}
use Rattle.vub_event.specs.Errors.{IsDue}
use Rattle.vub_event.specs.HostTable.{HostTable, IsNextNumber, event_at, has_event, has_list, members_at, member_at}
use Rattle.vub_event.specs.HostTable.{is_listed, with_event, with_members, ready_members, IsLeastOf}
use Rattle.vub_event.specs.InterestList.{with_member, with_changed, without_member}

-- A call for which this refusal is due, which else answers by `Said` and leaves this table: it succeeds only where
-- no refusal is due, and refused it leaves the old table.
abbrev pub Meets : {T S : Type 0} → Option HostError → (T → Type 0) → S → Result T HostError → S → S → Type 0
Meets due Said after (Ok x) old new = (due ≡ None) × Said x × (new ≡ after)
Meets due Said after (Err e) old new = IsDue due e × (new ≡ old)

-- no answer but that it was done
abbrev pub Done : {T : Type 0} → T → Type 0
Done x = Unit {0}

-- EBADF where there is no such object, else what its state makes due
abbrev pub due_of : (Event → Option HostError) → Option Event → Option HostError
due_of refusal None = Some EBADF
due_of refusal (Some event) = refusal event

-- the table with this object changed, if there is one
abbrev pub with_change : (Event → Event) → HostTable → ℕ → Option Event → HostTable
with_change change table object None = table
with_change change table object (Some event) = with_event table object (Some (change event))

-- create_event: the flags are SEMAPHORE 1, NONBLOCK 0x800 and CLOEXEC 0x80000. Where all numbers are given, this and
-- create_list answer want of memory
abbrev pub flags_refusal : ℕ → Option HostError
flags_refusal flags = if bit_or flags 0x80801 == 0x80801 then None else Some EINVAL

abbrev pub new_event : ℕ → Event
new_event flags = record { count = 0; semaphore = bit_and flags 1 == 1; hung_up = false; claim = None }

unfoldable pub create_event_after : HostTable → ℕ → HostTable
create_event_after table flags = record table { objects = table.objects ++ Some (new_event flags) ∷ [] }

abbrev pub CreateEventCall : ℕ → Result ℕ HostError → HostTable → HostTable → Type 0
CreateEventCall flags result old new =
    Meets (flags_refusal flags) (IsNextNumber old.objects) (create_event_after old flags) result old new

-- create_list
unfoldable pub create_list_after : HostTable → HostTable
create_list_after table = record table { lists = table.lists ++ [] ∷ [] }

abbrev pub CreateListCall : Result ℕ HostError → HostTable → HostTable → Type 0
CreateListCall result old new =
    Meets None (IsNextNumber old.lists) (create_list_after old) result old new

-- signal
unfoldable pub signal_refusal : HostTable → ℕ → ℕ → Option HostError
signal_refusal table object value = due_of (λ event. write_refusal event value) (event_at table object)

unfoldable pub signal_after : HostTable → ℕ → ℕ → HostTable
signal_after table object value = with_change (λ event. written event value) table object (event_at table object)

abbrev pub SignalCall : {T : Type 0} → ℕ → ℕ → Result T HostError → HostTable → HostTable → Type 0
SignalCall object value result old new =
    Meets (signal_refusal old object value) Done (signal_after old object value) result old new

-- consume
unfoldable pub consume_refusal : HostTable → ℕ → Option HostError
consume_refusal table object = due_of read_refusal (event_at table object)

abbrev pub value_of : Option Event → ℕ
value_of None = 0
value_of (Some event) = read_value event

unfoldable pub consume_value : HostTable → ℕ → ℕ
consume_value table object = value_of (event_at table object)

unfoldable pub consume_after : HostTable → ℕ → HostTable
consume_after table object = with_change after_read table object (event_at table object)

abbrev pub ConsumeCall : ℕ → Result ℕ HostError → HostTable → HostTable → Type 0
ConsumeCall object result old new =
    Meets (consume_refusal old object) (λ n. n ≡ consume_value old object) (consume_after old object) result old new

-- EBADF where the list or the object isn't there
abbrev pub has_both : HostTable → ℕ → ℕ → Bool
has_both table list object = has_list table list && has_event table object

-- a member with these fields
abbrev pub member_for : ℕ → EventSet → ℕ → Member
member_for object set token = record { object = object; set = set; token = token }

-- add; EXCLUSIVE, WAKE_UP, ONE_SHOT and EDGE_TRIGGERED, the four upper bits of a set, are refused
abbrev pub has_upper_bits : ℕ → Bool
has_upper_bits set = not (bit_and set 0xf0000000 == 0)

unfoldable pub add_refusal : HostTable → ℕ → Member → Option HostError
add_refusal table list new =
    if not (has_both table list new.object) then Some EBADF
    else if has_upper_bits new.set.0 then Some EINVAL
    else if is_some (member_at table list new.object) then Some EEXIST
    else None

unfoldable pub add_after : HostTable → ℕ → Member → HostTable
add_after table list new = with_members table list (with_member (members_at table list) new)

abbrev pub AddCall : {T : Type 0} → ℕ → Member → Result T HostError → HostTable → HostTable → Type 0
AddCall list new result old = Meets (add_refusal old list new) Done (add_after old list new) result old

-- modify
unfoldable pub modify_refusal : HostTable → ℕ → Member → Option HostError
modify_refusal table list new =
    if not (has_both table list new.object) then Some EBADF
    else if has_upper_bits new.set.0 then Some EINVAL
    else if is_some (member_at table list new.object) then None
    else Some ENOENT

unfoldable pub modify_after : HostTable → ℕ → Member → HostTable
modify_after table list new = with_members table list (with_changed (members_at table list) new)

abbrev pub ModifyCall : {T : Type 0} → ℕ → Member → Result T HostError → HostTable → HostTable → Type 0
ModifyCall list new result old = Meets (modify_refusal old list new) Done (modify_after old list new) result old

-- delete
unfoldable pub delete_refusal : HostTable → ℕ → ℕ → Option HostError
delete_refusal table list object =
    if not (has_both table list object) then Some EBADF
    else if is_some (member_at table list object) then None
    else Some ENOENT

unfoldable pub delete_after : HostTable → ℕ → ℕ → HostTable
delete_after table list object = with_members table list (without_member (members_at table list) object)

abbrev pub DeleteCall : {T : Type 0} → ℕ → ℕ → Result T HostError → HostTable → HostTable → Type 0
DeleteCall list object result old =
    Meets (delete_refusal old list object) Done (delete_after old list object) result old

-- listen: a member with IN alone, for an object that no queue claims
abbrev pub listener : ℕ → ℕ → Member
listener object token = record { object = object; set = record { 0 = 1 }; token = token }

abbrev pub is_claimed : Option Event → Bool
is_claimed None = false
is_claimed (Some event) = is_some event.claim

unfoldable pub listen_refusal : HostTable → ℕ → ℕ → Option HostError
listen_refusal table list object =
    if not (has_both table list object) then Some EBADF
    else if is_some (member_at table list object) || is_claimed (event_at table object) then Some EEXIST
    else None

abbrev pub ListenCall : {T : Type 0} → ℕ → ℕ → ℕ → Result T HostError → HostTable → HostTable → Type 0
ListenCall list object token result old =
    Meets (listen_refusal old list object) Done (add_after old list (listener object token)) result old

-- unlisten: only a member whose token is greater than `above`
abbrev pub has_token_above : ℕ → Option Member → Bool
has_token_above above None = false
has_token_above above (Some m) = nat_lt above m.token

unfoldable pub unlisten_refusal : HostTable → ℕ → ℕ → ℕ → Option HostError
unlisten_refusal table list object above =
    if not (has_both table list object) then Some EBADF
    else if has_token_above above (member_at table list object) then None
    else Some ENOENT

abbrev pub UnlistenCall : {T : Type 0} → ℕ → ℕ → ℕ → Result T HostError → HostTable → HostTable → Type 0
UnlistenCall list object above result old =
    Meets (unlisten_refusal old list object above) Done (delete_after old list object) result old

-- consume_as: reads the counter of a member with this token, to zero
abbrev pub has_token : ℕ → Option Member → Bool
has_token token None = false
has_token token (Some m) = m.token == token

abbrev pub list_refusal : HostTable → ℕ → Option HostError
list_refusal table list = if has_list table list then None else Some EBADF

unfoldable pub is_listed_as : HostTable → ℕ → ℕ → ℕ → Bool
is_listed_as table list object token = has_token token (member_at table list object)

abbrev pub ConsumeAsCall : ℕ → ℕ → ℕ → Result Bool HostError → HostTable → HostTable → Type 0
ConsumeAsCall list object token result old =
    Meets (list_refusal old list) (λ b. b ≡ is_listed_as old list object token)
    (if is_listed_as old list object token then consume_after old object else old) result old

-- ready: some ready member, and None exactly where no member is ready
abbrev pub IsReadyOf : List Ready → Option Ready → Type 0
IsReadyOf reports None = reports ≡ []
IsReadyOf reports (Some ready) = Contains reports ready

abbrev pub ReadyCall : ℕ → Result (Option Ready) HostError → HostTable → HostTable → Type 0
ReadyCall list result old = Meets (list_refusal old list) (IsReadyOf (ready_members old list)) old result old

-- the same, taking the least object number
abbrev pub FirstReadyCall : ℕ → Result (Option Ready) HostError → HostTable → HostTable → Type 0
FirstReadyCall list result old =
    Meets (list_refusal old list)
    (λ found. IsLeastOf (ready_members old list) found × (found ≡ slice_get (ready_members old list) 0)) old result old

-- ready_many: the first `most` of them by object number
abbrev pub ReadyManyCall : ℕ → ℕ → Result (Vec Ready Global) HostError → HostTable → HostTable → Type 0
ReadyManyCall list most result old =
    Meets (list_refusal old list) (λ found. found.items ≡ take most (ready_members old list)) old result old

-- claim: by one queue, of an object that no other claims, and that is in no list unless this queue claims it already
abbrev pub may_claim : ℕ → Bool → Option ℕ → Bool
may_claim queue listed None = not listed
may_claim queue listed (Some owner) = owner == queue

abbrev pub claim_test : ℕ → Bool → Event → Option HostError
claim_test queue listed event = if may_claim queue listed event.claim then None else Some Held

unfoldable pub claim_refusal : HostTable → ℕ → ℕ → Option HostError
claim_refusal table object queue = due_of (claim_test queue (is_listed table object)) (event_at table object)

abbrev pub claimed_by : Option ℕ → Event → Event
claimed_by owner event = record event { claim = owner }

unfoldable pub claim_after : HostTable → ℕ → ℕ → HostTable
claim_after table object queue = with_change (claimed_by (Some queue)) table object (event_at table object)

abbrev pub ClaimCall : {T : Type 0} → ℕ → ℕ → Result T HostError → HostTable → HostTable → Type 0
ClaimCall object queue result old =
    Meets (claim_refusal old object queue) Done (claim_after old object queue) result old

-- release, hang_up and close, which can't refuse
unfoldable pub release_after : HostTable → ℕ → HostTable
release_after table object = with_change (claimed_by None) table object (event_at table object)

abbrev pub after_hang_up : Event → Event
after_hang_up event = record event { hung_up = true }

unfoldable pub hang_up_after : HostTable → ℕ → HostTable
hang_up_after table object = with_change after_hang_up table object (event_at table object)

unfoldable pub close_after : HostTable → ℕ → HostTable
close_after table object = record {
  objects = (with_event table object None).objects;
  lists = map (λ members. without_member members object) table.lists;
}
