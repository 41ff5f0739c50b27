-- The host table (this project's own), after Linux's eventfd(2) and epoll(7): event objects by number, and interest
-- lists by number. A number is never given twice. Each look-up is total: an object that was never made is as one
-- that is closed, and a list that was never made has no members.
use Rattle.std.specs.Prelude.{ℕ, ◌≡◌, ◌<◌, ◌≤◌, Contains, Bool, List, [], length, nat_lt, Option, Some, None, is_some}
use Rattle.std.specs.Prelude.{if◌then◌else◌, ◌==◌, slice_index_or, slice_set}
use Rattle.std.specs.List.{filter_map, list_any}
use Rattle.vub_event.specs.declared.event.Event.{Event}
use Rattle.vub_event.specs.declared.member.Member.{Member}
use Rattle.vub_event.specs.declared.ready.Ready.{Ready}
use Rattle.vub_event.specs.Counter.{reported_bits}
use Rattle.vub_event.specs.InterestList.{member_of}

pub record HostTable : Type 0 where
  -- the object of this number; None where it is closed
  pub objects : List (Option Event)
  pub lists : List (List Member)

-- the number of a new object or list: the least that was never given. The numbers end below 4294967295
abbrev pub IsNextNumber : {A : Type 0} → List A → ℕ → Type 0
IsNextNumber made number = (number ≡ length made) × (number < 4294967295)

-- the table of a new host
abbrev pub empty_table : HostTable
empty_table = record { objects = []; lists = [] }

-- the object of this number
abbrev pub event_at : HostTable → ℕ → Option Event
event_at table object = slice_index_or table.objects object None

-- there is an object of this number
abbrev pub has_event : HostTable → ℕ → Bool
has_event table object = is_some (event_at table object)

-- the members of this list
abbrev pub members_at : HostTable → ℕ → List Member
members_at table list = slice_index_or table.lists list []

-- there is a list of this number
abbrev pub has_list : HostTable → ℕ → Bool
has_list table list = nat_lt list (length table.lists)

-- the member of this list for this object
abbrev pub member_at : HostTable → ℕ → ℕ → Option Member
member_at table list object = member_of (members_at table list) object

-- some list has a member for this object
abbrev pub is_listed : HostTable → ℕ → Bool
is_listed table object = list_any (λ members. is_some (member_of members object)) table.lists

-- the table with this object in place of the one of that number
abbrev pub with_event : HostTable → ℕ → Option Event → HostTable
with_event table object event = record table { objects = slice_set table.objects object event }

-- the table with these members in this list
abbrev pub with_members : HostTable → ℕ → List Member → HostTable
with_members table list members = record table { lists = slice_set table.lists list members }

-- what is reported for a member: nothing for a closed object, and nothing where it has no bit to report
abbrev pub report_of : Member → Option Event → Option Ready
report_of m None = None
report_of m (Some event) =
    if reported_bits event m.set.0 == 0 then None
    else Some record { object = m.object; events = reported_bits event m.set.0; token = m.token }

-- what is reported for these members, in their order
abbrev pub reports_of : List (Option Event) → List Member → List Ready
reports_of objects members = filter_map (λ m. report_of m (slice_index_or objects m.object None)) members

-- the ready members of a list, by object number
abbrev pub ready_members : HostTable → ℕ → List Ready
ready_members table list = reports_of table.objects (members_at table list)

-- the first report by object number, and none where there is no report
abbrev pub IsLeastOf : List Ready → Option Ready → Type 0
IsLeastOf reports None = reports ≡ []
IsLeastOf reports (Some ready) =
    Contains reports ready × ((other : Ready) → Contains reports other → ready.object ≤ other.object)
