-- What always holds of the table that a host tells.
use Rattle.std.specs.Prelude.{ℕ, ◌≡◌, ◌<◌, ◌≤◌, true, is_some, take, List, [], ◌∷◌, Option, Some, None}
use Rattle.vub_event.specs.declared.event.Event.{Event}
use Rattle.vub_event.specs.Counter.{greatest_count}
use Rattle.vub_event.specs.HostTable.{HostTable, event_at, has_event, members_at, member_at, ready_members}
use Rattle.vub_event.specs.InterestList.{AllAbove, IsOrdered}
use Rattle.std.specs.List.{AllByRecursion}
use Rattle.vub_event.specs.declared.ready.Ready.{Ready}
use Rattle.std.specs.Coded.{×_prop, Unit-prop, le_prop}
use Rattle.vub_event.specs.declared.member.Member.{Member}

-- the count of a counter, and 0 where it is closed
abbrev pub count_of : Option Event → ℕ
count_of None = 0
count_of (Some event) = event.count

-- the members of each list stand in order of their objects, with no object twice; the object of a member is there; a
-- count is at most 2 ^ 64 - 2
pub record IsOrderly (table : HostTable) : Type 0 where
  pub ordered : (list : ℕ) → IsOrdered (members_at table list)
  pub there : (list object : ℕ) → is_some (member_at table list object) ≡ true → has_event table object ≡ true
  pub bounded : (object : ℕ) → count_of (event_at table object) ≤ greatest_count

-- the reports stand in order of their objects, with no object twice
abbrev pub IsByObject : List Ready → Type 0
IsByObject [] = Unit {0}
IsByObject (r ∷ rs) = AllByRecursion (λ s. r.object < s.object) rs × IsByObject rs

-- the first reports of a list of an orderly table, which ready_many answers, stand in order of their objects
abbrev pub ReportsByObject : Type 0
ReportsByObject =
    (table : HostTable) (list most : ℕ) → IsOrderly table → IsByObject (take most (ready_members table list))

-- a list is in order in one way alone
AllAbove-prop : (object : ℕ) (ms : List Member) → IsProp (AllAbove object ms)
AllAbove-prop object [] = Unit-prop
AllAbove-prop object (m ∷ ms) = ×_prop le_prop (AllAbove-prop object ms)

pub IsOrdered-prop : (ms : List Member) → IsProp (IsOrdered ms)
IsOrdered-prop [] = Unit-prop
IsOrdered-prop (m ∷ ms) = ×_prop (AllAbove-prop m.object ms) (IsOrdered-prop ms)
