-- An interest list, after epoll(7): for each of its objects one member, in order of the objects' numbers.
use Rattle.std.specs.Prelude.{ℕ, ◌<◌, ◌==◌, not, if◌then◌else◌, nat_lt, List, [], ◌∷◌, Option, find, filter, map}
use Rattle.vub_event.specs.declared.member.Member.{Member}

-- the member for this object, if there is one
abbrev pub member_of : List Member → ℕ → Option Member
member_of members object = find (λ m. m.object == object) members

-- the list with one more member, before the first whose object has a greater number
abbrev pub with_member : List Member → Member → List Member
with_member [] new = new ∷ []
with_member (m ∷ ms) new = if nat_lt new.object m.object then new ∷ m ∷ ms else m ∷ with_member ms new

-- the list with this member in place of the one for its object
abbrev pub with_changed : List Member → Member → List Member
with_changed members new = map (λ m. if m.object == new.object then new else m) members

-- the list without the member for this object
abbrev pub without_member : List Member → ℕ → List Member
without_member members object = filter (λ m. not (m.object == object)) members

-- all objects are above this number
abbrev pub AllAbove : ℕ → List Member → Type 0
AllAbove object [] = Unit {0}
AllAbove object (m ∷ ms) = (object < m.object) × AllAbove object ms

-- the members stand in order of their objects, with no object twice
abbrev pub IsOrdered : List Member → Type 0
IsOrdered [] = Unit {0}
IsOrdered (m ∷ ms) = AllAbove m.object ms × IsOrdered ms
