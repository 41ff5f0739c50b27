-- Where a member stands in a list in order, or where it would go.
use Rattle.std.specs.Prelude.{ℕ, ◌+◌, ◌<◌, ◌≤◌, ◌≡◌, List, [], ◌∷◌, ◌++◌, length, take, drop, Result, MatchResult}
use Rattle.std.specs.Prelude.{slice_index_or}
use Rattle.vub_event.specs.declared.member.Member.{Member}
use Rattle.vub_event.specs.InterestList.{AllAbove}

-- all objects are below this number
abbrev pub AllBelow : ℕ → List Member → Type 0
AllBelow object [] = Unit {0}
AllBelow object (m ∷ ms) = (m.object < object) × AllBelow object ms

-- the member for this object stands at this place
pub record IsAt (members : List Member) (object i : ℕ) : Type 0 where
  pub member : Member
  pub split : members ≡ take i members ++ member ∷ drop (i + 1) members
  pub found : (d : Member) → slice_index_or members i d ≡ member
  pub is : member.object ≡ object
  pub below : AllBelow object (take i members)
  pub above : AllAbove object (drop (i + 1) members)

-- no member is for this object, and it would go to this place
pub record GoesAt (members : List Member) (object i : ℕ) : Type 0 where
  pub split : members ≡ take i members ++ drop i members
  pub below : AllBelow object (take i members)
  pub above : AllAbove object (drop i members)

abbrev pub MeetsAt : List Member → ℕ → Result ℕ ℕ → Type 0
MeetsAt members object result =
    MatchResult result (λ i. (i < length members) × IsAt members object i)
    (λ i. (i ≤ length members) × GoesAt members object i)
