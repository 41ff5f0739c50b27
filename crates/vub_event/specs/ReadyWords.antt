-- The ready members of interest lists as bit words.
use Rattle.std.specs.Prelude.{ℕ, ◌+◌, ◌*◌, ◌/◌, ◌<◌, ◌≤◌, ◌≡◌, ◌≢◌, Bool, true, is_some, List, [], length}
use Rattle.std.specs.Prelude.{Option, Some, None, slice_index_or}
use Rattle.vub_event.specs.declared.event.Event.{Event}
use Rattle.vub_event.specs.declared.member.Member.{Member}
use Rattle.vub_event.specs.declared.ready.Ready.{Ready}
use Rattle.vub_event.specs.BitWords.{bit_in, as_bit}
use Rattle.vub_event.specs.HostTable.{report_of}
use Rattle.vub_event.specs.InterestList.{member_of}

-- the report for this member, if there is one and it is ready
abbrev pub report_for : List (Option Event) → Option Member → Option Ready
report_for objects None = None
report_for objects (Some m) = report_of m (slice_index_or objects m.object None)

-- the object has a member that is ready
abbrev pub has_ready : List (Option Event) → List Member → ℕ → Bool
has_ready objects members object = is_some (report_for objects (member_of members object))

-- there is room for the objects of all members, which were all made, and no more room than for the objects that were
pub record HasRoom (objects : List (Option Event)) (members : List Member) (words : List ℕ) : Type 0 where
  pub room : (object : ℕ) → is_some (member_of members object) ≡ true → object / 64 < length words
  pub made : (object : ℕ) → is_some (member_of members object) ≡ true → object < length objects
  pub few : 64 * length words ≤ length objects + 63

-- the words have the objects of the ready members
pub record IsReadyList (objects : List (Option Event)) (members : List Member) (words : List ℕ) : Type 0 where
  pub bits : (object : ℕ) → bit_in words object ≡ as_bit (has_ready objects members object)
  pub room : HasRoom objects members words

-- the same, but for what they say of one object
pub record IsReadyBut (but : ℕ) (objects : List (Option Event)) (members : List Member) (words : List ℕ) : Type 0 where
  pub bits : (object : ℕ) → object ≢ but → bit_in words object ≡ as_bit (has_ready objects members object)
  pub room : HasRoom objects members words

-- each list has its words
pub record AreReady (objects : List (Option Event)) (lists : List (List Member)) (ready : List (List ℕ)) : Type 0 where
  pub count : length ready ≡ length lists
  pub each : (l : ℕ) → l < length lists → IsReadyList objects (slice_index_or lists l []) (slice_index_or ready l [])

-- the same, but for what they say of one object
pub record AreReadyBut (but : ℕ) (objects : List (Option Event)) (lists : List (List Member))
    (ready : List (List ℕ)) : Type 0 where
  pub count : length ready ≡ length lists
  pub each : (l : ℕ) → l < length lists → IsReadyBut but objects (slice_index_or lists l []) (slice_index_or ready l [])
