-- The rule that every step on a shared log's words keeps, and what each kind of step tells the party that makes it.
use Rattle.std.specs.Prelude.{◌≡◌, ◌↔◌, ℕ, ◌+◌, ◌*◌, ◌/◌, ◌%◌, ◌^◌, ◌<◌, ◌≤◌, true, false, List, [], length}
use Rattle.std.specs.Prelude.{slice_index}
use Rattle.std.specs.Int.{bit_at}
use mathlib.Core.Option.{some}
use lib.ListN.{get_elem?}
use Rattle.atomic_table.specs.Table.{State, Me, Step}
use Rattle.vub_mem.specs.Laws.{IsIn}
use Rattle.vub_log.specs.declared.notes.MarkNote.{MarkNote}
use Rattle.vub_log.specs.declared.notes.LoadNote.{LoadNote}
use Rattle.vub_log.specs.declared.notes.HarvestNote.{HarvestNote}
use Rattle.vub_log.specs.declared.notes.Notes.{Notes}
use Rattle.vub_log.specs.Notes.{generation_of, bits_of, harvests_of, mark_note, load_note, harvest_note, with_mark}
use Rattle.vub_log.specs.Notes.{with_load, with_harvest, Each, HoldsIn, IsShownBy, IsHarvested}

-- the mark holds in the words, whose harvests these are
abbrev pub MarkHolds : List ℕ → List HarvestNote → MarkNote → Type 0
MarkHolds words hs m =
    HoldsIn (slice_index words (m.page / 32)) (harvests_of (m.page / 32) hs) (m.page % 32) m.generation

-- the load's generation is not above its word's, and each bit that it showed holds as a mark of that generation does
abbrev pub LoadHolds : List ℕ → List HarvestNote → LoadNote → Type 0
LoadHolds words hs l =
    (l.generation ≤ generation_of (slice_index words l.word))
    ×
    ((bit : ℕ) → bit < 32 → bit_at l.bits bit ≡ 1
    → HoldsIn (slice_index words l.word) (harvests_of l.word hs) bit l.generation)

-- of the party j: its marks and loads hold, and where it keeps the harvests it is the keeper and has all of them
pub record Fits (words : List ℕ) (hs : List HarvestNote) (keeper : ℕ) (j : ℕ) (v : Notes) : Type 0 where
  pub keeps : v.keeps ≡ true → (j ≡ keeper) × (v.harvests ≡ hs)
  pub marks : Each (MarkHolds words hs) v.marks
  pub loads : Each (LoadHolds words hs) v.loads

-- some party has noted the mark
abbrev pub IsNoted : List Notes → MarkNote → Type 0
IsNoted views m = (j : ℕ) × (v : Notes) × (get_elem? views j ≡ some v) × IsIn m v.marks

-- The rule. Each word's generation is the number of its harvests. What each party noted holds. What holds in a word was
-- marked: no bit stands, and none was harvested, but by a mark of its page in that generation
pub record Kept (count : ℕ) (s : State ℕ Notes) : Type 0 where
  pub wide : length s.words ≡ count
  pub harvests : List HarvestNote
  pub keeper : ℕ
  pub counts : (w : ℕ) → w < length s.words → generation_of (slice_index s.words w) ≡ length (harvests_of w harvests)
  pub fits : (j : ℕ) (v : Notes) → get_elem? s.views j ≡ some v → Fits s.words harvests keeper j v
  pub made :
      (w bit g : ℕ) → bit < 32 → HoldsIn (slice_index s.words w) (harvests_of w harvests) bit g →
      IsNoted s.views (mark_note (32 * w + bit) g)

-- the notes of the one who keeps the harvests, at the start
abbrev pub keeper_notes : Notes
keeper_notes = record { keeps = true; harvests = []; marks = []; loads = [] }

-- what is left of the notes that another took in
abbrev pub spent_notes : Notes
spent_notes = record { keeps = false; harvests = []; marks = []; loads = [] }

-- the word with no bit, one generation later
abbrev pub next_word : ℕ → ℕ
next_word generation = (generation + 1) * 2 ^ 32

-- each number is that of the harvests of its word
abbrev pub HasCounts : List ℕ → List HarvestNote → Type 0
HasCounts counts hs = (w : ℕ) → w < length counts → slice_index counts w ≡ length (harvests_of w hs)

-- Each of these is of the step, the party's notes before, the word found, and the notes after. No step takes a slot.

-- the party notes the one page whose bit the step was given
abbrev pub TellsMark : Step ℕ → Me ℕ Notes → ℕ → Me ℕ Notes → Type 0
TellsMark st me n new =
    ((page : ℕ) → page / 32 ≡ st.word → (1 * 2 ^ (page % 32)) % 2 ^ 64 ≡ st.first
    → new.0 ≡ with_mark me.0 (mark_note page (generation_of n))) ×
    (new.1 ≡ me.1)

-- the party notes the word as it was found, and it shows the party's marks
abbrev pub TellsLoad : Step ℕ → Me ℕ Notes → ℕ → Me ℕ Notes → Type 0
TellsLoad st me n new =
    (new.0 ≡ with_load me.0 (load_note st.word (bits_of n) (generation_of n))) ×
    Each (IsShownBy st.word (bits_of n) (generation_of n)) me.0.marks × (new.1 ≡ me.1)

-- the keeper notes the bits of the word as it was found, and each of its marks in the word is in the harvest of its
-- number
abbrev pub TellsHarvest : Step ℕ → Me ℕ Notes → ℕ → Me ℕ Notes → Type 0
TellsHarvest st me n new =
    (new.0 ≡ with_harvest me.0 (harvest_note st.word (bits_of n)))
    × Each (IsHarvested st.word (harvests_of st.word new.0.harvests)) me.0.marks × (new.1 ≡ me.1)

-- whatever the words' state is: a mark holds exactly where some party noted it
abbrev pub HoldWhereNoted : Type 0
HoldWhereNoted =
    (count : ℕ) (s : State ℕ Notes) (kept : Kept count s) (m : MarkNote) →
    IsNoted s.views m ↔ MarkHolds s.words kept.harvests m

-- and each load that some party noted showed bits that hold
abbrev pub LoadsHold : Type 0
LoadsHold =
    (count : ℕ) (s : State ℕ Notes) (kept : Kept count s) (j : ℕ) (v : Notes) (l : LoadNote) →
    get_elem? s.views j ≡ some v → IsIn l v.loads → LoadHolds s.words kept.harvests l

-- and each word's generation is the number of its harvests
abbrev pub CountHarvests : Type 0
CountHarvests =
    (count : ℕ) (s : State ℕ Notes) (kept : Kept count s) (w : ℕ) → w < count →
    generation_of (slice_index s.words w) ≡ length (harvests_of w kept.harvests)
