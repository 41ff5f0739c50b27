-- A shared log by what its parties note of it: their marks, their loads and, of one party, the harvests.
-- A word of the log is a number of 64 bits. Its low 32 bits are those of its pages, page p as bit p % 32, and its high
-- 32 bits are its generation.
use Rattle.std.specs.Prelude.{◌≡◌, ◌⊎◌, ℕ, ◌*◌, ◌/◌, ◌%◌, ◌^◌, ◌<◌, ◌==◌, if◌then◌else◌, Bool, true, false, List, []}
use Rattle.std.specs.Prelude.{◌∷◌, ◌++◌, length, slice_index}
use Rattle.std.specs.Int.{bit_at}
use Rattle.atomic_table.specs.Seated.{TableId}
use Rattle.vub_log.specs.declared.notes.MarkNote.{MarkNote}
use Rattle.vub_log.specs.declared.notes.LoadNote.{LoadNote}
use Rattle.vub_log.specs.declared.notes.HarvestNote.{HarvestNote}
use Rattle.vub_log.specs.declared.notes.Notes.{Notes}

-- a party of a shared log: which log it is (no two have one number), how many bytes that has, and what the party noted
pub record Party : Type 0 where
  pub log : TableId
  pub len : ℕ
  pub notes : Notes

-- a shared log: which it is, and how many bytes it has
pub record SharedLog : Type 0 where
  pub log : TableId
  pub len : ℕ

-- the generation of a word, which is the number of its harvests
abbrev pub generation_of : ℕ → ℕ
generation_of n = n / 2 ^ 32

-- the bits of a word's pages
abbrev pub bits_of : ℕ → ℕ
bits_of n = n % 2 ^ 32

-- the bits that the harvests of a word took, in order
abbrev pub harvests_of : ℕ → List HarvestNote → List ℕ
harvests_of word [] = []
harvests_of word (h ∷ hs) = if h.word == word then h.bits ∷ harvests_of word hs else harvests_of word hs

abbrev pub mark_note : ℕ → ℕ → MarkNote
mark_note page generation = record { page = page; generation = generation }

abbrev pub load_note : ℕ → ℕ → ℕ → LoadNote
load_note word bits generation = record { word = word; bits = bits; generation = generation }

abbrev pub harvest_note : ℕ → ℕ → HarvestNote
harvest_note word bits = record { word = word; bits = bits }

abbrev pub with_mark : Notes → MarkNote → Notes
with_mark v m = record v { marks = v.marks ++ m ∷ [] }

abbrev pub with_load : Notes → LoadNote → Notes
with_load v l = record v { loads = v.loads ++ l ∷ [] }

abbrev pub with_harvest : Notes → HarvestNote → Notes
with_harvest v h = record v { harvests = v.harvests ++ h ∷ [] }

-- the same marks and loads, but the harvests are another's
abbrev pub without_harvests : Notes → Notes
without_harvests v = record v { keeps = false; harvests = [] }

-- the marks and loads of both
abbrev pub with_notes : Notes → Notes → Notes
with_notes v w = record v { marks = v.marks ++ w.marks; loads = v.loads ++ w.loads }

-- a party that has noted nothing, and that keeps the harvests or does not
abbrev pub new_party : TableId → ℕ → Bool → Party
new_party log len keeps =
    record { log = log; len = len; notes = record { keeps = keeps; harvests = []; marks = []; loads = [] } }

-- the fact holds of each element
abbrev pub Each : {A : Type 0} → (A → Type 0) → List A → Type 0
Each P [] = Unit {0}
Each P (x ∷ xs) = P x × Each P xs

-- A mark of this generation, of the page with this bit, holds in a word that is n and whose harvests had these bits: it
-- is of the word's generation and the bit stands, or of an earlier one and the bit is in the harvest of that number
abbrev pub HoldsIn : ℕ → List ℕ → ℕ → ℕ → Type 0
HoldsIn n harvests bit generation =
    ((generation ≡ generation_of n) × (bit_at n bit ≡ 1))
    ⊎ ((generation < generation_of n) × (bit_at (slice_index harvests generation) bit ≡ 1))

-- where the mark is in this word, the word's bits show it and it is of this generation, or it is of an earlier one
abbrev pub IsShownBy : ℕ → ℕ → ℕ → MarkNote → Type 0
IsShownBy word bits generation m =
    m.page / 32 ≡ word → ((m.generation ≡ generation) × (bit_at bits (m.page % 32) ≡ 1)) ⊎ (m.generation < generation)

-- where the mark is in this word, whose harvests took these bits, it is in the harvest of its number
abbrev pub IsHarvested : ℕ → List ℕ → MarkNote → Type 0
IsHarvested word harvests m =
    m.page / 32 ≡ word →
    (m.generation < length harvests) × (bit_at (slice_index harvests m.generation) (m.page % 32) ≡ 1)

-- a mark: the party notes the page with its word's generation
abbrev pub NotesMark : Party → ℕ → Party → Type 0
NotesMark old page new =
    (generation : ℕ) × (new ≡ record old { notes = with_mark old.notes (mark_note page generation) })

-- A load of a byte: the party notes its word's bits and generation, and the byte is that of these bits. Each mark that
-- the party had noted in this word is shown by these bits, or is of an earlier generation, so it was harvested
abbrev pub NotesLoad : Party → ℕ → ℕ → Party → Type 0
NotesLoad old byte read new =
    (bits : ℕ) × (generation : ℕ) ×
    (new ≡ record old { notes = with_load old.notes (load_note (byte / 4) bits generation) })
    × (read ≡ bits / 2 ^ (8 * (byte % 4)) % 256) × Each (IsShownBy (byte / 4) bits generation) old.notes.marks

-- A harvest of a word: the party notes the bits that it took. Each mark that the party had noted in this word is now in
-- the harvest of its number
abbrev pub NotesHarvest : Party → ℕ → ℕ → Party → Type 0
NotesHarvest old word bits new =
    (new ≡ record old { notes = with_harvest old.notes (harvest_note word bits) }) ×
    Each (IsHarvested word (harvests_of word new.notes.harvests)) old.notes.marks

-- the word was harvested so often that its generation can't rise
abbrev pub IsSpentAt : Party → ℕ → Type 0
IsSpentAt party word = length (harvests_of word party.notes.harvests) ≡ 4294967295

-- a new log of this length with its first seat and its harvester, who have noted nothing
pub record IsNewLog (bytes : ℕ) (reg : SharedLog) (first keeper : Party) : Type 0 where
  pub len : reg.len ≡ bytes
  pub seat : first ≡ new_party reg.log bytes false
  pub harvester : keeper ≡ new_party reg.log bytes true
