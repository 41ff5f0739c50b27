-- The logs of dirty pages of a machine, and what marks and harvests make of them. A log holds a bit for each page of
-- 4096 guest bytes, in words of 32 pages (vhost-user protocol, section on migration).
use Rattle.std.specs.Prelude.{ℕ, ◌/◌, ◌%◌, ◌==◌, if◌then◌else◌, List, [], ◌∷◌, fold, slice_index_or}
use Rattle.std.specs.Int.{bit_at}
use Rattle.vub_mem.specs.Marks.{Mark}
use Rattle.vub_mem.specs.declared.dirty.Stored.{Stored}
use Rattle.vub_log.specs.Plain.{Plain, fresh, marked, harvested}

-- the log with this number; one that is not there has no page
abbrev pub log_at : List (Stored Plain) → ℕ → Plain
log_at [] object = fresh 0
log_at (s ∷ logs) object = if s.object == object then s.log else log_at logs object

-- the log with this number is changed, and all others stay
abbrev pub with_log_at : (Plain → Plain) → List (Stored Plain) → ℕ → List (Stored Plain)
with_log_at change [] object = []
with_log_at change (s ∷ logs) object =
    if s.object == object then record s { log = change s.log } ∷ logs else s ∷ with_log_at change logs object

-- a page is marked
abbrev pub with_mark : List (Stored Plain) → Mark → List (Stored Plain)
with_mark logs m = with_log_at (λ log. marked log m.page) logs m.object

-- these pages are marked, one after the other
abbrev pub with_marks : List (Stored Plain) → List Mark → List (Stored Plain)
with_marks logs marks = fold with_mark logs marks

-- the bits of a word; one that is not there has none
abbrev pub word_at : Plain → ℕ → ℕ
word_at log word = slice_index_or log.words word 0

-- the bits of a word are cleared
abbrev pub without_word : List (Stored Plain) → ℕ → ℕ → List (Stored Plain)
without_word logs object word = with_log_at (λ log. harvested log word) logs object

-- whether a page of a log is marked: 1 where it is, else 0
abbrev pub bit_in : List (Stored Plain) → Mark → ℕ
bit_in logs m = bit_at (word_at (log_at logs m.object) (m.page / 32)) (m.page % 32)
