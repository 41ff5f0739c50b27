-- What a plain log tells of its calls: lemmas for the laws of logs.
use Rattle.std.specs.Prelude.{◌≡◌, ◌↔◌, ℕ, ◌*◌, ◌<◌, Ok, Some}
use Rattle.vub_mem.specs.LogBits.{MarksPage, LoadsByte, HarvestsWord, IsSpentWord}
use Rattle.vub_log.specs.Plain.{Plain, byte_of, harvest_count, told_bits, IsMark, IsHarvest}
use Rattle.vub_log.specs.PageBits.{marks_page, loads_byte, harvests_word}

pub told_mark :
    (old : Plain) (page : ℕ) (new : Plain) → page < 8 * old.len → IsMark old page new →
    MarksPage page (told_bits old) (told_bits new)
told_mark old page new has goes = marks_page old page new goes

pub told_load :
    (old : Plain) (byte number : ℕ) (new : Plain) → byte < old.len → (number ≡ byte_of old byte) × (new ≡ old) →
    LoadsByte byte number (told_bits old) (told_bits new)
told_load old byte number new has goes = loads_byte old byte number new goes

pub told_harvest :
    (old : Plain) (word number : ℕ) (new : Plain) → 4 * word < old.len → IsHarvest old word number new →
    HarvestsWord word (Ok number) (told_bits old) (told_bits new)
told_harvest old word number new has goes = harvests_word old word number new goes

pub told_spent :
    (log : Plain) (word : ℕ) → 4 * word < log.len →
    (harvest_count log word ≡ 4294967295) ↔ IsSpentWord word (told_bits log)
told_spent log word has = ((λ e. e), (λ e. e))
