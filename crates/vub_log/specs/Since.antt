-- Runs of calls on a plain log, and what a page's bit is after them.
use Rattle.std.specs.Prelude.{◌≡◌, ℕ, ◌*◌, ◌/◌, ◌%◌, ◌^◌, ◌<◌, ◌==◌, if◌then◌else◌, List, [], ◌∷◌, length}
use Rattle.vub_log.specs.declared.laws.LogOp.{LogOp}
use Rattle.vub_log.specs.declared.laws.LogOp.TheVariants.{Mark, Load, Harvest}
use Rattle.vub_log.specs.Plain.{Plain, page_bit, marked, harvested, byte_of}

-- the log after one call
abbrev pub step : Plain → LogOp → Plain
step log (Mark page) = marked log page
step log (Load byte) = log
step log (Harvest word) = harvested log word

-- the log after calls, in order
abbrev pub after : Plain → List LogOp → Plain
after log [] = log
after log (op ∷ ops) = after (step log op) ops

-- whether a page's bit stands (1 or 0) after one call, where it was this before: a mark of the page sets it, a harvest
-- of its word clears it
abbrev pub bit_after : ℕ → LogOp → ℕ → ℕ
bit_after bit (Mark p) page = if p == page then 1 else bit
bit_after bit (Load byte) page = bit
bit_after bit (Harvest word) page = if word == page / 32 then 0 else bit

-- the same after calls, in order: the bit stands where it stood or the page was marked, and since then its word was
-- not harvested
abbrev pub bit_since : ℕ → List LogOp → ℕ → ℕ
bit_since bit [] page = bit
bit_since bit (op ∷ ops) page = bit_since (bit_after bit op page) ops page

-- after any calls a page's bit stands exactly where it stood or was marked since the last harvest of its word
abbrev pub StandsSinceHarvest : Type 0
StandsSinceHarvest =
    (log : Plain) (ops : List LogOp) (page : ℕ) → page < 32 * length log.words →
    page_bit (after log ops) page ≡ bit_since (page_bit log page) ops page

-- a byte has the bits of its eight pages
abbrev pub HasBits : Type 0
HasBits = (log : Plain) (page : ℕ) → byte_of log (page / 8) / 2 ^ (page % 8) % 2 ≡ page_bit log page
