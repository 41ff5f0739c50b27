-- A log of no bytes has no page, no byte and no word: lemmas for the laws of the log of length 0.
use Rattle.std.proofs.Common.{ℕ, ◌<◌, arith}

pub no_page : (page : ℕ) → page < 0 → ⊥
no_page page has = omega arith
