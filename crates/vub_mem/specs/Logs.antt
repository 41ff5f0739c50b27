-- The numbered logs of a memory.
use Rattle.std.specs.Prelude.{◌≡◌, ℕ, ◌==◌, List, [], ◌∷◌, MatchBool}
use Rattle.std.specs.List.{find}
use Rattle.std.specs.Option.{option_map_or}
use Rattle.vub_mem.specs.declared.dirty.Stored.{Stored}

-- how many bytes the log with this number has, and 0 where there is none
abbrev pub log_len : {L : Type 0} → (L → ℕ) → List (Stored L) → ℕ → ℕ
log_len len ss o = option_map_or (λ s. len s.log) (find (λ s. s.object == o) ss) 0

-- the log with this number goes from old to new, and all else stays
abbrev pub ChangesOne : {L : Type 0} → (L → L → Type 0) → List (Stored L) → ℕ → List (Stored L) → Type 0
ChangesOne step [] o new = ⊥
ChangesOne step (s ∷ ss) o [] = ⊥
ChangesOne step (s ∷ ss) o (t ∷ ts) =
    MatchBool (s.object == o) ((t.object ≡ s.object) × step s.log t.log × (ts ≡ ss)) ((t ≡ s) × ChangesOne step ss o ts)

-- there is a log with this number, and the fact holds of it
abbrev pub HoldsOf : {L : Type 0} → (L → Type 0) → List (Stored L) → ℕ → Type 0
HoldsOf P [] o = ⊥
HoldsOf P (s ∷ ss) o = MatchBool (s.object == o) (P s.log) (HoldsOf P ss o)
