-- Addresses rounded to a multiple of an alignment.
use Rattle.std.specs.Prelude.{◌≡◌, ℕ, ◌*◌, ◌^◌, ◌≤◌}

-- n is a multiple of the alignment
abbrev pub IsAligned : ℕ → ℕ → Type 0
IsAligned alignment n = (k : ℕ) × (n ≡ k * alignment)

-- n is the greatest multiple that isn't above the address
pub record IsAlignedBelow (alignment address n : ℕ) : Type 0 where
  pub aligned : IsAligned alignment n
  pub below : n ≤ address
  pub greatest : (k : ℕ) → k * alignment ≤ address → k * alignment ≤ n

-- n is the least multiple that isn't below the address
pub record IsAlignedAbove (alignment address n : ℕ) : Type 0 where
  pub aligned : IsAligned alignment n
  pub above : address ≤ n
  pub least : (k : ℕ) → address ≤ k * alignment → n ≤ k * alignment

-- each multiple that isn't below the address passes 2 ^ 64 - 1
abbrev pub NoneAbove : ℕ → ℕ → Type 0
NoneAbove alignment address = (k : ℕ) → address ≤ k * alignment → 2 ^ 64 ≤ k * alignment
