-- Which refusals the calls on a file give, and when.
use Rattle.std.specs.Prelude.{◌≡◌, ℕ, ◌+◌, ◌-◌, ◌^◌, ◌≤◌, Bool, true, false, not, ◌&&◌, nat_le, nat_lt, Result, IfErr}
use Rattle.vub_base.specs.Causes.{Rose}
use Rattle.vub_sparse.specs.declared.error.FileError.{FileError}
use Rattle.vub_sparse.specs.declared.error.FileError.TheVariants.{EINVAL, WriteZero, Failed, OutOfMemory}
use Rattle.vub_sparse.specs.declared.allocate.FallocateMode.{FallocateMode}
use Rattle.vub_sparse.specs.declared.allocate.FallocateMode.TheVariants.{PunchHole, ZeroRange}

-- the greatest place in a file
abbrev pub greatest : ℕ
greatest = 2 ^ 63 - 1

-- offset, length and their sum are within the greatest place, and the length isn't 0 (fallocate(2))
abbrev pub in_range : ℕ → ℕ → Bool
in_range offset len = nat_le offset greatest && nat_le len greatest && nat_lt 0 len && nat_le (offset + len) greatest

-- the mode makes holes
abbrev pub punches : FallocateMode → Bool
punches PunchHole = true
punches ZeroRange = false

-- what fallocate takes: a range, and a hole only with the size kept
abbrev pub may_allocate : FallocateMode → Bool → ℕ → ℕ → Bool
may_allocate mode keep_size offset len = in_range offset len && not (punches mode && not keep_size)

-- what a call gives for: EINVAL at arguments that aren't valid; a failure, or a write of nothing where the call tells
-- it, for which the count rose; want of memory
abbrev pub Cause : (valid tells : Bool) (before now : ℕ) → FileError → Type 0
Cause valid tells before now EINVAL = valid ≡ false
Cause valid tells before now WriteZero = (tells ≡ true) × Rose before now
Cause valid tells before now Failed = Rose before now
Cause valid tells before now OutOfMemory = Unit {0}

-- the count never falls, and each refusal has its cause
pub record Refusals {T : Type 0} (valid tells : Bool) (before now : ℕ) (result : Result T FileError) : Type 0 where
  pub later : before ≤ now
  pub cause : IfErr result (Cause valid tells before now)

-- the refusals of a file's own calls
abbrev pub Faults : {T : Type 0} → ℕ → ℕ → Result T FileError → Type 0
Faults before now result = Refusals true false before now result

-- the refusals of a call that may find its arguments not valid
abbrev pub FaultsUnless : {T : Type 0} → Bool → ℕ → ℕ → Result T FileError → Type 0
FaultsUnless valid before now result = Refusals valid false before now result

-- the refusals of a call that tells a write of nothing
abbrev pub FaultsOrStalls : {T : Type 0} → Bool → ℕ → ℕ → Result T FileError → Type 0
FaultsOrStalls valid before now result = Refusals valid true before now result
