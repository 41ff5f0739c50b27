-- What the value of a system call stands for.
use Rattle.std.specs.Prelude.{◌≡◌, Bool, true, false, ℤ, Result, MatchResult}

-- the value, unless the call failed: then the error with this number
abbrev pub ReturnsUnless : {T : Type 0} → Bool → T → ℤ → Result T ℤ → Type 0
ReturnsUnless failed value errno r =
    MatchResult r (λ v. (failed ≡ false) × (v ≡ value)) (λ e. (failed ≡ true) × (e ≡ errno))

-- success, unless the call failed: then the error with this number
abbrev pub SucceedsUnless : {T : Type 0} → Bool → ℤ → Result T ℤ → Type 0
SucceedsUnless failed errno r = MatchResult r (λ _. failed ≡ false) (λ e. (failed ≡ true) × (e ≡ errno))
