-- Counts of faults. An object of the outside (a host, a device, a source, a sink, a file) counts its faults and
-- refusals. The count never falls, and code that is only generic over the object can't raise it: so a call that
-- may answer a fault only where the count rose can't answer it by itself.
use Rattle.std.specs.Prelude.{ℕ, ◌==◌, ◌+◌, ◌-◌, ◌^◌, ◌≤◌, min, Bool, List, Result, IsErrOf}
use Rattle.std.specs.List.{list_any}

-- one more of a count that stands still at its end, 2^64 - 1
abbrev pub one_more : ℕ → ℕ
one_more n = min (n + 1) (2 ^ 64 - 1)

-- the count rose; a count that stands at its end can't rise, and there a fault may come with the count unchanged
abbrev pub Rose : ℕ → ℕ → Type 0
Rose before now = one_more before ≤ now

-- the call with this number is on the list of those that are to fail, or that are to do nothing
abbrev pub is_listed : List ℕ → ℕ → Bool
is_listed list call = list_any (λ n. n == call) list

-- the count never falls, and this refusal comes only where it rose
pub record HasCause {T E : Type 0} (before now : ℕ) (result : Result T E) (cause : E) : Type 0 where
  pub later : before ≤ now
  pub failed : IsErrOf result cause → Rose before now
