-- A call that was looked for in a list, and not found.
use Rattle.std.proofs.Common.{◌≡◌, ℕ, List, Bool, false, IsTrue, nat_eq, arith}
use Rattle.std.specs.List.{list_any}
use Rattle.vub_base.specs.Causes.{is_listed}

pub not_listed : (call : ℕ) (list lent : List ℕ) (found : Bool) → found ≡ list_any (λ n. nat_eq n call) lent → lent ≡ list → found ≡ false
    → IsTrue (is_listed list call) → ⊥
not_listed call list lent found is same none t = grind (arith, is, same, none, t)
