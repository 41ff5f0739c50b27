-- Steps of what is held, one after another, where it is told.
use Rattle.std.proofs.Common.{Option, Some, None}
use Rattle.vub_base.specs.Told.{Told}

pub told_then : {A : Type 0} (a b c : Option A) (R S T : A → A → Type 0) → ((x y z : A) → R x y → S y z → T x z) → Told a b R → Told b c S → Told a c T
told_then None b c R S T join first second = tt
told_then (Some x) None c R S T join first second = absurd first
told_then (Some x) (Some y) None R S T join first second = absurd second
told_then (Some x) (Some y) (Some z) R S T join first second = join x y z first second

pub told_so : {A : Type 0} (a b : Option A) (R S : A → A → Type 0) → ((x y : A) → R x y → S x y) → Told a b R → Told a b S
told_so None b R S weaker step = tt
told_so (Some x) None R S weaker step = absurd step
told_so (Some x) (Some y) R S weaker step = weaker x y step
