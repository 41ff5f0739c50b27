-- Two calls one after the other, of a host that tells its table.
use Rattle.std.proofs.Common.{Option, Some, None}
use Rattle.vub_base.specs.Told.{Told}

pub told-then : {A : Type 0} (a b c : Option A) (P Q R : A → A → Type 0) → ((x y z : A) → P x y → Q y z → R x z) → Told a b P → Told b c Q → Told a c R
told-then None b c P Q R both p q = tt
told-then (Some x) None c P Q R both p q = absurd p
told-then (Some x) (Some y) None P Q R both p q = absurd q
told-then (Some x) (Some y) (Some z) P Q R both p q = both x y z p q

pub told-as : {A : Type 0} (a b : Option A) (P Q : A → A → Type 0) → ((x y : A) → P x y → Q x y) → Told a b P → Told a b Q
told-as None b P Q so p = tt
told-as (Some x) None P Q so p = absurd p
told-as (Some x) (Some y) P Q so p = so x y p
