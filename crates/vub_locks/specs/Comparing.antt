-- When the records of uses are the calls of a service, one for one, and where they first differ.
use Rattle.std.specs.Prelude.{◌≡◌, ◌⊎◌, ℕ, not, List, [], ◌∷◌, length, Option, Some, None}
use Rattle.std.specs.List.{filter}
use Rattle.std.specs.Ordering.{nat_cmp}
use Rattle.std.specs.List.Sorted.{IsPermutation, IsSortedByKey, IsStableByKey}
use Rattle.vub_locks.specs.declared.comparing.CompareError.{CompareError}
use Rattle.vub_locks.specs.declared.comparing.CompareError.TheVariants as error
use Rattle.vub_locks.specs.declared.records.Served.{Served}
use Rattle.vub_locks.specs.declared.records.Spent.{Spent}
use Rattle.vub_locks.specs.declared.comparing.Totals.{Totals}
use Rattle.vub_locks.specs.Replays.{IsReplay, receipt_of}
use Rattle.vub_model.specs.Service.{Meaning}

abbrev pub serial_of : Spent → ℕ
serial_of s = s.receipt.serial

-- These are the records in order of serial; records of one serial stand in the order in which they were given.
pub record IsInOrder (given ordered : List Spent) : Type 0 where
  pub same : IsPermutation given ordered
  pub ascends : IsSortedByKey serial_of nat_cmp ordered
  pub stable : IsStableByKey serial_of nat_cmp given ordered

-- a record and a call agree: the receipt is the call's, and so are the entry that was used and its reply
pub record Agrees (s : Spent) (c : Served) : Type 0 where
  pub receipt : s.receipt ≡ receipt_of c
  pub queue : s.used.queue ≡ c.queue
  pub epoch : s.used.epoch ≡ c.epoch
  pub number : s.used.number ≡ c.number
  pub reply : s.used.reply ≡ c.reply

-- the records are the calls, one for one
abbrev pub OneForOne : List Spent → List Served → Type 0
OneForOne [] [] = Unit {0}
OneForOne (s ∷ ss) (c ∷ cs) = Agrees s c × OneForOne ss cs
OneForOne [] (c ∷ cs) = ⊥
OneForOne (s ∷ ss) [] = ⊥

-- what stands at the first place at which they differ; nothing of a list that has ended there
abbrev pub DifferFirst : List Spent → List Served → Option Spent → Option Served → Type 0
DifferFirst [] [] used served = ⊥
DifferFirst [] (c ∷ cs) used served = (used ≡ None) × (served ≡ Some c)
DifferFirst (s ∷ ss) [] used served = (used ≡ Some s) × (served ≡ None)
DifferFirst (s ∷ ss) (c ∷ cs) used served =
    (Agrees s c × DifferFirst ss cs used served) ⊎ ((¬ (Agrees s c)) × (used ≡ Some s) × (served ≡ Some c))

-- how many of the records are of entries that were used, and are not held
abbrev pub uses_of : List Spent → ℕ
uses_of spent = length (filter (λ s. not s.held) spent)

-- in order of serial, these records are the calls, one for one
abbrev pub AreCalls : List Spent → List Served → Type 0
AreCalls given calls = (ordered : List Spent) × IsInOrder given ordered × OneForOne ordered calls

-- a comparison that is refused: in order of serial the records differ from the calls, and this stands at the first
-- place at which they do; or want of memory
abbrev pub DiffersAs : List Spent → List Served → CompareError → Type 0
DiffersAs given calls (error.Mismatch used served) =
    (ordered : List Spent) × IsInOrder given ordered × DifferFirst ordered calls used served
DiffersAs given calls error.OutOfMemory = Unit {0}

-- there are calls from which these records differ so
abbrev pub DiffersFromSome : List Spent → CompareError → Type 0
DiffersFromSome spent e = (calls : List Served) × DiffersAs spent calls e

-- There is a history of the service, in which each reply is that of the value then, and these records are its calls,
-- one for one. The totals count the records of entries that are not held, and the calls.
pub record IsCompared {V : Type 0} (m : Meaning V) (spent : List Spent) (t : Totals) : Type 0 where
  pub opening : V
  pub value : V
  pub calls : List Served
  pub replay : IsReplay m 0 opening calls value
  pub same : AreCalls spent calls
  pub uses : t.uses ≡ uses_of spent
  pub served : t.served ≡ length calls
