-- What the opening of a machine builds on.
use Rattle.std.specs.Prelude.{◌≡◌, ◌+◌, ◌<◌, ◌≤◌, ℕ, true, List, [], ◌∷◌, length, slice_index_or, Some, None}
use Rattle.std.specs.Int.{is_power_of_two}
use Rattle.vub_event.specs.HostCalls.{claim_refusal, add_refusal, signal_refusal}
use Rattle.vub_model.specs.declared.constants.Constants.{Constants}
use Rattle.vub_model.specs.declared.setup.GivenRing.{GivenRing}
use Rattle.vub_model.specs.Shared.{Shared}
use Rattle.vub_model.specs.Opening.{listed, claimed, registered, wiring_of}
use Rattle.vub_model.specs.ValidSetup.{is_aligned}
use Rattle.vub_vring.specs.declared.store.Store.{Store}
use Rattle.vub_vring.specs.Store.{shared_of}

-- a ring whose queue takes what is given of it: the size is a power of two and not above the greatest, and the
-- addresses have their alignment (virtio 1.2, section 2.7)
pub record IsFit (max : ℕ) (ring : GivenRing) : Type 0 where
  pub power : is_power_of_two ring.size ≡ true
  pub size : ring.size ≤ max
  pub aligned : is_aligned ring.info ≡ true

-- what a store holds, beside a service of no state
abbrev pub unserved : Store → Shared (Unit {0})
unserved s = shared_of s (tt {0})

-- each exit object is one of so many objects
abbrev pub ExitsAreThere : Constants → ℕ → Type 0
ExitsAreThere constants count =
    (worker exit : ℕ) → slice_index_or constants.exits worker None ≡ Some exit → exit < count

-- The host refuses none of the calls by which a ring is registered, but for want of memory: the claim of its kick, and
-- then that the kick joins a worker's list, and a signal of a worker's bell.
pub record IsTaken {V : Type 0} (constants : Constants) (count : ℕ) (h : Shared V) (r : GivenRing) : Type 0 where
  pub claim : (kick : ℕ) → r.kick ≡ Some kick → claim_refusal h.table kick r.queue ≡ None
  pub add :
      (kick worker number : ℕ) → r.kick ≡ Some kick → worker < length constants.masks →
      add_refusal (claimed h kick r.queue).table worker (listed kick number) ≡ None
  pub signal :
      (kick worker : ℕ) → r.kick ≡ Some kick → worker < length constants.masks →
      signal_refusal (claimed h kick r.queue).table (count + worker) 1 ≡ None

-- and of these rings, one after the other
abbrev pub AreTaken : {V : Type 0} → Constants → ℕ → Shared V → List GivenRing → Type 0
AreTaken constants count h [] = Unit {0}
AreTaken constants count h (r ∷ rs) =
    IsTaken constants count h r × AreTaken constants count (registered (wiring_of constants count) h r) rs
