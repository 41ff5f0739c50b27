-- The size of a ring is a power of two, and no greater than the device allows, at every moment.
use Rattle.std.proofs.Common.{◌≡◌, ℕ, ◌≤◌, Bool, true, false, ◌&&◌, nat_le, Result, Ok, Err, refl, cond}
use Rattle.std.specs.Int.{is_power_of_two}
use Rattle.std.specs.Result.{is_ok}
use Rattle.std.proofs.lemmas.Bool.{leb-true}
use Rattle.vub_queue.specs.declared.error.QueueError.TheVariants.{InvalidSize}
use Rattle.vub_model.specs.RingRecord.{Vring}
use Rattle.vub_model.proofs.EachRing.{KeptByWrites}
use Rattle.vub_model.proofs.Settings.{Kept}

-- so many slots a ring may have
pub record IsSize (max size : ℕ) : Type 0 where
  pub power : is_power_of_two size ≡ true
  pub below : size ≤ max
  pub few : max ≤ 32768

abbrev pub IsSized : Vring → Type 0
IsSized r = IsSize r.queue.max r.queue.size

-- a size that is accepted is one
accepted : (power low : Bool) → is_ok (cond {A = Result (Unit {0}) _} (power && low) (Ok tt) (Err InvalidSize)) ≡ true → (power ≡ true) × (low ≡ true)
accepted true true is = (refl, refl)
accepted true false is = absurd cc
accepted false low is = absurd cc

sized-set : (r : Vring) → IsSized r → Kept IsSized r
sized-set r at =
    record {
      same = at;
      ready = λ b. at;
      size = λ n ok. let both = accepted (is_power_of_two n) (nat_le n r.queue.max) ok in record { power = both.0; below = leb-true n r.queue.max both.1; few = at.few };
      enabled = λ b. at;
      event_idx = λ b. at;
      kick = λ k. at;
      call = λ c. at;
      err = λ e. at;
      addresses = λ a. at;
      used = λ a n. at;
    }

pub sized-writes : KeptByWrites IsSized
sized-writes = record { settings = sized-set; base = λ r at n low. at; taken = λ r at. at; put = λ r at. at; hold = λ r at. at }
