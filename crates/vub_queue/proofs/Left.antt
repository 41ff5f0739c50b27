-- Where no entry is left.
use Rattle.std.proofs.Common.{◌≡◌, ℕ, Bool, true, false, not, cond, refl, arith}
use Rattle.std.specs.Prelude.{◌↔◌, ◌||◌, ◌==◌, nat_lt}
use Rattle.std.specs.Int.{w16}
use Rattle.std.proofs.lemmas.Bool.{eqb-true, le-ltb}
use Rattle.vub_mem.specs.Memory.{Guest}
use Rattle.vub_mem.specs.Place.{covers, number_at}
use Rattle.vub_queue.specs.EntryNumber.{index_covers, is_left, left_of}
use Rattle.vub_queue.specs.Layout.{avail_slot_at}
use Rattle.vub_queue.specs.Ring.{Ring}
use Rattle.vub_queue.specs.Take.{IsEmpty, head_of}
use Rattle.vub_queue.specs.declared.damage.Damage.TheVariants.{RingOutside, IndexAhead}
use Rattle.vub_queue.specs.declared.head.Head.{Head}
use Rattle.vub_queue.specs.declared.head.Head.TheVariants.{Empty, At, Broken}

-- the tests of the available ring: its word is covered, the index is too far ahead, nothing is left, the slot is covered
tests : Bool → Bool → Bool → Bool → ℕ → Head
tests covered ahead none slot n = cond (not covered) (Broken RingOutside) (cond ahead (Broken IndexAhead) (cond none Empty (cond (not slot) (Broken RingOutside) (At n))))

none_from : (b l z d : Bool) (n : ℕ) → tests b l z d n ≡ Empty → (not b || not z) ≡ false
unfolding tests
none_from false l z d n e = cc
none_from true true z d n e = cc
none_from true false true d n e = refl
none_from true false false false n e = cc
none_from true false false true n e = cc

none_to : (b l z d : Bool) (n : ℕ) → (not b || not z) ≡ false → (z ≡ true → l ≡ false) → tests b l z d n ≡ Empty
unfolding tests
none_to false l z d n e near = cc
none_to true l false d n e near = cc
none_to true l true d n e near = rw (near refl) refl

-- nothing left is not ahead
not_ahead : (size left : ℕ) → (left == 0) ≡ true → nat_lt size left ≡ false
not_ahead size left e = le-ltb size left (let none : left ≡ 0 = eqb-true left 0 e in omega arith)

pub empty_left : (g : Guest) (r : Ring) → IsEmpty g r ↔ (is_left g r ≡ false)
unfolding head_of tests
empty_left g r = (
  (λ e. none_from (index_covers g r) (nat_lt r.size (left_of g r)) (left_of g r == 0) (covers g.regions (avail_slot_at r) 2) (number_at w16 g (avail_slot_at r)) e),
  (λ e. none_to (index_covers g r) (nat_lt r.size (left_of g r)) (left_of g r == 0) (covers g.regions (avail_slot_at r) 2) (number_at w16 g (avail_slot_at r)) e (not_ahead r.size (left_of g r))),
)
