-- A memory of zero bytes is ready for the first request.
use Rattle.std.proofs.Common.{◌≡◌, ℕ, zero, suc, ◌+◌, ◌-◌, ◌*◌, Bool, true, false, true≢false, cond, not, Some, None, [], ◌∷◌, get_or, replicate, refl, sym, ap, ap₂, ◌∙◌, arith, eqb, bit_and}
use Rattle.vub_mem.specs.Place.{byte_at, byte_in, bytes_at, holds, number_at}
use Rattle.std.specs.Int.{w16}
use Rattle.vub_queue.specs.Chain.{descriptor_at, is_writable}
use Rattle.vub_driver.specs.Places.{avail_index_at}
use Rattle.vub_driver.specs.declared.layout.Layout.{Layout}
use Rattle.vub_driver.proofs.Kept.{word_is}
use Rattle.vub_talk.specs.Asking.{blank, region, zeros}
use Rattle.vub_talk.specs.Ready.{IsReady}
use Rattle.vub_talk.proofs.Batching.{length-zeros}

zero-at : (n i : ℕ) → get_or (zeros n) i 0 ≡ 0
unfolding zeros
zero-at n i = by n i where
  by : (n i : ℕ) → ◌≡◌ {A = ℕ} (get_or (replicate n 0) i 0) 0
  by zero i = refl
  by (suc n) zero = refl
  by (suc n) (suc i) = by n i

byte-zero : (a : ℕ) (b : Bool) → byte_in blank.contents a (cond b (Some region) None) ≡ 0
byte-zero a true = zero-at 1048576 (0 + (a - 1048576))
byte-zero a false = refl

zero-byte : (a : ℕ) → byte_at blank a ≡ 0
unfolding byte_at
zero-byte a = byte-zero a (holds region a)

zero-bytes : (a : ℕ) → bytes_at blank a 2 ≡ 0 ∷ 0 ∷ []
unfolding bytes_at
zero-bytes a = ap₂ (λ x y. x ∷ y ∷ []) (zero-byte a) (zero-byte (a + 1))

zero-word : (a : ℕ) → number_at w16 blank a ≡ 0
zero-word a = word_is blank a 0 (omega arith) (zero-bytes a)

zero-flags : (a : ℕ) → is_writable (descriptor_at blank a) ≡ false
unfolding descriptor_at
zero-flags a = ap (λ f. not (eqb (bit_and f 2) 0)) (zero-word (a + 12))

pub blank_ready : (l : Layout) → IsReady l 0 blank
blank_ready l = record {
  one = refl;
  long = length-zeros 1048576;
  index = zero-word (avail_index_at l);
  table = λ i below writable. absurd (true≢false (sym writable ∙ zero-flags (l.desc + 16 * i)));
}
