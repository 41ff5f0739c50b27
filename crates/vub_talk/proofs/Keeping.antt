-- A change of no guarded byte leaves memory ready.
use Rattle.std.proofs.Common.{◌≡◌, ℕ, ◌+◌, ◌*◌, ◌<◌, ◌≤◌, inl, inr, List, refl, sym, subst, ◌∙◌, arith}
use Rattle.std.specs.Int.{Width, w16, w32, w64, byte_len}
use Rattle.vub_mem.specs.declared.region.Region.{Region}
use Rattle.vub_mem.specs.Memory.{Guest}
use Rattle.vub_mem.specs.Place.{number_at}
use Rattle.vub_queue.specs.Chain.{descriptor_at}
use Rattle.vub_queue.specs.declared.descriptor.Descriptor.{Descriptor}
use Rattle.vub_driver.specs.Places.{avail_index_at}
use Rattle.vub_driver.specs.declared.layout.Layout.{Layout}
use Rattle.vub_model.specs.Headline.{IsSpot, ChangesOnly}
use Rattle.vub_model.specs.Written.{Spot}
use Rattle.vub_laws.proofs.Agreeing.{Agree, agree-changed, number-same, Off}
use Rattle.vub_talk.specs.Ready.{IsGuarded, IsHarmless, IsReady}
use Rattle.vub_talk.proofs.Guarding.{one, lies-here}

module _ (P : ℕ → Type 0) where
  -- the byte has one of these addresses
  abbrev pub Has : ℕ → ℕ → Type 0
  Has o i = (o ≡ 0) × P (i + 1048576)

  -- any other byte
  abbrev pub Free : ℕ → ℕ → Type 0
  Free o i = Has o i → ⊥

  -- a change of other bytes alone
  pub record Keeps (g h : Guest) : Type 0 where
    pub flat : h.regions ≡ one
    pub agree : Agree Free h g

  pub keeps : (g h : Guest) (spots : List Spot) → g.regions ≡ one → ((o i : ℕ) → IsSpot spots o i → Has o i → ⊥) → ChangesOnly spots g h → Keeps g h
  keeps g h spots flat off only =
      let same : Agree Free g g = record { regions = refl; lengths = λ o. refl; bytes = λ o i apart. refl } in
      record { flat = only.regions ∙ flat; agree = agree-changed Free g g h spots off only same }

  module _ (g h : Guest) (kept : Keeps g h) where
    -- a number of such bytes is the same
    pub kept-number : (w : Width) (a : ℕ) → ((x : ℕ) → a ≤ x → x < a + byte_len w → P x) → number_at w h a ≡ number_at w g a
    kept-number w a these =
        let O : List Region → Type 0 = λ rs. Off Free rs a (byte_len w) in
        let off : O one = λ k below o i lies free.
        let at = lies-here (a + k) o i lies in
        free (at.0, subst P at.1 (these (a + k) (omega arith) (omega (arith, below)))) in
        sym (number-same Free w h g a (subst O (sym kept.flat) off) kept.agree)

    pub kept-descriptor : (a : ℕ) → ((x : ℕ) → a ≤ x → x < a + 16 → P x) → descriptor_at h a ≡ descriptor_at g a
    unfolding descriptor_at
    kept-descriptor a these =
        let addr = kept-number w64 a (λ x low high. these x low (omega (arith, high))) in
        let len = kept-number w32 (a + 8) (λ x low high. these x (omega (arith, low)) (omega (arith, high))) in
        let flags = kept-number w16 (a + 12) (λ x low high. these x (omega (arith, low)) (omega (arith, high))) in
        let next = kept-number w16 (a + 14) (λ x low high. these x (omega (arith, low)) (omega (arith, high))) in
        rw (addr, len, flags, next) refl

    pub kept-harmless : (l : Layout) (a : ℕ) → ((x : ℕ) → a ≤ x → x < a + 16 → P x) → IsHarmless l (descriptor_at g a) → IsHarmless l (descriptor_at h a)
    kept-harmless l a these old =
        let D : Descriptor → Type 0 = λ d. IsHarmless l d in
        subst D (sym (kept-descriptor a these)) old

-- a change of other bytes leaves memory ready
pub ready-kept : (l : Layout) (n : ℕ) (g h : Guest) (spots : List Spot) → ((o i : ℕ) → IsSpot spots o i → IsGuarded l (i + 1048576) → ⊥) → ChangesOnly spots g h → IsReady l n g → IsReady l n h
ready-kept l n g h spots off only was =
    let kept = keeps (IsGuarded l) g h spots was.one (λ o i is has. off o i is has.1) only in
    record {
      one = kept.flat;
      long = only.lengths 0 ∙ was.long;
      index = kept-number (IsGuarded l) g h kept w16 (avail_index_at l) (λ x low high. inr (record { low = low; high = omega (arith, high) })) ∙ was.index;
      table = λ i below. kept-harmless (IsGuarded l) g h kept l (l.desc + 16 * i) (λ x low high. inl (record { low = omega (arith, low); high = omega (arith, high, below) })) (was.table i below);
    }
