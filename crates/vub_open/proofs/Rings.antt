-- The test of rings, ring by ring.
use Rattle.std.proofs.Common.{◌≡◌, ℕ, suc, ◌+◌, ◌<◌, ◌≤◌, true, false, cond, List, length, get_or, take, drop, drop-cons, drop_of_length-le, Option, Some, None, sym, ap, ◌∙◌, arith, length-take}
use Rattle.std.proofs.lemmas.List.{take_more}
use Rattle.std.proofs.lemmas.Bool.{cond-true, cond-false}
use Rattle.vub_model.specs.declared.constants.Constants.{Constants}
use Rattle.vub_model.specs.declared.run.SetupFault.{SetupFault}
use Rattle.vub_model.specs.declared.run.SetupFault.TheVariants.{Ring}
use Rattle.vub_model.specs.declared.setup.GivenRing.{GivenRing}
use Rattle.vub_model.specs.declared.setup.Object.{Object}
use Rattle.vub_model.specs.ValidSetup.{ring_is_sound, ring_fault}

module _ (k : Constants) (os : List Object) (rs : List GivenRing) (i : ℕ) (d : GivenRing) where
  -- the test of the ring at a place, and then of those behind it
  ring_turn : i < length rs → ring_fault k os (take i rs) (drop i rs) ≡ cond (ring_is_sound k os (take i rs) (get_or rs i d)) (ring_fault k os (take (i + 1) rs) (drop (i + 1) rs)) (Some (Ring i))
  unfolding ring_fault
  ring_turn h =
      let r = get_or rs i d in
      let place : length (take i rs) ≡ i = omega (arith, length-take i rs) in
      let next : suc i ≡ i + 1 = omega arith in
      ap (λ l. ring_fault k os (take i rs) l) (drop-cons rs i d h)
      ∙ ap (λ l. cond (ring_is_sound k os (take i rs) r) (ring_fault k os l (drop (suc i) rs)) (Some (Ring (length (take i rs))))) (sym (take_more rs i d h))
      ∙ ap (λ n. cond (ring_is_sound k os (take i rs) r) (ring_fault k os (take (i + 1) rs) (drop n rs)) (Some (Ring (length (take i rs))))) next
      ∙ ap (λ n. cond (ring_is_sound k os (take i rs) r) (ring_fault k os (take (i + 1) rs) (drop (i + 1) rs)) (Some (Ring n))) place

  -- the ring at this place is the first that fails
  pub ring_fails : (o : Option SetupFault) → i < length rs → ring_fault k os (take i rs) (drop i rs) ≡ o → false ≡ ring_is_sound k os (take i rs) (get_or rs i d) → Some (Ring i) ≡ o
  ring_fails o h e fails =
      sym (cond-false (ring_is_sound k os (take i rs) (get_or rs i d)) (ring_fault k os (take (i + 1) rs) (drop (i + 1) rs)) (Some (Ring i)) (sym fails))
      ∙ sym (ring_turn h) ∙ e

  -- it passes
  pub ring_passes : (o : Option SetupFault) → i < length rs → ring_fault k os (take i rs) (drop i rs) ≡ o → true ≡ ring_is_sound k os (take i rs) (get_or rs i d) → ring_fault k os (take (i + 1) rs) (drop (i + 1) rs) ≡ o
  ring_passes o h e passes =
      sym (cond-true (ring_is_sound k os (take i rs) (get_or rs i d)) (ring_fault k os (take (i + 1) rs) (drop (i + 1) rs)) (Some (Ring i)) (sym passes))
      ∙ sym (ring_turn h) ∙ e

-- no ring is left
pub rings_pass : (k : Constants) (os : List Object) (rs : List GivenRing) (i : ℕ) (o : Option SetupFault) → length rs ≤ i → ring_fault k os (take i rs) (drop i rs) ≡ o → None ≡ o
unfolding ring_fault
rings_pass k os rs i o h e = sym (ap (λ l. ring_fault k os (take i rs) l) (drop_of_length-le rs h)) ∙ e
