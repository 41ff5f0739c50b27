-- What is known of the world wherever a run comes to is known of the opening of a valid set-up.
use Rattle.std.proofs.Common.{◌≡◌, ℕ, ◌+◌, ◌%◌, ◌^◌, ◌<◌, inl, inr, [], find, eqb, Option, Some, None, refl, sym, ap, subst, arith, ◌∙◌}
use Rattle.std.specs.Int.{is_power_of_two}
use Rattle.std.specs.Prelude.{true, count_ones}
use Rattle.std.specs.Int.Count.{ones-ones}
use Rattle.std.proofs.lemmas.Bool.{eq-eqb}
use Rattle.std.proofs.Math.Nat.{mod-mod}
use Rattle.vub_model.specs.declared.constants.Constants.{Constants}
use Rattle.vub_model.specs.declared.setup.GivenRing.{GivenRing}
use Rattle.vub_model.specs.declared.setup.Setup.{Setup}
use Rattle.vub_model.specs.Bases.{base_in, given_base}
use Rattle.vub_model.specs.EntryNumber.{IsCounted}
use Rattle.vub_model.specs.Opening.{opening, is_registered, ring_from}
use Rattle.vub_model.specs.RingRecord.{Vring, closed_ring, limit}
use Rattle.vub_model.specs.Shared.{ring_at}
use Rattle.vub_model.specs.ValidSetup.{IsValid}
use Rattle.vub_model.proofs.Numbers.{fresh-numbered}
use Rattle.vub_model.proofs.OpeningLogs.{opening-logs}
use Rattle.vub_model.proofs.Openings.{opening-is-fresh}
use Rattle.vub_model.proofs.OpeningMeets.{IsSoundSize, rings-sound, given-sound, greatest-size, found-in, opening-ring, opening-meets, opening-untaken}
use Rattle.vub_model.proofs.Sized.{IsSized}
use Rattle.vub_model.proofs.Sound.{IsSound}

-- 1 is a power of two
one-power : is_power_of_two 1 ≡ true
one-power = eq-eqb (count_ones 1) 1 (ones-ones 1)

module _ {V : Type 0} (constants : Constants) (setup : Setup) (v : V) (valid : IsValid constants setup) where
  abbrev found : ℕ → Option GivenRing
  found q = find (λ (r : GivenRing). eqb r.queue q) setup.rings

  -- what holds of a closed ring and of each ring that is given or new holds of each ring
  by-ring : (P : Option GivenRing → Vring → Type 0) → P None closed_ring → ((q : ℕ) → P (found q) (ring_from constants.max (found q))) → (q : ℕ) → P (found q) (ring_at (opening constants setup v).shared q)
  by-ring P closed given q = elim (opening-ring constants setup v valid q) [
    | inl is ↦ (let Q : Vring → Type 0 = λ r. P (found q) r in subst Q (sym is) (given q))
    | inr none ↦ (let Q : Vring → Type 0 = λ r. P (found q) r in let O : Option GivenRing → Type 0 = λ o. P o closed_ring in subst Q (sym none.0) (subst O (sym none.1) closed))
  ]

  counted-from : (given : Option GivenRing) → IsCounted (ring_from constants.max given)
  counted-from None = refl
  counted-from (Some r) = let e : r.base % 2 ^ 16 ≡ r.base % 2 ^ 16 + 0 = omega arith in sym (mod-mod r.base (2 ^ 16)) ∙ ap (λ n. n % 2 ^ 16) e

  sized-from : (q : ℕ) (given : Option GivenRing) → found q ≡ given → IsSized (ring_from constants.max given)
  sized-from q None is = let most = greatest-size constants setup valid in record { power = most.0; below = omega arith; few = most.1 }
  sized-from q (Some r) is =
      let its : IsSoundSize constants r = given-sound constants setup.objects [] setup.rings r (rings-sound constants setup valid) (found-in q setup.rings r is).0 in
      record { power = its.power; below = its.size; few = (greatest-size constants setup valid).1 }

  base-from : (given : Option GivenRing) → (ring_from constants.max given).base ≡ base_in given
  base-from None = refl
  base-from (Some r) = refl

  -- a ring's first base is the given one
  pub first-base : (q : ℕ) → (ring_at (opening constants setup v).shared q).base ≡ given_base setup.rings q
  first-base = by-ring (λ given r. r.base ≡ base_in given) refl (λ q. base-from (found q))

  -- the opening of a valid set-up is sound, with fewer turns to go than the limit
  pub opening-sound : (more : ℕ) → more < limit → IsSound more (opening constants setup v)
  opening-sound more short = record {
    calm = is_registered constants setup;
    few = λ q. omega (arith, short, opening-untaken constants setup v valid q);
    invariant = opening-meets constants setup v valid;
    counted = by-ring (λ given r. IsCounted r) refl (λ q. counted-from (found q));
    sized = by-ring (λ given r. IsSized r) (record { power = one-power; below = omega arith; few = omega arith }) (λ q. sized-from q (found q) refl);
    numbered = fresh-numbered (opening constants setup v) (opening-is-fresh constants setup v);
    logs = opening-logs constants setup v valid;
  }
