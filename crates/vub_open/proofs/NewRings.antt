-- A queue takes what is given of a ring that passed its tests.
use Rattle.std.proofs.Common.{◌≡◌, ℕ, ◌+◌, ◌%◌, ◌==◌, ◌&&◌, Bool, true, false, nat_le, List, [], ◌∷◌, ◌++◌, map, Bor, Option, Some, None, Result, Ok, refl, sym, subst, ap, ◌∙◌, inl, inr, find, arith, IfSome}
use Rattle.std.specs.Int.{is_power_of_two}
use Rattle.std.specs.List.{AllByRecursion, range_with_len}
use Rattle.std.specs.Option.{option_copied}
use Rattle.std.proofs.lemmas.List.FromFn.{map-range_with_len_more}
use Rattle.vub_model.specs.RingRecord.{Vring}
use Rattle.std.proofs.lemmas.Bool.{cases_Bool, cond-true, cond-false}
use Rattle.vub_queue.specs.Ring.{Ring}
use Rattle.vub_queue.specs.Settings.{info_answer, size_answer}
use Rattle.vub_model.specs.declared.setup.GivenRing.{GivenRing}
use Rattle.vub_model.specs.declared.setup.Info.{Info}
use Rattle.vub_model.specs.ValidSetup.{is_aligned}
use Rattle.vub_open.specs.Opened.{IsFit}

both : (a b : Bool) → (a && b) ≡ true → (a ≡ true) × (b ≡ true)
both true b e = (refl, e)
both false b e = absurd (let h : false ≡ true = e in cc)

pub aligned_info : (info : Info) → is_aligned (Some info) ≡ true → info_answer info.desc info.avail info.used ≡ Ok tt
aligned_info info e =
    let c = both (info.desc % 16 == 0 && info.avail % 2 == 0) (info.used % 4 == 0) e in
    let b = both (info.desc % 16 == 0) (info.avail % 2 == 0) c.0 in
    rw (b.0, b.1, c.1) refl

pub fit_size : (r : Ring) (n : ℕ) → is_power_of_two n ≡ true → nat_le n r.max ≡ true → size_answer r n ≡ Ok tt
fit_size r n power fits = rw (power, fits) refl

-- what holds of each element holds of what is found
pub find_fits : (max : ℕ) (p : GivenRing → Bool) (rs : List GivenRing) (r : GivenRing) → AllByRecursion (λ r. IsFit max r) rs → find p rs ≡ Some r → IsFit max r
find_fits max p [] r all e = absurd (let h : None ≡ Some r = e in cc)
find_fits max p (q ∷ qs) r all e =
    elim (cases_Bool (p q)) [
      | inl t ↦ (let h : Some q ≡ Some r = sym (cond-true (p q) (Some q) (find p qs) t) ∙ e in let same : q ≡ r = cc in subst (λ x. IsFit max x) same all.0)
      | inr f ↦ find_fits max p qs r all.1 (sym (cond-false (p q) (Some q) (find p qs) f) ∙ e)
    ]

pub found_fits : (max : ℕ) (p : GivenRing → Bool) (rs : List GivenRing) (o : Option (Bor GivenRing)) → AllByRecursion (λ r. IsFit max r) rs → option_copied o ≡ find p rs → IfSome o (λ r. IsFit max r.now)
found_fits max p rs None all e = tt
found_fits max p rs (Some r) all e = find_fits max p rs r.now all (sym e)

pub made_is : {E : Type 0} (a b : Vring) → ◌≡◌ {A = Result Vring E} (Ok a) (Ok b) → a ≡ b
made_is a b e = cc

-- one more
pub made_next : {X : Type 0} (f : ℕ → X) (q : ℕ) (old new : List X) (x : X) → old ≡ map f (range_with_len 0 q) → x ≡ f q → new ≡ old ++ x ∷ [] → new ≡ map f (range_with_len 0 (q + 1))
made_next f q old new x was is now =
    now
    ∙ ap (λ l. l ++ x ∷ []) was
    ∙ ap (λ y. map f (range_with_len 0 q) ++ y ∷ []) is
    ∙ sym (map-range_with_len_more f 0 q q (omega arith))
