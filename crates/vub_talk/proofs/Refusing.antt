-- Refusals of the driver.
use Rattle.std.proofs.Common.{◌≡◌, Bool, true, false, not, cond, Option, Some, None, refl, subst}
use Rattle.vub_driver.specs.Layouts.{has_size, is_aligned, is_disjoint, new_fault}
use Rattle.vub_driver.specs.View.{IsFit}
use Rattle.vub_driver.specs.declared.error.DriverError.{DriverError}
use Rattle.vub_driver.specs.declared.error.DriverError.TheVariants.{Size, Misaligned, Overlap}
use Rattle.vub_driver.specs.declared.layout.Layout.{Layout}
use Rattle.vub_driver.proofs.Fitting.{fits}
use Rattle.vub_talk.specs.Late.{refusal_of}
use Rattle.vub_talk.specs.declared.fault.TalkFault.TheVariants as fault

tested : (a b c : Bool) (e : DriverError) → cond (not a) (Some Size) (cond (not b) (Some Misaligned) (cond (not c) (Some Overlap) None)) ≡ Some e → refusal_of e ≡ fault.Driver e
tested false b c e is = (let same : Size ≡ e = cc in subst (λ x. refusal_of x ≡ fault.Driver x) same refl)
tested true false c e is = (let same : Misaligned ≡ e = cc in subst (λ x. refusal_of x ≡ fault.Driver x) same refl)
tested true true false e is = (let same : Overlap ≡ e = cc in subst (λ x. refusal_of x ≡ fault.Driver x) same refl)
tested true true true e is = absurd (let no : ⊥ = cc in no)

-- no test of a layout is for memory
pub layout_refusal : (l : Layout) (e : DriverError) → new_fault l ≡ Some e → refusal_of e ≡ fault.Driver e
unfolding new_fault
layout_refusal l e is = tested (has_size l) (is_aligned l) (is_disjoint l) e is

none_past : (b : Bool) (e : DriverError) (x : Option DriverError) → cond (not b) (Some e) x ≡ None → (b ≡ true) × (x ≡ None)
none_past true e x h = (refl, h)
none_past false e x h = absurd (let no : ⊥ = cc in no)

-- a layout that a driver takes fits
pub fit_taken : (l : Layout) → new_fault l ≡ None → IsFit l
unfolding new_fault
fit_taken l h =
    let size = none_past (has_size l) Size _ h in
    let aligned = none_past (is_aligned l) Misaligned _ size.1 in
    let disjoint = none_past (is_disjoint l) Overlap None aligned.1 in
    fits l size.0 disjoint.0
