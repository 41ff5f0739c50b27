-- Why a host refuses a call for which nothing in its table makes a refusal due.
use Rattle.std.proofs.Common.{◌≡◌, ◌==◌, false, List, Option, Some, None, IsTrue, refl, sym, subst, ◌∙◌}
use Rattle.std.specs.List.{list_any}
use Rattle.vub_event.specs.declared.error.HostError.{HostError}
use Rattle.vub_event.specs.declared.error.HostError.TheVariants.{WouldBlock, EINVAL, EEXIST, ENOENT, EBADF, ENOBUFS, Failed, Held, OutOfMemory}
use Rattle.vub_event.specs.Errors.{IsDue, error_number}

-- a host that never fails refuses it for want of memory alone
pub only-memory : (due : Option HostError) (e : HostError) → due ≡ None → IsDue due e → (e ≡ Failed → ⊥) → e ≡ OutOfMemory
only-memory due WouldBlock none is sound = absurd (let h : None ≡ Some WouldBlock = sym none ∙ is in cc)
only-memory due EINVAL none is sound = absurd (let h : None ≡ Some EINVAL = sym none ∙ is in cc)
only-memory due EEXIST none is sound = absurd (let h : None ≡ Some EEXIST = sym none ∙ is in cc)
only-memory due ENOENT none is sound = absurd (let h : None ≡ Some ENOENT = sym none ∙ is in cc)
only-memory due EBADF none is sound = absurd (let h : None ≡ Some EBADF = sym none ∙ is in cc)
only-memory due ENOBUFS none is sound = absurd (let h : None ≡ Some ENOBUFS = sym none ∙ is in cc)
only-memory due Failed none is sound = absurd (sound refl)
only-memory due OutOfMemory none is sound = refl
only-memory due Held none is sound = absurd (let h : None ≡ Some Held = sym none ∙ is in cc)

-- and a call that takes no memory it does not refuse
pub no-refusal : (due : Option HostError) (errors : List HostError) (e : HostError) → due ≡ None → IsDue due e → (e ≡ Failed → ⊥) → IsTrue (list_any (λ x. error_number x == error_number e) errors) → list_any (λ x. error_number x == 9) errors ≡ false → ⊥
no-refusal due errors e none is sound among free =
    let P : HostError → Type 0 = λ e. IsTrue (list_any (λ x. error_number x == error_number e) errors) in
    let here : IsTrue (list_any (λ x. error_number x == 9) errors) = subst P (only-memory due e none is sound) among in
    let never : IsTrue false = subst (λ b. IsTrue b) free here in
    absurd cc
