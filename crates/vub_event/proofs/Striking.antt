-- A call that is to fail counts its fault, and faults are counted from call to call.
use Rattle.std.proofs.Common.{ℕ, ◌^◌, ◌≡◌, ◌<◌, Bool, true, false, if◌then◌else◌, List, [], Result, Ok, Err, sym, ◌∙◌, arith}
use Rattle.vub_base.specs.Causes.{one_more}
use Rattle.vub_event.specs.declared.error.HostError.{HostError}
use Rattle.vub_event.specs.declared.error.HostError.TheVariants.{Failed}
use Rattle.vub_event.specs.Faults.{CountsFaults}

pub struck : {T : Type 0} (before now : ℕ) (calls still : List ℕ) (strikes : Bool) → strikes ≡ true → (calls ≡ [] → strikes ≡ false)
    → still ≡ calls → now ≡ (if strikes then one_more before else before) → before < 2 ^ 64
    → CountsFaults {T = T} before now (calls ≡ []) (still ≡ []) (Err Failed)
struck before now calls still strikes is sound same count fits =
    let rose : now ≡ one_more before = rw is at count in
    record {
      cause = record { later = omega arith; failed = λ _. omega arith };
      still = λ none. same ∙ none;
      sound = λ none _. (let both : true ≡ false = sym is ∙ sound none in cc);
    }

-- the faults of no call, and of one call after others
pub faults-begin : (count : ℕ) (Sound : Type 0) → CountsFaults {T = Unit {0}} count count Sound Sound (Ok tt)
faults-begin count Sound = record {
  cause = record { later = omega arith; failed = λ is. absurd cc };
  still = λ sound. sound;
  sound = λ sound is. absurd cc;
}

pub faults-then : {T U : Type 0} (before between now : ℕ) (Sound Meanwhile Still : Type 0) (first : Result T HostError) (second : Result U HostError)
    → CountsFaults before between Sound Meanwhile first → CountsFaults between now Meanwhile Still second → CountsFaults before now Sound Still second
faults-then before between now Sound Meanwhile Still first second one two = record {
  cause = record { later = omega (arith, one.cause.later, two.cause.later); failed = λ is. omega (arith, one.cause.later, two.cause.failed is) };
  still = λ sound. two.still (one.still sound);
  sound = λ sound. two.sound (one.still sound);
}
