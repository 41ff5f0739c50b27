-- Claims and bells, as a host in memory makes and rings them.
use Rattle.std.proofs.Common.{◌≡◌, ℕ, ◌+◌, ◌≤◌, true, ltb, inl, inr, Option, Some, None, refl, sym, ap, ◌∙◌, arith}
use Rattle.std.proofs.lemmas.Bool.{cases_Bool, cond-true, ltb-false}
use Rattle.std.proofs.lemmas.Bool.Decides.{nat_tests}
use Rattle.vub_event.specs.declared.event.Event.{Event}
use Rattle.vub_event.specs.declared.error.HostError.{HostError}
use Rattle.vub_event.specs.declared.error.HostError.TheVariants.{EBADF, WouldBlock}
use Rattle.vub_event.specs.Counter.{write_refusal, written, greatest_count}
use Rattle.vub_event.specs.HostTable.{HostTable, event_at, with_event}
use Rattle.vub_event.specs.HostCalls.{due_of, with_change, claim_refusal, claim_after, claimed_by, signal_refusal, signal_after}
use Rattle.vub_model.specs.Shared.{raised_event, raised_option}
use Rattle.vub_model.specs.Opening.{claimed_event}

claim_with : (t : HostTable) (o q : ℕ) (test : Event → Option HostError) (e : Option Event) → due_of test e ≡ None → with_change (claimed_by (Some q)) t o e ≡ with_event t o (claimed_event q e)
claim_with t o q test None due = absurd (let h : Some EBADF ≡ None = due in cc)
claim_with t o q test (Some event) due = refl

-- a claim that is not refused is made
pub claim_claims : (t : HostTable) (o q : ℕ) → claim_refusal t o q ≡ None → claim_after t o q ≡ with_event t o (claimed_event q (event_at t o))
unfolding claim_refusal claim_after
claim_claims t o q due = claim_with t o q _ (event_at t o) due

written_once : (event : Event) → write_refusal event 1 ≡ None → written event 1 ≡ raised_event event
written_once event due =
    elim (cases_Bool (ltb greatest_count (event.count + 1))) [
      | inl t ↦ absurd (let h : Some WouldBlock ≡ None = sym (cond-true (ltb greatest_count (event.count + 1)) (Some WouldBlock) None t) ∙ due in cc)
      | inr f ↦ (let fits : event.count + 1 ≤ greatest_count = ltb-false greatest_count (event.count + 1) f in
          let below : ltb event.count greatest_count ≡ true = grind (arith, nat_tests) in
          sym (cond-true (ltb event.count greatest_count) (written event 1) event below))
    ]

signal_with : (t : HostTable) (o : ℕ) (e : Option Event) → due_of (λ event. write_refusal event 1) e ≡ None → with_change (λ event. written event 1) t o e ≡ with_event t o (raised_option e)
signal_with t o None due = absurd (let h : Some EBADF ≡ None = due in cc)
signal_with t o (Some event) due = ap (λ x. with_event t o (Some x)) (written_once event due)

-- a signal that is not refused raises the count
pub signal_raises : (t : HostTable) (o : ℕ) → signal_refusal t o 1 ≡ None → signal_after t o 1 ≡ with_event t o (raised_option (event_at t o))
unfolding signal_refusal signal_after
signal_raises t o due = signal_with t o (event_at t o) due
