-- The number of a ring's next entry in 16 bits is its base plus the entries taken since, modulo 2^16, at every moment.
use Rattle.vub_proto.specs.declared.answer.Answer.TheVariants as answer
use Rattle.std.proofs.Common.{◌≡◌, ℕ, ◌+◌, ◌*◌, ◌/◌, ◌%◌, ◌^◌, ◌<◌, [], ◌∷◌, sym, ap, ◌∙◌, arith}
use Rattle.std.proofs.Math.Nat.{mod-add-div', add-mul-mod_self_right}
use native.Mathlib.Nat.{mod-eq_of_lt}
use Rattle.vub_model.specs.declared.ring_op.RingOp.TheVariants as op
use Rattle.vub_model.specs.declared.small.Small.TheVariants.{Answer as Answering}
use Rattle.vub_model.specs.EntryNumber.{IsCounted}
use Rattle.vub_model.specs.Faithful.{Counted}
use Rattle.vub_model.specs.RingRecord.{Vring, changed}
use Rattle.vub_model.specs.Shared.{Shared, ring_at}
use Rattle.vub_model.specs.Control.{answers_by, answer_of}
use Rattle.vub_model.specs.Plans.{Plan, next_of}
use Rattle.vub_model.proofs.EachRing.{KeptByWrites}
use Rattle.vub_model.proofs.Settings.{Kept, rebased}

one-more : (a n : ℕ) → n ≡ a % 2 ^ 16 → (n + 1) % 2 ^ 16 ≡ (a + 1) % 2 ^ 16
one-more a n is =
    let split = mod-add-div' a (2 ^ 16) in
    let long : a + 1 ≡ n + 1 + a / 2 ^ 16 * 2 ^ 16 = omega (arith, split, is) in
    sym (ap (λ x. x % 2 ^ 16) long ∙ add-mul-mod_self_right (n + 1) (a / 2 ^ 16) (2 ^ 16))

counted-taken : (r : Vring) → IsCounted r → IsCounted (changed r op.Taken)
counted-taken r at = one-more (r.base + r.taken) r.queue.next_avail at ∙ (let e : r.base + r.taken + 1 ≡ r.base + (r.taken + 1) = omega arith in ap (λ x. x % 2 ^ 16) e)

counted-base : (r : Vring) → IsCounted r → (n : ℕ) → n < 2 ^ 16 → IsCounted (rebased r n)
counted-base r at n low = sym (let e : n + 0 ≡ n = omega arith in ap (λ x. x % 2 ^ 16) e ∙ mod-eq_of_lt low)

counted-set : (r : Vring) → IsCounted r → Kept IsCounted r
counted-set r at = record { same = at; ready = λ b. at; size = λ n ok. at; enabled = λ b. at; event_idx = λ b. at; kick = λ k. at; call = λ c. at; err = λ e. at; addresses = λ a. at; used = λ a n. at }

pub counted-writes : KeptByWrites IsCounted
counted-writes = record { settings = counted-set; base = counted-base; taken = counted-taken; put = λ r at. at; hold = λ r at. at }

-- what an Answer tells that is due a base: the ring's base plus the entries taken since, modulo 2^16
pub answered-base : {V : Type 0} (h : Shared V) → Counted h → (p : Plan) (queue : ℕ) → p.reply ≡ next_of queue → answers_by h Answering p ≡ answer.Base queue (((ring_at h queue).base + (ring_at h queue).taken) % 2 ^ 16) ∷ []
answered-base h counted p queue is = ap (λ r. answer_of h r ∷ []) is ∙ ap (λ n. answer.Base queue n ∷ []) (counted queue)
