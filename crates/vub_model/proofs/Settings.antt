-- What control's settings of a ring keep: one lemma for all of them, so that a law about rings names each setting once.
use Rattle.std.proofs.Common.{◌≡◌, ℕ, ◌+◌, ◌<◌, ◌≤◌, ◌^◌, Bool, true, not, ◌&&◌, Option, Some, None, refl, arith, nat_lt}
use Rattle.std.specs.Result.{is_ok}
use Rattle.std.proofs.lemmas.Bool.{cond_both, and_parts}
use Rattle.vub_queue.specs.Settings.{size_answer}
use Rattle.vub_queue.specs.declared.addresses.Addresses.{Addresses}
use Rattle.vub_model.specs.declared.ring_op.RingOp.{RingOp}
use Rattle.vub_model.specs.declared.ring_op.RingOp.TheVariants as op
use Rattle.vub_model.specs.RingRecord.{Vring, waits, fits, limit, changed, ring_after, has_addresses}
use Rattle.vub_model.specs.Frame.{Frame}
use Rattle.vub_model.specs.Wiring.{Wiring}
use Rattle.vub_model.specs.Schedule.{SetFits}

-- it holds of the ring, and of the ring after each setting but a new base
pub record Kept (P : Vring → Type 0) (r : Vring) : Type 0 where
  pub same : P r
  pub ready : (b : Bool) → P (record r { queue = record r.queue { ready = b } })
  pub size : (n : ℕ) → is_ok (size_answer r.queue n) ≡ true → P (record r { queue = record r.queue { size = n } })
  pub enabled : (b : Bool) → P (record r { enabled = b })
  pub event_idx : (b : Bool) → P (record r { queue = record r.queue { event_idx = b } })
  pub kick : (k : Option ℕ) → P (record r { kick = k })
  pub call : (c : Option ℕ) → P (record r { call = c })
  pub err : (e : Option ℕ) → P (record r { err = e })
  pub addresses : (a : Addresses) → P (record r { queue = record r.queue { addresses = Some a } })
  pub used : (a : Addresses) (n : ℕ) → P (record r { queue = record r.queue { addresses = Some a; next_used = n; told = n } })

-- a new base
abbrev pub rebased : Vring → ℕ → Vring
rebased r n = record r { queue = record r.queue { next_avail = n }; epoch = r.epoch + 1; base = n; taken = 0 }

module _ (P : Vring → Type 0) (r : Vring) (kept : Kept P r) where
  kept-if : (o : RingOp) → (fits r o ≡ true → P (changed r o)) → P (ring_after r o)
  kept-if o new = cond_both {A = Vring} (not (waits r o) && fits r o) (changed r o) r P (λ both. new (and_parts (not (waits r o)) (fits r o) both).1) (λ _. kept.same)

  -- a setting that control may play
  pub by-setting : (g : Wiring) (f : Frame) (q : ℕ) (o : RingOp) → SetFits g f q o → ((n : ℕ) → o ≡ op.SetBase n → n < 2 ^ 16 → P (rebased r n)) → P (ring_after r o)
  by-setting g f q (op.SetBase n) ok base = kept-if (op.SetBase n) (λ fit. cond_both {A = Vring} (nat_lt r.epoch limit) (rebased r n) r P (λ few. base n refl ok) (λ many. kept.same))
  by-setting g f q op.Taken ok base = absurd ok
  by-setting g f q op.Put ok base = absurd ok
  by-setting g f q op.Hold ok base = absurd ok
  by-setting g f q (op.SetInfo desc avail used more) ok base = absurd ok
  by-setting g f q (op.SetReady b) ok base = kept-if (op.SetReady b) (λ fit. kept.ready b)
  by-setting g f q (op.SetSize n) ok base = kept-if (op.SetSize n) (λ fit. kept.size n fit)
  by-setting g f q (op.SetEnabled b) ok base = kept.enabled b
  by-setting g f q (op.SetEventIdx b) ok base = kept.event_idx b
  by-setting g f q (op.SetKick k) ok base = kept.kick k
  by-setting g f q (op.SetCall c) ok base = kept.call c
  by-setting g f q (op.SetErr e) ok base = kept.err e
  by-setting g f q op.GetBase ok base = kept.same

  -- new addresses
  pub by-info : (desc avail used : ℕ) (more : Option ℕ) → P (ring_after r (op.SetInfo desc avail used more))
  by-info desc avail used None = kept-if (op.SetInfo desc avail used None) (λ fit. kept.addresses (record { desc = desc; avail = avail; used = used }))
  by-info desc avail used (Some n) = kept-if (op.SetInfo desc avail used (Some n)) (λ fit. kept.used (record { desc = desc; avail = avail; used = used }) n)

-- A setting leaves the flight, keeps addresses, and takes no entry.
pub record Leaves (r x : Vring) : Type 0 where
  pub flight : x.flight ≡ r.flight
  pub addresses : has_addresses r ≡ true → has_addresses x ≡ true
  pub taken : x.taken ≤ r.taken

pub leaves-kept : (r : Vring) → Kept (Leaves r) r
leaves-kept r = record {
  same = record { flight = refl; addresses = λ has. has; taken = omega arith };
  ready = λ b. record { flight = refl; addresses = λ has. has; taken = omega arith };
  size = λ n ok. record { flight = refl; addresses = λ has. has; taken = omega arith };
  enabled = λ b. record { flight = refl; addresses = λ has. has; taken = omega arith };
  event_idx = λ b. record { flight = refl; addresses = λ has. has; taken = omega arith };
  kick = λ k. record { flight = refl; addresses = λ has. has; taken = omega arith };
  call = λ c. record { flight = refl; addresses = λ has. has; taken = omega arith };
  err = λ e. record { flight = refl; addresses = λ has. has; taken = omega arith };
  addresses = λ a. record { flight = refl; addresses = λ has. refl; taken = omega arith };
  used = λ a n. record { flight = refl; addresses = λ has. refl; taken = omega arith };
}

pub set-leaves : (g : Wiring) (f : Frame) (q : ℕ) (r : Vring) (o : RingOp) → SetFits g f q o → Leaves r (ring_after r o)
set-leaves g f q r o ok = by-setting (Leaves r) r (leaves-kept r) g f q o ok (λ n is low. record { flight = refl; addresses = λ has. has; taken = omega arith })

pub info-leaves : (r : Vring) (desc avail used : ℕ) (more : Option ℕ) → Leaves r (ring_after r (op.SetInfo desc avail used more))
info-leaves r desc avail used more = by-info (Leaves r) r (leaves-kept r) desc avail used more
