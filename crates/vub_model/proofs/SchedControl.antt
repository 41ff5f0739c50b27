-- A control step keeps the schedule invariant.
use Rattle.std.proofs.Common.{◌≡◌, ◌≢◌, ℕ, ◌<◌, Bool, true, false, cond, not, ◌&&◌, ◌⊎◌, inl, inr, List, [], ◌∷◌, length, Option, Some, None, is_some, refl, sym, ap, ◌∙◌, subst, arith, eqb, slice_set, slice_index_or}
use Rattle.std.proofs.lemmas.List.{get_or-set_same, get_or-set_other, get_or_past, set_past, length-set}
use Rattle.std.proofs.lemmas.Bool.{cases_eq, cases_lt, and_parts, eqb-true}
use Rattle.vub_mem.specs.declared.errors.MemError.{MemError}
use Rattle.vub_proto.specs.declared.device_said.DeviceSaid.{DeviceSaid}
use Rattle.vub_model.specs.declared.flight.Flight.TheVariants as flight
use Rattle.vub_model.specs.declared.party.Party.TheVariants as party
use Rattle.vub_model.specs.declared.play.Play.TheVariants as play
use Rattle.vub_model.specs.declared.ring_op.RingOp.{RingOp}
use Rattle.vub_model.specs.declared.ring_op.RingOp.TheVariants as op
use Rattle.vub_model.specs.declared.small.Small.{Small}
use Rattle.vub_model.specs.declared.small.Small.TheVariants.{Claim, Release, Add, Delete, Listen, Unlisten, Bell, Remove, Insert, Set, Info, Table, Log, Device, Answer as Answering}
use Rattle.vub_model.specs.declared.wiring.Known.{Known}
use Rattle.vub_queue.specs.Layout.{avail_index_at}
use Rattle.vub_model.specs.RingRecord.{Vring, is_in_flight, waits, fits, changed, ring_after, is_on, has_addresses}
use Rattle.vub_model.specs.EntryNumber.{has_left}
use Rattle.vub_model.specs.Shared.{Shared, ring_at, with_ring, pending_at, has_number, with_number, without_number, inserted, removed}
use Rattle.vub_model.specs.Plans.{Plan, regions_after}
use Rattle.vub_model.specs.Control.{MayControl, small_after, waits_now, next_used_at, tail_of, table_refusal, regions_unless, log_refusal}
use Rattle.vub_model.specs.Frame.{Frame, known_of, frame_of, list_at, is_member}
use Rattle.vub_model.specs.FrameSteps.{known_after}
use Rattle.vub_model.specs.Wiring.{Wiring, opened_at, IsPlaced}
use Rattle.vub_model.specs.World.{World, phase_at, after_control}
use Rattle.vub_model.specs.Running.{HasStopped, index_word, calm_after}
use Rattle.vub_model.specs.Schedule.{IsNumber, SetFits, Quiet, IsKickAt, First, signalled, waiting, listed, Invariant}
use Rattle.vub_model.proofs.Places.{one-queue}
use Rattle.vub_model.proofs.Settings.{set-leaves, info-leaves}
use Rattle.vub_model.proofs.Counting.{field-kept, ring-own, ring-other, left-covered}
use Rattle.vub_model.proofs.LoggedTable.{logged-covers}
use Rattle.vub_model.proofs.Registering.{number-own, number-kept, number-from}
use Rattle.vub_model.proofs.Waking.{woken-by}
use Rattle.vub_model.proofs.SchedWork.{known-ring, kick-ring}
use Rattle.vub_model.proofs.Linking.{kick_at, unclaimed-other}
use Rattle.vub_model.proofs.Stepping.{frame_after}
use Rattle.vub_model.proofs.FrameSmall.{info-kept, known-changed}
use Rattle.vub_model.proofs.SmallSteps.{lacking-none, lacking-fewer, lacking-other, calm-of, never-calm, and-none}
use Rattle.vub_model.proofs.QuietSteps.{close, OldRung, NewRung, quiet-rung, OldWoken, NewWoken, old-woken, quiet-woken, quiet-close, same-lists, still, first-now, safe, by-add, by-delete, by-bell, by-listen, by-unlisten}

module _ {V : Type 0} (w : World V) (calm : ℕ → Bool) (i : Invariant w calm) (said : DeviceSaid) where
  abbrev g : Wiring
  g = w.wiring

  abbrev h : Shared V
  h = w.shared

  abbrev fr : Frame
  fr = frame_of h

  abbrev left : Plan
  left = record w.control.plan { steps = tail_of w.control.plan.steps }

  -- Pending sets

  pending-other : (k : ℕ) (ns : List ℕ) (j : ℕ) → (j ≡ k → ⊥) → slice_index_or (slice_set h.pending k ns) j [] ≡ pending_at h j
  pending-other k ns j other = get_or-set_other h.pending k j ns [] other

  removed-own : (k n : ℕ) → pending_at (removed h k n) k ≡ without_number (pending_at h k) n
  removed-own k n =
      elim (cases_lt k (length h.pending)) [
        | inl within ↦ get_or-set_same h.pending k (without_number (pending_at h k) n) [] within
        | inr past ↦ ap (λ l. slice_index_or l k []) (set_past h.pending k (without_number (pending_at h k) n) past) ∙ (get_or_past h.pending k [] past ∙ sym (lacking-none (pending_at h k) n (get_or_past h.pending k [] past)))
      ]

  by-remove : (k n : ℕ) → w.control.plan.steps ≡ Remove k n ∷ left.steps → Invariant (after_control w (Remove k n) said) (calm_after w party.Control (play.Control (Remove k n) said) (after_control w (Remove k n) said) calm)
  by-remove k n is =
      close w calm i said (Remove k n) is refl refl (length-set h.pending k (without_number (pending_at h k) n)) (λ q. refl) (λ q has. has) (λ q flies on. on)
      (λ j m has. inl (fewer-numbers j m has))
      (λ j below some old. quiet-rung w calm i said (Remove k n) is refl j (λ e. absurd cc) (old (λ none. some (still-none j none))))
      (λ q j m x at goes kick member on addresses calms left_one.
      let low = i.wired.placed q j m at in
      by q j m x low at kick (old-woken w calm i said (Remove k n) is refl q j m x at goes kick (same-lists w calm i said (Remove k n) is refl refl j x member) on addresses (calm-of false (calm q) _ calms) left_one)) where
        fewer-numbers : (j m : ℕ) → has_number m (pending_at (removed h k n) j) ≡ true → has_number m (pending_at h j) ≡ true
        fewer-numbers j m has = elim (cases_eq j k) [
          | inl same ↦ (let P : ℕ → Type 0 = λ j. has_number m (pending_at (removed h k n) j) ≡ true → has_number m (pending_at h j) ≡ true in (subst P (sym same) (λ has. lacking-fewer (pending_at h k) n m (ap (has_number m) (sym (removed-own k n)) ∙ has))) has)
          | inr other ↦ ap (has_number m) (sym (pending-other k (without_number (pending_at h k) n) j other)) ∙ has
        ]

        still-none : (j : ℕ) → pending_at h j ≡ [] → pending_at (removed h k n) j ≡ []
        still-none j none = elim (cases_eq j k) [
          | inl same ↦ (let P : ℕ → Type 0 = λ j. pending_at h j ≡ [] → pending_at (removed h k n) j ≡ [] in (subst P (sym same) (λ none. removed-own k n ∙ lacking-none (pending_at h k) n none)) none)
          | inr other ↦ pending-other k (without_number (pending_at h k) n) j other ∙ none
        ]

        fits_now : (object : ℕ) × IsKickAt g fr k n object × First left.steps (Delete k object)
        fits_now = (safe w calm i said (Remove k n) is refl).0

        -- the number that is removed is that of the kick which is deleted next
        own : (q j m x : ℕ) → IsPlaced g q j m → (ring_at h q).kick ≡ Some x → j ≡ k → m ≡ n → NewWoken w calm i said (Remove k n) is refl q j m x
        own q j m x at kick a b =
            let P : ℕ → ℕ → Type 0 = λ j m. IsPlaced g q j m in
            let here : IsPlaced g q k n = subst (λ m. P k m) b (subst (λ j. P j m) a at) in
            let queue : fits_now.1.queue ≡ q = one-queue g fits_now.1.queue q k n fits_now.1.placed here in
            let K : ℕ → Type 0 = λ p. kick_at fr p ≡ Some fits_now.0 in
            let theirs = subst K queue fits_now.1.kick in
            let mine = kick-ring h q ∙ kick in
            let object : fits_now.0 ≡ x = cc in
            let D : ℕ → ℕ → Type 0 = λ j x. First (after_control w (Remove k n) said).control.plan.steps (Delete j x) in
            inr (inr (subst (λ x. D j x) object (subst (λ j. D j fits_now.0) (sym a) (first-now w calm i said (Remove k n) is refl (Delete k fits_now.0) fits_now.2))))

        by : (q j m x : ℕ) → j < length g.opened → IsPlaced g q j m → (ring_at h q).kick ≡ Some x → OldWoken w calm i said (Remove k n) is refl q j m x → NewWoken w calm i said (Remove k n) is refl q j m x
        by q j m x low at kick (inr (inl first)) = absurd cc
        by q j m x low at kick (inr (inr first)) = absurd cc
        by q j m x low at kick (inl (signalled above)) = inl (signalled above)
        by q j m x low at kick (inl (listed has)) = inl (listed has)
        by q j m x low at kick (inl (waiting has)) =
            elim (cases_eq j k) [
              | inl a ↦ elim (cases_eq m n) [
                | inl b ↦ own q j m x at kick a b
                | inr b ↦ inl (waiting (let P : ℕ → Type 0 = λ j. has_number m (pending_at h j) ≡ true → has_number m (pending_at (removed h k n) j) ≡ true in (subst P (sym a) (λ has. ap (has_number m) (removed-own k n) ∙ lacking-other (pending_at h k) n m b has)) has))
              ]
              | inr a ↦ inl (waiting (ap (has_number m) (pending-other k (without_number (pending_at h k) n) j a) ∙ has))
            ]

  by-insert : (k n : ℕ) → w.control.plan.steps ≡ Insert k n ∷ left.steps → Invariant (after_control w (Insert k n) said) (calm_after w party.Control (play.Control (Insert k n) said) (after_control w (Insert k n) said) calm)
  by-insert k n is =
      close w calm i said (Insert k n) is refl refl (length-set h.pending k (with_number (pending_at h k) n)) (λ q. refl) (λ q has. has) (λ q flies on. on)
      (λ j m has. from j m has)
      (λ j below some old. bells j below some old (cases_eq j k))
      (λ q j m x at goes kick member on addresses calms left_one.
      by q j m x (old-woken w calm i said (Insert k n) is refl q j m x at goes kick (same-lists w calm i said (Insert k n) is refl refl j x member) on addresses (calm-of false (calm q) _ calms) left_one)) where
        number : IsNumber g k n
        number = (safe w calm i said (Insert k n) is refl).0.0

        within : k < length h.pending
        within = let low = i.wired.placed number.0 k n number.1 in let e = i.pending_size in omega (arith, low, e)

        inserted-own : pending_at (inserted h k n) k ≡ with_number (pending_at h k) n
        inserted-own = get_or-set_same h.pending k (with_number (pending_at h k) n) [] within

        from : (j m : ℕ) → has_number m (pending_at (inserted h k n) j) ≡ true → (has_number m (pending_at h j) ≡ true) ⊎ IsNumber g j m
        from j m has = elim (cases_eq j k) [
          | inl same ↦
              (let P : ℕ → Type 0 = λ j. has_number m (pending_at (inserted h k n) j) ≡ true → (has_number m (pending_at h j) ≡ true) ⊎ IsNumber g j m in
              (subst P (sym same) (λ has. elim (number-from (pending_at h k) n m (ap (has_number m) (sym inserted-own) ∙ has)) [ inl new ↦ inr (subst (λ m. IsNumber g k m) new number) | inr old ↦ inl old ])) has)
          | inr other ↦ inl (ap (has_number m) (sym (pending-other k (with_number (pending_at h k) n) j other)) ∙ has)
        ]

        bells : (j : ℕ) → j < length g.opened → pending_at (inserted h k n) j ≢ [] → (pending_at h j ≢ [] → OldRung w calm i said (Insert k n) is refl j) → (j ≡ k) ⊎ (j ≡ k → ⊥) → NewRung w calm i said (Insert k n) is refl j
        bells j below some old (inl same) =
            let B : ℕ → Type 0 = λ j. First (after_control w (Insert k n) said).control.plan.steps (Bell (opened_at g j).bell) in
            inr (subst B (sym same) (first-now w calm i said (Insert k n) is refl (Bell (opened_at g k).bell) (safe w calm i said (Insert k n) is refl).0.1))
        bells j below some old (inr other) = quiet-rung w calm i said (Insert k n) is refl j (λ e. absurd cc) (old (λ none. some (pending-other k (with_number (pending_at h k) n) j other ∙ none)))

        more : (j m : ℕ) → has_number m (pending_at h j) ≡ true → has_number m (pending_at (inserted h k n) j) ≡ true
        more j m has = elim (cases_eq j k) [
          | inl same ↦ (let P : ℕ → Type 0 = λ j. has_number m (pending_at h j) ≡ true → has_number m (pending_at (inserted h k n) j) ≡ true in (subst P (sym same) (λ has. ap (has_number m) inserted-own ∙ number-kept (pending_at h k) n m has)) has)
          | inr other ↦ ap (has_number m) (pending-other k (with_number (pending_at h k) n) j other) ∙ has
        ]

        by : (q j m x : ℕ) → OldWoken w calm i said (Insert k n) is refl q j m x → NewWoken w calm i said (Insert k n) is refl q j m x
        by q j m x (inl woken) = inl (woken-by _ _ (pending_at h j) (pending_at (inserted h k n) j) (phase_at w.phases j) (phase_at w.phases j) q m (λ above. above) (more j m) (λ has. has) woken)
        by q j m x (inr (inr first)) = absurd cc
        by q j m x (inr (inl first)) =
            let a : k ≡ j = cc in
            let b : n ≡ m = cc in
            let P : ℕ → ℕ → Type 0 = λ j m. has_number m (pending_at (inserted h k n) j) ≡ true in
            inl (waiting (subst (λ m. P j m) b (subst (λ j. P j n) a (ap (has_number n) inserted-own ∙ number-own (pending_at h k) n))))

  -- Rings

  -- a write of one ring: what it leaves, and what it makes of its own queue
  module _ (s : Small) (is : w.control.plan.steps ≡ s ∷ left.steps) (ready : waits_now h s ≡ false) (p : ℕ) (r : Vring) (written : small_after g h s ≡ with_ring h p r) (within : p < g.queues)
      (flown : r.flight ≡ (ring_at h p).flight) (addresses : has_addresses (ring_at h p) ≡ true → has_addresses r ≡ true) (lists : (frame_after g fr s).lists ≡ fr.lists)
      (stays : (ring_at h p).flight ≡ flight.InFlight → (ring_at h p).queue.ready ≡ true → r.queue.ready ≡ true)
      (no_insert : (k n : ℕ) → s ≡ Insert k n → ⊥) (no_delete : (k n : ℕ) → s ≡ Delete k n → ⊥) (no_bell : (o : ℕ) → s ≡ Bell o → ⊥)
      (calms : (q : ℕ) → calm_after w party.Control (play.Control s said) (after_control w s said) calm q ≡ true → calm q ≡ true)
      (own : (j m x : ℕ) → IsPlaced g p j m → r.kick ≡ Some x → is_member (list_at g fr j) x ≡ true → is_on r ≡ true → has_addresses r ≡ true → calm_after w party.Control (play.Control s said) (after_control w s said) calm p ≡ true → has_left h.guest r ≡ true
      → ((ring_at h p).kick ≡ Some x) × (is_on (ring_at h p) ≡ true) × (has_addresses (ring_at h p) ≡ true) × (has_left h.guest (ring_at h p) ≡ true)) where
    ring-here : ring_at (with_ring h p r) p ≡ r
    ring-here = ring-own h p r (let e = i.rings_size in omega (arith, e, within))

    kept : (q j m x : ℕ) → (HasStopped (phase_at w.phases j) → ⊥) → IsPlaced g q j m → (ring_at (with_ring h p r) q).kick ≡ Some x → is_member (list_at g fr j) x ≡ true → is_on (ring_at (with_ring h p r) q) ≡ true → has_addresses (ring_at (with_ring h p r) q) ≡ true → calm_after w party.Control (play.Control s said) (after_control w s said) calm q ≡ true → has_left h.guest (ring_at (with_ring h p r) q) ≡ true → OldWoken w calm i said s is ready q j m x
    kept q j m x goes at kick member on has calm_now left_one =
        elim (cases_eq q p) [
          | inl same ↦
              (let P : ℕ → Type 0 = λ q. IsPlaced g q j m → (ring_at (with_ring h p r) q).kick ≡ Some x → is_on (ring_at (with_ring h p r) q) ≡ true → has_addresses (ring_at (with_ring h p r) q) ≡ true → calm_after w party.Control (play.Control s said) (after_control w s said) calm q ≡ true → has_left h.guest (ring_at (with_ring h p r) q) ≡ true → OldWoken w calm i said s is ready q j m x in
              (subst P (sym same) (λ at kick on has calm_now left_one.
              let was = own j m x at (ap (λ (r : Vring). r.kick) (sym ring-here) ∙ kick) member (ap is_on (sym ring-here) ∙ on) (ap has_addresses (sym ring-here) ∙ has) calm_now (ap (has_left h.guest) (sym ring-here) ∙ left_one) in
              old-woken w calm i said s is ready p j m x at goes was.0 member was.1 was.2 (calms p calm_now) was.3)) at kick on has calm_now left_one)
          | inr other ↦
              (let away = ring-other h p r q other in
              old-woken w calm i said s is ready q j m x at goes (ap (λ (r : Vring). r.kick) (sym away) ∙ kick) member (ap is_on (sym away) ∙ on) (ap has_addresses (sym away) ∙ has) (calms q calm_now) (ap (has_left h.guest) (sym away) ∙ left_one))
        ]

    ring-close : Invariant (after_control w s said) (calm_after w party.Control (play.Control s said) (after_control w s said) calm)
    ring-close =
        close w calm i said s is ready
        (ap (λ (x : Shared V). length x.rings) written ∙ length-set h.rings p r)
        (ap (λ (x : Shared V). length x.pending) written)
        (λ q. ap (λ (x : Shared V). (ring_at x q).flight) written ∙ field-kept (λ (x : Vring). x.flight) h p r flown q)
        (λ q has. ap (λ (x : Shared V). has_addresses (ring_at x q)) written ∙ addressed q has)
        (λ q flies on. ap (λ (x : Shared V). (ring_at x q).queue.ready) written ∙ readies_on q flies on)
        (λ k n has. inl (ap (λ (x : Shared V). has_number n (pending_at x k)) (sym written) ∙ has))
        (λ k below some old. quiet-rung w calm i said s is ready k (λ e. no_bell (opened_at g k).bell e) (old (λ none. some (ap (λ (x : Shared V). pending_at x k) written ∙ none))))
        (λ q j m x at goes kick member on has calm_now left_one.
        quiet-woken w calm i said s is ready q j m x (no_insert j m) (no_delete j x) (λ h. ap (λ (x : Shared V). has_number m (pending_at x j)) written ∙ h)
        (kept q j m x goes at
        (ap (λ (y : Shared V). (ring_at y q).kick) (sym written) ∙ kick)
        (same-lists w calm i said s is ready lists j x member)
        (ap (λ (y : Shared V). is_on (ring_at y q)) (sym written) ∙ on)
        (ap (λ (y : Shared V). has_addresses (ring_at y q)) (sym written) ∙ has)
        calm_now
        (ap (λ (y : Shared V). has_left y.guest (ring_at y q)) (sym written) ∙ left_one))) where
          readies_on : (q : ℕ) → (ring_at h q).flight ≡ flight.InFlight → (ring_at h q).queue.ready ≡ true → (ring_at (with_ring h p r) q).queue.ready ≡ true
          readies_on q flies on = elim (cases_eq q p) [
            | inl same ↦ (let P : ℕ → Type 0 = λ q. (ring_at h q).flight ≡ flight.InFlight → (ring_at h q).queue.ready ≡ true → (ring_at (with_ring h p r) q).queue.ready ≡ true in (subst P (sym same) (λ flies on. ap (λ (x : Vring). x.queue.ready) ring-here ∙ stays flies on)) flies on)
            | inr other ↦ ap (λ (x : Vring). x.queue.ready) (ring-other h p r q other) ∙ on
          ]

          addressed : (q : ℕ) → has_addresses (ring_at h q) ≡ true → has_addresses (ring_at (with_ring h p r) q) ≡ true
          addressed q has = elim (cases_eq q p) [
            | inl same ↦ (let P : ℕ → Type 0 = λ q. has_addresses (ring_at h q) ≡ true → has_addresses (ring_at (with_ring h p r) q) ≡ true in (subst P (sym same) (λ has. ap has_addresses ring-here ∙ addresses has)) has)
            | inr other ↦ ap has_addresses (ring-other h p r q other) ∙ has
          ]

  by-info : (q desc avail used : ℕ) → (is : w.control.plan.steps ≡ Info q desc avail used ∷ left.steps) → waits_now h (Info q desc avail used) ≡ false → Invariant (after_control w (Info q desc avail used) said) (calm_after w party.Control (play.Control (Info q desc avail used) said) (after_control w (Info q desc avail used) said) calm)
  by-info q desc avail used is ready =
      ring-close (Info q desc avail used) is ready q (ring_after (ring_at h q) (op.SetInfo desc avail used (next_used_at h.guest used))) refl (safe w calm i said (Info q desc avail used) is ready).0
      (info-leaves (ring_at h q) desc avail used (next_used_at h.guest used)).flight (info-leaves (ring_at h q) desc avail used (next_used_at h.guest used)).addresses refl
      (λ flies on. ap (λ (k : Known). k.ready) (info-kept (ring_at h q) desc avail used (next_used_at h.guest used)) ∙ on)
      (λ k n e. absurd cc) (λ k n e. absurd cc) (λ o e. absurd cc)
      (λ p c. calm-of (eqb q p) (calm p) _ c)
      (λ j m x at kick member on has c left_one. never-calm q (calm q) _ _ c)

  -- a change of one ring, by its op
  module _ (q : ℕ) (o : RingOp) (is : w.control.plan.steps ≡ Set q o ∷ left.steps) (ready : waits_now h (Set q o) ≡ false) where
    abbrev r : Vring
    r = ring_at h q

    abbrev new : Vring
    new = ring_after r o

    set_fits : SetFits g fr q o
    set_fits = (safe w calm i said (Set q o) is ready).0.1

    abbrev Own : Type 0
    Own = (j m x : ℕ) → IsPlaced g q j m → new.kick ≡ Some x → is_member (list_at g fr j) x ≡ true → is_on new ≡ true → has_addresses new ≡ true → calm_after w party.Control (play.Control (Set q o) said) (after_control w (Set q o) said) calm q ≡ true → has_left h.guest new ≡ true
        → (r.kick ≡ Some x) × (is_on r ≡ true) × (has_addresses r ≡ true) × (has_left h.guest r ≡ true)

    stays_ready : (o : RingOp) → waits r o ≡ false → r.flight ≡ flight.InFlight → r.queue.ready ≡ true → (known_after (known_of r) o).ready ≡ true
    stays_ready (op.SetReady true) wait flies on = refl
    stays_ready (op.SetReady false) wait flies on = let e = ap is_in_flight (sym flies) ∙ wait in absurd cc
    stays_ready (op.SetEnabled b) wait flies on = on
    stays_ready (op.SetSize n) wait flies on = on
    stays_ready (op.SetInfo desc avail used more) wait flies on = on
    stays_ready (op.SetBase n) wait flies on = on
    stays_ready (op.SetEventIdx b) wait flies on = on
    stays_ready (op.SetKick k) wait flies on = on
    stays_ready (op.SetCall c) wait flies on = on
    stays_ready (op.SetErr e) wait flies on = on
    stays_ready op.Taken wait flies on = on
    stays_ready op.Put wait flies on = on
    stays_ready op.Hold wait flies on = on
    stays_ready op.GetBase wait flies on = on

    set-close : ((p : ℕ) → calm_after w party.Control (play.Control (Set q o) said) (after_control w (Set q o) said) calm p ≡ true → calm p ≡ true) → Own → Invariant (after_control w (Set q o) said) (calm_after w party.Control (play.Control (Set q o) said) (after_control w (Set q o) said) calm)
    set-close calms own =
        ring-close (Set q o) is ready q new refl (safe w calm i said (Set q o) is ready).0.0
        (set-leaves g fr q r o set_fits).flight (set-leaves g fr q r o set_fits).addresses refl
        (λ flies on. ap (λ (k : Known). k.ready) (known-changed r o ready) ∙ stays_ready o ready flies on)
        (λ k n e. absurd cc) (λ k n e. absurd cc) (λ x e. absurd cc) calms own

  quiet-not : (q : ℕ) → Quiet g fr q → (j m x : ℕ) → IsPlaced g q j m → (ring_at h q).kick ≡ Some x → is_member (list_at g fr j) x ≡ true → ⊥
  quiet-not q quiet j m x at kick member = let none = quiet j m x (i.wired.placed q j m at) at (kick-ring h q ∙ kick) in absurd cc

  by-set : (q : ℕ) (o : RingOp) (is : w.control.plan.steps ≡ Set q o ∷ left.steps) (ready : waits_now h (Set q o) ≡ false) → SetFits g fr q o → Invariant (after_control w (Set q o) said) (calm_after w party.Control (play.Control (Set q o) said) (after_control w (Set q o) said) calm)
  by-set q op.Taken is ready fits = absurd fits
  by-set q op.Put is ready fits = absurd fits
  by-set q op.Hold is ready fits = absurd fits
  by-set q (op.SetInfo desc avail used next) is ready fits = absurd fits
  by-set q (op.SetEventIdx b) is ready fits = set-close q (op.SetEventIdx b) is ready (λ p c. calm-of false (calm p) _ c) (λ j m x at kick member on has c left_one. (kick, on, has, left_one))
  by-set q (op.SetCall b) is ready fits = set-close q (op.SetCall b) is ready (λ p c. calm-of false (calm p) _ c) (λ j m x at kick member on has c left_one. (kick, on, has, left_one))
  by-set q (op.SetErr b) is ready fits = set-close q (op.SetErr b) is ready (λ p c. calm-of false (calm p) _ c) (λ j m x at kick member on has c left_one. (kick, on, has, left_one))
  by-set q op.GetBase is ready fits = set-close q op.GetBase is ready (λ p c. calm-of false (calm p) _ c) (λ j m x at kick member on has c left_one. (kick, on, has, left_one))
  by-set q (op.SetSize n) is ready fits = set-close q (op.SetSize n) is ready (λ p c. calm-of (eqb q p) (calm p) _ c) (λ j m x at kick member on has c left_one. never-calm q (calm q) _ _ c)
  by-set q (op.SetBase n) is ready fits = set-close q (op.SetBase n) is ready (λ p c. calm-of (eqb q p) (calm p) _ c) (λ j m x at kick member on has c left_one. never-calm q (calm q) _ _ c)
  by-set q (op.SetEnabled false) is ready fits = set-close q (op.SetEnabled false) is ready (λ p c. calm-of false (calm p) _ c) (λ j m x at kick member on has c left_one. absurd (and-none (ring_at h q).queue.ready on))
  by-set q (op.SetEnabled true) is ready (inl was) = set-close q (op.SetEnabled true) is ready (λ p c. calm-of false (calm p) _ c)
      (λ j m x at kick member on has c left_one.
      let e : (ring_at h q).enabled ≡ true = ap (λ (k : Known). k.enabled) (sym (known-ring h q)) ∙ was in
      (kick, ap (λ b. (ring_at h q).queue.ready && b) e ∙ on, has, left_one))
  by-set q (op.SetEnabled true) is ready (inr quiet) = set-close q (op.SetEnabled true) is ready (λ p c. calm-of false (calm p) _ c) (λ j m x at kick member on has c left_one. absurd (quiet-not q quiet j m x at kick member))
  by-set q (op.SetReady false) is ready fits =
      set-close q (op.SetReady false) is ready (λ p c. calm-of false (calm p) _ c)
      (λ j m x at kick member on has c left_one. let off : is_on (changed (ring_at h q) (op.SetReady false)) ≡ true = ap (λ b. is_on (cond (not b && true) (changed (ring_at h q) (op.SetReady false)) (ring_at h q))) (sym ready) ∙ on in absurd cc)
  by-set q (op.SetReady true) is ready (inl was) = set-close q (op.SetReady true) is ready (λ p c. calm-of false (calm p) _ c)
      (λ j m x at kick member on has c left_one.
      let e : (ring_at h q).queue.ready ≡ true = ap (λ (k : Known). k.ready) (sym (known-ring h q)) ∙ was in
      (kick, ap (λ b. b && (ring_at h q).enabled) e ∙ on, has, left_one))
  by-set q (op.SetReady true) is ready (inr quiet) = set-close q (op.SetReady true) is ready (λ p c. calm-of false (calm p) _ c) (λ j m x at kick member on has c left_one. absurd (quiet-not q quiet j m x at kick member))
  by-set q (op.SetKick new) is ready (inl same) = set-close q (op.SetKick new) is ready (λ p c. calm-of false (calm p) _ c)
      (λ j m x at kick member on has c left_one. (sym (kick-ring h q) ∙ (same ∙ kick), on, has, left_one))
  by-set q (op.SetKick new) is ready (inr fresh) = set-close q (op.SetKick new) is ready (λ p c. calm-of false (calm p) _ c)
      (λ j m x at kick member on has c left_one.
      let none = unclaimed-other g fr i.wired i.linked j x q (i.wired.placed q j m at) (fresh.1 x kick) (λ was. quiet-not q fresh.0 j m x at (sym (kick-ring h q) ∙ was) member) in
      absurd cc)

  by-table : (change : _) → (is : w.control.plan.steps ≡ Table change ∷ left.steps) → Invariant (after_control w (Table change) said) (calm_after w party.Control (play.Control (Table change) said) (after_control w (Table change) said) calm)
  by-table change is =
      close w calm i said (Table change) is refl refl refl (λ q. refl) (λ q has. has) (λ q flies on. on) (λ k n has. inl has)
      (λ k below some old. quiet-rung w calm i said (Table change) is refl k (λ e. absurd cc) (old some))
      (λ q j m x at goes kick member on has calm_now left_one. by q j m x at goes kick (same-lists w calm i said (Table change) is refl refl j x member) on has (table_refusal h.guest change) refl calm_now left_one) where
        by : (q j m x : ℕ) → IsPlaced g q j m → (HasStopped (phase_at w.phases j) → ⊥) → (ring_at h q).kick ≡ Some x → is_member (list_at g fr j) x ≡ true → is_on (ring_at h q) ≡ true → has_addresses (ring_at h q) ≡ true → (e : Option MemError) → table_refusal h.guest change ≡ e
            → not (not (is_some e)) && calm q && eqb (index_word (small_after g h (Table change)) q) (index_word h q) ≡ true → has_left (record h.guest { regions = regions_unless e (regions_after h.guest.regions change) h.guest.regions }) (ring_at h q) ≡ true → NewWoken w calm i said (Table change) is refl q j m x
        by q j m x at goes kick member on has None refusal calm_now left_one = absurd cc
        by q j m x at goes kick member on has (Some e) refusal calm_now left_one =
            quiet-woken w calm i said (Table change) is refl q j m x (λ e. absurd cc) (λ e. absurd cc) (λ h. h) (old-woken w calm i said (Table change) is refl q j m x at goes kick member on has (calm-of false (calm q) _ calm_now) left_one)

  by-log : (object offset size : ℕ) → (is : w.control.plan.steps ≡ Log object offset size ∷ left.steps) → Invariant (after_control w (Log object offset size) said) (calm_after w party.Control (play.Control (Log object offset size) said) (after_control w (Log object offset size) said) calm)
  by-log object offset size is =
      close w calm i said (Log object offset size) is refl refl refl (λ q. refl) (λ q has. has) (λ q flies on. on) (λ k n has. inl has)
      (λ k below some old. quiet-rung w calm i said (Log object offset size) is refl k (λ e. absurd cc) (old some))
      (λ q j m x at goes kick member on has calm_now left_one.
      quiet-woken w calm i said (Log object offset size) is refl q j m x (λ e. absurd cc) (λ e. absurd cc) (λ h. h)
      (old-woken w calm i said (Log object offset size) is refl q j m x at goes kick (same-lists w calm i said (Log object offset size) is refl refl j x member) on has (calm-of false (calm q) _ calm_now) (was-left q (and_parts (calm q) _ calm_now).1 left_one))) where
        z : Shared V
        z = small_after g h (Log object offset size)

        was-left : (q : ℕ) → eqb (index_word z q) (index_word h q) ≡ true → has_left z.guest (ring_at h q) ≡ true → has_left h.guest (ring_at h q) ≡ true
        was-left q word left =
            sym (left-covered z h q (logged-covers (log_refusal g h object offset size) object offset h.guest.regions (avail_index_at (ring_at h q).queue) 2) (eqb-true (index_word z q) (index_word h q) word)) ∙ left

  by-kind : (s : Small) → w.control.plan.steps ≡ s ∷ left.steps → waits_now h s ≡ false → Invariant (after_control w s said) (calm_after w party.Control (play.Control s said) (after_control w s said) calm)
  by-kind (Claim x p) is ready = quiet-close w calm i said (Claim x p) is ready refl refl refl (λ q k n o below at kick member c. still w calm i said (Claim x p) is ready refl q k n o member (calm-of false (calm q) _ c)) (λ k n e. absurd cc) (λ k o below e member. absurd cc) (λ o e. absurd cc)
  by-kind (Release x) is ready = quiet-close w calm i said (Release x) is ready refl refl refl (λ q k n o below at kick member c. still w calm i said (Release x) is ready refl q k n o member (calm-of false (calm q) _ c)) (λ k n e. absurd cc) (λ k o below e member. absurd cc) (λ o e. absurd cc)
  by-kind (Log object offset size) is ready = by-log object offset size is
  by-kind (Device call) is ready = quiet-close w calm i said (Device call) is ready refl refl refl (λ q k n o below at kick member c. still w calm i said (Device call) is ready refl q k n o member (calm-of false (calm q) _ c)) (λ k n e. absurd cc) (λ k o below e member. absurd cc) (λ o e. absurd cc)
  by-kind Answering is ready = quiet-close w calm i said Answering is ready refl refl refl (λ q k n o below at kick member c. still w calm i said Answering is ready refl q k n o member (calm-of false (calm q) _ c)) (λ k n e. absurd cc) (λ k o below e member. absurd cc) (λ o e. absurd cc)
  by-kind (Delete k o) is ready = by-delete w calm i said k o is
  by-kind (Add k o n) is ready = by-add w calm i said k o n is
  by-kind (Bell o) is ready = by-bell w calm i said o is
  by-kind (Listen k o n) is ready = by-listen w calm i said k o n is
  by-kind (Unlisten k o above) is ready = by-unlisten w calm i said k o above is
  by-kind (Remove k n) is ready = by-remove k n is
  by-kind (Insert k n) is ready = by-insert k n is
  by-kind (Set q o) is ready = by-set q o is ready (safe w calm i said (Set q o) is ready).0.1
  by-kind (Info q desc avail used) is ready = by-info q desc avail used is ready
  by-kind (Table change) is ready = by-table change is

  by-may : (steps : List Small) (s : Small) → w.control.plan.steps ≡ steps → MayControl h steps s said → Invariant (after_control w s said) (calm_after w party.Control (play.Control s said) (after_control w s said) calm)
  by-may [] s is may = absurd may
  by-may (t ∷ rest) s is may =
      let head : w.control.plan.steps ≡ t ∷ left.steps = is ∙ ap (λ l. t ∷ l) (sym (ap tail_of is)) in
      let P : Small → Type 0 = λ s. Invariant (after_control w s said) (calm_after w party.Control (play.Control s said) (after_control w s said) calm) in
      subst P (sym may.0) (by-kind t head may.1)

pub sched-control : {V : Type 0} (w : World V) (calm : ℕ → Bool) → Invariant w calm → (s : Small) (said : DeviceSaid) → MayControl w.shared w.control.plan.steps s said → Invariant (after_control w s said) (calm_after w party.Control (play.Control s said) (after_control w s said) calm)
sched-control w calm i s said may = by-may w calm i said w.control.plan.steps s refl may
