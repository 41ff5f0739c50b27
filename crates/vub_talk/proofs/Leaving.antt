-- A worker's step leaves guest memory ready, and the rings as they are laid out.
use Rattle.std.proofs.Common.{◌≡◌, ◌≢◌, ℕ, ◌+◌, ◌%◌, ◌<◌, inl, inr, Bool, true, false, true≢false, cond, ◌&&◌, not, Some, List, [], ◌∷◌, Result, Ok, Err, refl, sym, ap, subst, ◌∙◌, arith}
use Rattle.std.proofs.lemmas.Bool.{cond_both, cases_eq}
use Rattle.vub_queue.specs.declared.addresses.Addresses.{Addresses}
use Rattle.vub_queue.specs.declared.putting.PutFault.{PutFault}
use Rattle.vub_queue.specs.declared.putting.PutFault.TheVariants as put_fault
use Rattle.vub_queue.specs.declared.took.Took.{Took}
use Rattle.vub_queue.specs.declared.took.Took.TheVariants as took
use Rattle.vub_queue.specs.Layout.{at_of, avail_event_at, table_of}
use Rattle.vub_driver.specs.declared.layout.Layout.{Layout}
use Rattle.vub_mem.specs.declared.region.Region.{Region}
use Rattle.vub_model.specs.declared.entry.Entry.{Entry}
use Rattle.vub_model.specs.declared.phase.Phase.{Phase}
use Rattle.vub_model.specs.declared.phase.Phase.TheVariants.{Serving, Taken, Served}
use Rattle.vub_model.specs.declared.play.Play.{Play}
use Rattle.vub_model.specs.declared.play.Play.TheVariants as play
use Rattle.vub_model.specs.declared.ring_op.RingOp.{RingOp}
use Rattle.vub_model.specs.declared.ring_op.RingOp.TheVariants as op
use Rattle.vub_model.specs.Headline.{IsSpot}
use Rattle.vub_model.specs.RingRecord.{Vring, has_addresses, changed, ring_after, waits, fits}
use Rattle.vub_model.specs.Service.{Meaning}
use Rattle.vub_model.specs.Shared.{Shared, ring_at}
use Rattle.vub_model.specs.Wiring.{Wiring}
use Rattle.vub_model.specs.Work.{MayWork, after_work, after_said, answer_put, used, may_take, looked, put_said, serving}
use Rattle.vub_model.specs.World.{written_by, if_used}
use Rattle.vub_model.specs.Written.{put_spots, spots_of, take_spots}
use Rattle.vub_model.proofs.Cases.{work-cases, heard-leaf, take-leaf, none-leaf, event-shared, event-phase, said-cases}
use Rattle.vub_model.proofs.Confined.{confined-work}
use Rattle.vub_model.proofs.Counting.{field-kept}
use Rattle.vub_model.proofs.Live.{looked-live, live-parts}
use Rattle.vub_model.proofs.Waking.{called-ring}
use Rattle.vub_laws.proofs.EntriesLeft.{took-here}
use Rattle.vub_talk.specs.Ready.{IsGuarded, IsReady}
use Rattle.vub_talk.proofs.Chained.{taken-in}
use Rattle.vub_talk.proofs.Guarding.{AreInBuffers, HasUsed, Sits, put-off}
use Rattle.vub_talk.proofs.Keeping.{ready-kept}

-- Rings

abbrev pub addresses_in : Layout → Addresses
addresses_in l = record { desc = l.desc; avail = l.avail; used = l.used }

-- queue 0 lies as the layout says, no other queue has addresses, and none has EVENT_IDX
pub record RingsFit {V : Type 0} (l : Layout) (h : Shared V) : Type 0 where
  pub addresses : (ring_at h 0).queue.addresses ≡ Some (addresses_in l)
  pub size : (ring_at h 0).queue.size ≡ l.size
  pub others : (q : ℕ) → q ≢ 0 → has_addresses (ring_at h q) ≡ false
  pub plain : (q : ℕ) → (ring_at h q).queue.event_idx ≡ false

module _ {V X : Type 0} (m : Meaning V) (g : Wiring) (k : ℕ) (h : Shared V) (f : Vring → X) (taken : (r : Vring) → f (changed r op.Taken) ≡ f r) (put : (r : Vring) → f (changed r op.Put) ≡ f r) (hold : (r : Vring) → f (changed r op.Hold) ≡ f r) where
  after-field : (r : Vring) (o : RingOp) → f (changed r o) ≡ f r → f (ring_after r o) ≡ f r
  after-field r o same = cond_both (not (waits r o) && fits r o) (changed r o) r (λ x. f x ≡ f r) (λ yes. same) (λ no. refl)

  said-field : (e : Entry) (reply queues : List ℕ) (said : Result Bool PutFault) (q : ℕ) → f (ring_at (after_said h e reply queues said).shared q) ≡ f (ring_at h q)
  said-field e reply queues (Ok wanted) q =
      ap f (called-ring (used h e reply) (ring_at h e.queue).call wanted q) ∙ field-kept f h e.queue (ring_after (ring_at h e.queue) op.Put) (after-field (ring_at h e.queue) op.Put (put (ring_at h e.queue))) q
  said-field e reply queues (Err fault) q = field-kept f h e.queue (ring_after (ring_at h e.queue) op.Hold) (after-field (ring_at h e.queue) op.Hold (hold (ring_at h e.queue))) q

  take-field : (queues : List ℕ) (q : ℕ) → f (ring_at (after_work m g k h (Serving queues) play.Take).shared q) ≡ f (ring_at h q)
  take-field [] q = refl
  take-field (p ∷ rest) q =
      take-leaf h (λ z. f (ring_at z.shared q) ≡ f (ring_at h q)) p rest
      (λ c is. field-kept f h p (ring_after (ring_at h p) op.Taken) (after-field (ring_at h p) op.Taken (taken (ring_at h p))) q)
      (λ is. none-leaf h (λ x. f (ring_at x q) ≡ f (ring_at h q)) p (λ live. refl) (λ not. refl))
      (λ d is. refl)

  -- what taking, putting and holding leave of a ring, each step leaves
  field-work : (phase : Phase) (l : Play) → MayWork g k h phase l → (q : ℕ) → f (ring_at (after_work m g k h phase l).shared q) ≡ f (ring_at h q)
  field-work =
      work-cases g k h (λ phase l. (q : ℕ) → f (ring_at (after_work m g k h phase l).shared q) ≡ f (ring_at h q))
      (λ object ready q. refl)
      (λ object token q. event-shared g k h (λ x. f (ring_at x q) ≡ f (ring_at h q)) object token refl (λ o. refl))
      (λ q. refl)
      (λ token said q. refl)
      (λ queues q. take-field queues q)
      (λ e queues q. refl)
      (λ e reply queues q. said-field e reply queues (put_said h e reply) q)

-- Entries in hand

-- what is written for the entry in hand lies in the buffers
abbrev pub Held : Layout → Phase → Type 0
Held l (Taken e queues) = AreInBuffers l e.chain.segments
Held l (Served e reply queues) = AreInBuffers l e.chain.segments
Held l phase = Unit {0}

serving-held : (l : Layout) (queues : List ℕ) → Held l (serving queues)
serving-held l [] = tt
serving-held l (q ∷ queues) = tt

module _ {V : Type 0} (m : Meaning V) (g : Wiring) (k : ℕ) (h : Shared V) (l : Layout) (at : Sits l) (rings : RingsFit l h) where
  pub rings-work : (phase : Phase) (p : Play) → MayWork g k h phase p → RingsFit l (after_work m g k h phase p).shared
  rings-work phase p may = record {
    addresses = field-work m g k h (λ (r : Vring). r.queue.addresses) (λ r. refl) (λ r. refl) (λ r. refl) phase p may 0 ∙ rings.addresses;
    size = field-work m g k h (λ (r : Vring). r.queue.size) (λ r. refl) (λ r. refl) (λ r. refl) phase p may 0 ∙ rings.size;
    others = λ q other. field-work m g k h (λ (r : Vring). has_addresses r) (λ r. refl) (λ r. refl) (λ r. refl) phase p may q ∙ rings.others q other;
    plain = λ q. field-work m g k h (λ (r : Vring). r.queue.event_idx) (λ r. refl) (λ r. refl) (λ r. refl) phase p may q ∙ rings.plain q;
  }

  -- a queue with addresses is queue 0
  pub zero-queue : (q : ℕ) → has_addresses (ring_at h q) ≡ true → q ≡ 0
  zero-queue q has = elim (cases_eq q 0) [ inl same ↦ same | inr other ↦ absurd (true≢false (sym has ∙ rings.others q other)) ]

  pub at-layout : at_of (ring_at h 0).queue ≡ addresses_in l
  at-layout = ap (λ a. at_of (record (ring_at h 0).queue { addresses = a })) rings.addresses

  used-layout : (q : ℕ) → q ≡ 0 → HasUsed l (ring_at h q).queue
  used-layout q same =
      let U : ℕ → Type 0 = λ x. HasUsed l (ring_at h x).queue in
      let used : (at_of (ring_at h 0).queue).used ≡ l.used = ap (λ (a : Addresses). a.used) at-layout in
      let size : (ring_at h 0).queue.size ≡ l.size = rings.size in
      let some : 0 < l.size = omega (arith, at.fit.some, at.fit.even) in
      let M : ℕ → Type 0 = λ s. (ring_at h 0).queue.next_used % s < s in
      let low : (ring_at h 0).queue.next_used % (ring_at h 0).queue.size < (ring_at h 0).queue.size = subst M (sym size) (omega (arith, some)) in
      subst U (sym same) (record { element = omega (arith, used, size, low); behind = omega (arith, used); index = omega (arith, used) })

  module _ (n : ℕ) (ready : IsReady l n h.guest) where
    pub held-work : (phase : Phase) (p : Play) → MayWork g k h phase p → Held l phase → Held l (after_work m g k h phase p).phase
    held-work =
        work-cases g k h (λ phase p. Held l phase → Held l (after_work m g k h phase p).phase)
        (λ object may held. tt)
        (λ object token held. event-phase g k h (Held l) object token tt (λ below. tt) tt tt tt)
        (λ held. serving-held l _)
        (λ token said held. heard-leaf (Held l) tt (λ w. tt) said)
        (λ queues held. takes queues)
        (λ e queues held. held)
        (λ e reply queues held. said-cases (put_said h e reply) (λ said. Held l (after_said h e reply queues said).phase) (λ wanted is. serving-held l queues) (λ fault is. tt)) where
          takes : (queues : List ℕ) → Held l (after_work m g k h (Serving queues) play.Take).phase
          takes [] = tt
          takes (p ∷ rest) =
              take-leaf h (λ z. Held l z.phase) p rest
              (λ c is.
              let same : p ≡ 0 = zero-queue p (live-parts (ring_at h p) (looked-live h p c is)).addresses in
              let base : (table_of (ring_at h p).queue).base ≡ l.desc = ap (λ q. (table_of (ring_at h q).queue).base) same ∙ ap (λ (a : Addresses). a.desc) at-layout in
              let size : (table_of (ring_at h p).queue).size ≡ l.size = ap (λ q. (table_of (ring_at h q).queue).size) same ∙ rings.size in
              taken-in l h.guest (ring_at h p).queue c base size ready.table (took-here h p c is))
              (λ is. serving-held l rest)
              (λ d is. tt)

    take-off : (q : ℕ) (t : Took) (b : Bool) (o i : ℕ) → IsSpot (cond b (take_spots h.guest.regions (ring_at h q).queue t) []) o i → ⊥
    take-off q t false o i is = is
    take-off q (took.Entry c) true o i is = is
    take-off q (took.Damaged d) true o i is = is
    take-off q took.None true o i is = (let E : Bool → Type 0 = λ b. IsSpot (cond b (spots_of h.guest.regions (avail_event_at (ring_at h q).queue) 2) []) o i in subst E (rings.plain q) is)

    said-off : (e : Entry) (reply : List ℕ) → AreInBuffers l e.chain.segments → (b : Bool) → has_addresses (ring_at h e.queue) ≡ b → (o i : ℕ) → IsSpot (if_used (cond b (answer_put h.guest (ring_at h e.queue).queue e.chain reply) (Err put_fault.RingOutside)) (put_spots h.guest.regions (ring_at h e.queue).queue e.chain reply)) o i → IsGuarded l (i + 1048576) → ⊥
    said-off e reply held false has o i is guarded = is
    said-off e reply held true has o i is guarded = by (answer_put h.guest (ring_at h e.queue).queue e.chain reply) is where
      by : (said : Result Bool PutFault) → IsSpot (if_used said (put_spots h.guest.regions (ring_at h e.queue).queue e.chain reply)) o i → ⊥
      by (Err fault) is = is
      by (Ok wanted) is =
          let R : List Region → Type 0 = λ rs. IsSpot (put_spots rs (ring_at h e.queue).queue e.chain reply) o i in
          put-off l at (ring_at h e.queue).queue e.chain reply o i (used-layout e.queue (zero-queue e.queue has)) held (subst R ready.one is) guarded

    -- what a step writes is not guarded
    abbrev pub Off : Phase → Play → Type 0
    Off phase p = Held l phase → (o i : ℕ) → IsSpot (written_by h p phase) o i → IsGuarded l (i + 1048576) → ⊥

    take-written : (queues : List ℕ) → Off (Serving queues) play.Take
    take-written [] held o i is guarded = is
    take-written (q ∷ rest) held o i is guarded = take-off q (looked h q) (may_take (ring_at h q)) o i is

    put-written : (e : Entry) (reply queues : List ℕ) → Off (Served e reply queues) play.Put
    unfolding put_said
    put-written e reply queues held o i is guarded = said-off e reply held (has_addresses (ring_at h e.queue)) refl o i is guarded

    pub written-off : (phase : Phase) (p : Play) → MayWork g k h phase p → Off phase p
    written-off =
        work-cases g k h (λ phase p. Held l phase → (o i : ℕ) → IsSpot (written_by h p phase) o i → IsGuarded l (i + 1048576) → ⊥)
        (λ object may held o i is guarded. is)
        (λ object token held o i is guarded. is)
        (λ held o i is guarded. is)
        (λ token said held o i is guarded. is)
        (λ queues. take-written queues)
        (λ e queues held o i is guarded. is)
        (λ e reply queues. put-written e reply queues)

    pub ready-work : (phase : Phase) (p : Play) → MayWork g k h phase p → Held l phase → IsReady l n (after_work m g k h phase p).shared.guest
    ready-work phase p may held = ready-kept l n h.guest (after_work m g k h phase p).shared.guest (written_by h p phase) (written-off phase p may held) (confined-work h m g k phase p) ready
