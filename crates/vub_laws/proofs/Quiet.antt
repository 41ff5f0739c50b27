-- A step that is no take and no put of a queue leaves its ring, its entries left, and what it reads.
use Rattle.std.proofs.Common.{◌≡◌, ℕ, Bool, false, cond, List, [], ◌∷◌, Result, Ok, Err, refl, sym, ap, ◌∙◌, eqb}
use Rattle.std.specs.Int.{w16}
use Rattle.std.proofs.lemmas.Bool.{eqb-false}
use Rattle.vub_mem.specs.declared.region.Region.{Region}
use Rattle.vub_mem.specs.Memory.{Guest}
use Rattle.vub_mem.specs.Place.{covers, number_at}
use Rattle.vub_queue.specs.EntryNumber.{minus}
use Rattle.vub_queue.specs.Layout.{avail_index_at}
use Rattle.vub_model.specs.declared.entry.Entry.{Entry}
use Rattle.vub_model.specs.declared.play.Play.{Play}
use Rattle.vub_model.specs.declared.play.Play.TheVariants as play
use Rattle.vub_model.specs.declared.phase.Phase.{Phase}
use Rattle.vub_model.specs.declared.phase.Phase.TheVariants.{Serving}
use Rattle.vub_model.specs.declared.ring_op.RingOp.TheVariants as op
use Rattle.vub_model.specs.RingRecord.{Vring, has_addresses, ring_after}
use Rattle.vub_model.specs.Shared.{Shared, ring_at}
use Rattle.vub_model.specs.Service.{Meaning}
use Rattle.vub_model.specs.Wiring.{Wiring}
use Rattle.vub_model.specs.Work.{MayWork, after_work, after_none, after_said, used, put_said, serving}
use Rattle.vub_model.specs.World.{written_by}
use Rattle.vub_model.specs.Schedule.{HasInHand}
use Rattle.vub_model.specs.Headline.{IsSpot}
use Rattle.vub_model.proofs.Cases.{work-cases, event-shared, event-phase, heard-leaf, take-leaf, none-leaf, said-cases}
use Rattle.vub_model.proofs.Confined.{confined-work}
use Rattle.vub_model.proofs.Counting.{ring-other}
use Rattle.vub_model.proofs.Waking.{called-ring}
use Rattle.vub_laws.specs.Alone.{is_of, SameTable}
use Rattle.vub_laws.specs.EntriesLeft.{entries_left}
use Rattle.vub_laws.proofs.Agreeing.{Agree, agree-changed}
use Rattle.vub_laws.proofs.Logless.{same-covers}

-- Entries left: by the regions and the index word

left-by : List Region → Vring → ℕ → ℕ
left-by rs r word = cond (has_addresses r) (cond (covers rs (avail_index_at r.queue) 2) (minus word r.queue.next_avail) 0) 0

left-is : (g : Guest) (r : Vring) → entries_left g r ≡ left-by g.regions r (number_at w16 g (avail_index_at r.queue))
unfolding left-by
left-is g r = refl

left-logless : (rs qs : List Region) → SameTable rs qs → (r : Vring) (word : ℕ) → left-by rs r word ≡ left-by qs r word
unfolding left-by
left-logless rs qs same r word = ap (λ b. cond (has_addresses r) (cond b (minus word r.queue.next_avail) 0) 0) (same-covers rs qs same (avail_index_at r.queue) 2)

pub left-kept : (g h : Guest) (r : Vring) → SameTable h.regions g.regions → number_at w16 h (avail_index_at r.queue) ≡ number_at w16 g (avail_index_at r.queue) → entries_left h r ≡ entries_left g r
left-kept g h r regions word =
    left-is h r ∙ left-logless h.regions g.regions regions r (number_at w16 h (avail_index_at r.queue)) ∙ ap (λ n. left-by g.regions r n) word ∙ sym (left-is g r)

-- an index that is equal to another, or is not
pub not-same : (a b : ℕ) → eqb a b ≡ false → a ≡ b → ⊥
not-same a b h same = eqb-false a b h same

module _ {V : Type 0} (m : Meaning V) (g : Wiring) (k : ℕ) (h : Shared V) (q : ℕ) where
  none-ring : (p : ℕ) → ring_at (after_none h p) q ≡ ring_at h q
  none-ring p = none-leaf h (λ x. ring_at x q ≡ ring_at h q) p (λ live. refl) (λ not. refl)

  put-ring : (e : Entry) (reply : List ℕ) (queues : List ℕ) → eqb e.queue q ≡ false → (said : Result Bool _) → ring_at (after_said h e reply queues said).shared q ≡ ring_at h q
  put-ring e reply queues other (Ok wanted) =
      called-ring (used h e reply) (ring_at h e.queue).call wanted q ∙ ring-other h e.queue (ring_after (ring_at h e.queue) op.Put) q (λ same. not-same e.queue q other (sym same))
  put-ring e reply queues other (Err fault) = ring-other h e.queue (ring_after (ring_at h e.queue) op.Hold) q (λ same. not-same e.queue q other (sym same))

  pub quiet-ring : (phase : Phase) (l : Play) → MayWork g k h phase l → is_of l phase q ≡ false → ring_at (after_work m g k h phase l).shared q ≡ ring_at h q
  quiet-ring =
      work-cases g k h (λ phase l. is_of l phase q ≡ false → ring_at (after_work m g k h phase l).shared q ≡ ring_at h q)
      (λ object ready other. refl)
      (λ object token other. event-shared g k h (λ x. ring_at x q ≡ ring_at h q) object token refl (λ o. refl))
      (λ other. refl)
      (λ token said other. refl)
      (λ queues other. by queues other)
      (λ e queues other. refl)
      (λ e reply queues other. put-ring e reply queues other (put_said h e reply)) where
        by : (queues : List ℕ) → is_of play.Take (Serving queues) q ≡ false → ring_at (after_work m g k h (Serving queues) play.Take).shared q ≡ ring_at h q
        by [] other = refl
        by (p ∷ rest) other =
            take-leaf h (λ z. ring_at z.shared q ≡ ring_at h q) p rest
            (λ c is. ring-other h p (ring_after (ring_at h p) op.Taken) q (λ same. not-same p q other (sym same)))
            (λ is. none-ring p)
            (λ d is. refl)

  -- and it takes no entry of the queue in hand
  serving-hand : (queues : List ℕ) → HasInHand (serving queues) q → ⊥
  serving-hand [] hand = hand
  serving-hand (p ∷ queues) hand = hand

  pub quiet-hand : (phase : Phase) (l : Play) → MayWork g k h phase l → is_of l phase q ≡ false → (HasInHand phase q → ⊥) → HasInHand (after_work m g k h phase l).phase q → ⊥
  quiet-hand =
      work-cases g k h (λ phase l. is_of l phase q ≡ false → (HasInHand phase q → ⊥) → HasInHand (after_work m g k h phase l).phase q → ⊥)
      (λ object ready other was hand. hand)
      (λ object token other was. event-phase g k h (λ p. HasInHand p q → ⊥) object token (λ e. e) (λ below e. e) (λ e. e) (λ e. e) (λ e. e))
      (λ other was. serving-hand _)
      (λ token said other was. heard-leaf (λ p. HasInHand p q → ⊥) (λ e. e) (λ w e. e) said)
      (λ queues other was. by queues other)
      (λ e queues other was hand. was hand)
      (λ e reply queues other was. said-cases (put_said h e reply) (λ said. HasInHand (after_said h e reply queues said).phase q → ⊥) (λ wanted is. serving-hand queues) (λ fault is hand. hand)) where
        by : (queues : List ℕ) → is_of play.Take (Serving queues) q ≡ false → HasInHand (after_work m g k h (Serving queues) play.Take).phase q → ⊥
        by [] other = λ hand. hand
        by (p ∷ rest) other =
            take-leaf h (λ z. HasInHand z.phase q → ⊥) p rest
            (λ c is same. not-same p q other same)
            (λ is. serving-hand rest)
            (λ d is hand. hand)

  -- what agreed still does
  pub quiet-agree : (F : ℕ → ℕ → Type 0) (phase : Phase) (l : Play) → ((o i : ℕ) → IsSpot (written_by h l phase) o i → F o i) → (a : Guest) → Agree F h.guest a → Agree F (after_work m g k h phase l).shared.guest a
  quiet-agree F phase l foreign a = agree-changed F h.guest a (after_work m g k h phase l).shared.guest (written_by h l phase) foreign (confined-work h m g k phase l)
