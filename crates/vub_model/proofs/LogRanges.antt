-- A step of a worker marks the pages that its ranges meet, and writes the bytes of its ranges.
use Rattle.std.proofs.Common.{◌≡◌, inl, inr, ℕ, Bool, true, false, cond, List, [], ◌∷◌, ◌++◌, length, take, drop, Option, Some, None, Result, Ok, Err, refl, sym, ap, ap₂, ◌∙◌, subst, append-nil}
use Rattle.std.specs.List.{AllByRecursion}
use Rattle.std.proofs.lemmas.List.{append_assoc}
use Rattle.vub_mem.specs.declared.dirty.Stored.{Stored}
use Rattle.vub_mem.specs.declared.region.Region.{Region}
use Rattle.vub_mem.specs.Laws.{IsIn, MeetsPage}
use Rattle.vub_mem.specs.Marks.{Mark, marks_of}
use Rattle.vub_mem.specs.Sound.{IsApart}
use Rattle.vub_mem.proofs.Pages.{IsPaged, marks_met, in_front, in_back, in_parts}
use Rattle.vub_log.specs.Plain.{Plain}
use Rattle.vub_queue.specs.declared.chain.Chain.{Chain}
use Rattle.vub_queue.specs.declared.putting.PutFault.{PutFault}
use Rattle.vub_queue.specs.declared.segment.Segment.{Segment}
use Rattle.vub_queue.specs.declared.took.Took.{Took}
use Rattle.vub_queue.specs.declared.took.Took.TheVariants as took
use Rattle.vub_queue.specs.Layout.{used_element_at, used_index_at, avail_event_at}
use Rattle.vub_queue.specs.Put.{reply_marks, used_marks, put_marks}
use Rattle.vub_queue.specs.Ring.{Ring}
use Rattle.vub_queue.specs.Take.{marks_taken}
use Rattle.vub_model.specs.declared.entry.Entry.{Entry}
use Rattle.vub_model.specs.declared.play.Play.{Play}
use Rattle.vub_model.specs.declared.play.Play.TheVariants as play
use Rattle.vub_model.specs.declared.phase.Phase.{Phase}
use Rattle.vub_model.specs.declared.phase.Phase.TheVariants.{Idle, Polled, Sweep, Heard, Serving, Taken, Served}
use Rattle.vub_model.specs.Logging.{Range, reply_ranges, put_ranges, take_ranges, ranges_by, spots_for}
use Rattle.vub_model.specs.Logs.{with_marks}
use Rattle.vub_model.specs.Service.{Meaning}
use Rattle.vub_model.specs.Shared.{Shared, ring_at}
use Rattle.vub_model.specs.Wiring.{Wiring}
use Rattle.vub_model.specs.Work.{published, after_work, after_took, after_said, called, used, may_take, looked, put_said}
use Rattle.vub_model.specs.World.{if_used, written_by}
use Rattle.vub_model.specs.Written.{Spot, spots_of, reply_spots, put_spots, take_spots}
use Rattle.vub_model.proofs.Cases.{event-shared}

-- Marks of ranges

-- the marks of ranges, one after the other
abbrev pub marks_for : List Region → List Range → List Mark
marks_for rs [] = []
marks_for rs (x ∷ xs) = marks_of rs x.start x.len ++ marks_for rs xs

marks-append : (rs : List Region) (xs ys : List Range) → marks_for rs (xs ++ ys) ≡ marks_for rs xs ++ marks_for rs ys
marks-append rs [] ys = refl
marks-append rs (x ∷ xs) ys = ap (λ l. marks_of rs x.start x.len ++ l) (marks-append rs xs ys) ∙ sym (append_assoc (marks_of rs x.start x.len) (marks_for rs xs) (marks_for rs ys))

marks-reply : (rs : List Region) (ss : List Segment) (reply : List ℕ) → reply_marks rs ss reply ≡ marks_for rs (reply_ranges ss reply)
unfolding reply_marks
marks-reply rs [] reply = refl
marks-reply rs (s ∷ ss) reply = ap (λ l. marks_of rs s.addr (length (take s.len reply)) ++ l) (marks-reply rs ss (drop s.len reply))

marks-used : (rs : List Region) (r : Ring) → used_marks rs r ≡ marks_for rs (record { start = used_element_at r; len = 8 } ∷ record { start = used_index_at r; len = 2 } ∷ [])
unfolding used_marks
marks-used rs r = ap (λ l. marks_of rs (used_element_at r) 8 ++ l) (sym (append-nil (marks_of rs (used_index_at r) 2)))

marks-put : (rs : List Region) (r : Ring) (c : Chain) (reply : List ℕ) → put_marks rs r c reply ≡ marks_for rs (put_ranges r c reply)
marks-put rs r c reply = ap₂ (λ a b. a ++ b) (marks-reply rs c.segments reply) (marks-used rs r) ∙ sym (marks-append rs (reply_ranges c.segments reply) (record { start = used_element_at r; len = 8 } ∷ record { start = used_index_at r; len = 2 } ∷ []))

marks-event : (rs : List Region) (a : ℕ) (on : Bool) → cond on (marks_of rs a 2) [] ≡ marks_for rs (cond on (record { start = a; len = 2 } ∷ []) [])
marks-event rs a true = sym (append-nil (marks_of rs a 2))
marks-event rs a false = refl

marks-take : (rs : List Region) (r : Ring) (t : Took) → marks_taken rs r t ≡ marks_for rs (take_ranges r t)
marks-take rs r (took.Entry c) = refl
marks-take rs r took.None = marks-event rs (avail_event_at r) r.event_idx
marks-take rs r (took.Damaged d) = refl

-- Steps

module _ {V : Type 0} (h : Shared V) where
  -- the logs with the pages of these ranges marked
  abbrev pub logs_after : List Range → List (Stored Plain)
  logs_after ranges = with_marks h.logs (marks_for h.guest.regions ranges)

  logs-none : (r : Ring) (live : Bool) → (cond {A = Shared V} live (published h r) h).logs ≡ logs_after (cond live (take_ranges r took.None) [])
  logs-none r true = ap (λ ms. with_marks h.logs ms) (marks-take h.guest.regions r took.None)
  logs-none r false = refl

  no-ranges : (live : Bool) → h.logs ≡ logs_after (cond live [] [])
  no-ranges true = refl
  no-ranges false = refl

  logs-took : (q : ℕ) (rest : List ℕ) (t : Took) → (after_took h q rest t).shared.logs ≡ logs_after (cond (may_take (ring_at h q)) (take_ranges (ring_at h q).queue t) [])
  logs-took q rest (took.Entry c) = no-ranges (may_take (ring_at h q))
  logs-took q rest took.None = logs-none (ring_at h q).queue (may_take (ring_at h q))
  logs-took q rest (took.Damaged d) = no-ranges (may_take (ring_at h q))

  logs-called : (shared : Shared V) (call : Option ℕ) (wanted : Bool) → (called shared call wanted).logs ≡ shared.logs
  logs-called shared call false = refl
  logs-called shared None true = refl
  logs-called shared (Some object) true = refl

  logs-said : (e : Entry) (reply queues : List ℕ) (said : Result Bool PutFault) → (after_said h e reply queues said).shared.logs ≡ logs_after (if_used said (put_ranges (ring_at h e.queue).queue e.chain reply))
  logs-said e reply queues (Ok wanted) =
      logs-called (used h e reply) (ring_at h e.queue).call wanted
      ∙ ap (λ ms. with_marks h.logs ms) (marks-put h.guest.regions (ring_at h e.queue).queue e.chain reply)
  logs-said e reply queues (Err fault) = refl

  -- a step of a worker marks the pages of its ranges
  pub logs-work : (m : Meaning V) (g : Wiring) (k : ℕ) (phase : Phase) (l : Play) → (after_work m g k h phase l).shared.logs ≡ logs_after (ranges_by h l phase)
  logs-work m g k Idle (play.Poll object) = refl
  logs-work m g k Sweep play.Sweep = refl
  logs-work m g k (Heard token) (play.Hear said) = refl
  logs-work m g k (Taken e queues) play.Serve = refl
  logs-work m g k (Polled object token) play.Event = event-shared g k h (λ (x : Shared V). x.logs ≡ h.logs) object token refl (λ o. refl)
  logs-work m g k (Serving []) play.Take = refl
  logs-work m g k (Serving (q ∷ rest)) play.Take = logs-took q rest (looked h q)
  logs-work m g k (Served e reply queues) play.Put = logs-said e reply queues (put_said h e reply)
  logs-work m g k phase play.Take = refl
  logs-work m g k phase play.Put = refl
  logs-work m g k phase l = refl

-- Pages of ranges

-- one of these ranges meets the page, in a region with this log
abbrev pub MeetsOne : List Region → List Range → Mark → Type 0
MeetsOne rs xs m = (x : Range) × IsIn x xs × MeetsPage rs x.start x.len m

module _ (rs : List Region) (apart : IsApart rs) (paged : AllByRecursion IsPaged rs) where
  -- each page that a range meets is among the marks
  pub met-marked : (m : Mark) (xs : List Range) (x : Range) → IsIn x xs → MeetsPage rs x.start x.len m → IsIn m (marks_for rs xs)
  met-marked m [] x is meets = absurd is
  met-marked m (y ∷ ys) x (inl same) meets =
      let P : Range → Type 0 = λ z. IsIn m (marks_of rs z.start z.len ++ marks_for rs ys) in
      subst P (sym same) (in_front m (marks_of rs x.start x.len) (marks_for rs ys) ((marks_met rs apart paged x.start x.len m).1 meets))
  met-marked m (y ∷ ys) x (inr later) meets = in_back m (marks_of rs y.start y.len) (marks_for rs ys) (met-marked m ys x later meets)

  -- and no others
  pub marked-met : (m : Mark) (xs : List Range) → IsIn m (marks_for rs xs) → MeetsOne rs xs m
  marked-met m [] is = absurd is
  marked-met m (y ∷ ys) is =
      elim (in_parts m (marks_of rs y.start y.len) (marks_for rs ys) is) [
        | inl here ↦ (y, inl refl, (marks_met rs apart paged y.start y.len m).0 here)
        | inr later ↦ (let its = marked-met m ys later in (its.0, inr its.1, its.2))
      ]

-- Bytes of ranges: the bytes that a step writes are those of its ranges.

spots-append : (rs : List Region) (xs ys : List Range) → spots_for rs (xs ++ ys) ≡ spots_for rs xs ++ spots_for rs ys
spots-append rs [] ys = refl
spots-append rs (x ∷ xs) ys = ap (λ l. spots_of rs x.start x.len ++ l) (spots-append rs xs ys) ∙ sym (append_assoc (spots_of rs x.start x.len) (spots_for rs xs) (spots_for rs ys))

spots-reply : (rs : List Region) (ss : List Segment) (reply : List ℕ) → reply_spots rs ss reply ≡ spots_for rs (reply_ranges ss reply)
spots-reply rs [] reply = refl
spots-reply rs (s ∷ ss) reply = ap (λ l. spots_of rs s.addr (length (take s.len reply)) ++ l) (spots-reply rs ss (drop s.len reply))

spots-put : (rs : List Region) (r : Ring) (c : Chain) (reply : List ℕ) → put_spots rs r c reply ≡ spots_for rs (put_ranges r c reply)
spots-put rs r c reply =
    let element : List Spot = spots_of rs (used_element_at r) 8 in
    let index : List Spot = spots_of rs (used_index_at r) 2 in
    ap₂ (λ a b. a ++ (element ++ b)) (spots-reply rs c.segments reply) (sym (append-nil index))
    ∙ sym (spots-append rs (reply_ranges c.segments reply) (record { start = used_element_at r; len = 8 } ∷ record { start = used_index_at r; len = 2 } ∷ []))

spots-event : (rs : List Region) (a : ℕ) (on : Bool) → cond on (spots_of rs a 2) [] ≡ spots_for rs (cond on (record { start = a; len = 2 } ∷ []) [])
spots-event rs a true = sym (append-nil (spots_of rs a 2))
spots-event rs a false = refl

spots-take : (rs : List Region) (r : Ring) (t : Took) → take_spots rs r t ≡ spots_for rs (take_ranges r t)
spots-take rs r (took.Entry c) = refl
spots-take rs r took.None = spots-event rs (avail_event_at r) r.event_idx
spots-take rs r (took.Damaged d) = refl

spots-used : (rs : List Region) (said : Result Bool PutFault) (r : Ring) (c : Chain) (reply : List ℕ) → if_used said (put_spots rs r c reply) ≡ spots_for rs (if_used said (put_ranges r c reply))
spots-used rs (Ok wanted) r c reply = spots-put rs r c reply
spots-used rs (Err fault) r c reply = refl

spots-live : (rs : List Region) (live : Bool) (r : Ring) (t : Took) → cond live (take_spots rs r t) [] ≡ spots_for rs (cond live (take_ranges r t) [])
spots-live rs true r t = spots-take rs r t
spots-live rs false r t = refl

-- the bytes that a step of a worker writes are those of its ranges
pub spots-step : {V : Type 0} (h : Shared V) (l : Play) (phase : Phase) → written_by h l phase ≡ spots_for h.guest.regions (ranges_by h l phase)
spots-step h play.Take (Serving (queue ∷ rest)) = spots-live h.guest.regions (may_take (ring_at h queue)) (ring_at h queue).queue (looked h queue)
spots-step h play.Put (Served e reply queues) = spots-used h.guest.regions (put_said h e reply) (ring_at h e.queue).queue e.chain reply
spots-step h play.Take phase = refl
spots-step h play.Put phase = refl
spots-step h l phase = refl
