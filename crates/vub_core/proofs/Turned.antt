-- A worker's step with what the machine records of it is a turn of the world.
use Rattle.std.proofs.Common.{◌≡◌, ℕ, Bool, true, false, cond, inl, inr, List, [], ◌∷◌, ◌++◌, set, Option, Some, None, Result, Ok, Err, refl, sym, ap, subst, ◌∙◌, append-nil}
use Rattle.std.proofs.lemmas.Bool.{cases_Bool, cond-true, cond-false}
use Rattle.std.proofs.lemmas.List.{set-get_or}
use Rattle.vub_mem.specs.declared.region.Region.{Region}
use Rattle.vub_mem.specs.Memory.{Guest}
use Rattle.vub_mem.specs.Place.{covers}
use Rattle.vub_proto.specs.declared.used.Used.{Used}
use Rattle.vub_queue.specs.declared.damage.Damage.TheVariants.{RingOutside}
use Rattle.vub_queue.specs.declared.putting.PutFault.{PutFault}
use Rattle.vub_queue.specs.declared.putting.PutFault.TheVariants as put_fault
use Rattle.vub_queue.specs.declared.took.Took.{Took}
use Rattle.vub_queue.specs.declared.took.Took.TheVariants as took
use Rattle.vub_queue.specs.Function.{took_of, finish_of, look_of}
use Rattle.vub_queue.specs.Layout.{avail_event_at}
use Rattle.vub_queue.specs.Notification.{wants_notification}
use Rattle.vub_queue.specs.Put.{put_answer, put_guest, ring_used}
use Rattle.vub_queue.specs.Ring.{Ring}
use Rattle.vub_queue.specs.Take.{event_covers}
use Rattle.vub_model.specs.declared.entry.Entry.{Entry}
use Rattle.vub_model.specs.declared.play.Play.{Play}
use Rattle.vub_model.specs.declared.play.Play.TheVariants as play
use Rattle.vub_model.specs.declared.party.Party.TheVariants as party
use Rattle.vub_model.specs.declared.phase.Phase.{Phase}
use Rattle.vub_model.specs.declared.phase.Phase.TheVariants.{Serving, Served}
use Rattle.vub_model.specs.declared.records.Take.{Take}
use Rattle.vub_model.specs.RingRecord.{Vring, has_addresses}
use Rattle.vub_model.specs.Shared.{Shared, ring_at}
use Rattle.vub_model.specs.Service.{Meaning}
use Rattle.vub_model.specs.Wiring.{Wiring}
use Rattle.vub_model.specs.Work.{Local, MayWork, after_work, after_took, after_said, serving, stopped, may_take, looked, put_said, why_of}
use Rattle.vub_model.specs.World.{World, after, after_local, phase_at, takes_by, uses_by, used_of, written_by, if_used}
use Rattle.vub_model.specs.Written.{spots_of, put_spots, take_spots, with_spots}
use Rattle.vub_model.specs.RunOf.{Turn}
use Rattle.vub_model.proofs.Cases.{work-cases}
use Rattle.vub_model.proofs.Confined.{confined-work}
use Rattle.vub_loop.specs.declared.finished.Finished.{Finished}
use Rattle.vub_loop.specs.Finished.{finished_by}
use Rattle.vub_core.specs.Stepped.{IsTurn}
use Rattle.vub_core.specs.declared.footprint.Footprint.{Footprint}
use Rattle.vub_core.specs.declared.footprint.Footprint.TheVariants.{Nothing, Use, Event}
use Rattle.vub_core.specs.Places.{IsEventFootprint, IsFootprint}
use Rattle.vub_core.specs.Recorded.{uses_in, left_none, IsWritten}

-- The uses

finished-serving : (e : Entry) (reply queues rest : List ℕ) → uses_in (finished_by play.Put (Served e reply queues) (serving rest)) ≡ used_of e reply ∷ []
finished-serving e reply queues [] = refl
finished-serving e reply queues (q ∷ rest) = refl

finished-some : (e : Entry) (reply queues rest : List ℕ) → finished_by play.Put (Served e reply queues) (serving rest) ≡ Some (record { entry = e; reply = reply })
finished-some e reply queues [] = refl
finished-some e reply queues (q ∷ rest) = refl

module _ {V : Type 0} (old : Shared V) (e : Entry) (reply queues : List ℕ) (now : Phase) where
  uses-said : (said : Result Bool PutFault) (new : Shared V) → record { shared = new; phase = now } ≡ after_said old e reply queues said → uses_in (finished_by play.Put (Served e reply queues) now) ≡ if_used said (used_of e reply ∷ [])
  uses-said (Ok wanted) new is =
      let phase : now ≡ serving queues = ap (λ (x : Local V). x.phase) is in
      ap (λ p. uses_in (finished_by play.Put (Served e reply queues) p)) phase ∙ finished-serving e reply queues queues
  uses-said (Err fault) new is =
      let phase : now ≡ stopped (why_of fault) = ap (λ (x : Local V). x.phase) is in
      ap (λ p. uses_in (finished_by play.Put (Served e reply queues) p)) phase

uses-work : {V : Type 0} (m : Meaning V) (g : Wiring) (k : ℕ) (old new : Shared V) (now before : Phase) (l : Play) → MayWork g k old before l → record { shared = new; phase = now } ≡ after_work m g k old before l → uses_in (finished_by l before now) ≡ uses_by old l before
uses-work {V} m g k old new now before l may =
    work-cases g k old (λ phase l. record { shared = new; phase = now } ≡ after_work m g k old phase l → uses_in (finished_by l phase now) ≡ uses_by old l phase)
    (λ object ready is. refl)
    (λ object token is. refl)
    (λ is. refl)
    (λ token said is. refl)
    (λ queues is. refl)
    (λ e queues is. refl)
    (λ e reply queues is. uses-said old e reply queues now (put_said old e reply) new is)
    before l may

-- The flags

no-write : (rs : List Region) (f : Footprint) (l : Play) (now : Phase) (old new : List (List Bool)) → left_none l now ≡ false → IsWritten rs f l now None old new → new ≡ old
no-write rs (Use place) l now old new none w = w
no-write rs (Event place) l now old new none w = w.0 none
no-write rs Nothing l now old new none w = w

nothing-written : (rs : List Region) (f : Footprint) (l : Play) (now : Phase) (finished : Option Finished) (old new : List (List Bool)) → f ≡ Nothing → IsWritten rs f l now finished old new → new ≡ old
nothing-written rs f l now finished old new is w = let W : Footprint → Type 0 = λ x. IsWritten rs x l now finished old new in subst W is w

none-spots : (r : Vring) (rs : List Region) (t : Took) (flags : List (List Bool)) → take_spots rs r.queue t ≡ [] → with_spots flags (cond (may_take r) (take_spots rs r.queue t) []) ≡ flags
none-spots r rs t flags none = elim (may_take r) as (λ b. with_spots flags (cond b (take_spots rs r.queue t) []) ≡ flags) [ true ↦ ap (λ l. with_spots flags l) none | false ↦ refl ]

-- a ring that gives nothing has its word avail_event in guest memory, if notifications go by index
covers-finish : (g : Guest) (r : Ring) (t : Took) → finish_of g r t ≡ took.None → r.event_idx ≡ true → event_covers g r ≡ true
covers-finish g r (took.Entry c) is on = absurd cc
covers-finish g r (took.Damaged d) is on = absurd cc
covers-finish g r took.None is on =
    elim (cases_Bool (event_covers g r)) [
      | inl all ↦ all
      | inr none ↦ (let bad : took.Damaged RingOutside ≡ took.None = rw (on, none) at is in absurd cc)
    ]

covers-event : (g : Guest) (r : Ring) → took_of g r ≡ took.None → r.event_idx ≡ true → event_covers g r ≡ true
unfolding took_of
covers-event g r is on = covers-finish g r (look_of g r) is on

left-serving : (rest : List ℕ) → left_none play.Take (serving rest) ≡ true
left-serving [] = refl
left-serving (q ∷ rest) = refl

module _ {V : Type 0} (old new : Shared V) (regions : new.guest.regions ≡ old.guest.regions) (now : Phase) (f : Footprint) (before after : List (List Bool)) where
  looked-took : (q : ℕ) → looked old q ≡ took.None → may_take (ring_at old q) ≡ true → took_of old.guest (ring_at old q).queue ≡ took.None
  unfolding looked
  looked-took q is live = sym (cond-true (may_take (ring_at old q)) (took_of old.guest (ring_at old q).queue) took.None live) ∙ is

  event-written : (q : ℕ) (rest : List ℕ) → looked old q ≡ took.None → now ≡ serving rest → IsEventFootprint (ring_at old q) f → IsWritten new.guest.regions f play.Take now None before after → after ≡ with_spots before (cond (may_take (ring_at old q)) (take_spots old.guest.regions (ring_at old q).queue took.None) [])
  event-written q rest is phase foot w =
      let left : left_none play.Take now ≡ true = ap (λ p. left_none play.Take p) phase ∙ left-serving rest in
      elim (cases_Bool (may_take (ring_at old q))) [
        | inl live ↦ elim (cases_Bool (ring_at old q).queue.event_idx) [
          | inl on ↦ (let there = foot.some (rw (live, on) refl) in
              let W : Footprint → Type 0 = λ x. IsWritten new.guest.regions x play.Take now None before after in
              let word = (subst W there.1 w).1 left (ring_at old q).queue there.2 in
              let covered : covers new.guest.regions (avail_event_at (ring_at old q).queue) 2 ≡ true = ap (λ rs. covers rs (avail_event_at (ring_at old q).queue) 2) regions ∙ covers-event old.guest (ring_at old q).queue (looked-took q is live) on in
              word covered ∙ ap (λ rs. with_spots before (spots_of rs (avail_event_at (ring_at old q).queue) 2)) regions ∙ sym (ap (λ l. with_spots before l) (cond-true (may_take (ring_at old q)) (take_spots old.guest.regions (ring_at old q).queue took.None) [] live ∙ cond-true (ring_at old q).queue.event_idx (spots_of old.guest.regions (avail_event_at (ring_at old q).queue) 2) [] on)))
          | inr off ↦ nothing-written new.guest.regions f play.Take now None before after (foot.none (rw (live, off) refl)) w ∙ sym (ap (λ l. with_spots before l) (cond-true (may_take (ring_at old q)) (take_spots old.guest.regions (ring_at old q).queue took.None) [] live ∙ cond-false (ring_at old q).queue.event_idx (spots_of old.guest.regions (avail_event_at (ring_at old q).queue) 2) [] off))
        ]
        | inr dead ↦ nothing-written new.guest.regions f play.Take now None before after (foot.none (rw dead refl)) w ∙ sym (ap (λ l. with_spots before l) (cond-false (may_take (ring_at old q)) (take_spots old.guest.regions (ring_at old q).queue took.None) [] dead))
      ]

  take-written : (q : ℕ) (rest : List ℕ) (t : Took) → looked old q ≡ t → record { shared = new; phase = now } ≡ after_took old q rest t → IsEventFootprint (ring_at old q) f → IsWritten new.guest.regions f play.Take now None before after → after ≡ with_spots before (cond (may_take (ring_at old q)) (take_spots old.guest.regions (ring_at old q).queue t) [])
  take-written q rest (took.Entry c) is row foot w =
      let phase = ap (λ (x : Local V). x.phase) row in
      no-write new.guest.regions f play.Take now before after (ap (λ p. left_none play.Take p) phase) w ∙ sym (none-spots (ring_at old q) old.guest.regions (took.Entry c) before refl)
  take-written q rest took.None is row foot w = event-written q rest is (ap (λ (x : Local V). x.phase) row) foot w
  take-written q rest (took.Damaged d) is row foot w =
      let phase = ap (λ (x : Local V). x.phase) row in
      no-write new.guest.regions f play.Take now before after (ap (λ p. left_none play.Take p) phase) w ∙ sym (none-spots (ring_at old q) old.guest.regions (took.Damaged d) before refl)

  -- a put that is done was by a ring with addresses
  said-ok : (e : Entry) (reply : List ℕ) (wanted : Bool) → put_said old e reply ≡ Ok wanted → (has_addresses (ring_at old e.queue) ≡ true) × (put_answer old.guest.regions (ring_at old e.queue).queue e.chain reply (wants_notification (put_guest old.guest (ring_at old e.queue).queue e.chain reply) (ring_used (ring_at old e.queue).queue)) ≡ Ok wanted)
  unfolding put_said
  said-ok e reply wanted is =
      elim (cases_Bool (has_addresses (ring_at old e.queue))) [
        | inl some ↦ (some, sym (cond-true (has_addresses (ring_at old e.queue)) _ _ some) ∙ is)
        | inr none ↦ (let bad : Err put_fault.RingOutside ≡ Ok wanted = rw none at is in absurd cc)
      ]

  put-written : (e : Entry) (reply queues : List ℕ) (said : Result Bool PutFault) → put_said old e reply ≡ said → record { shared = new; phase = now } ≡ after_said old e reply queues said → IsFootprint old.rings (Served e reply queues) f → IsWritten new.guest.regions f play.Put now (finished_by play.Put (Served e reply queues) now) before after → after ≡ with_spots before (if_used said (put_spots old.guest.regions (ring_at old e.queue).queue e.chain reply))
  put-written e reply queues (Ok wanted) is row foot w =
      let phase : now ≡ serving queues = ap (λ (x : Local V). x.phase) row in
      let there = said-ok e reply wanted is in
      let place = foot there.0 in
      let done : finished_by play.Put (Served e reply queues) now ≡ Some (record { entry = e; reply = reply }) = ap (λ p. finished_by play.Put (Served e reply queues) p) phase ∙ finished-some e reply queues queues in
      let W : Footprint → Option Finished → Type 0 = λ x y. IsWritten new.guest.regions x play.Put now y before after in
      let A : List Region → Type 0 = λ rs. after ≡ with_spots before (put_spots rs (ring_at old e.queue).queue e.chain reply) in
      let flags = subst (λ y. W (Use place.0) y) done (subst (λ x. W x (finished_by play.Put (Served e reply queues) now)) place.1 w) in
      let P : List Region → Type 0 = λ rs. put_answer rs (ring_at old e.queue).queue e.chain reply (wants_notification (put_guest old.guest (ring_at old e.queue).queue e.chain reply) (ring_used (ring_at old e.queue).queue)) ≡ Ok wanted in
      subst A regions (flags (ring_at old e.queue).queue _ wanted place.2 (subst P (sym regions) there.1))
  put-written e reply queues (Err fault) is row foot w =
      let phase : now ≡ stopped (why_of fault) = ap (λ (x : Local V). x.phase) row in
      let W : Phase → Type 0 = λ p. IsWritten new.guest.regions f play.Put p (finished_by play.Put (Served e reply queues) p) before after in
      no-write new.guest.regions f play.Put (stopped (why_of fault)) before after refl (subst W phase w)

serving-written : {V : Type 0} (old new : Shared V) → new.guest.regions ≡ old.guest.regions → (now : Phase) (f : Footprint) (before after : List (List Bool)) (m : Meaning V) (g : Wiring) (k : ℕ) (queues : List ℕ) → record { shared = new; phase = now } ≡ after_work m g k old (Serving queues) play.Take → IsFootprint old.rings (Serving queues) f → IsWritten new.guest.regions f play.Take now None before after → after ≡ with_spots before (written_by old play.Take (Serving queues))
serving-written old new regions now f before after m g k [] is foot w = nothing-written new.guest.regions f play.Take now None before after foot w
serving-written old new regions now f before after m g k (q ∷ rest) is foot w = take-written old new regions now f before after q rest (looked old q) refl is foot w

written-work : {V : Type 0} (m : Meaning V) (g : Wiring) (k : ℕ) (old new : Shared V) (now phase : Phase) (l : Play) (f : Footprint) (before after : List (List Bool)) → MayWork g k old phase l → record { shared = new; phase = now } ≡ after_work m g k old phase l → IsFootprint old.rings phase f → IsWritten new.guest.regions f l now (finished_by l phase now) before after → after ≡ with_spots before (written_by old l phase)
written-work {V} m g k old new now phase l f before after may row =
    let regions : new.guest.regions ≡ old.guest.regions = ap (λ (x : Local V). x.shared.guest.regions) row ∙ (confined-work old m g k phase l).regions in
    work-cases g k old (λ phase l. record { shared = new; phase = now } ≡ after_work m g k old phase l → IsFootprint old.rings phase f → IsWritten new.guest.regions f l now (finished_by l phase now) before after → after ≡ with_spots before (written_by old l phase))
    (λ object ready is foot w. nothing-written new.guest.regions f (play.Poll object) now None before after foot w)
    (λ object token is foot w. nothing-written new.guest.regions f play.Event now None before after foot w)
    (λ is foot w. nothing-written new.guest.regions f play.Sweep now None before after foot w)
    (λ token said is foot w. nothing-written new.guest.regions f (play.Hear said) now None before after foot w)
    (λ queues is foot w. serving-written old new regions now f before after m g k queues is foot w)
    (λ e queues is foot w. nothing-written new.guest.regions f play.Serve now None before after foot w)
    (λ e reply queues is foot w. put-written old new regions now f before after e reply queues (put_said old e reply) refl is foot w)
    phase l may row

passed-written : (rs : List Region) (f : Footprint) (phase now : Phase) (before after : List (List Bool)) → IsWritten rs f play.Pass now (finished_by play.Pass phase now) before after → after ≡ before
passed-written rs f phase now before after w = no-write rs f play.Pass now before after refl w

-- Turns of the world

-- the world with what a worker's step left
abbrev pub stepped : {V : Type 0} → World V → ℕ → Shared V → Phase → List Take → List Used → List (List Bool) → World V
stepped w k new now takes uses written = record w { shared = new; phases = set w.phases k now; takes = takes; uses = uses; written = written }

module _ {V : Type 0} (m : Meaning V) (w : World V) (k : ℕ) (new : Shared V) (now : Phase) (f : Footprint) (takes : List Take) (uses : List Used) (written : List (List Bool)) where
  step-turned : (l : Play) → MayWork w.wiring k w.shared (phase_at w.phases k) l → record { shared = new; phase = now } ≡ after_work m w.wiring k w.shared (phase_at w.phases k) l → IsFootprint w.shared.rings (phase_at w.phases k) f → takes ≡ w.takes ++ takes_by l now → uses ≡ w.uses ++ uses_in (finished_by l (phase_at w.phases k) now) → IsWritten new.guest.regions f l now (finished_by l (phase_at w.phases k) now) w.written written → stepped w k new now takes uses written ≡ after_local w k l (phase_at w.phases k) (after_work m w.wiring k w.shared (phase_at w.phases k) l)
  step-turned l may row foot took used wrote =
      let uses-are = used ∙ ap (λ x. w.uses ++ x) (uses-work m w.wiring k w.shared new now (phase_at w.phases k) l may row) in
      let flags-are = written-work m w.wiring k w.shared new now (phase_at w.phases k) l f w.written written may row foot wrote in
      ap (λ t. stepped w k new now t uses written) took
      ∙ ap (λ u. stepped w k new now (w.takes ++ takes_by l now) u written) uses-are
      ∙ ap (λ x. stepped w k new now (w.takes ++ takes_by l now) (w.uses ++ uses_by w.shared l (phase_at w.phases k)) x) flags-are
      ∙ ap (λ (x : Local V). after_local w k l (phase_at w.phases k) x) row

  -- a worker's turn, with its records, is a turn of the world
  pub turned : (l : Play) → IsTurn m w.wiring k l (phase_at w.phases k) now w.shared new → IsFootprint w.shared.rings (phase_at w.phases k) f → takes ≡ w.takes ++ takes_by l now → uses ≡ w.uses ++ uses_in (finished_by l (phase_at w.phases k) now) → IsWritten new.guest.regions f l now (finished_by l (phase_at w.phases k) now) w.written written → Turn m w (party.Worker k) l (stepped w k new now takes uses written)
  turned play.Pass row foot took used wrote = (
    row.0,
    ap (λ t. stepped w k new now t uses written) (took ∙ append-nil w.takes)
        ∙ ap (λ u. stepped w k new now w.takes u written) (used ∙ append-nil w.uses)
        ∙ ap (λ x. stepped w k new now w.takes w.uses x) (passed-written new.guest.regions f (phase_at w.phases k) now w.written written wrote)
        ∙ ap (λ h. stepped w k h now w.takes w.uses w.written) row.1
        ∙ ap (λ p. stepped w k w.shared p w.takes w.uses w.written) row.2
        ∙ ap (λ ps. record w { phases = ps }) (set-get_or w.phases k _),
  )
  turned l row foot took used wrote = (row.0, step-turned l row.0 row.1 foot took used wrote)
