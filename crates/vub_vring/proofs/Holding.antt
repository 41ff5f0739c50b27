-- What the calls on rings, memory, host and pending sets leave of all that is held.
use Rattle.std.proofs.Common.{◌≡◌, ℕ, Bool, true, false, if◌then◌else◌, List, [], Option, Some, None, Result, Ok, Err, IfOk, OnOk, OnErr, IsErrOf, slice_set, refl, sym, ap, subst, ◌∙◌, ◌⊎◌, inl, inr, arith}
use Rattle.std.proofs.lemmas.List.{set-get_or}
use Rattle.vub_base.specs.Causes.{Rose}
use Rattle.vub_log.specs.Plain.{Plain, IsMark}
use Rattle.vub_mem.specs.Marks.{MarksAll, page_marks}
use Rattle.vub_mem.specs.Memory.{Guest, Memory}
use Rattle.vub_mem.specs.Track.{log_fault}
use Rattle.vub_mem.specs.declared.dirty.Stored.{Stored}
use Rattle.vub_mem.specs.declared.region.Region.{Region}
use Rattle.vub_event.specs.HostTable.{HostTable}
use Rattle.vub_queue.specs.declared.putting.PutFault.{PutFault}
use Rattle.vub_queue.specs.declared.took.Took.TheVariants as took
use Rattle.vub_queue.specs.Ring.{Ring}
use Rattle.vub_queue.specs.Take.{guest_taken, marks_taken}
use Rattle.vub_queue.specs.Put.{put_guest, put_marks}
use Rattle.vub_model.specs.declared.entry.Entry.{Entry}
use Rattle.vub_model.specs.declared.ring_op.RingOp.{RingOp}
use Rattle.vub_model.specs.declared.ring_op.RingOp.TheVariants as op
use Rattle.vub_model.specs.declared.ring_op.RingSaid.{RingSaid}
use Rattle.vub_model.specs.Control.{used_index_covers}
use Rattle.vub_model.specs.Logs.{with_marks}
use Rattle.vub_model.specs.RingRecord.{Vring, is_on, is_in_flight, ring_said, ring_after, closed_ring}
use Rattle.vub_model.specs.Shared.{Shared, ring_at}
use Rattle.vub_model.specs.Work.{is_object, looked, published, after_none, put_said, used, called, may_take}
use Rattle.vub_ring.specs.declared.ops.TableRing.{TableRing}
use Rattle.vub_ring.specs.declared.ops.TableRing.TheVariants as table_ring
use Rattle.vub_ring.specs.declared.ops.TableRingSaid.{TableRingSaid}
use Rattle.vub_ring.specs.declared.ops.TableRingSaid.TheVariants as table_said
use Rattle.vub_ring.specs.declared.ops.KickSaid.{KickSaid}
use Rattle.vub_ring.specs.declared.ops.KickSaid.TheVariants.{Stale, Serve, Quiet}
use Rattle.vub_ring.specs.declared.ops.PutSaid.{PutSaid}
use Rattle.vub_ring.specs.declared.ops.PutSaid.TheVariants as put_answer
use Rattle.vub_ring.specs.declared.ops.PendOp.{PendOp}
use Rattle.vub_ring.specs.declared.ops.PendOp.TheVariants as pend
use Rattle.vub_ring.specs.declared.ops.PendSaid.{PendSaid}
use Rattle.vub_ring.specs.declared.ops.PendSaid.TheVariants as pend_said
use Rattle.vub_model.specs.declared.small.TableOp.{TableOp}
use Rattle.vub_vring.specs.declared.ops.TableSaid.{TableSaid}
use Rattle.vub_vring.specs.declared.ops.HostOp.{HostOp}
use Rattle.vub_vring.specs.declared.ops.HostSaid.{HostSaid}
use Rattle.vub_ring.specs.declared.ops.PartsError.{PartsError}
use Rattle.vub_ring.specs.declared.ops.PartsError.TheVariants.{Fault}
use Rattle.vub_vring.specs.declared.ops.LogSaid.{LogSaid}
use Rattle.vub_vring.specs.declared.ops.LogSaid.TheVariants as log_said
use Rattle.vub_vring.specs.Calls.{Called, RingCall, TableRingCall, InfoCall, TakeCall, ChangesTable, TableCall, SetsLog, LogCall, memory_of, KickCall, PutCall, PutUncalled, PendCall, HostCall, HostTableCall}
use Rattle.vub_ring.specs.Faults.{CountsFaults}
use Rattle.vub_ring.specs.Play.{OnTable, info_said, info_after, found, guest_none, marks_found, table_marks, use_marks, kick_said, KickTable, put_found, table_wanted, table_put, PutTable, CallsIf}
use Rattle.vub_vring.specs.Store.{ring_in, RingTableAt, PutsAt, PendsAt}
use Rattle.vub_vring.proofs.Marking.{marks-made}

-- a call that never faults, on parts whose count stays
pub quiet_counts : {T : Type 0} (count : ℕ) (Sound : Type 0) (result : Result T PartsError) → (IsErrOf result Fault → ⊥) → CountsFaults count count Sound Sound result
quiet_counts count Sound result only = record { cause = record { later = omega arith; failed = λ e. absurd (only e) }; still = λ s. s; sound = λ s e. only e }

abbrev memory_at : Guest → List (Stored Plain) → Memory Plain
memory_at guest logs = record { guest = guest; logs = logs }

-- Ring

pub ring_row : {V : Type 0} (h : Shared V) (after : List Vring) (queue : ℕ) (o : RingOp) (result : Result RingSaid PartsError) → IfOk result (λ said. said ≡ ring_said (ring_in h.rings queue) o) → OnOk result (after ≡ slice_set h.rings queue (ring_after (ring_in h.rings queue) o)) → OnErr result (after ≡ h.rings) → Called result (Some h) (Some (record h { rings = after })) (RingCall queue o)
ring_row h after queue o (Ok said) is set same = (is, ap (λ rings. record h { rings = rings }) set)
ring_row h after queue o (Err e) is set same = ap (λ rings. Some (record h { rings = rings })) same

-- Take

looked-is : {V : Type 0} (h : Shared V) (queue : ℕ) → found h.guest (ring_in h.rings queue) ≡ looked h queue
unfolding found looked
looked-is h queue = refl

none-at : {V : Type 0} (live : Bool) (h : Shared V) (r : Ring) → record h { guest = (if live then guest_taken h.guest r took.None else h.guest); logs = with_marks h.logs (if live then marks_taken h.guest.regions r took.None else []) } ≡ (if live then published h r else h)
none-at true h r = refl
none-at false h r = refl

none-is : {V : Type 0} (h : Shared V) (queue : ℕ) → record h { guest = guest_none h.guest (ring_in h.rings queue); logs = with_marks h.logs (marks_found h.guest.regions (ring_in h.rings queue) took.None) } ≡ after_none h queue
unfolding guest_none
none-is h queue = none-at (may_take (ring_at h queue)) h (ring_at h queue).queue

-- rings, memory and logs changed in two ways that are the same
both : {V : Type 0} (h : Shared V) (rings others : List Vring) (guest other : Guest) (logs marked : List (Stored Plain)) → rings ≡ others → guest ≡ other → logs ≡ marked → record h { rings = rings; guest = guest; logs = logs } ≡ record h { rings = others; guest = other; logs = marked }
both h rings others guest other logs marked e f l =
    ap (λ x. record h { rings = x; guest = guest; logs = logs }) e ∙ (ap (λ y. record h { rings = others; guest = y; logs = logs }) f ∙ ap (λ z. record h { rings = others; guest = other; logs = z }) l)

take-shared : {V : Type 0} (h : Shared V) (after : List Vring) (guest : Guest) (logs : List (Stored Plain)) (queue : ℕ) (said : TableRingSaid) → RingTableAt queue table_ring.Take said h.rings h.guest after guest → logs ≡ with_marks h.logs (table_marks h.guest.regions (ring_in h.rings queue) said)
    → TakeCall queue said h (record h { rings = after; guest = guest; logs = logs })
take-shared h after guest logs queue (table_said.Taken epoch number c) plays marks =
    (sym (looked-is h queue) ∙ plays.1.0, plays.1.1, plays.1.2, both h after (slice_set h.rings queue (ring_after (ring_in h.rings queue) op.Taken)) guest h.guest logs h.logs (plays.2 ∙ ap (λ r. slice_set h.rings queue r) plays.1.3) plays.1.4 marks)
take-shared h after guest logs queue table_said.Nothing plays marks =
    (sym (looked-is h queue) ∙ plays.1.0, both h after h.rings guest (guest_none h.guest (ring_in h.rings queue)) logs (with_marks h.logs (marks_found h.guest.regions (ring_in h.rings queue) took.None)) (plays.2 ∙ (ap (λ r. slice_set h.rings queue r) plays.1.1 ∙ set-get_or h.rings queue closed_ring)) plays.1.2 marks ∙ none-is h queue)
take-shared h after guest logs queue (table_said.Damaged d) plays marks =
    (sym (looked-is h queue) ∙ plays.1.0, both h after h.rings guest h.guest logs h.logs (plays.2 ∙ (ap (λ r. slice_set h.rings queue r) plays.1.1 ∙ set-get_or h.rings queue closed_ring)) plays.1.2 marks)
take-shared h after guest logs queue table_said.Done plays marks = absurd plays.1
take-shared h after guest logs queue table_said.Waits plays marks = absurd plays.1
take-shared h after guest logs queue table_said.Outside plays marks = absurd plays.1

-- Info

no-marks : (rs : List Region) (r : Vring) (g : Guest) (used : ℕ) (said : TableRingSaid) → said ≡ info_said r g used → table_marks rs r said ≡ []
no-marks rs r g used said is = ap (λ s. table_marks rs r s) is ∙ by (is_in_flight r.flight) (used_index_covers g used) where
  by : (flies covered : Bool) → table_marks rs r (if flies then table_said.Waits else (if covered then table_said.Done else table_said.Outside)) ≡ []
  by true covered = refl
  by false true = refl
  by false false = refl

info-shared : {V : Type 0} (h : Shared V) (after : List Vring) (guest : Guest) (logs : List (Stored Plain)) (queue desc avail used : ℕ) (said : TableRingSaid) → RingTableAt queue (table_ring.Info desc avail used) said h.rings h.guest after guest → logs ≡ with_marks h.logs (table_marks h.guest.regions (ring_in h.rings queue) said)
    → InfoCall queue desc avail used said h (record h { rings = after; guest = guest; logs = logs })
info-shared h after guest logs queue desc avail used said plays marks =
    (plays.1.0, both h after (slice_set h.rings queue (info_after (ring_in h.rings queue) h.guest desc avail used)) guest h.guest logs h.logs (plays.2 ∙ ap (λ r. slice_set h.rings queue r) plays.1.1) plays.1.2 (marks ∙ ap (λ ms. with_marks h.logs ms) (no-marks h.guest.regions (ring_in h.rings queue) h.guest used said plays.1.0)))

pub table_ring_row : {V : Type 0} (h : Shared V) (after : List Vring) (guest : Guest) (logs : List (Stored Plain)) (queue : ℕ) (o : TableRing) (result : Result TableRingSaid PartsError) → IfOk result (λ said. RingTableAt queue o said h.rings h.guest after guest)
    → IfOk result (λ said. MarksAll (page_marks (λ (log : Plain). log.len) IsMark) h.logs (table_marks h.guest.regions (ring_in h.rings queue) said) logs) → OnErr result (after ≡ h.rings) → OnErr result (memory_at guest logs ≡ memory_at h.guest h.logs)
    → Called result (Some h) (Some (record h { rings = after; guest = guest; logs = logs })) (TableRingCall queue o)
table_ring_row h after guest logs queue table_ring.Take (Ok said) plays marks rings memory = take-shared h after guest logs queue said plays (marks-made h.logs (table_marks h.guest.regions (ring_in h.rings queue) said) logs marks)
table_ring_row h after guest logs queue (table_ring.Info desc avail used) (Ok said) plays marks rings memory = info-shared h after guest logs queue desc avail used said plays (marks-made h.logs (table_marks h.guest.regions (ring_in h.rings queue) said) logs marks)
table_ring_row h after guest logs queue o (Err e) plays marks rings memory = ap (λ shared. Some shared) (both h after h.rings guest h.guest logs h.logs rings (ap (λ m. m.guest) memory) (ap (λ m. m.logs) memory))

-- Table

pub table_row : {V : Type 0} (h : Shared V) (guest : Guest) (o : TableOp) (result : Result TableSaid PartsError) → IfOk result (λ said. ChangesTable o said h.guest guest) → OnErr result (guest ≡ h.guest) → Called result (Some h) (Some (record h { guest = guest })) (TableCall o)
table_row h guest o (Ok said) changes same = (changes, refl)
table_row h guest o (Err e) changes same = ap (λ g. Some (record h { guest = g })) same

-- Log

-- guest memory and its logs, where a log was given or not
pub log_row : {V : Type 0} (h : Shared V) (new : Memory Plain) (object offset size : ℕ) (tracks : Bool) (said : LogSaid) → SetsLog (λ (log : Plain). log.len) object offset size tracks said (memory_of h) new
    → LogCall object offset size tracks said h (record h { guest = new.guest; logs = new.logs })
log_row h new object offset size tracks log_said.Done sets = (sets, ap (λ logs. record h { guest = new.guest; logs = logs }) (ap (λ m. m.logs) sets.1))
log_row h new object offset size tracks (log_said.Log e) sets = (sets, ap (λ logs. record h { guest = new.guest; logs = logs }) (ap (λ m. m.logs) sets.1))

-- Kick

kick-shared : {V : Type 0} (h : Shared V) (table : HostTable) (queue object : ℕ) (said : KickSaid) (kick on : Bool) → is_object (ring_in h.rings queue).kick object ≡ kick → is_on (ring_in h.rings queue) ≡ on → said ≡ (if kick then (if on then Serve else Quiet) else Stale) → KickTable object said h.table table → KickCall queue object said h (record h { table = table })
kick-shared h table queue object Stale false on is-kick is-on is left = (is-kick, ap (λ t. record h { table = t }) left)
kick-shared h table queue object Stale true true is-kick is-on is left = absurd (cc)
kick-shared h table queue object Stale true false is-kick is-on is left = absurd (cc)
kick-shared h table queue object Serve true true is-kick is-on is left = (is-kick, is-on, ap (λ t. record h { table = t }) left)
kick-shared h table queue object Serve true false is-kick is-on is left = absurd (cc)
kick-shared h table queue object Serve false on is-kick is-on is left = absurd (cc)
kick-shared h table queue object Quiet true false is-kick is-on is left = (is-kick, is-on, ap (λ t. record h { table = t }) left)
kick-shared h table queue object Quiet true true is-kick is-on is left = absurd (cc)
kick-shared h table queue object Quiet false on is-kick is-on is left = absurd (cc)

pub kick_row : {V : Type 0} (h : Shared V) (table : HostTable) (queue object : ℕ) (result : Result KickSaid PartsError) → IfOk result (λ said. said ≡ kick_said (ring_in h.rings queue) object) → OnTable result (Some h.table) (Some table) (KickTable object) → Called result (Some h) (Some (record h { table = table })) (KickCall queue object)
kick_row h table queue object (Ok said) is left =
    kick-shared h table queue object said (is_object (ring_in h.rings queue).kick object) (is_on (ring_in h.rings queue)) refl refl is left
kick_row h table queue object (Err e) is left = ap (λ t. Some (record h { table = t })) left

-- Put

said-is : {V : Type 0} (h : Shared V) (e : Entry) (reply : List ℕ) → put_said h e reply ≡ put_found h.guest (ring_in h.rings e.queue) e.chain reply
unfolding put_said put_found
said-is h e reply = refl

called-is : {V : Type 0} (h : Shared V) (call : Option ℕ) (wanted : Bool) → record h { table = table_wanted call wanted h.table } ≡ called h call wanted
called-is h call false = refl
called-is h None true = refl
called-is h (Some object) true = refl

-- rings, memory, logs and table changed in two ways that are the same
four : {V : Type 0} (h : Shared V) (rings others : List Vring) (guest other : Guest) (logs marked : List (Stored Plain)) (table second : HostTable) → rings ≡ others → guest ≡ other → logs ≡ marked → table ≡ second → record h { rings = rings; guest = guest; logs = logs; table = table } ≡ record h { rings = others; guest = other; logs = marked; table = second }
four h rings others guest other logs marked table second e f l t =
    ap (λ x. record h { rings = x; guest = guest; logs = logs; table = table }) e ∙ (ap (λ y. record h { rings = others; guest = y; logs = logs; table = table }) f
    ∙ (ap (λ u. record h { rings = others; guest = other; logs = u; table = table }) l ∙ ap (λ z. record h { rings = others; guest = other; logs = marked; table = z }) t))

-- a use that is made, with what it marks
module _ {V : Type 0} (h : Shared V) (after : List Vring) (guest : Guest) (logs : List (Stored Plain)) (table : HostTable) (e : Entry) (reply : List ℕ) where
  abbrev r : Vring
  r = ring_in h.rings e.queue

  abbrev marked : PutSaid → List (Stored Plain)
  marked said = with_marks h.logs (use_marks h.guest.regions r e.chain reply said)

  put-called : (wanted : Bool) (ring : Vring) → put_found h.guest r e.chain reply ≡ Ok wanted → ring ≡ ring_after r op.Put → guest ≡ put_guest h.guest r.queue e.chain reply → after ≡ slice_set h.rings e.queue ring → logs ≡ marked put_answer.Done → table ≡ table_wanted r.call wanted h.table
      → PutCall e reply put_answer.Done h (record h { rings = after; guest = guest; logs = logs; table = table })
  put-called wanted ring said is wrote set marks left =
      (wanted, said-is h e reply ∙ said, four h after (slice_set h.rings e.queue (ring_after r op.Put)) guest (put_guest h.guest r.queue e.chain reply) logs (marked put_answer.Done) table (table_wanted r.call wanted h.table) (set ∙ ap (λ r. slice_set h.rings e.queue r) is) wrote marks left ∙ called-is (used h e reply) r.call wanted)

  put-uncalled : (wanted : Bool) (ring : Vring) → put_found h.guest r e.chain reply ≡ Ok wanted → ring ≡ ring_after r op.Put → guest ≡ put_guest h.guest r.queue e.chain reply → after ≡ slice_set h.rings e.queue ring → logs ≡ marked put_answer.Done → wanted ≡ true → table ≡ h.table
      → PutUncalled e reply put_answer.Done h (record h { rings = after; guest = guest; logs = logs; table = table })
  put-uncalled wanted ring said is wrote set marks wants left =
      (said-is h e reply ∙ (said ∙ ap (λ w. Ok w) wants), four h after (slice_set h.rings e.queue (ring_after r op.Put)) guest (put_guest h.guest r.queue e.chain reply) logs (marked put_answer.Done) table h.table (set ∙ ap (λ r. slice_set h.rings e.queue r) is) wrote marks left)

  put-refused : (fault : PutFault) (ring : Vring) → put_found h.guest r e.chain reply ≡ Err fault → ring ≡ ring_after r op.Hold → guest ≡ h.guest → after ≡ slice_set h.rings e.queue ring → logs ≡ h.logs → table ≡ h.table
      → PutCall e reply (put_answer.Held fault) h (record h { rings = after; guest = guest; logs = logs; table = table })
  put-refused fault ring said is wrote set marks left =
      (said-is h e reply ∙ said, four h after (slice_set h.rings e.queue (ring_after r op.Hold)) guest h.guest logs h.logs table h.table (set ∙ ap (λ r. slice_set h.rings e.queue r) is) wrote marks left)

  abbrev Marks : Result PutSaid PartsError → Type 0
  Marks result = IfOk result (λ said. MarksAll (page_marks (λ (log : Plain). log.len) IsMark) h.logs (use_marks h.guest.regions r e.chain reply said) logs)

  pub put_row : (before now : ℕ) (result : Result PutSaid PartsError) → IfOk result (λ said. PutsAt e.queue e.chain reply said h.rings h.guest after guest) → Marks result → OnTable result (Some h.table) (Some table) (λ said old new. PutTable before now r.call (put_found h.guest r e.chain reply) old new) → OnErr result (after ≡ h.rings) → OnErr result (memory_at guest logs ≡ memory_at h.guest h.logs)
      → Called result (Some h) (Some (record h { rings = after; guest = guest; logs = logs; table = table })) (λ s old new. PutCall e reply s old new ⊎ (Rose before now × PutUncalled e reply s old new))
  put_row before now (Ok put_answer.Done) plays marks left rings memory =
      let P : Result Bool PutFault → Type 0 = λ f. PutTable before now r.call f h.table table in
      let calls : CallsIf before now r.call plays.1.0 h.table table = subst P plays.1.1 left in
      let made = marks-made h.logs (use_marks h.guest.regions r e.chain reply put_answer.Done) logs marks in
      elim calls [
        | inl is ↦ inl (put-called plays.1.0 plays.0 plays.1.1 plays.1.2 plays.1.3 plays.2 made is)
        | inr failed ↦ inr (failed.0, put-uncalled plays.1.0 plays.0 plays.1.1 plays.1.2 plays.1.3 plays.2 made failed.1 failed.2)
      ]
  put_row before now (Ok (put_answer.Held fault)) plays marks left rings memory =
      let P : Result Bool PutFault → Type 0 = λ f. PutTable before now r.call f h.table table in
      inl (put-refused fault plays.0 plays.1.0 plays.1.1 plays.1.2 plays.2 marks (subst P plays.1.0 left))
  put_row before now (Err x) plays marks left rings memory = ap (λ shared. Some shared) (four h after h.rings guest h.guest logs h.logs table h.table rings (ap (λ m. m.guest) memory) (ap (λ m. m.logs) memory) left)

  pub put_sound : (result : Result PutSaid PartsError) → IfOk result (λ said. PutsAt e.queue e.chain reply said h.rings h.guest after guest) → Marks result → OnTable result (Some h.table) (Some table) (λ said old new. new ≡ table_put r.call (put_found h.guest r e.chain reply) old) → OnErr result (after ≡ h.rings) → OnErr result (memory_at guest logs ≡ memory_at h.guest h.logs)
      → Called result (Some h) (Some (record h { rings = after; guest = guest; logs = logs; table = table })) (PutCall e reply)
  put_sound (Ok put_answer.Done) plays marks left rings memory =
      put-called plays.1.0 plays.0 plays.1.1 plays.1.2 plays.1.3 plays.2 (marks-made h.logs (use_marks h.guest.regions r e.chain reply put_answer.Done) logs marks) (left ∙ ap (λ f. table_put r.call f h.table) plays.1.1)
  put_sound (Ok (put_answer.Held fault)) plays marks left rings memory =
      put-refused fault plays.0 plays.1.0 plays.1.1 plays.1.2 plays.2 marks (left ∙ ap (λ f. table_put r.call f h.table) plays.1.0)
  put_sound (Err x) plays marks left rings memory = ap (λ shared. Some shared) (four h after h.rings guest h.guest logs h.logs table h.table rings (ap (λ m. m.guest) memory) (ap (λ m. m.logs) memory) left)

-- Host

pub host_row : {V : Type 0} (h : Shared V) (table : HostTable) (o : HostOp) (result : Result HostSaid PartsError) → OnTable result (Some h.table) (Some table) (HostTableCall o) → Called result (Some h) (Some (record h { table = table })) (HostCall o)
host_row h table o (Ok said) left = (left, refl)
host_row h table o (Err e) left = ap (λ t. Some (record h { table = t })) left

-- Pend

pend-shared : {V : Type 0} (h : Shared V) (after : List (List ℕ)) (worker : ℕ) (o : PendOp) (said : PendSaid) → PendsAt worker o said h.pending after → PendCall worker o said h (record h { pending = after })
pend-shared h after worker (pend.Insert n) pend_said.Done plays = ap (λ sets. record h { pending = sets }) (plays.2 ∙ ap (λ set. slice_set h.pending worker set) plays.1)
pend-shared h after worker (pend.Remove n) pend_said.Done plays = ap (λ sets. record h { pending = sets }) (plays.2 ∙ ap (λ set. slice_set h.pending worker set) plays.1)
pend-shared h after worker pend.TakeAll (pend_said.All numbers) plays = (plays.1.0, ap (λ sets. record h { pending = sets }) (plays.2 ∙ ap (λ set. slice_set h.pending worker set) plays.1.1))
pend-shared h after worker (pend.Insert n) (pend_said.All numbers) plays = absurd plays.1
pend-shared h after worker (pend.Remove n) (pend_said.All numbers) plays = absurd plays.1
pend-shared h after worker pend.TakeAll pend_said.Done plays = absurd plays.1

pub pend_row : {V : Type 0} (h : Shared V) (after : List (List ℕ)) (worker : ℕ) (o : PendOp) (result : Result PendSaid PartsError) → IfOk result (λ said. PendsAt worker o said h.pending after) → OnErr result (after ≡ h.pending) → Called result (Some h) (Some (record h { pending = after })) (PendCall worker o)
pend_row h after worker o (Ok said) plays same = pend-shared h after worker o said plays
pend_row h after worker o (Err e) plays same = ap (λ sets. Some (record h { pending = sets })) same
