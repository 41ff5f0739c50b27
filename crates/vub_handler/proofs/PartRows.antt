-- The rows of the small steps that change pending sets, rings and guest memory, and that call the device.
use Rattle.std.proofs.Common.{◌≡◌, ℕ, Bool, true, false, not, ◌&&◌, if◌then◌else◌, List, [], Option, Some, None, refl, ap, sym, subst, ◌∙◌}
use Rattle.std.proofs.lemmas.List.{set-get_or}
use Rattle.vub_base.specs.Told.{Told}
use Rattle.vub_mem.specs.Memory.{Guest}
use Rattle.vub_mem.specs.declared.errors.MemError.{MemError}
use Rattle.vub_mem.specs.declared.region.Region.{Region}
use Rattle.vub_proto.specs.declared.answer.Answer.TheVariants as answer
use Rattle.vub_proto.specs.declared.answer.VhostUserError.TheVariants as error
use Rattle.vub_proto.specs.declared.device_op.DeviceOp.{DeviceOp}
use Rattle.vub_proto.specs.declared.device_said.DeviceSaid.{DeviceSaid}
use Rattle.vub_proto.specs.declared.device_said.DeviceSaid.TheVariants as outcome
use Rattle.vub_model.specs.declared.ring_op.RingOp.{RingOp}
use Rattle.vub_model.specs.declared.ring_op.RingOp.TheVariants as op
use Rattle.vub_model.specs.declared.ring_op.RingSaid.{RingSaid}
use Rattle.vub_model.specs.declared.ring_op.RingSaid.TheVariants as ring_said
use Rattle.vub_model.specs.declared.small.Small.{Small}
use Rattle.vub_model.specs.declared.small.Small.TheVariants.{Remove, Insert, Set, Info, Table, Log, Device}
use Rattle.vub_model.specs.declared.small.TableOp.{TableOp}
use Rattle.vub_model.specs.Control.{IsOutcome, used_index_covers, regions_unless, after_refusal, after_log_refusal, logged_unless, after_outcome, told, waits_now, next_used_at}
use Rattle.vub_model.specs.DeviceCalls.{Call, Telling, is_refused, moved_by}
use Rattle.vub_model.specs.DeviceCalls as device_calls
use Rattle.vub_model.specs.Plans.{Plan, regions_after}
use Rattle.vub_model.specs.RingRecord.{Vring, closed_ring, waits, fits, changed, is_in_flight, said_in_time, ring_after}
use Rattle.vub_model.specs.Shared.{Shared, ring_at, with_ring}
use Rattle.vub_model.specs.Wiring.{Wiring}
use Rattle.vub_ring.specs.declared.ops.PendOp.TheVariants as pend
use Rattle.vub_ring.specs.declared.ops.PendSaid.{PendSaid}
use Rattle.vub_ring.specs.declared.ops.PendSaid.TheVariants as pend_said
use Rattle.vub_ring.specs.declared.ops.TableRingSaid.{TableRingSaid}
use Rattle.vub_ring.specs.declared.ops.TableRingSaid.TheVariants as table_ring_said
use Rattle.vub_log.specs.Plain.{Plain}
use Rattle.vub_mem.specs.Memory.{Memory}
use Rattle.vub_mem.specs.declared.errors.LogError.{LogError}
use Rattle.vub_vring.specs.declared.ops.LogSaid.{LogSaid}
use Rattle.vub_vring.specs.declared.ops.LogSaid.TheVariants as log_said
use Rattle.vub_vring.specs.declared.ops.TableSaid.{TableSaid}
use Rattle.vub_vring.specs.declared.ops.TableSaid.TheVariants as change
use Rattle.vub_vring.specs.Calls.{RingCall, InfoCall, PendCall, TableCall, LogCall, DeviceCall, IsCounted}
use Rattle.vub_vring.specs.PartsState.{PartsState, HasFailed}
use Rattle.vub_plan.specs.declared.half.Turn.{Turn}
use Rattle.vub_plan.specs.declared.half.Turn.TheVariants as turn
use Rattle.vub_plan.specs.Halves.{turned}
use Rattle.vub_handler.specs.Acting.{info_turn, table_turn, log_turn, device_turn, IsRowOf, IsRow, IsCaused, HasRefused, RowBy, IsMade, Acts, called, CallsBy}
use Rattle.vub_handler.specs.declared.acted.Acted.TheVariants.{Made, Waits}
use Rattle.vub_handler.proofs.Telling.{told-map, by-row}

module _ {V : Type 0} (g : Wiring) (a b : Shared V) where
  pub remove-row : (s : PendSaid) (worker number : ℕ) → PendCall worker (pend.Remove number) s a b → IsRowOf g (Remove worker number) outcome.Done turn.Goes a b
  remove-row pend_said.Done worker number call = record { free = refl; says = refl; shared = call; rest = λ p. refl }
  remove-row (pend_said.All numbers) worker number call = absurd call

  pub insert-row : (s : PendSaid) (worker number : ℕ) → PendCall worker (pend.Insert number) s a b → IsRowOf g (Insert worker number) outcome.Done turn.Goes a b
  insert-row pend_said.Done worker number call = record { free = refl; says = refl; shared = call; rest = λ p. refl }
  insert-row (pend_said.All numbers) worker number call = absurd call

  -- rings

  abbrev ring_says : ℕ → RingOp → Bool → RingSaid
  ring_says queue o late = if late then ring_said.Waits else said_in_time (ring_at a queue) o

  in-time : (queue : ℕ) (o : RingOp) (s : RingSaid) → (s ≡ ring_said.Waits → ⊥) → (late : Bool) → waits (ring_at a queue) o ≡ late → s ≡ ring_says queue o late → waits (ring_at a queue) o ≡ false
  in-time queue o s not_late true is says = absurd (not_late says)
  in-time queue o s not_late false is says = is

  pub set-row : (s : RingSaid) (queue : ℕ) (o : RingOp) → (s ≡ ring_said.Waits → ⊥) → RingCall queue o s a b → IsRowOf g (Set queue o) outcome.Done turn.Goes a b
  set-row s queue o not_late call =
      record {
        free = in-time queue o s not_late (waits (ring_at a queue) o) refl call.0;
        says = refl;
        shared = call.1;
        rest = λ p. refl;
      }

  never-late : (r : Vring) (o : RingOp) → said_in_time r o ≡ ring_said.Waits → ⊥
  never-late r op.GetBase is = absurd cc
  never-late r (op.SetEnabled b) is = absurd cc
  never-late r (op.SetReady b) is = absurd cc
  never-late r (op.SetSize n) is = absurd cc
  never-late r (op.SetInfo desc avail used next) is = absurd cc
  never-late r (op.SetBase n) is = absurd cc
  never-late r (op.SetEventIdx b) is = absurd cc
  never-late r (op.SetKick k) is = absurd cc
  never-late r (op.SetCall c) is = absurd cc
  never-late r (op.SetErr e) is = absurd cc
  never-late r op.Taken is = absurd cc
  never-late r op.Put is = absurd cc
  never-late r op.Hold is = absurd cc

  too-late : (queue : ℕ) (o : RingOp) (late : Bool) → waits (ring_at a queue) o ≡ late → ring_said.Waits ≡ ring_says queue o late → waits (ring_at a queue) o ≡ true
  too-late queue o true is says = is
  too-late queue o false is says = absurd (never-late (ring_at a queue) o (sym says))

  ring-same : (queue : ℕ) → with_ring a queue (ring_at a queue) ≡ a
  ring-same queue = ap (λ (rings : List Vring). record a { rings = rings }) (set-get_or a.rings queue closed_ring)

  pub set-waits : (queue : ℕ) (o : RingOp) → RingCall queue o ring_said.Waits a b → (waits_now a (Set queue o) ≡ true) × (b ≡ a)
  set-waits queue o call =
      let late : waits (ring_at a queue) o ≡ true = too-late queue o (waits (ring_at a queue) o) refl call.0 in
      let stays : ring_after (ring_at a queue) o ≡ ring_at a queue = ap (λ (w : Bool). if not w && fits (ring_at a queue) o then changed (ring_at a queue) o else ring_at a queue) late in
      (late, call.1 ∙ ap (with_ring a queue) stays ∙ ring-same queue)

  -- addresses

  abbrev info_says : ℕ → Bool → Bool → TableRingSaid
  info_says queue late covers = if late then table_ring_said.Waits else (if covers then table_ring_said.Done else table_ring_said.Outside)

  abbrev rest_if : Bool → Plan → Plan
  rest_if covers p = if covers then p else told (answer.Failed error.BackendInternalError) p

  info-rest : (s : TableRingSaid) (queue : ℕ) (late covers : Bool) → (s ≡ table_ring_said.Waits → ⊥) → s ≡ info_says queue late covers → (late ≡ false) × ((p : Plan) → turned (info_turn s) p ≡ rest_if covers p)
  info-rest s queue true covers not_late says = absurd (not_late says)
  info-rest s queue false true not_late says = (refl {a = false}, (let P : TableRingSaid → Type 0 = λ x. (p : Plan) → turned (info_turn x) p ≡ p in subst P (sym says) (λ p. refl)))
  info-rest s queue false false not_late says = (refl {a = false}, (let P : TableRingSaid → Type 0 = λ x. (p : Plan) → turned (info_turn x) p ≡ told (answer.Failed error.BackendInternalError) p in subst P (sym says) (λ p. refl)))

  pub info-row : (s : TableRingSaid) (queue desc avail used : ℕ) → (s ≡ table_ring_said.Waits → ⊥) → InfoCall queue desc avail used s a b → IsRowOf g (Info queue desc avail used) outcome.Done (info_turn s) a b
  info-row s queue desc avail used not_late call =
      let r = info-rest s queue (is_in_flight (ring_at a queue).flight) (used_index_covers a.guest used) not_late call.0 in
      record { free = r.0; says = refl; shared = call.1; rest = r.1 }

  info-late : (queue : ℕ) (late covers : Bool) → table_ring_said.Waits ≡ info_says queue late covers → late ≡ true
  info-late queue true covers says = refl
  info-late queue false true says = absurd cc
  info-late queue false false says = absurd cc

  pub info-waits : (queue desc avail used : ℕ) → InfoCall queue desc avail used table_ring_said.Waits a b → (waits_now a (Info queue desc avail used) ≡ true) × (b ≡ a)
  info-waits queue desc avail used call =
      let late : is_in_flight (ring_at a queue).flight ≡ true = info-late queue (is_in_flight (ring_at a queue).flight) (used_index_covers a.guest used) call.0 in
      let o : RingOp = op.SetInfo desc avail used (next_used_at a.guest used) in
      let stays : ring_after (ring_at a queue) o ≡ ring_at a queue = ap (λ (w : Bool). if not w && fits (ring_at a queue) o then changed (ring_at a queue) o else ring_at a queue) late in
      (late, call.1 ∙ ap (with_ring a queue) stays ∙ ring-same queue)

  -- guest memory

  abbrev changed_table : Option MemError → List Region → Shared V
  changed_table refusal new = record a { guest = record a.guest { regions = regions_unless refusal new a.guest.regions } }

  pub table-row : (s : TableSaid) (o : TableOp) → TableCall o s a b → IsRowOf g (Table o) outcome.Done (table_turn s) a b
  table-row (change.Regions regions) o call =
      record {
        free = refl;
        says = refl;
        shared = call.1 ∙ ap (λ (guest : Guest). record a { guest = guest }) call.0.2 ∙ ap (λ (r : Option MemError). changed_table r (regions_after a.guest.regions o)) (sym call.0.0);
        rest = λ p. ap (λ (r : Option MemError). after_refusal r p) (sym call.0.0);
      }
  table-row (change.Memory e) o call =
      record {
        free = refl;
        says = refl;
        shared = call.1 ∙ ap (λ (guest : Guest). record a { guest = guest }) call.0.1 ∙ ap (λ (r : Option MemError). changed_table r (regions_after a.guest.regions o)) (sym call.0.0);
        rest = λ p. ap (λ (r : Option MemError). after_refusal r p) (sym call.0.0);
      }

  abbrev given_log : Option LogError → ℕ → ℕ → Shared V
  given_log refusal object offset = record a { guest = record a.guest { regions = logged_unless refusal object offset a.guest.regions } }

  pub log-row : (s : LogSaid) (object offset size : ℕ) → LogCall object offset size g.tracks s a b → IsRowOf g (Log object offset size) outcome.Done (log_turn s) a b
  log-row log_said.Done object offset size call =
      record {
        free = refl;
        says = refl;
        shared = call.1 ∙ ap (λ (m : Memory Plain). record a { guest = m.guest }) call.0.1 ∙ ap (λ (r : Option LogError). given_log r object offset) (sym call.0.0);
        rest = λ p. ap (λ (r : Option LogError). after_log_refusal r p) (sym call.0.0);
      }
  log-row (log_said.Log e) object offset size call =
      record {
        free = refl;
        says = refl;
        shared = call.1 ∙ ap (λ (m : Memory Plain). record a { guest = m.guest }) call.0.1 ∙ ap (λ (r : Option LogError). given_log r object offset) (sym call.0.0);
        rest = λ p. ap (λ (r : Option LogError). after_log_refusal r p) (sym call.0.0);
      }

  -- the device

  device-rest : (s : DeviceSaid) (p : Plan) → turned (device_turn s) p ≡ after_outcome s p
  device-rest outcome.Done p = refl
  device-rest (outcome.Content bytes) p = refl
  device-rest (outcome.Object object) p = refl
  device-rest (outcome.Number n) p = refl
  device-rest (outcome.Refused n) p = refl

  pub device-row : (s : DeviceSaid) (o : DeviceOp) → IsOutcome o s → b ≡ a → IsRowOf g (Device o) s (device_turn s) a b
  device-row s o says same = record { free = refl; says = says; shared = same; rest = device-rest s }

-- The same where what is shared is told

module _ {V : Type 0} (g : Wiring) (Sound Rise : Type 0) (old new : Option (Shared V)) where
  pub remove_told : (s : PendSaid) (worker number : ℕ) → Told old new (PendCall worker (pend.Remove number) s) → Told old new (IsRow Sound Rise g (Remove worker number) outcome.Done turn.Goes)
  remove_told s worker number told = told-map old new _ _ (λ a b call there. by-row Sound Rise _ (remove-row g a b s worker number call)) told

  pub insert_told : (s : PendSaid) (worker number : ℕ) → Told old new (PendCall worker (pend.Insert number) s) → Told old new (IsRow Sound Rise g (Insert worker number) outcome.Done turn.Goes)
  insert_told s worker number told = told-map old new _ _ (λ a b call there. by-row Sound Rise _ (insert-row g a b s worker number call)) told

  pub table_told : (s : TableSaid) (o : TableOp) → Told old new (TableCall o s) → Told old new (IsRow Sound Rise g (Table o) outcome.Done (table_turn s))
  table_told s o told = told-map old new _ _ (λ a b call there. by-row Sound Rise _ (table-row g a b s o call)) told

  pub log_told : (s : LogSaid) (object offset size : ℕ) → Told old new (LogCall object offset size g.tracks s) → Told old new (IsRow Sound Rise g (Log object offset size) outcome.Done (log_turn s))
  log_told s object offset size told = told-map old new _ _ (λ a b call there. by-row Sound Rise _ (log-row g a b s object offset size call)) told

  pub set_told : (s : RingSaid) (queue : ℕ) (o : RingOp) → (s ≡ ring_said.Waits → ⊥) → Told old new (RingCall queue o s) → Told old new (IsRow Sound Rise g (Set queue o) outcome.Done turn.Goes)
  set_told s queue o not_late told = told-map old new _ _ (λ a b call there. by-row Sound Rise _ (set-row g a b s queue o not_late call)) told

  pub set_waits : (queue : ℕ) (o : RingOp) → Told old new (RingCall queue o ring_said.Waits) → Told old new (λ a b. (waits_now a (Set queue o) ≡ true) × (b ≡ a))
  set_waits queue o told = told-map old new _ _ (λ a b call. set-waits g a b queue o call) told

  pub info_told : (s : TableRingSaid) (queue desc avail used : ℕ) → (s ≡ table_ring_said.Waits → ⊥) → Told old new (InfoCall queue desc avail used s) → Told old new (IsRow Sound Rise g (Info queue desc avail used) outcome.Done (info_turn s))
  info_told s queue desc avail used not_late told = told-map old new _ _ (λ a b call there. by-row Sound Rise _ (info-row g a b s queue desc avail used not_late call)) told

  pub info_waits : (queue desc avail used : ℕ) → Told old new (InfoCall queue desc avail used table_ring_said.Waits) → Told old new (λ a b. (waits_now a (Info queue desc avail used) ≡ true) × (b ≡ a))
  info_waits queue desc avail used told = told-map old new _ _ (λ a b call. info-waits g a b queue desc avail used call) told

  device_told : (s : DeviceSaid) (o : DeviceOp) → IsOutcome o s → new ≡ old → Told old new (IsRow Sound Rise g (Device o) s (device_turn s))
  device_told s o says same = by old new same where
    by : (old new : Option (Shared V)) → new ≡ old → Told old new (IsRow Sound Rise g (Device o) s (device_turn s))
    by None new same = tt
    by (Some a) None same = absurd cc
    by (Some a) (Some b) same = λ there. by-row Sound Rise _ (device-row g a b s o says cc)

-- Steps that were made

-- a device that is not called stays
pub uncalled : {D : Type 0} (t : Telling D) (old new : Option D) → new ≡ old → Told old new (λ d e. device_calls.Tells t d [] × (e ≡ moved_by t d []))
uncalled t None new same = tt
uncalled t (Some d) None same = absurd cc
uncalled t (Some d) (Some e) same = (tt, cc)

module _ {V D : Type 0} (t : Telling D) (g : Wiring) (old new : PartsState V D) where
  made : (s : Small) (turn : Turn) → called s outcome.Done ≡ [] → RowBy g s outcome.Done turn old new → new.device ≡ old.device → IsCaused (HasFailed old new) (HasRefused old new) turn → IsMade t g s outcome.Done turn false old new
  made s turn none row device caused =
      record {
        row = row;
        refusal = refl;
        device = (let P : List Call → Type 0 = λ cs. CallsBy t cs old new in subst P (sym none) (uncalled t old.device new.device device));
        counted = tt;
        caused = caused;
      }

  -- a step that asks no device
  pub plain_made : (s : Small) (turn : Turn) → called s outcome.Done ≡ [] → RowBy g s outcome.Done turn old new → new.device ≡ old.device → IsCaused (HasFailed old new) (HasRefused old new) turn → Acts t g s (Made turn false) old new
  plain_made s turn none row device caused = (outcome.Done, made s turn none row device caused)

  pub set_made : (s : RingSaid) (queue : ℕ) (o : RingOp) → (s ≡ ring_said.Waits → ⊥) → Told old.shared new.shared (RingCall queue o s) → new.device ≡ old.device → Acts t g (Set queue o) (Made turn.Goes false) old new
  set_made s queue o not_late told device = plain_made (Set queue o) turn.Goes refl (set_told g old.NeverFails (HasFailed old new) old.shared new.shared s queue o not_late told) device tt

  pub set_still : (queue : ℕ) (o : RingOp) → Told old.shared new.shared (RingCall queue o ring_said.Waits) → new.device ≡ old.device → new.refusals ≡ old.refusals → Acts t g (Set queue o) Waits old new
  set_still queue o told device refusals = record { waits = set_waits g old.NeverFails (HasFailed old new) old.shared new.shared queue o told; device = device; refusals = refusals }

  info-caused : (s : TableRingSaid) → IsCaused (HasFailed old new) (HasRefused old new) (info_turn s)
  info-caused table_ring_said.Done = tt
  info-caused table_ring_said.Waits = tt
  info-caused table_ring_said.Outside = tt
  info-caused (table_ring_said.Taken epoch number chain) = tt
  info-caused table_ring_said.Nothing = tt
  info-caused (table_ring_said.Damaged damage) = tt

  pub info_made : (s : TableRingSaid) (queue desc avail used : ℕ) → (s ≡ table_ring_said.Waits → ⊥) → Told old.shared new.shared (InfoCall queue desc avail used s) → new.device ≡ old.device → Acts t g (Info queue desc avail used) (Made (info_turn s) false) old new
  info_made s queue desc avail used not_late told device = plain_made (Info queue desc avail used) (info_turn s) refl (info_told g old.NeverFails (HasFailed old new) old.shared new.shared s queue desc avail used not_late told) device (info-caused s)

  pub info_still : (queue desc avail used : ℕ) → Told old.shared new.shared (InfoCall queue desc avail used table_ring_said.Waits) → new.device ≡ old.device → new.refusals ≡ old.refusals → Acts t g (Info queue desc avail used) Waits old new
  info_still queue desc avail used told device refusals = record { waits = info_waits g old.NeverFails (HasFailed old new) old.shared new.shared queue desc avail used told; device = device; refusals = refusals }

  device-caused : (s : DeviceSaid) → IsCounted old.refusals new.refusals s → IsCaused (HasFailed old new) (HasRefused old new) (device_turn s)
  device-caused outcome.Done counted = tt
  device-caused (outcome.Content bytes) counted = tt
  device-caused (outcome.Object object) counted = tt
  device-caused (outcome.Number n) counted = tt
  device-caused (outcome.Refused n) counted = counted

  pub device_made : (s : DeviceSaid) (o : DeviceOp) → IsOutcome o s → new.shared ≡ old.shared → Told old.device new.device (DeviceCall t o s) → IsCounted old.refusals new.refusals s → Acts t g (Device o) (Made (device_turn s) (is_refused s)) old new
  device_made s o says shared told counted = (
    s,
    record {
      row = device_told g old.NeverFails (HasFailed old new) old.shared new.shared s o says shared;
      refusal = refl;
      device = told-map old.device new.device _ _ (λ d e call. ((call.0, tt), call.1)) told;
      counted = counted;
      caused = device-caused s counted;
    },
  )

  -- the same of a copy of the call
  pub device_asked : (s : DeviceSaid) (o given : DeviceOp) (turn : Turn) (refused : Bool) → given ≡ o → turn ≡ device_turn s → refused ≡ is_refused s → IsOutcome given s → new.shared ≡ old.shared → Told old.device new.device (DeviceCall t given s) → IsCounted old.refusals new.refusals s → Acts t g (Device o) (Made turn refused) old new
  device_asked s o given turn refused copied turns refuses says shared told counted =
      let P : Turn → Type 0 = λ x. Acts t g (Device o) (Made x refused) old new in
      let Q : Bool → Type 0 = λ x. Acts t g (Device o) (Made (device_turn s) x) old new in
      let R : DeviceOp → Type 0 = λ x. Acts t g (Device x) (Made (device_turn s) (is_refused s)) old new in
      subst P (sym turns) (subst Q (sym refuses) (subst R copied (device_made s given says shared told counted)))
