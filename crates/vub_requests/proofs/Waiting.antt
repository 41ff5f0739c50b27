-- A request waits only for an entry in flight of the ring that it names.
use Rattle.std.proofs.Common.{◌≡◌, ◌⊎◌, inl, inr, ℕ, Bool, true, false, cond, ◌&&◌, List, [], ◌∷◌, Option, Some, None, Result, Ok, Err, refl, sym, ap, ◌∙◌, subst}
use Rattle.vub_base.specs.Told.{Told}
use Rattle.vub_mem.specs.declared.errors.LogError.{LogError}
use Rattle.vub_mem.specs.declared.errors.MemError.{MemError}
use Rattle.vub_proto.specs.declared.answer.Answer.{Answer}
use Rattle.vub_proto.specs.declared.answer.Answer.TheVariants as answer
use Rattle.vub_proto.specs.declared.answer.ListenerError.TheVariants as listener_error
use Rattle.vub_proto.specs.declared.answer.VhostUserError.TheVariants as error
use Rattle.vub_proto.specs.declared.device_said.DeviceSaid.{DeviceSaid}
use Rattle.vub_proto.specs.declared.device_said.DeviceSaid.TheVariants as outcome
use Rattle.vub_proto.specs.declared.request.Request.{Request}
use Rattle.vub_model.specs.declared.flight.Flight.{Flight}
use Rattle.vub_model.specs.declared.flight.Flight.TheVariants as flight
use Rattle.vub_model.specs.declared.small.Small.{Small}
use Rattle.vub_model.specs.declared.small.Small.TheVariants.{Claim, Release, Add, Delete, Listen, Unlisten, Bell, Remove, Insert, Set, Info, Table, Log, Device, Answer as Answering}
use Rattle.vub_model.specs.Control.{rest_after, after_outcome, after_refusal, after_log_refusal, log_refusal, answers_by, answer_of, can_claim, can_add, can_listen, can_unlisten, used_index_covers, table_refusal, instead, told, drop_two}
use Rattle.vub_model.specs.DeviceCalls.{Telling}
use Rattle.vub_model.specs.Plans.{Plan}
use Rattle.vub_model.specs.RingRecord.{needs_no_flight, is_in_flight}
use Rattle.vub_model.specs.Shared.{Shared, ring_at}
use Rattle.vub_model.specs.Wiring.{Wiring, opened_at}
use Rattle.vub_vring.specs.PartsState.{PartsState}
use Rattle.vub_plan.specs.Halves.{Begun, plan_at, dropped, IsPlanOf}
use Rattle.vub_handler.specs.Player.{Player}
use Rattle.vub_handler.specs.Playing.{WaitsAt}
use Rattle.vub_requests.specs.Handling.{ArePlanned, ring_waited, HasInFlight, WaitsInFlight, Finishes}
use Rattle.vub_requests.specs.declared.unanswered.Unanswered.{Unanswered}
use Rattle.vub_requests.specs.declared.unanswered.Unanswered.TheVariants.{Waits, OutOfMemory}
use Rattle.vub_requests.proofs.Ending.{Ends, plan-ends}
use Rattle.vub_requests.proofs.Plain.{begun-at}
use Rattle.vub_requests.proofs.Walks.{KeepsPlay, KeepsFault, walk}

flying : (f : Flight) → is_in_flight f ≡ true → f ≡ flight.InFlight
flying flight.InFlight is = refl
flying flight.None is = absurd cc
flying flight.Held is = absurd cc

waits-both : (a b : Bool) → a && b ≡ true → (a ≡ true) × (b ≡ true)
waits-both true true is = (refl, refl)
waits-both true false is = absurd cc
waits-both false b is = absurd cc

module _ (ring : Option ℕ) where
  either : (b : Bool) (p q : Plan) → Ends ring p.steps → Ends ring q.steps → Ends ring (cond b p q).steps
  either true p q x y = x
  either false p q x y = y

  by-outcome : (said : DeviceSaid) (p : Plan) → Ends ring p.steps → Ends ring (after_outcome said p).steps
  by-outcome outcome.Done p ends = ends
  by-outcome (outcome.Content bytes) p ends = ends
  by-outcome (outcome.Object object) p ends = ends
  by-outcome (outcome.Number n) p ends = ends
  by-outcome (outcome.Refused n) p ends = refl

  by-refusal : (e : Option MemError) (p : Plan) → Ends ring p.steps → Ends ring (after_refusal e p).steps
  by-refusal None p ends = ends
  by-refusal (Some e) p ends = refl

  by-log : (e : Option LogError) (p : Plan) → Ends ring p.steps → Ends ring (after_log_refusal e p).steps
  by-log None p ends = ends
  by-log (Some e) p ends = refl

  -- an Add goes on, or drops the two steps after it
  add-ends : (worker object token : ℕ) (rest : List Small) → Ends ring (Add worker object token ∷ rest) → Ends ring rest × Ends ring (drop_two rest)
  add-ends worker object token (Insert w n ∷ (Bell b ∷ rest)) ends = ((tt, (tt, ends)), ends)
  add-ends worker object token [] ends = absurd ends
  add-ends worker object token (s ∷ rest) ends = absurd ends

module _ {V : Type 0} (g : Wiring) (ring : Option ℕ) where
  abbrev EndsAt : Shared V → Plan → Type 0
  EndsAt h p = Ends ring p.steps

  ends-next : (h : Shared V) (s : Small) (said : DeviceSaid) (p : Plan) → Ends ring (s ∷ p.steps) → (s ≡ Answering → ⊥) → Ends ring (rest_after g h s said p).steps
  ends-next h (Claim object queue) said p ends other = either ring (can_claim h.table object queue) p (instead (answer.Failed error.InvalidParam) p) ends.1 refl
  ends-next h (Release object) said p ends other = ends.1
  ends-next h (Add worker object token) said p ends other =
      let both = add-ends ring worker object token p.steps ends in
      either ring (can_add h.table (opened_at g worker).list object) p (record p { steps = drop_two p.steps }) both.0 both.1
  ends-next h (Delete worker object) said p ends other = ends.1
  ends-next h (Listen worker object token) said p ends other = either ring (can_listen h.table (opened_at g worker).list object) p (instead (answer.Listener listener_error.AlreadyExists) p) ends.1 refl
  ends-next h (Unlisten worker object above) said p ends other = either ring (can_unlisten h.table (opened_at g worker).list object above) p (instead (answer.Listener listener_error.NotFound) p) ends.1 refl
  ends-next h (Bell object) said p ends other = ends.1
  ends-next h (Remove worker number) said p ends other = ends.1
  ends-next h (Insert worker number) said p ends other = ends.1
  ends-next h (Set queue o) said p ends other = ends.1
  ends-next h (Info queue desc avail used) said p ends other = either ring (used_index_covers h.guest used) p (told (answer.Failed error.BackendInternalError) p) ends.1 ends.1
  ends-next h (Table change) said p ends other = by-refusal ring (table_refusal h.guest change) p ends.1
  ends-next h (Log object offset size) said p ends other = by-log ring (log_refusal g h object offset size) p ends.1
  ends-next h (Device call) said p ends other = by-outcome ring said p ends.1
  ends-next h Answering said p ends other = absurd (other refl)

  ends-play : KeepsPlay g EndsAt
  ends-play h p s said ends first free silent =
      ends-next h s said (dropped p) (subst (Ends ring) first ends)
      (λ is. let no : answer_of h p.reply ∷ [] ≡ [] = ap (λ t. answers_by h t p) (sym is) ∙ silent in absurd cc)

  ends-fault : KeepsFault EndsAt
  ends-fault h p ends = refl

  -- The step that waits

  in-flight : (h : Shared V) (queue : ℕ) → ring ≡ Some queue → is_in_flight (ring_at h queue).flight ≡ true → HasInFlight h ring
  in-flight h queue is flies = let P : Option ℕ → Type 0 = λ r. HasInFlight h r in subst P (sym is) (flying (ring_at h queue).flight flies)

  set-waits : (h : Shared V) (queue : ℕ) (needs : Bool) → (needs ≡ false) ⊎ (ring ≡ Some queue) → needs && is_in_flight (ring_at h queue).flight ≡ true → HasInFlight h ring
  set-waits h queue needs (inr is) waits = in-flight h queue is (waits-both needs (is_in_flight (ring_at h queue).flight) waits).1
  set-waits h queue needs (inl never) waits = absurd (let must = (waits-both needs (is_in_flight (ring_at h queue).flight) waits).0 in let bad : true ≡ false = sym must ∙ never in cc)

  waits-flying : (h : Shared V) (steps : List Small) → Ends ring steps → WaitsAt h steps → HasInFlight h ring
  waits-flying h [] ends waits = absurd ends
  waits-flying h (Set queue o ∷ rest) ends waits = set-waits h queue (needs_no_flight o) ends.0 waits
  waits-flying h (Info queue desc avail used ∷ rest) ends waits = in-flight h queue ends.0 waits
  waits-flying h (s ∷ rest) ends waits = absurd cc

module _ {V D : Type 0} (tell : Telling D) (request : Request) (before now : Player) (old new : PartsState V D) where
  waits-told : (begun left : Begun) → IsPlanOf before.wiring before.known before.session request begun → Finishes tell before now begun left old new (Err Waits) → WaitsInFlight request before begun old new (Err Waits)
  waits-told begun left plan finishes =
      let all = finishes.plays in
      let R : Shared V → Shared V → Type 0 = ArePlanned _ _ all.steps before now begun in
      let S : Shared V → Shared V → Type 0 = λ a b. WaitsAt b (plan_at b.guest.regions left).steps in
      told-both old.shared new.shared R S _ (λ a b planned waits named.
      let P : Plan → Type 0 = λ p. Ends (ring_waited request) p.steps in
      let begins = begun-at before.wiring before.known before.session request begun plan a.guest.regions P (λ f. plan-ends before.wiring f a.guest.regions before.session request) in
      let ends = walk before.wiring (EndsAt before.wiring (ring_waited request)) (ends-play before.wiring (ring_waited request)) (ends-fault before.wiring (ring_waited request)) _ _ all.steps before now begun left a b refl all.answers all.leads (planned named).0 begins in
      waits-flying before.wiring (ring_waited request) b (plan_at b.guest.regions left).steps ends waits)
      all.told finishes.stays
    where
      told-both : {A : Type 0} (a b : Option A) (P Q R : A → A → Type 0) → ((x y : A) → P x y → Q x y → R x y) → Told a b P → Told a b Q → Told a b R
      told-both None b P Q R so p q = tt
      told-both (Some x) None P Q R so p q = absurd p
      told-both (Some x) (Some y) P Q R so p q = so x y p q

  pub waits-in-flight : (begun left : Begun) (result : Result Answer Unanswered) → IsPlanOf before.wiring before.known before.session request begun → Finishes tell before now begun left old new result → WaitsInFlight request before begun old new result
  waits-in-flight begun left (Ok a) plan finishes = tt
  waits-in-flight begun left (Err OutOfMemory) plan finishes = tt
  waits-in-flight begun left (Err Waits) plan finishes = waits-told begun left plan finishes
