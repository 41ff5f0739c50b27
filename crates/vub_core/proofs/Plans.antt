-- No plan is empty: each has its Answer.
use Rattle.std.proofs.Common.{ℕ, ◌%◌, ◌^◌, ◌||◌, ◌&&◌, Bool, true, false, cond, not, nat_lt, List, [], ◌∷◌, ◌++◌, Option, is_some, Result, Ok, Err}
use Rattle.std.specs.Result.{is_ok}
use Rattle.vub_mem.specs.declared.errors.MemError.{MemError}
use Rattle.vub_mem.specs.declared.region.Region.{Region}
use Rattle.vub_mem.specs.Mappings.{gpa_of}
use Rattle.vub_queue.specs.Settings.{info_answer}
use Rattle.vub_proto.specs.declared.answer.Answer.TheVariants as answer
use Rattle.vub_proto.specs.declared.answer.Denied.TheVariants as denied
use Rattle.vub_proto.specs.declared.answer.VhostUserError.{VhostUserError}
use Rattle.vub_proto.specs.declared.answer.VhostUserError.TheVariants as error
use Rattle.vub_proto.specs.declared.device_op.DeviceOp.TheVariants as device
use Rattle.vub_proto.specs.declared.request.Request.{Request}
use Rattle.vub_proto.specs.declared.request.Request.TheVariants as request
use Rattle.vub_model.specs.declared.ring_op.RingOp.TheVariants as op
use Rattle.vub_model.specs.declared.session.Session.{Session}
use Rattle.vub_model.specs.declared.small.Small.{Small}
use Rattle.vub_model.specs.declared.small.Small.TheVariants.{Set, Info, Listen, Unlisten, Device}
use Rattle.vub_model.specs.declared.small.Small.TheVariants.{Answer as Answering}
use Rattle.vub_model.specs.declared.small.TableOp.TheVariants as table_op
use Rattle.vub_model.specs.Frame.{Frame, known_at}
use Rattle.vub_model.specs.Plans.{Plan, tested, done, answered, refused, info_plan, addr_plan, indexed, no_flag, plan_of, when, each_queue, enable_steps, disable_steps, call_steps, stop_steps, kick_steps, claim_steps, release_steps, off_steps, update_steps, same_event, exit_steps, is_size, is_empty, is_listener, listener_refused, are_offered, features_steps, table_plan, regions_for, mappings_for, region_for, mapping_for, next_of}
use Rattle.vub_model.specs.Wiring.{Wiring, has_bit, place_of}

abbrev pub HasStep : List Small → Type 0
HasStep [] = ⊥
HasStep (s ∷ steps) = Unit {0}

behind : (xs ys : List Small) → HasStep ys → HasStep (xs ++ ys)
behind [] ys has = has
behind (x ∷ xs) ys has = tt

abbrev Goes : Plan → Type 0
Goes p = HasStep p.steps

either : (b : Bool) (p q : Plan) → Goes p → Goes q → Goes (cond b p q)
either true p q has other = has
either false p q has other = other

goes-tested : (b : Bool) (e : VhostUserError) (s : Session) (p : Plan) → Goes p → Goes (tested b e s p)
goes-tested b e s p has = either b p (refused e s) has tt

goes-indexed : (g : Wiring) (queue : ℕ) (s : Session) (p : Plan) → Goes p → Goes (indexed g queue s p)
goes-indexed g queue s p has = goes-tested (nat_lt queue g.queues) error.InvalidParam s p has

goes-info : (queue : ℕ) (s : Session) (desc avail used : Result ℕ MemError) → Goes (info_plan queue s desc avail used)
goes-info queue s (Ok desc) (Ok avail) (Ok used) = goes-tested (is_ok (info_answer desc avail used)) error.InvalidParam s (done (Info queue desc avail used ∷ Answering ∷ []) s) tt
goes-info queue s (Err e) avail used = tt
goes-info queue s (Ok desc) (Err e) used = tt
goes-info queue s (Ok desc) (Ok avail) (Err e) = tt

goes-addr : (queue : ℕ) (s : Session) (desc avail used : ℕ) → Goes (addr_plan queue s desc avail used)
goes-addr queue s desc avail used =
    goes-tested (not (is_empty s.mappings)) error.InvalidParam s (info_plan queue s (gpa_of s.mappings desc) (gpa_of s.mappings avail) (gpa_of s.mappings used)) (goes-info queue s (gpa_of s.mappings desc) (gpa_of s.mappings avail) (gpa_of s.mappings used))

goes-flag : (flag : Option Bool) (s : Session) (p : Plan) → Goes p → Goes (no_flag flag s p)
goes-flag flag s p has = goes-tested (not (is_some flag)) (error.InvalidOperation denied.PostcopyNotEnabled) s p has

module _ (g : Wiring) (f : Frame) (s : Session) where
  goes-features : (bits : ℕ) → HasStep (features_steps g f bits)
  goes-features bits =
      let last = Device (device.SetEventIdx (has_bit bits 29)) ∷ Device (device.AckedFeatures bits) ∷ Answering ∷ [] in
      let sets = each_queue (λ q. Set q (op.SetEventIdx (has_bit bits 29)) ∷ []) g.queues in
      behind (when (not (has_bit bits 30)) (each_queue (λ q. enable_steps g q (known_at f q) true) g.queues)) (sets ++ last) (behind sets last tt)

  goes-kick : (queue : ℕ) (event : Option ℕ) → HasStep (kick_steps g queue (known_at f queue) event)
  goes-kick queue event =
      let k = known_at f queue in
      let last = when (not (same_event k.kick event)) (release_steps k.kick) ++ (when (is_some event && not k.ready) (Set queue (op.SetReady true) ∷ []) ++ (update_steps g queue event ((k.ready || is_some event) && k.enabled) ++ Answering ∷ [])) in
      let middle = when (not (same_event k.kick event)) (off_steps (place_of g queue) k.kick) in
      behind (claim_steps queue event) (middle ++ Set queue (op.SetKick event) ∷ last) (behind middle (Set queue (op.SetKick event) ∷ last) tt)

  goes-listen : (b : Bool) (s : Small) (session : Session) → Goes (cond b (done (s ∷ Answering ∷ []) session) (listener_refused session))
  goes-listen b s session = either b (done (s ∷ Answering ∷ []) session) (listener_refused session) tt tt

  pub plan-goes : (rs : List Region) (r : Request) → HasStep (plan_of g f rs s r).steps
  unfolding plan_of
  plan-goes rs request.SetOwner = goes-tested (not s.owned) (error.InvalidOperation denied.AlreadyClaimed) s (answered answer.Ok (record s { owned = true })) tt
  plan-goes rs request.ResetDevice = behind (each_queue (λ q. disable_steps g q (known_at f q)) g.queues) (Device device.ResetDevice ∷ Answering ∷ []) tt
  plan-goes rs (request.SetFeatures bits) = goes-tested (are_offered g.features bits) error.InvalidParam s (done (features_steps g f bits) (record s { features = bits })) (goes-features bits)
  plan-goes rs (request.SetMemTable parts contents flag) = goes-flag flag s (table_plan rs (table_op.Replace (regions_for parts contents)) (record s { mappings = mappings_for parts contents })) tt
  plan-goes rs (request.AddMemRegion part content flag) = goes-flag flag s (table_plan rs (table_op.Insert (region_for part content)) (record s { mappings = s.mappings ++ mapping_for part ∷ [] })) tt
  plan-goes rs (request.SetVringNum queue n) =
      goes-indexed g queue s (tested (is_size g n) error.InvalidParam s (done (Set queue (op.SetSize n) ∷ Answering ∷ []) s)) (goes-tested (is_size g n) error.InvalidParam s (done (Set queue (op.SetSize n) ∷ Answering ∷ []) s) tt)
  plan-goes rs (request.SetVringAddr queue flags desc used avail log) = goes-indexed g queue s (addr_plan queue s desc avail used) (goes-addr queue s desc avail used)
  plan-goes rs (request.SetVringBase queue n) = goes-indexed g queue s (done (Set queue (op.SetBase (n % 2 ^ 16)) ∷ Answering ∷ []) s) tt
  plan-goes rs (request.GetVringBase queue) = goes-indexed g queue s (record { steps = stop_steps g queue (known_at f queue); reply = next_of queue; session = s }) tt
  plan-goes rs (request.SetVringKick queue event) = goes-indexed g queue s (done (kick_steps g queue (known_at f queue) event) s) (goes-kick queue event)
  plan-goes rs (request.SetVringCall queue event) = goes-indexed g queue s (done (call_steps g queue (known_at f queue) event) s) tt
  plan-goes rs (request.SetVringErr queue event) = goes-indexed g queue s (done (Set queue (op.SetErr event) ∷ Answering ∷ []) s) tt
  plan-goes rs (request.SetVringEnable queue enabled) =
      let p = done (enable_steps g queue (known_at f queue) enabled ++ Answering ∷ []) s in
      goes-tested (has_bit s.features 30) error.InactiveFeature s (indexed g queue s p) (goes-indexed g queue s p tt)
  plan-goes rs (request.RegisterListener worker event set token) = goes-listen (is_listener g f worker event set token) (Listen worker event token) s
  plan-goes rs (request.UnregisterListener worker event set token) = goes-listen (is_listener g f worker event set token) (Unlisten worker event g.queues) s
  plan-goes rs request.SendExit = behind (exit_steps g.opened) (Answering ∷ []) tt
  plan-goes rs r = tt
