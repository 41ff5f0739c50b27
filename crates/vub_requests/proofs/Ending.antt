-- Each plan ends with its Answer, also where an Add that finds its event there drops the two steps after it; and a step
-- of a plan waits only for an entry in flight of the ring that its request names.
use Rattle.std.proofs.Common.{◌≡◌, ◌⊎◌, inl, inr, ℕ, zero, suc, ◌||◌, ◌&&◌, Bool, true, false, cond, not, nat_lt, List, [], ◌∷◌, ◌++◌, Option, Some, None, is_some, Result, Ok, Err, refl, sym, subst}
use Rattle.std.proofs.lemmas.List.{append_assoc}
use Rattle.std.specs.Result.{is_ok}
use Rattle.vub_mem.specs.declared.errors.MemError.{MemError}
use Rattle.vub_mem.specs.declared.region.Region.{Region}
use Rattle.vub_mem.specs.Mappings.{gpa_of}
use Rattle.vub_queue.specs.Settings.{info_answer}
use Rattle.vub_proto.specs.declared.answer.Denied.TheVariants as denied
use Rattle.vub_proto.specs.declared.answer.VhostUserError.{VhostUserError}
use Rattle.vub_proto.specs.declared.answer.VhostUserError.TheVariants as error
use Rattle.vub_proto.specs.declared.request.Request.{Request}
use Rattle.vub_proto.specs.declared.request.Request.TheVariants as request
use Rattle.vub_model.specs.declared.ring_op.RingOp.TheVariants as op
use Rattle.vub_model.specs.declared.session.Session.{Session}
use Rattle.vub_model.specs.declared.small.Small.{Small}
use Rattle.vub_model.specs.declared.small.Small.TheVariants.{Add, Insert, Bell, Set, Info, Answer as Answering}
use Rattle.vub_model.specs.declared.wiring.Known.{Known}
use Rattle.vub_model.specs.declared.wiring.Opened.{Opened}
use Rattle.vub_model.specs.declared.wiring.Place.{Place}
use Rattle.vub_model.specs.Frame.{Frame, known_at}
use Rattle.vub_model.specs.Plans.{Plan, tested, refused, info_plan, addr_plan, indexed, plan_of, when, each_queue, enable_steps, disable_steps, call_steps, stop_steps, kick_steps, claim_steps, release_steps, off_steps, on_steps, update_steps, same_event, bell_steps, exit_steps, is_size, is_empty, is_listener, are_offered}
use Rattle.vub_model.specs.RingRecord.{needs_no_flight}
use Rattle.vub_model.specs.Wiring.{Wiring, has_bit, place_of}
use Rattle.vub_requests.specs.Handling.{ring_waited}

-- it waits only for this ring
abbrev pub WaitsOn : Option ℕ → Small → Type 0
WaitsOn ring (Set queue o) = (needs_no_flight o ≡ false) ⊎ (ring ≡ Some queue)
WaitsOn ring (Info queue desc avail used) = ring ≡ Some queue
WaitsOn ring s = Unit {0}

-- the steps end with their Answer, and wait only for this ring
abbrev pub Ends : Option ℕ → List Small → Type 0
Ends ring [] = ⊥
Ends ring (Answering ∷ rest) = rest ≡ []
Ends ring (Add worker object token ∷ (Insert w n ∷ (Bell b ∷ rest))) = Ends ring rest
Ends ring (Add worker object token ∷ rest) = ⊥
Ends ring (s ∷ rest) = WaitsOn ring s × Ends ring rest

module _ (ring : Option ℕ) where
  abbrev EndsPlan : Plan → Type 0
  EndsPlan p = Ends ring p.steps

  either : (b : Bool) (p q : Plan) → EndsPlan p → EndsPlan q → EndsPlan (cond b p q)
  either true p q x y = x
  either false p q x y = y

  ends-tested : (b : Bool) (e : VhostUserError) (s : Session) (p : Plan) → EndsPlan p → EndsPlan (tested b e s p)
  ends-tested b e s p x = either b p (refused e s) x refl

  ends-indexed : (g : Wiring) (queue : ℕ) (s : Session) (p : Plan) → EndsPlan p → EndsPlan (indexed g queue s p)
  ends-indexed g queue s p x = ends-tested (nat_lt queue g.queues) error.InvalidParam s p x

  -- Blocks, before steps that end

  module _ (rest : List Small) (ends : Ends ring rest) where
    off-ends : (place : Option Place) (kick : Option ℕ) → Ends ring (off_steps place kick ++ rest)
    off-ends (Some p) (Some k) = (tt, (tt, ends))
    off-ends (Some p) None = ends
    off-ends None kick = ends

    on-ends : (g : Wiring) (place : Option Place) (kick : Option ℕ) → Ends ring (on_steps g place kick ++ rest)
    on-ends g (Some p) (Some k) = ends
    on-ends g (Some p) None = ends
    on-ends g None kick = ends

    update-ends : (g : Wiring) (queue : ℕ) (kick : Option ℕ) (on : Bool) → Ends ring (update_steps g queue kick on ++ rest)
    update-ends g queue kick true = on-ends g (place_of g queue) kick
    update-ends g queue kick false = off-ends (place_of g queue) kick

    claim-ends : (queue : ℕ) (kick : Option ℕ) → Ends ring (claim_steps queue kick ++ rest)
    claim-ends queue (Some k) = (tt, ends)
    claim-ends queue None = ends

    release-ends : (kick : Option ℕ) → Ends ring (release_steps kick ++ rest)
    release-ends (Some k) = (tt, ends)
    release-ends None = ends

    when-ends : (b : Bool) (steps : List Small) → Ends ring (steps ++ rest) → Ends ring (when b steps ++ rest)
    when-ends true steps then = then
    when-ends false steps then = ends

    bell-ends : (object : Option ℕ) → Ends ring (bell_steps object ++ rest)
    bell-ends (Some b) = (tt, ends)
    bell-ends None = ends

  append-ends : (xs ys zs : List Small) → Ends ring (xs ++ (ys ++ zs)) → Ends ring ((xs ++ ys) ++ zs)
  append-ends xs ys zs ends = subst (Ends ring) (sym (append_assoc xs ys zs)) ends

  each-ends : (steps : ℕ → List Small) → ((q : ℕ) (rest : List Small) → Ends ring rest → Ends ring (steps q ++ rest)) → (n : ℕ) (rest : List Small) → Ends ring rest → Ends ring (each_queue steps n ++ rest)
  each-ends steps so zero rest ends = ends
  each-ends steps so (suc n) rest ends = append-ends (each_queue steps n) (steps n) rest (each-ends steps so n (steps n ++ rest) (so n rest ends))

  exits-end : (ws : List Opened) (rest : List Small) → Ends ring rest → Ends ring (exit_steps ws ++ rest)
  exits-end [] rest ends = ends
  exits-end (w ∷ ws) rest ends = append-ends (bell_steps w.exit) (exit_steps ws) rest (bell-ends (exit_steps ws ++ rest) (exits-end ws rest ends) w.exit)

  enable-ends : (g : Wiring) (queue : ℕ) (k : Known) (enabled : Bool) (rest : List Small) → Ends ring rest → Ends ring (enable_steps g queue k enabled ++ rest)
  enable-ends g queue k enabled rest ends = (inl refl, update-ends rest ends g queue k.kick (k.ready && enabled))

  disable-ends : (g : Wiring) (queue : ℕ) (k : Known) (rest : List Small) → Ends ring rest → Ends ring (disable_steps g queue k ++ rest)
  disable-ends g queue k rest ends = (inl refl, off-ends rest ends (place_of g queue) k.kick)

  last : Ends ring (Answering ∷ [])
  last = refl

  -- Requests of a ring

  kick-ends : (g : Wiring) (queue : ℕ) (k : Known) (new : Option ℕ) → Ends ring (kick_steps g queue k new)
  kick-ends g queue k new =
      let updates = update_steps g queue new ((k.ready || is_some new) && k.enabled) ++ Answering ∷ [] in
      let readies = when (is_some new && not k.ready) (Set queue (op.SetReady true) ∷ []) ++ updates in
      let releases = when (not (same_event k.kick new)) (release_steps k.kick) ++ readies in
      let sets = Set queue (op.SetKick new) ∷ releases in
      let offs = when (not (same_event k.kick new)) (off_steps (place_of g queue) k.kick) ++ sets in
      let updated = update-ends (Answering ∷ []) last g queue new ((k.ready || is_some new) && k.enabled) in
      let readied = when-ends updates updated (is_some new && not k.ready) (Set queue (op.SetReady true) ∷ []) (inl refl, updated) in
      let released = when-ends readies readied (not (same_event k.kick new)) (release_steps k.kick) (release-ends readies readied k.kick) in
      let set : Ends ring sets = (inl refl, released) in
      claim-ends offs (when-ends sets set (not (same_event k.kick new)) (off_steps (place_of g queue) k.kick) (off-ends sets set (place_of g queue) k.kick)) queue new

  call-ends : (g : Wiring) (queue : ℕ) (k : Known) (new : Option ℕ) → Ends ring (call_steps g queue k new)
  call-ends g queue k new =
      (inl refl, when-ends (Answering ∷ []) last (is_some k.kick && not k.ready) (Set queue (op.SetReady true) ∷ update_steps g queue k.kick k.enabled) (inl refl, update-ends (Answering ∷ []) last g queue k.kick k.enabled))

  features-end : (g : Wiring) (f : Frame) (bits : ℕ) (tail : List Small) → Ends ring tail
      → Ends ring (when (not (has_bit bits 30)) (each_queue (λ q. enable_steps g q (known_at f q) true) g.queues) ++ (each_queue (λ q. Set q (op.SetEventIdx (has_bit bits 29)) ∷ []) g.queues ++ tail))
  features-end g f bits tail ends =
      let sets = each_queue (λ q. Set q (op.SetEventIdx (has_bit bits 29)) ∷ []) g.queues ++ tail in
      let set = each-ends (λ q. Set q (op.SetEventIdx (has_bit bits 29)) ∷ []) (λ q rest then. (inl refl, then)) g.queues tail ends in
      when-ends sets set (not (has_bit bits 30)) (each_queue (λ q. enable_steps g q (known_at f q) true) g.queues) (each-ends (λ q. enable_steps g q (known_at f q) true) (λ q rest then. enable-ends g q (known_at f q) true rest then) g.queues sets set)

stop-ends : (g : Wiring) (queue : ℕ) (k : Known) → Ends (Some queue) (stop_steps g queue k)
stop-ends g queue k = (inr refl, off-ends (Some queue) _ (tt, (inl refl, (inl refl, release-ends (Some queue) (Answering ∷ []) refl k.kick))) (place_of g queue) k.kick)

info-ends : (queue : ℕ) (s : Session) (desc avail used : Result ℕ MemError) → Ends (Some queue) (info_plan queue s desc avail used).steps
info-ends queue s (Ok desc) (Ok avail) (Ok used) = ends-tested (Some queue) (is_ok (info_answer desc avail used)) error.InvalidParam s _ (refl, refl)
info-ends queue s (Err e) avail used = refl
info-ends queue s (Ok desc) (Err e) used = refl
info-ends queue s (Ok desc) (Ok avail) (Err e) = refl

addr-ends : (queue : ℕ) (s : Session) (desc avail used : ℕ) → Ends (Some queue) (addr_plan queue s desc avail used).steps
addr-ends queue s desc avail used = ends-tested (Some queue) (not (is_empty s.mappings)) error.InvalidParam s _ (info-ends queue s (gpa_of s.mappings desc) (gpa_of s.mappings avail) (gpa_of s.mappings used))

pub plan-ends : (g : Wiring) (f : Frame) (rs : List Region) (s : Session) (r : Request) → Ends (ring_waited r) (plan_of g f rs s r).steps
unfolding plan_of
plan-ends g f rs s request.SetOwner = ends-tested None (not s.owned) (error.InvalidOperation denied.AlreadyClaimed) s _ refl
plan-ends g f rs s request.ResetDevice = each-ends None (λ q. disable_steps g q (known_at f q)) (λ q rest then. disable-ends None g q (known_at f q) rest then) g.queues _ (tt, refl)
plan-ends g f rs s (request.SetFeatures bits) = ends-tested None (are_offered g.features bits) error.InvalidParam s _ (features-end None g f bits _ (tt, (tt, refl)))
plan-ends g f rs s (request.SetMemTable parts contents flag) = ends-tested None (not (is_some flag)) (error.InvalidOperation denied.PostcopyNotEnabled) s _ (tt, (tt, refl))
plan-ends g f rs s (request.AddMemRegion part content flag) = ends-tested None (not (is_some flag)) (error.InvalidOperation denied.PostcopyNotEnabled) s _ (tt, (tt, refl))
plan-ends g f rs s (request.RemoveMemRegion start len) = (tt, (tt, refl))
plan-ends g f rs s (request.SetLogBase size offset object) = (tt, refl)
plan-ends g f rs s (request.SetVringNum queue n) = ends-indexed (Some queue) g queue s _ (ends-tested (Some queue) (is_size g n) error.InvalidParam s _ (inr refl, refl))
plan-ends g f rs s (request.SetVringAddr queue flags desc used avail log) = ends-indexed (Some queue) g queue s _ (addr-ends queue s desc avail used)
plan-ends g f rs s (request.SetVringBase queue n) = ends-indexed (Some queue) g queue s _ (inr refl, refl)
plan-ends g f rs s (request.GetVringBase queue) = ends-indexed (Some queue) g queue s _ (stop-ends g queue (known_at f queue))
plan-ends g f rs s (request.SetVringKick queue event) = ends-indexed None g queue s _ (kick-ends None g queue (known_at f queue) event)
plan-ends g f rs s (request.SetVringCall queue event) = ends-indexed None g queue s _ (call-ends None g queue (known_at f queue) event)
plan-ends g f rs s (request.SetVringErr queue event) = ends-indexed None g queue s _ (inl refl, refl)
plan-ends g f rs s (request.SetVringEnable queue enabled) = ends-tested None (has_bit s.features 30) error.InactiveFeature s _ (ends-indexed None g queue s _ (enable-ends None g queue (known_at f queue) enabled (Answering ∷ []) refl))
plan-ends g f rs s (request.RegisterListener worker event set token) = either None (is_listener g f worker event set token) _ _ (tt, refl) refl
plan-ends g f rs s (request.UnregisterListener worker event set token) = either None (is_listener g f worker event set token) _ _ (tt, refl) refl
plan-ends g f rs s request.SendExit = exits-end None g.opened (Answering ∷ []) refl
plan-ends g f rs s request.ResetOwner = refl
plan-ends g f rs s request.GetFeatures = refl
plan-ends g f rs s request.GetProtocolFeatures = refl
plan-ends g f rs s request.GetQueueNum = refl
plan-ends g f rs s request.GetMaxMemSlots = refl
plan-ends g f rs s (request.SetProtocolFeatures bits) = refl
plan-ends g f rs s request.GetInflightFd = refl
plan-ends g f rs s (request.SetInflightFd object) = refl
plan-ends g f rs s r = (tt, refl)
