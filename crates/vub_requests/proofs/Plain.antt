-- A plan that was just fixed says no answer that names host or device.
use Rattle.std.proofs.Common.{ℕ, ◌+◌, Bool, true, false, cond, not, List, [], replicate, nat_lt, Result, Ok, Err, is_some, refl, sym, subst, arith}
use Rattle.std.proofs.lemmas.Bool.{cond_both}
use Rattle.std.proofs.lemmas.List.{get_or-replicate}
use Rattle.std.specs.Result.{is_ok}
use Rattle.vub_mem.specs.declared.errors.MemError.{MemError}
use Rattle.vub_mem.specs.declared.region.Region.{Region}
use Rattle.vub_mem.specs.Mappings.{gpa_of}
use Rattle.vub_queue.specs.Settings.{info_answer}
use Rattle.vub_proto.specs.declared.answer.Denied.TheVariants as denied
use Rattle.vub_proto.specs.declared.answer.VhostUserError.{VhostUserError}
use Rattle.vub_proto.specs.declared.answer.VhostUserError.TheVariants as error
use Rattle.vub_proto.specs.declared.request.Request.{Request}
use Rattle.vub_proto.specs.declared.request.Request.TheVariants as request
use Rattle.vub_model.specs.declared.session.Session.{Session}
use Rattle.vub_model.specs.declared.wiring.Known.{Known}
use Rattle.vub_model.specs.Frame.{Frame}
use Rattle.vub_model.specs.Plans.{Plan, plan_of, tested, refused, indexed, info_plan, is_empty, is_size, is_listener, are_offered}
use Rattle.vub_model.specs.Wiring.{Wiring, has_bit}
use Rattle.vub_plan.specs.Halves.{Begun, plan_at, NamesThere, IsPlanOf}
use Rattle.vub_handler.specs.Playing.{IsCausedReply}

-- it says no answer that names host or device, whatever their counts
abbrev pub IsPlain : Plan → Type 1
IsPlain p = (F R : Type 0) → IsCausedReply F R p.reply

tested-plain : (b : Bool) (e : VhostUserError) (s : Session) (p : Plan) → IsPlain (refused e s) → IsPlain p → IsPlain (tested b e s p)
tested-plain b e s p first then = λ F R. cond_both {A = Plan} b p (refused e s) (λ q. IsCausedReply F R q.reply) (λ _. then F R) (λ _. first F R)

either-plain : (b : Bool) (p q : Plan) → IsPlain p → IsPlain q → IsPlain (cond b p q)
either-plain b p q x y = λ F R. cond_both {A = Plan} b p q (λ z. IsCausedReply F R z.reply) (λ _. x F R) (λ _. y F R)

indexed-plain : (g : Wiring) (queue : ℕ) (s : Session) (p : Plan) → IsPlain p → IsPlain (indexed g queue s p)
indexed-plain g queue s p so = tested-plain (nat_lt queue g.queues) error.InvalidParam s p (λ F R. tt) so

info-plain : (queue : ℕ) (s : Session) (desc avail used : Result ℕ MemError) → IsPlain (info_plan queue s desc avail used)
info-plain queue s (Ok desc) (Ok avail) (Ok used) = tested-plain (is_ok (info_answer desc avail used)) error.InvalidParam s _ (λ F R. tt) (λ F R. tt)
info-plain queue s (Err e) avail used = λ F R. tt
info-plain queue s (Ok desc) (Err e) used = λ F R. tt
info-plain queue s (Ok desc) (Ok avail) (Err e) = λ F R. tt

plan-plain : (g : Wiring) (f : Frame) (rs : List Region) (s : Session) (r : Request) → IsPlain (plan_of g f rs s r)
unfolding plan_of
plan-plain g f rs s request.SetOwner = tested-plain (not s.owned) (error.InvalidOperation denied.AlreadyClaimed) s _ (λ F R. tt) (λ F R. tt)
plan-plain g f rs s request.ResetOwner = λ F R. tt
plan-plain g f rs s request.ResetDevice = λ F R. tt
plan-plain g f rs s request.GetFeatures = λ F R. tt
plan-plain g f rs s request.GetProtocolFeatures = λ F R. tt
plan-plain g f rs s request.GetQueueNum = λ F R. tt
plan-plain g f rs s request.GetMaxMemSlots = λ F R. tt
plan-plain g f rs s (request.SetFeatures bits) = tested-plain (are_offered g.features bits) error.InvalidParam s _ (λ F R. tt) (λ F R. tt)
plan-plain g f rs s (request.SetProtocolFeatures bits) = λ F R. tt
plan-plain g f rs s (request.SetMemTable parts contents flag) = tested-plain (not (is_some flag)) (error.InvalidOperation denied.PostcopyNotEnabled) s _ (λ F R. tt) (λ F R. tt)
plan-plain g f rs s (request.AddMemRegion part content flag) = tested-plain (not (is_some flag)) (error.InvalidOperation denied.PostcopyNotEnabled) s _ (λ F R. tt) (λ F R. tt)
plan-plain g f rs s (request.RemoveMemRegion start len) = λ F R. tt
plan-plain g f rs s (request.SetLogBase size offset object) = λ F R. tt
plan-plain g f rs s (request.SetVringNum queue n) = indexed-plain g queue s _ (tested-plain (is_size g n) error.InvalidParam s _ (λ F R. tt) (λ F R. tt))
plan-plain g f rs s (request.SetVringAddr queue flags desc used avail log) =
    indexed-plain g queue s _ (tested-plain (not (is_empty s.mappings)) error.InvalidParam s _ (λ F R. tt) (info-plain queue s (gpa_of s.mappings desc) (gpa_of s.mappings avail) (gpa_of s.mappings used)))
plan-plain g f rs s (request.SetVringBase queue n) = indexed-plain g queue s _ (λ F R. tt)
plan-plain g f rs s (request.GetVringBase queue) = indexed-plain g queue s _ (λ F R. tt)
plan-plain g f rs s (request.SetVringKick queue event) = indexed-plain g queue s _ (λ F R. tt)
plan-plain g f rs s (request.SetVringCall queue event) = indexed-plain g queue s _ (λ F R. tt)
plan-plain g f rs s (request.SetVringErr queue event) = indexed-plain g queue s _ (λ F R. tt)
plan-plain g f rs s (request.SetVringEnable queue enabled) = tested-plain (has_bit s.features 30) error.InactiveFeature s _ (λ F R. tt) (indexed-plain g queue s _ (λ F R. tt))
plan-plain g f rs s (request.GetConfig offset size flags) = λ F R. tt
plan-plain g f rs s (request.SetConfig offset bytes flags) = λ F R. tt
plan-plain g f rs s (request.SetBackendReqFd object) = λ F R. tt
plan-plain g f rs s (request.SetGpuSocket object) = λ F R. tt
plan-plain g f rs s request.CheckDeviceState = λ F R. tt
plan-plain g f rs s (request.GetSharedObject uuid) = λ F R. tt
plan-plain g f rs s (request.SetDeviceStateFd direction phase object) = λ F R. tt
plan-plain g f rs s request.GetShmemConfig = λ F R. tt
plan-plain g f rs s request.GetInflightFd = λ F R. tt
plan-plain g f rs s (request.SetInflightFd object) = λ F R. tt
plan-plain g f rs s (request.RegisterListener worker event set token) = either-plain (is_listener g f worker event set token) _ _ (λ F R. tt) (λ F R. tt)
plan-plain g f rs s (request.UnregisterListener worker event set token) = either-plain (is_listener g f worker event set token) _ _ (λ F R. tt) (λ F R. tt)
plan-plain g f rs s request.SendExit = λ F R. tt

-- a frame with these kicks and flags, in which the event that the request names is there
abbrev frame-with : List Known → ℕ → Frame
frame-with known event = record { known = known; lists = []; claims = []; events = replicate (event + 1) true }

-- what holds of the plan wherever these kicks and flags are known, holds of what is left at the beginning
pub begun-at : (g : Wiring) (known : List Known) (s : Session) (r : Request) (b : Begun) → IsPlanOf g known s r b → (rs : List Region) (P : Plan → Type 0) → ((f : Frame) → P (plan_of g f rs s r)) → P (plan_at rs b)
begun-at g known s r b plan rs P holds = by r plan holds where
  at : (r : Request) (event : ℕ) → NamesThere (frame-with known event) r → IsPlanOf g known s r b → ((f : Frame) → P (plan_of g f rs s r)) → P (plan_at rs b)
  at r event there plan holds = subst P (sym (plan (frame-with known event) rs refl there)) (holds (frame-with known event))

  by : (r : Request) → IsPlanOf g known s r b → ((f : Frame) → P (plan_of g f rs s r)) → P (plan_at rs b)
  by (request.RegisterListener worker event set token) plan holds = at (request.RegisterListener worker event set token) event (get_or-replicate (event + 1) event true false (omega (arith))) plan holds
  by (request.UnregisterListener worker event set token) plan holds = at (request.UnregisterListener worker event set token) event (get_or-replicate (event + 1) event true false (omega (arith))) plan holds
  by r plan holds = at r 0 tt plan holds

pub begun_plain : (g : Wiring) (known : List Known) (s : Session) (r : Request) (b : Begun) → IsPlanOf g known s r b → (F R : Type 0) → IsCausedReply F R b.plan.reply
begun_plain g known s r b plan F R = begun-at g known s r b plan [] (λ p. IsCausedReply F R p.reply) (λ f. plan-plain g f [] s r F R)
