-- What a control step makes of the frame and of the plan that is left.
use Rattle.std.proofs.Common.{◌≡◌, ℕ, Bool, true, false, cond, not, List, [], ◌∷◌, Option, Some, None, refl, sym, subst, slice_set}
use Rattle.std.specs.List.{AllByRecursion}
use Rattle.vub_mem.specs.declared.region.Region.{Region}
use Rattle.vub_mem.specs.declared.errors.LogError.{LogError}
use Rattle.vub_mem.specs.declared.errors.MemError.{MemError}
use Rattle.vub_proto.specs.declared.answer.Answer.{Answer}
use Rattle.vub_proto.specs.declared.answer.Answer.TheVariants as answer
use Rattle.vub_proto.specs.declared.answer.VhostUserError.TheVariants as error
use Rattle.vub_proto.specs.declared.answer.ListenerError.TheVariants as listener_error
use Rattle.vub_proto.specs.declared.device_said.DeviceSaid.{DeviceSaid}
use Rattle.vub_proto.specs.declared.device_said.DeviceSaid.TheVariants as outcome
use Rattle.vub_proto.specs.declared.request.Request.{Request}
use Rattle.vub_model.specs.declared.small.Small.{Small}
use Rattle.vub_model.specs.declared.small.Small.TheVariants.{Claim, Release, Add, Delete, Listen, Unlisten, Bell, Remove, Insert, Set, Info, Table, Log, Device, Answer as Answering}
use Rattle.vub_model.specs.Plans.{Reply, says, Plan}
use Rattle.vub_model.specs.Control.{Control, instead, drop_two, after_outcome, after_refusal, after_log_refusal, begun_from}
use Rattle.vub_model.specs.Wiring.{Wiring}
use Rattle.vub_model.specs.Frame.{Frame}
use Rattle.vub_model.specs.FrameSteps.{passes, frame_step}
use Rattle.vub_model.specs.Schedule.{Linked, Wired, Settled, Fits, Safe, First, RequestFits}
use Rattle.vub_model.proofs.Linking.{linked-step, wired-step}
use Rattle.vub_model.proofs.Begin.{answer-safe, begin-fine}

-- a step that is refused leaves the frame
abbrev pub frame_after : Wiring → Frame → Small → Frame
frame_after g f (Claim o q) = record f { claims = cond (passes g f (Claim o q)) (frame_step g f (Claim o q)).claims f.claims }
frame_after g f (Listen k o n) = record f { lists = cond (passes g f (Listen k o n)) (frame_step g f (Listen k o n)).lists f.lists }
frame_after g f s = frame_step g f s

abbrev pub SafePlan : Wiring → Frame → Plan → Type 0
SafePlan g f p = Safe g f p.reply p.steps

module _ (g : Wiring) where
  instead-safe : (a : Answer) (f : Frame) (p : Plan) → Settled g f → SafePlan g f (instead a p)
  instead-safe a f p settled = answer-safe g a f settled

  -- an answer that is known fits wherever another does
  fits-told : (a : Answer) (reply : Reply) (f : Frame) (s : Small) (rest : List Small) → Fits g f reply s rest → Fits g f (says a) s rest
  fits-told a reply f Answering rest fits = (fits.0, tt)
  fits-told a reply f (Claim o q) rest fits = fits
  fits-told a reply f (Release o) rest fits = fits
  fits-told a reply f (Add k o n) rest fits = fits
  fits-told a reply f (Delete k o) rest fits = fits
  fits-told a reply f (Listen k o n) rest fits = fits
  fits-told a reply f (Unlisten k o above) rest fits = fits
  fits-told a reply f (Bell o) rest fits = fits
  fits-told a reply f (Remove k n) rest fits = fits
  fits-told a reply f (Insert k n) rest fits = fits
  fits-told a reply f (Set q o) rest fits = fits
  fits-told a reply f (Info q desc avail used) rest fits = fits
  fits-told a reply f (Table change) rest fits = fits
  fits-told a reply f (Log o offset size) rest fits = fits
  fits-told a reply f (Device call) rest fits = fits

  pub told-safe : (a : Answer) (reply : Reply) (f : Frame) (steps : List Small) → Safe g f reply steps → Safe g f (says a) steps
  told-safe a reply f [] safe = safe
  told-safe a reply f (s ∷ rest) safe = (fits-told a reply f s rest safe.0, λ may. told-safe a reply (frame_step g f s) rest (safe.1 may))

  pub outcome-safe : (f : Frame) (said : DeviceSaid) (p : Plan) → Settled g f → SafePlan g f p → SafePlan g f (after_outcome said p)
  outcome-safe f outcome.Done p settled safe = safe
  outcome-safe f (outcome.Content bytes) p settled safe = told-safe (answer.Content bytes) p.reply f p.steps safe
  outcome-safe f (outcome.Object object) p settled safe = told-safe (answer.Object object) p.reply f p.steps safe
  outcome-safe f (outcome.Number n) p settled safe = told-safe (answer.Number n) p.reply f p.steps safe
  outcome-safe f (outcome.Refused n) p settled safe = ((refl, tt), λ _. settled)

  pub refusal-safe : (f : Frame) (refusal : Option MemError) (p : Plan) → Settled g f → SafePlan g f p → SafePlan g f (after_refusal refusal p)
  refusal-safe f None p settled safe = safe
  refusal-safe f (Some e) p settled safe = ((refl, tt), λ _. settled)

  pub log-safe : (f : Frame) (refusal : Option LogError) (p : Plan) → Settled g f → SafePlan g f p → SafePlan g f (after_log_refusal refusal p)
  log-safe f None p settled safe = safe
  log-safe f (Some e) p settled safe = ((refl, tt), λ _. settled)

  -- an Insert and the Bell after it may be dropped
  drop-insert : (k n : ℕ) (reply : Reply) (z : Frame) (rest : List Small) → Safe g z reply (Insert k n ∷ rest) → Safe g z reply (drop_two (Insert k n ∷ rest))
  drop-insert k n reply z [] safe = absurd safe.0.1
  drop-insert k n reply z (u ∷ rest) safe =
      let P : Small → Type 0 = λ u. Safe g z reply (u ∷ rest) in
      (subst P safe.0.1 (safe.1 refl)).1 refl

  drop-safe : (k n : ℕ) (reply : Reply) (z : Frame) (rest : List Small) → First rest (Insert k n) → Safe g z reply rest → Safe g z reply (drop_two rest)
  drop-safe k n reply z [] first safe = absurd first
  drop-safe k n reply z (t ∷ rest) first safe =
      let P : Small → Type 0 = λ t. Safe g z reply (t ∷ rest) → Safe g z reply (drop_two (t ∷ rest)) in
      (subst P (sym first) (drop-insert k n reply z rest)) safe

  module _ (f : Frame) (wired : Wired g f) (l : Linked g f) where
    abbrev pub Next : Frame → Plan → Type 0
    Next z p = Wired g z × Linked g z × SafePlan g z p

    pub step-next : (s : Small) (p : Plan) → Safe g f p.reply (s ∷ p.steps) → passes g f s ≡ true → Next (frame_step g f s) p
    step-next s p safe may = (wired-step g f wired l s, linked-step g f wired l s p.reply p.steps safe.0 may, safe.1 may)

    pub claim-step : (o q : ℕ) (p : Plan) → Safe g f p.reply (Claim o q ∷ p.steps) → (b : Bool) → passes g f (Claim o q) ≡ b → Next (record f { claims = cond b (slice_set f.claims o (Some q)) f.claims }) (cond b p (instead (answer.Failed error.InvalidParam) p))
    claim-step o q p safe true may = step-next (Claim o q) p safe may
    claim-step o q p safe false not = (wired, l, ((refl, tt), λ _. safe.0.0))

    pub listen-step : (k o n : ℕ) (p : Plan) → Safe g f p.reply (Listen k o n ∷ p.steps) → (b : Bool) → passes g f (Listen k o n) ≡ b → Next (record f { lists = cond b (frame_step g f (Listen k o n)).lists f.lists }) (cond b p (instead (answer.Listener listener_error.AlreadyExists) p))
    listen-step k o n p safe true may = step-next (Listen k o n) p safe may
    listen-step k o n p safe false not = (wired, l, ((refl, tt), λ _. safe.0.0))

    pub add-step : (k o n : ℕ) (p : Plan) → Safe g f p.reply (Add k o n ∷ p.steps) → (b : Bool) → Next (frame_step g f (Add k o n)) (cond b (record p { steps = drop_two p.steps }) p)
    add-step k o n p safe true = (let next = step-next (Add k o n) p safe refl in (next.0, next.1, drop-safe k n p.reply (frame_step g f (Add k o n)) p.steps safe.0.1 next.2))
    add-step k o n p safe false = step-next (Add k o n) p safe refl

  -- where the next request begins
  begun-safe : (f : Frame) → Wired g f → Linked g f → (rs : List Region) (c : Control) (steps : List Small) (requests : List Request) → c.plan.steps ≡ steps → c.requests ≡ requests → SafePlan g f c.plan → AllByRecursion (RequestFits g f.events) requests
      → SafePlan g f (begun_from g f rs c steps requests).plan × AllByRecursion (RequestFits g f.events) (begun_from g f rs c steps requests).requests
  begun-safe f wired l rs c [] [] is are safe fit = (safe, (let P : List Request → Type 0 = λ r. AllByRecursion (RequestFits g f.events) r in subst P (sym are) fit))
  begun-safe f wired l rs c [] (r ∷ more) is are safe fit =
      let P : List Small → Type 0 = λ s. Safe g f c.plan.reply s in
      ((begin-fine g f wired l (subst P is safe) rs c.session r fit.0).safe, fit.1)
  begun-safe f wired l rs c (s ∷ steps) requests is are safe fit = (safe, (let P : List Request → Type 0 = λ r. AllByRecursion (RequestFits g f.events) r in subst P (sym are) fit))

  pub begun-all : (f : Frame) → Wired g f → Linked g f → (rs : List Region) (c : Control) → SafePlan g f c.plan → AllByRecursion (RequestFits g f.events) c.requests
      → SafePlan g f (begun_from g f rs c c.plan.steps c.requests).plan × AllByRecursion (RequestFits g f.events) (begun_from g f rs c c.plan.steps c.requests).requests
  begun-all f wired l rs c safe fit = begun-safe f wired l rs c c.plan.steps c.requests refl refl safe fit
