-- The control labels of every run are the plans' steps in order.
use Rattle.std.proofs.Common.{◌≡◌, ℕ, Bool, true, false, cond, ◌⊎◌, inl, inr, List, [], ◌∷◌, ◌++◌, Option, Some, None, refl, sym, ap, ◌∙◌, subst}
use Rattle.vub_mem.specs.declared.errors.LogError.{LogError}
use Rattle.vub_mem.specs.declared.errors.MemError.{MemError}
use Rattle.vub_mem.specs.declared.region.Region.{Region}
use Rattle.vub_proto.specs.declared.answer.Answer.TheVariants as answer
use Rattle.vub_proto.specs.declared.answer.Cause.TheVariants as cause
use Rattle.vub_proto.specs.declared.answer.ListenerError.TheVariants as listener_error
use Rattle.vub_proto.specs.declared.answer.VhostUserError.TheVariants as error
use Rattle.vub_proto.specs.declared.device_said.DeviceSaid.{DeviceSaid}
use Rattle.vub_model.specs.declared.party.Party.{Party}
use Rattle.vub_model.specs.declared.party.Party.TheVariants as party
use Rattle.vub_model.specs.declared.play.Play.{Play}
use Rattle.vub_model.specs.declared.play.Play.TheVariants as play
use Rattle.vub_proto.specs.declared.request.Request.{Request}
use Rattle.vub_model.specs.declared.setup.Guest.{Guest}
use Rattle.vub_model.specs.declared.small.Small.{Small}
use Rattle.vub_model.specs.declared.small.Small.TheVariants.{Claim, Release, Add, Delete, Listen, Unlisten, Bell, Remove, Insert, Set, Info, Table, Log, Device, Answer as Answering}
use Rattle.vub_model.specs.Frame.{Frame, frame_of}
use Rattle.vub_model.specs.Shared.{Shared}
use Rattle.vub_model.specs.Wiring.{Wiring, opened_at}
use Rattle.vub_model.specs.Plans.{Plan}
use Rattle.vub_model.specs.Control.{Control, instead, told, drop_two, tail_of, after_refusal, after_log_refusal, log_refusal, can_claim, can_add, can_listen, can_unlisten, used_index_covers, table_refusal, rest_after, begun_from, played, small_after, MayControl}
use Rattle.vub_model.specs.Service.{Meaning}
use Rattle.vub_model.specs.World.{World, May, after, after_guest, after_control}
use Rattle.vub_model.specs.RunOf.{party_of, IsRun}
use Rattle.vub_model.specs.Order.{MayLeave, control_of, controls, InOrder}
use Rattle.vub_model.proofs.Turns.{turn-cases}

one-of : (b : Bool) (p q : Plan) → (cond b p q ≡ p) ⊎ (cond b p q ≡ q)
one-of true p q = inl refl
one-of false p q = inr refl

may-leave : {V : Type 0} (g : Wiring) (h : Shared V) (s : Small) (said : DeviceSaid) (p : Plan) → MayLeave s p (rest_after g h s said p)
may-leave g h (Claim o q) said p = one-of (can_claim h.table o q) p (instead (answer.Failed error.InvalidParam) p)
may-leave g h (Listen k o n) said p = one-of (can_listen h.table (opened_at g k).list o) p (instead (answer.Listener listener_error.AlreadyExists) p)
may-leave g h (Unlisten k o a) said p = one-of (can_unlisten h.table (opened_at g k).list o a) p (instead (answer.Listener listener_error.NotFound) p)
may-leave g h (Add k o n) said p = one-of (can_add h.table (opened_at g k).list o) p (record p { steps = drop_two p.steps })
may-leave g h (Info q desc avail used) said p = one-of (used_index_covers h.guest used) p (told (answer.Failed error.BackendInternalError) p)
may-leave g h (Table change) said p = refused (table_refusal h.guest change) where
  refused : (e : Option MemError) → (after_refusal e p ≡ p) ⊎ ((x : MemError) × (after_refusal e p ≡ instead (answer.Failed (error.ReqHandlerError (cause.Memory x))) p))
  refused None = inl refl
  refused (Some e) = inr (e, refl)
may-leave g h (Device call) said p = (said, refl)
may-leave g h (Release o) said p = refl
may-leave g h (Delete k o) said p = refl
may-leave g h (Bell o) said p = refl
may-leave g h (Remove k n) said p = refl
may-leave g h (Insert k n) said p = refl
may-leave g h (Set q o) said p = refl
may-leave g h (Log o offset size) said p = refused (log_refusal g h o offset size) where
  refused : (e : Option LogError) → (after_log_refusal e p ≡ p) ⊎ ((x : LogError) × (after_log_refusal e p ≡ instead (answer.Failed (error.ReqHandlerError (cause.Log x))) p))
  refused None = inl refl
  refused (Some e) = inr (e, refl)
may-leave g h Answering said p = refl

none-played : (g : Wiring) (plan : Plan) (requests : List Request) → InOrder g plan requests []
none-played g plan [] = (plan, refl)
none-played g plan (r ∷ requests) = inl (plan, refl)

-- a step before what is in order
one-more : (g : Wiring) (f : Frame) (rs : List Region) (c : Control) (s : Small) (rest plan : Plan) (steps : List Small) (requests : List Request) (labels : List Small) → c.plan.steps ≡ steps → c.requests ≡ requests → plan ≡ record rest { steps = s ∷ rest.steps } → MayLeave s rest c.plan
    → InOrder g (begun_from g f rs c steps requests).plan (begun_from g f rs c steps requests).requests labels → InOrder g plan requests (s ∷ labels)
one-more g f rs c s rest plan [] [] labels is are head leave order =
    let P : List Request → Type 0 = λ r. InOrder g c.plan r labels in
    let here = subst P are order in
    (here.0, (rest, head, (c.plan, leave, here.1)))
one-more g f rs c s rest plan [] (r ∷ more) labels is are head leave order = inr (s ∷ [], labels, f, rs, c.session, c.plan, refl, (rest, head, (c.plan, leave, refl)), is, order)
one-more g f rs c s rest plan (t ∷ next) [] labels is are head leave order =
    let P : List Request → Type 0 = λ r. InOrder g c.plan r labels in
    let here = subst P are order in
    (here.0, (rest, head, (c.plan, leave, here.1)))
one-more g f rs c s rest plan (t ∷ next) (r ∷ more) labels is are head leave order = by (let P : List Request → Type 0 = λ r. InOrder g c.plan r labels in subst P are order) where
  by : InOrder g c.plan (r ∷ more) labels → InOrder g plan (r ∷ more) (s ∷ labels)
  by (inl here) = inl (here.0, (rest, head, (c.plan, leave, here.1)))
  by (inr here) = inr (s ∷ here.0, here.1, here.2, here.3, here.4, here.5, ap (λ l. s ∷ l) here.6, (rest, head, (c.plan, leave, here.7)), here.8, here.9)

module _ {V : Type 0} (m : Meaning V) (w : World V) (labels : List Small) where
  abbrev Ordered : World V → List Small → Type 0
  Ordered z ls = InOrder z.wiring z.control.plan z.control.requests ls

  guest-order : (actions : List Guest) → Ordered (after_guest w actions) labels → Ordered w labels
  guest-order [] order = order
  guest-order (a ∷ actions) order = order

  control-order : (s : Small) (said : DeviceSaid) (steps : List Small) → w.control.plan.steps ≡ steps → MayControl w.shared steps s said → Ordered (after_control w s said) labels → Ordered w (s ∷ labels)
  control-order s said [] is may order = absurd may
  control-order s said (t ∷ rest) is may order =
      let left : Plan = record w.control.plan { steps = tail_of w.control.plan.steps } in
      let head : w.control.plan ≡ record left { steps = s ∷ left.steps } =
      ap (λ steps. record w.control.plan { steps = steps }) (is ∙ (ap (λ x. x ∷ rest) (sym may.0) ∙ ap (λ l. s ∷ l) (sym (ap tail_of is)))) in
      let c = played w.wiring w.shared w.control s said in
      one-more w.wiring (frame_of (small_after w.wiring w.shared s)) (small_after w.wiring w.shared s).guest.regions c s left w.control.plan c.plan.steps w.control.requests labels refl refl head (may-leave w.wiring w.shared s said left) order

  step-order : (p : Party) (l : Play) → May w p l → Ordered (after m w p l) labels → Ordered w (control_of p l ++ labels)
  step-order party.Guest play.Guest may order = guest-order w.guest order
  step-order party.Control (play.Control s said) may order = control-order s said w.control.plan.steps refl may order
  step-order (party.Worker k) l may order = order
  step-order p l may order = absurd may

  pass-order : (p : Party) → Ordered w labels → Ordered w (control_of p play.Pass ++ labels)
  pass-order party.Guest order = order
  pass-order party.Control order = order
  pass-order (party.Worker k) order = order

pub in-order : {V : Type 0} (m : Meaning V) (turns : List ℕ) (plays : List Play) (w z : World V) → IsRun m turns plays w z → InOrder w.wiring w.control.plan w.control.requests (controls turns plays)
in-order {V} m [] plays w z run = none-played w.wiring w.control.plan w.control.requests
in-order {V} m (turn ∷ turns) [] w z run = none-played w.wiring w.control.plan w.control.requests
in-order {V} m (turn ∷ turns) (l ∷ plays) w z run =
    let p = party_of turn in
    let rest = in-order m turns plays run.0 z run.2 in
    let O : World V → Type 0 = λ x. InOrder x.wiring x.control.plan x.control.requests (controls turns plays) in
    turn-cases m w p run.0 (λ l. InOrder w.wiring w.control.plan w.control.requests (control_of p l ++ controls turns plays))
    (λ same. pass-order m w (controls turns plays) p (subst O same rest))
    (λ l may is. step-order m w (controls turns plays) p l may (subst O is rest))
    l run.1
