-- The control labels of a run are the plans' steps in order, plan by plan, where a plan changes only by a refusal, by
-- what the device told, and by an Add that finds its event there.
use Rattle.std.specs.Prelude.{◌≡◌, ℕ, ◌⊎◌, List, [], ◌∷◌, ◌++◌}
use Rattle.vub_mem.specs.declared.errors.LogError.{LogError}
use Rattle.vub_mem.specs.declared.errors.MemError.{MemError}
use Rattle.vub_mem.specs.declared.region.Region.{Region}
use Rattle.vub_proto.specs.declared.answer.Answer.TheVariants as answer
use Rattle.vub_proto.specs.declared.answer.Cause.TheVariants as cause
use Rattle.vub_proto.specs.declared.answer.ListenerError.TheVariants as listener_error
use Rattle.vub_proto.specs.declared.answer.VhostUserError.TheVariants as error
use Rattle.vub_proto.specs.declared.device_said.DeviceSaid.{DeviceSaid}
use Rattle.vub_model.specs.declared.party.Party.{Party}
use Rattle.vub_model.specs.declared.party.Party.TheVariants as party
use Rattle.vub_model.specs.declared.play.Play.{Play}
use Rattle.vub_model.specs.declared.play.Play.TheVariants as play
use Rattle.vub_proto.specs.declared.request.Request.{Request}
use Rattle.vub_model.specs.declared.session.Session.{Session}
use Rattle.vub_model.specs.declared.small.Small.{Small}
use Rattle.vub_model.specs.declared.small.Small.TheVariants.{Claim, Add, Listen, Unlisten, Info, Table, Log, Device}
use Rattle.vub_model.specs.Frame.{Frame}
use Rattle.vub_model.specs.Wiring.{Wiring}
use Rattle.vub_model.specs.Plans.{Plan, plan_of}
use Rattle.vub_model.specs.Control.{instead, told, drop_two, after_outcome}
use Rattle.vub_model.specs.RunOf.{party_of}

-- what may be left after a step
abbrev pub MayLeave : Small → Plan → Plan → Type 0
MayLeave (Claim object queue) rest next = (next ≡ rest) ⊎ (next ≡ instead (answer.Failed error.InvalidParam) rest)
MayLeave (Listen worker object token) rest next =
    (next ≡ rest) ⊎ (next ≡ instead (answer.Listener listener_error.AlreadyExists) rest)
MayLeave (Unlisten worker object above) rest next =
    (next ≡ rest) ⊎ (next ≡ instead (answer.Listener listener_error.NotFound) rest)
MayLeave (Add worker object token) rest next = (next ≡ rest) ⊎ (next ≡ record rest { steps = drop_two rest.steps })
MayLeave (Info queue desc avail used) rest next =
    (next ≡ rest) ⊎ (next ≡ told (answer.Failed error.BackendInternalError) rest)
MayLeave (Table change) rest next =
    (next ≡ rest) ⊎ ((e : MemError) × (next ≡ instead (answer.Failed (error.ReqHandlerError (cause.Memory e))) rest))
MayLeave (Log object offset size) rest next =
    (next ≡ rest) ⊎ ((e : LogError) × (next ≡ instead (answer.Failed (error.ReqHandlerError (cause.Log e))) rest))
MayLeave (Device call) rest next = (said : DeviceSaid) × (next ≡ after_outcome said rest)
MayLeave s rest next = next ≡ rest

-- these steps of the plan were played, one after another, and this is left
abbrev pub IsPlayed : List Small → Plan → Plan → Type 0
IsPlayed [] plan left = left ≡ plan
IsPlayed (s ∷ played) plan left =
    (rest : Plan) × (plan ≡ record rest { steps = s ∷ rest.steps }) ×
    ((next : Plan) × MayLeave s rest next × IsPlayed played next left)

abbrev pub control_of : Party → Play → List Small
control_of party.Control (play.Control s said) = s ∷ []
control_of p l = []

-- the small steps of a run
abbrev pub controls : List ℕ → List Play → List Small
controls [] plays = []
controls (turn ∷ turns) [] = []
controls (turn ∷ turns) (l ∷ plays) = control_of (party_of turn) l ++ controls turns plays

-- The plan at hand is played on, maybe to its end, and then that of the next request, fixed where it began.
abbrev pub InOrder : Wiring → Plan → List Request → List Small → Type 0
InOrder g plan [] played = (left : Plan) × IsPlayed played plan left
InOrder g plan (r ∷ requests) played =
    ((left : Plan) × IsPlayed played plan left)
    ⊎ ((first : List Small) × (more : List Small) × (f : Frame) × (regions : List Region) × (s : Session) ×
    (end : Plan) × (played ≡ first ++ more) × IsPlayed first plan end × (end.steps ≡ []) ×
    InOrder g (plan_of g f regions s r) requests more)
