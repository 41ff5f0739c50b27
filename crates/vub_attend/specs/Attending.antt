-- What a control thread did: the requests that it took of its link, in order, each with what it came to, and what each
-- left of the session, of what is shared and of the device.
use Rattle.std.specs.Prelude.{◌≡◌, ◌⊎◌, ℕ, true, false, List, [], ◌∷◌, ◌++◌, map, Option, Some, None}
use Rattle.std.specs.Prelude.{Result, Ok, Err, IsOk}
use Rattle.std.specs.List.{AllByRecursion}
use Rattle.std.specs.Option.{ForSome}
use Rattle.vub_base.specs.Told.{Told}
use Rattle.vub_proto.specs.declared.answer.Answer.{Answer}
use Rattle.vub_proto.specs.declared.answer.Answer.TheVariants as answer
use Rattle.vub_proto.specs.declared.answer.VhostUserError.{VhostUserError}
use Rattle.vub_proto.specs.declared.answer.VhostUserError.TheVariants as error
use Rattle.vub_proto.specs.declared.request.Request.{Request}
use Rattle.vub_model.specs.DeviceCalls.{Telling}
use Rattle.vub_model.specs.Shared.{Shared}
use Rattle.vub_model.specs.Wiring.{Wiring}
use Rattle.vub_vring.specs.PartsState.{PartsState, Lasts, IsUntouched}
use Rattle.vub_plan.specs.Halves.{Begun}
use Rattle.vub_handler.specs.declared.played.Progress.TheVariants as progress
use Rattle.vub_handler.specs.Player.{Player}
use Rattle.vub_handler.specs.Playing.{CameTo, ComesNearer}
use Rattle.vub_requests.specs.declared.unanswered.Unanswered.{Unanswered}
use Rattle.vub_requests.specs.declared.unanswered.Unanswered.TheVariants as unanswered
use Rattle.vub_requests.specs.Handling.{HandledBy}
use Rattle.vub_attend.specs.Links.{Talk}
use Rattle.vub_attend.specs.Naming.{has_objects, has_worker}

-- how far a request came by a step: no answer yet, since the step was played or has to wait; or its answer
abbrev pub CameBy : {V D : Type 0} → Telling D → Option Answer → Player → Player → Begun → Begun → PartsState V D
    → PartsState V D → Type 0
CameBy t None before now was left old new =
    CameTo t progress.Going before now was left old new ⊎ CameTo t progress.Waits before now was left old new
CameBy t (Some a) before now was left old new =
    CameTo t (progress.Done a) before now was left old new × ComesNearer (progress.Done a) was left

-- what a request names is there, as far as it is told
pub record NamesThere {V D : Type 0} (g : Wiring) (r : Request) (old : PartsState V D) : Type 0 where
  pub worker : has_worker g r ≡ true
  pub objects : ForSome old.shared (λ h. has_objects h r ≡ true)

-- what a request names is not there, as far as it is told: it is refused, and nothing is done
pub record IsRefused {V D : Type 0} (r : Request) (before now : Player) (old new : PartsState V D)
    (result : Result Answer Unanswered) : Type 0 where
  pub missing : (has_worker before.wiring r ≡ false) ⊎ ForSome old.shared (λ h. has_objects h r ≡ false)
  pub answer : result ≡ Ok (answer.Failed error.InvalidParam)
  pub player : now ≡ before
  pub parts : IsUntouched old new

-- a request was played to its end, or until memory was refused; or it was refused since it names what is not there
abbrev pub RepliesBy : {V D : Type 0} → Telling D → Request → Player → Player → PartsState V D → PartsState V D
    → Result Answer Unanswered → Type 0
RepliesBy t r before now old new result =
    (NamesThere before.wiring r old × HandledBy t r before now old new result) ⊎ IsRefused r before now old new result

-- of what parts tell of themselves, what requests change
pub record Moment (V D : Type 0) : Type 0 where
  pub shared : Option (Shared V)
  pub device : Option D
  pub faults : ℕ
  pub refusals : ℕ

abbrev pub moment_of : {V D : Type 0} → PartsState V D → Moment V D
moment_of p = record { shared = p.shared; device = p.device; faults = p.faults; refusals = p.refusals }

-- the parts as they were at a later moment
abbrev pub parts_at : {V D : Type 0} → PartsState V D → Moment V D → PartsState V D
parts_at p m = record p { shared = m.shared; device = m.device; faults = m.faults; refusals = m.refusals }

-- a request that was taken, what it came to, and the session and the parts after it
pub record Attended (V D : Type 0) : Type 0 where
  pub request : Request
  pub result : Result Answer Unanswered
  pub player : Player
  pub after : Moment V D

-- the requests lead from one session and one moment to another: each was replied to, one after the other
abbrev pub ReplyOn : {V D : Type 0} → Telling D → PartsState V D → List (Attended V D) → Player → Player → Moment V D
    → Moment V D → Type 0
ReplyOn t p [] before now old new = (now ≡ before) × (new ≡ old)
ReplyOn t p (x ∷ xs) before now old new =
    RepliesBy t x.request before x.player (parts_at p old) (parts_at p x.after) x.result
    × ReplyOn t p xs x.player now x.after new

abbrev pub IsAnswered : {V D : Type 0} → Attended V D → Type 0
IsAnswered x = IsOk x.result

abbrev pub answer_list : Result Answer Unanswered → List Answer
answer_list (Ok a) = a ∷ []
answer_list (Err e) = []

-- their answers, in order
abbrev pub answers_of : {V D : Type 0} → List (Attended V D) → List Answer
answers_of [] = []
answers_of (x ∷ xs) = answer_list x.result ++ answers_of xs

abbrev pub requests_of : {V D : Type 0} → List (Attended V D) → List Request
requests_of xs = map (λ x. x.request) xs

-- where the link tells its talk, these requests were taken of it, and it was given these answers
abbrev pub Talks : Option Talk → Option Talk → List Request → List Answer → Type 0
Talks talk after requests answers =
    Told talk after (λ a b. (a.left ≡ requests ++ b.left) × (b.given ≡ a.given ++ answers))

-- a request lacks its answer: memory was refused before it had one, and that is how the thread ended; or the link
-- refused to take it
abbrev pub LacksAnswer : VhostUserError → Result Answer Unanswered → Type 0
LacksAnswer e (Ok a) = Unit {0}
LacksAnswer e (Err unanswered.OutOfMemory) = e ≡ error.OutOfMemory
LacksAnswer e (Err unanswered.Waits) = ⊥

-- the error, if there is one
abbrev pub err_in : {T : Type 0} → Result T VhostUserError → Option VhostUserError
err_in (Ok x) = None
err_in (Err e) = Some e

-- only the last request that was taken may lack its answer
abbrev pub LacksLast : {V D : Type 0} → Option VhostUserError → List (Attended V D) → Type 0
LacksLast None last = last ≡ []
LacksLast (Some e) [] = Unit {0}
LacksLast (Some e) (x ∷ []) = LacksAnswer e x.result
LacksLast (Some e) (x ∷ (y ∷ xs)) = ⊥

-- Requests were taken of the link, one after the other, and nothing else was done: each was replied to, and its answer
-- was given to the link before the next was taken. The thread goes on, or has ended with an error.
pub record Attends {V D : Type 0} (t : Telling D) (ended : Option VhostUserError) (before now : Player)
    (old new : PartsState V D) (talk after : Option Talk) : Type 0 where
  -- those whose answers were given
  pub done : List (Attended V D)
  -- the one that lacks its answer, if there is one
  pub last : List (Attended V D)
  pub replies : ReplyOn t old (done ++ last) before now (moment_of old) (moment_of new)
  pub answered : AllByRecursion IsAnswered done
  pub lacks : LacksLast ended last
  pub talks : Talks talk after (requests_of (done ++ last)) (answers_of done)
  pub wiring : now.wiring ≡ before.wiring
  pub lasts : Lasts old new
