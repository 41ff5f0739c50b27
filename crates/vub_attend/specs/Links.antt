-- What a link says and leaves, where it tells its talk: the requests that are left, and the answers that it was given.
use Rattle.std.specs.Prelude.{◌≡◌, ℕ, Bool, List, [], ◌∷◌, ◌++◌, Option, Result, Ok, Err}
use Rattle.vub_base.specs.Causes.{Rose}
use Rattle.vub_base.specs.Told.{Told}
use Rattle.vub_proto.specs.declared.answer.Answer.{Answer}
use Rattle.vub_proto.specs.declared.answer.VhostUserError.{VhostUserError}
use Rattle.vub_proto.specs.declared.answer.VhostUserError.TheVariants as error
use Rattle.vub_proto.specs.declared.request.Request.{Request}

pub record Talk : Type 0 where
  -- the requests that are left, in order
  pub left : List Request
  -- the answers that were given, in order
  pub given : List Answer

-- `next`: the first request that is left is given and taken off; a refused call leaves the talk
abbrev pub GivesNext : {E : Type 0} → Option Talk → Option Talk → Result Request E → Type 0
GivesNext old new (Ok r) = Told old new (λ a b. (a.left ≡ r ∷ b.left) × (b.given ≡ a.given))
GivesNext old new (Err e) = new ≡ old

-- `answer`: the answer is the last that was given; a refused call leaves the talk
abbrev pub TakesAnswer : {T E : Type 0} → Answer → Option Talk → Option Talk → Result T E → Type 0
TakesAnswer answer old new (Ok t) = Told old new (λ a b. (b.given ≡ a.given ++ answer ∷ []) × (b.left ≡ a.left))
TakesAnswer answer old new (Err e) = new ≡ old

-- An error of a link: it has ended, which comes only where its count of faults rose; or memory was refused. A link does
-- not refuse a request.
abbrev pub IsLinkError : ℕ → ℕ → VhostUserError → Type 0
IsLinkError before now error.Disconnected = Rose before now
IsLinkError before now error.PartialMessage = Rose before now
IsLinkError before now error.SocketBroken = Rose before now
IsLinkError before now error.InvalidMessage = Rose before now
IsLinkError before now error.OutOfMemory = Unit {0}
IsLinkError before now e = ⊥

-- an error with which a link may end
abbrev pub IsEnding : VhostUserError → Type 0
IsEnding error.Disconnected = Unit {0}
IsEnding error.PartialMessage = Unit {0}
IsEnding error.SocketBroken = Unit {0}
IsEnding error.InvalidMessage = Unit {0}
IsEnding e = ⊥

-- a link in memory
pub record MemTalk : Type 0 where
  pub talk : Talk
  -- the error with which it ends
  pub ending : VhostUserError
  -- it can be opened
  pub opens : Bool
  -- how many of its calls had a fault
  pub faults : ℕ
