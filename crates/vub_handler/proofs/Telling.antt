-- What is told of a call, and rows that hold or that a fault of the host takes the place of.
use Rattle.std.proofs.Common.{◌≡◌, Option, Some, None, inl}
use Rattle.vub_base.specs.Told.{Told}
use Rattle.vub_event.specs.declared.error.HostError.{HostError}
use Rattle.vub_event.specs.declared.error.HostError.TheVariants.{WouldBlock, EINVAL, EEXIST, ENOENT, EBADF, ENOBUFS, Failed, Held, OutOfMemory}
use Rattle.vub_event.specs.Errors.{IsDue}
use Rattle.vub_vring.specs.declared.ops.HostSaid.TheVariants as said
use Rattle.vub_vring.specs.Calls.{IsSaid}
use Rattle.vub_loop.specs.Faults.{RowOrFault}

-- what follows from what is told holds where it is told
pub told-map : {A : Type 0} (a b : Option A) (P Q : A → A → Type 0) → ((x y : A) → P x y → Q x y) → Told a b P → Told a b Q
told-map None b P Q so told = tt
told-map (Some x) None P Q so told = told
told-map (Some x) (Some y) P Q so told = so x y told

pub by-row : {Row : Type 0} (Sound Rise AfterFault : Type 0) → Row → RowOrFault Sound Rise Row AfterFault
by-row Sound Rise AfterFault row = record { row = inl row; sound = λ sound. row }

-- a refusal that is said is the one that is due
pub said-due : (due : Option HostError) (e : HostError) → IsSaid (said.Refused e) → IsDue due e → due ≡ Some e
said-due due Failed said is = absurd said
said-due due OutOfMemory said is = absurd said
said-due due WouldBlock said is = is
said-due due EINVAL said is = is
said-due due EEXIST said is = is
said-due due ENOENT said is = is
said-due due EBADF said is = is
said-due due ENOBUFS said is = is
said-due due Held said is = is
