-- What the refusal of a call of the host means: neither a fault nor want of memory is said, so it is the one that is due.
use Rattle.std.proofs.Common.{◌≡◌, Option, Some}
use Rattle.vub_event.specs.declared.error.HostError.{HostError}
use Rattle.vub_event.specs.declared.error.HostError.TheVariants.{WouldBlock, EINVAL, EEXIST, ENOENT, EBADF, ENOBUFS, Failed, Held, OutOfMemory}
use Rattle.vub_event.specs.Errors.{IsDue}
use Rattle.vub_vring.specs.declared.ops.HostSaid.TheVariants as said
use Rattle.vub_vring.specs.Calls.{IsSaid}

pub said-due : (due : Option HostError) (e : HostError) → IsSaid (said.Refused e) → IsDue due e → due ≡ Some e
said-due due Failed said is = absurd said
said-due due OutOfMemory said is = absurd said
said-due due WouldBlock said is = is
said-due due EINVAL said is = is
said-due due EEXIST said is = is
said-due due ENOENT said is = is
said-due due EBADF said is = is
said-due due ENOBUFS said is = is
said-due due Held said is = is
