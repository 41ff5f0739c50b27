-- Refusals of a host as error numbers of Linux (errno.h).
use Rattle.std.specs.Prelude.{ℤ, pos, Option, Some, None}
use Rattle.vub_event.specs.declared.error.HostError.{HostError}
use Rattle.vub_event.specs.declared.error.HostError.TheVariants as refusal

abbrev pub errno_of : HostError → Option ℤ
errno_of refusal.WouldBlock = Some (pos 11)
errno_of refusal.EINVAL = Some (pos 22)
errno_of refusal.EEXIST = Some (pos 17)
errno_of refusal.ENOENT = Some (pos 2)
errno_of refusal.EBADF = Some (pos 9)
errno_of refusal.ENOBUFS = Some (pos 105)
errno_of refusal.Failed = None
errno_of refusal.Held = None
errno_of refusal.OutOfMemory = Some (pos 12)
