-- How the threads of a daemon end.
use Rattle.std.specs.Prelude.{Bool, true, false}
use Rattle.vub_proto.specs.declared.answer.VhostUserError.{VhostUserError}
use Rattle.vub_proto.specs.declared.answer.VhostUserError.TheVariants as end
use Rattle.vub_daemon.specs.declared.duties.DaemonEnd.{DaemonEnd}
use Rattle.vub_daemon.specs.declared.duties.DaemonEnd.TheVariants as ended
use Rattle.vub_daemon.specs.declared.duties.Duty.{Duty}
use Rattle.vub_daemon.specs.declared.duties.Duty.TheVariants as duty

-- an error with which a control thread ends: one with which a link may end, or want of memory
abbrev pub is_link_end : VhostUserError → Bool
is_link_end end.Disconnected = true
is_link_end end.PartialMessage = true
is_link_end end.SocketBroken = true
is_link_end end.InvalidMessage = true
is_link_end end.OutOfMemory = true
is_link_end e = false

abbrev pub is_worker_end : DaemonEnd → Bool
is_worker_end (ended.Worker w) = true
is_worker_end (ended.Control e) = false

abbrev pub is_control_end : DaemonEnd → Bool
is_control_end (ended.Worker w) = false
is_control_end (ended.Control e) = is_link_end e

-- a worker ends as one, and a control thread with an error of its link or want of memory
abbrev pub ends_as : {K C : Type 0} → Duty K C → DaemonEnd → Bool
ends_as (duty.Work h) o = is_worker_end o
ends_as (duty.Control c) o = is_control_end o
