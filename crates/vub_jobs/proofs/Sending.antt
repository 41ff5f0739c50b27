-- What a job of a daemon holds may cross to a thread: the books under their locks, the parts that threads share, a
-- thread's way to them, and the job. Each is said by itself, since a search over all at once is too deep.
use denote.RattleType.{RattleType}
use denote.Param.Send.{IsSend, IsSync, recorded_send, struct_send, sendable}
use denote.Struct.Declared.{shape}
use Rattle.std.proofs.Crossing
use Rattle.std.specs.contracts.alloc.Global
use Rattle.vub_mem.proofs.memory.GuestMemory.TheSendSync as of_memory
use Rattle.vub_log.proofs.shared.LogSeat.TheSendSync as of_log
use Rattle.vub_proto.specs.declared.service.Service
use Rattle.vub_locks.specs.contracts.ring_book.RingBook
use Rattle.vub_locks.specs.contracts.service_book.ServiceBook
use Rattle.vub_locks.specs.contracts.shared.LockedRing
use Rattle.vub_locks.specs.contracts.shared.SharedParts
use Rattle.vub_locks.specs.contracts.locked_parts.LockedParts
use Rattle.vub_daemon.specs.contracts.duties.DaemonJob
use Rattle.vub_daemon.specs.contracts.duties.Duty

pub book_send : IsSend RingBook.the_row
book_send = search (Crossing.crosses, sendable) depth 60 fits 20000

pub service_book_send : (V : RattleType) (g : Service.Ghosts V.Denot) → IsSend V → IsSend (ServiceBook.the_row V g)
service_book_send V g s = search (Crossing.crosses, sendable) depth 60 fits 20000

pub ring_send : IsSend LockedRing.the_row
ring_send = search (book_send, Crossing.crosses, sendable) depth 60 fits 20000

module _ (D V G B I : RattleType) (g : Service.Ghosts V.Denot) where
  pub shared_send : IsSend D → IsSend V → IsSend G → IsSend (SharedParts.the_row D V G B I g)
  shared_send d v t =
      search (ring_send, service_book_send, of_memory.the_send, of_log.the_send, Crossing.crosses, sendable) depth 60 fits 20000

  pub shared_sync : IsSend D → IsSend V → IsSync G → IsSync (SharedParts.the_row D V G B I g)
  shared_sync d v t =
      search (service_book_send, of_memory.the_send, of_log.the_send, Crossing.crosses, sendable) depth 60 fits 20000

  pub parts_send : (R : RattleType) → IsSend R → IsSend D → IsSend V → IsSend G → IsSync G
      → IsSend (LockedParts.the_field R D V G B I g).row
  parts_send R r d v t y = search (shared_send, shared_sync, Crossing.crosses, sendable) depth 60 fits 20000

  -- the same of a thread's way as a value by itself
  pub way_send : (R : RattleType) → IsSend R → IsSend D → IsSend V → IsSend G → IsSync G
      → IsSend (LockedParts.the_row R D V G B I g)
  way_send R r d v t y =
      let T = LockedParts.the_type R D V G B I g in recorded_send _ _ _ T.to_one (parts_send R r d v t y)

duty_send : (K C : RattleType) → IsSend K → IsSend (Duty.the_field K C).row
duty_send K C k = search (Crossing.crosses, sendable) depth 60 fits 20000

global_send : IsSend Global.the_field.row
global_send = search (Crossing.crosses, sendable) depth 20

pub job_send : (R D V G K B I C : RattleType) (g : Service.Ghosts V.Denot)
    → IsSend R → IsSend D → IsSend V → IsSend G → IsSync G → IsSend K → IsSend (DaemonJob.the_row R D V G K B I C g)
job_send R D V G K B I C g r d v t y k =
    let T = DaemonJob.the_type R D V G K B I C g in
    let parts = parts_send D V G B I g R r d v t y in
    recorded_send _ _ _ T.to_one (struct_send (shape T) (r, (global_send, (parts, (duty_send K C k, tt)))))
