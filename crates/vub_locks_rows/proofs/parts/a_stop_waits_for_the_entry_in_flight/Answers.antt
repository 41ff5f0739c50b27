use denote.Param.Send.{sendable}
use Rattle.std.proofs.Crossing
use Rattle.vub_jobs.proofs.Sending
use Rattle.vub_locks_rows.proofs.parts.a_stop_waits_for_the_entry_in_flight.Goals as goal

pub spawn-requires-send-F : goal.spawn-requires-send-F
spawn-requires-send-F g c κs = search (Sending.way_send, Sending.parts_send, Crossing.crosses, sendable) depth 60 fits 20000
