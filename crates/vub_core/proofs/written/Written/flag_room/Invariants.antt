use Rattle.std.proofs.Common.{◌≡◌, true}
use Rattle.vub_queue.specs.Put.{room_covers}
use Rattle.vub_core.proofs.Flags.{RoomFlagged}
use Rattle.vub_core.proofs.written.Written.flag_room.Given as goal

abbrev pub invariant-loop-segment : goal.invariant-loop-segment
invariant-loop-segment l =
    room_covers l.memory.guest.regions l.segments l.reply ≡ true → RoomFlagged l.memory.guest.regions l.initial.self l.self l.segments l.reply l.segment-index l.rest
