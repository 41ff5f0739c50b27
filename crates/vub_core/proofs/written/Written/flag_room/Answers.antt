use Rattle.vub_core.proofs.Flags.{room_covered, room_next}
use Rattle.vub_core.proofs.written.Written.flag_room.Goals as goal

pub loop-segment-preserved : goal.loop-segment-preserved
loop-segment-preserved c all =
    let so = c.loop-segment.invariant all in
    let here = room_covered _ _ _ _ _ _ _ _ _ c.loop-segment-test.true so c.split.ensures.front in
    room_next _ _ _ _ _ _ _ _ _ _ _ c.loop-segment-test.true so c.split.ensures.front c.split.ensures.back (c.flag_range.ensures here)
