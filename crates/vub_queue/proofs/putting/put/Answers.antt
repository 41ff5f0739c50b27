use Rattle.std.proofs.Common.{sym, ◌∙◌}
use Rattle.vub_queue.proofs.putting.put.Goals as goal
use Rattle.vub_queue.proofs.Puts.{event_stays}

pub is_wanted-wanted-requires : goal.is_wanted-wanted-requires
is_wanted-wanted-requires g c =
    event_stays _ _ _ _ c.write_all.ensures.regions c.step_used.ensures (sym c.used_event_is_covered.ensures ∙ c.if-not-used_event_is_covered.false)
