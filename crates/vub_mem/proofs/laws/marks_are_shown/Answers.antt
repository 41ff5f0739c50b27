use Rattle.vub_mem.proofs.laws.marks_are_shown.Goals as goal
use Rattle.vub_mem.proofs.Pages.{shown}

pub returns : goal.returns
returns g c = shown g.L.DirtyLog.byte_len g.L.DirtyLog.marks
