use Rattle.vub_mem.proofs.laws.marks_are_of_met_pages.Goals as goal
use Rattle.vub_mem.proofs.Pages.{all_paged, marks_met}

pub returns : goal.returns
returns g c = marks_met c.args.memory.now.guest.regions c.regions-regions.ensures.apart (all_paged c.args.memory.now.guest.regions c.regions-regions.ensures.bounded)
