use Rattle.vub_mem.proofs.laws.every_met_page_has_a_mark.Goals as goal
use Rattle.vub_mem.proofs.Pages.{all_paged, met_page}

pub returns : goal.returns
returns g c = met_page c.args.memory.now.guest.regions c.regions-regions.ensures.apart (all_paged c.args.memory.now.guest.regions c.regions-regions.ensures.bounded)
