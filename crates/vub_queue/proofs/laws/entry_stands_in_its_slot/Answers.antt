use Rattle.vub_queue.proofs.laws.entry_stands_in_its_slot.Goals as goal
use Rattle.vub_queue.proofs.Numbers.{slot_of_number}

pub returns : goal.returns
returns c = slot_of_number
