use Rattle.std.proofs.Common.{◌∙◌, refl}
use Rattle.vub_ring.proofs.Words.{none-of}
use Rattle.vub_ring.proofs.pending.Pending.new.Goals as goal

pub returns : goal.returns
returns c = none-of 0 _ refl ∙ c.new.ensures.items
