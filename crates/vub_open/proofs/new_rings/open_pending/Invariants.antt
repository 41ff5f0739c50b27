use Rattle.std.proofs.Common.{◌≡◌, [], map, take}
use Rattle.vub_open.proofs.new_rings.open_pending.Given as goal

abbrev pub invariant-loop-mask : goal.invariant-loop-mask
invariant-loop-mask l = l.sets.items ≡ map (λ mask. []) (take l._mask-index l.masks)
