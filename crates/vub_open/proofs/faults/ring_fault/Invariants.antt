use Rattle.std.proofs.Common.{◌≡◌, [], drop, take}
use Rattle.vub_model.specs.ValidSetup.{ring_fault}
use Rattle.vub_open.proofs.faults.ring_fault.Given as goal

-- the rings before this one pass
abbrev pub invariant-loop-index : goal.invariant-loop-index
invariant-loop-index l =
    ring_fault l.constants l.objects (take l.index l.rings) (drop l.index l.rings) ≡ ring_fault l.constants l.objects [] l.rings
