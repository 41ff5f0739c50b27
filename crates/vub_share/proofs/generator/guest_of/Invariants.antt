use Rattle.std.proofs.Common.{◌≡◌, ◌-◌, ◌++◌}
use Rattle.std.specs.List.{flat_map, range_with_len}
use Rattle.vub_share.specs.Generator.{published}
use Rattle.vub_share.proofs.generator.guest_of.Given as goal

abbrev pub invariant-loop-i : goal.invariant-loop-i
invariant-loop-i l =
    l.guest ++ flat_map published (range_with_len l.i (l.n - l.i)) ≡ flat_map published (range_with_len 0 l.n)
