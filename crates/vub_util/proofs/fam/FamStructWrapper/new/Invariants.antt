use Rattle.std.proofs.Common.{◌≡◌, length, replicate}
use Rattle.vub_util.proofs.fam.FamStructWrapper.new.Given as goal

abbrev pub invariant-loop-place : goal.invariant-loop-place
invariant-loop-place g l =
    (l.entries.items ≡ replicate l._place l.zero) × (length l.entries.items ≡ l._place)
