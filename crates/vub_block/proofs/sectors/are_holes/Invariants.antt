use Rattle.std.proofs.Common.{◌≡◌, ◌-◌, take, drop}
use Rattle.std.specs.List.{list_all}
use Rattle.vub_sparse.specs.Cells.{is_hole}
use Rattle.vub_block.proofs.sectors.are_holes.Given as goal

abbrev pub invariant-loop-place : goal.invariant-loop-place
invariant-loop-place l =
    list_all is_hole (take (l.to - l.place) (drop l.place l.file.cells)) ≡ list_all is_hole (take (l.to - l.from) (drop l.from l.file.cells))
