use Rattle.std.proofs.Common.{◌≡◌, ℕ, ◌<◌, ◌≤◌, false, length, IfSome}
use Rattle.vub_sparse.specs.Cells.{cell_at, is_hole}
use Rattle.vub_sparse.proofs.seek.next_hole.Given as goal

abbrev pub invariant-loop-place : goal.invariant-loop-place
invariant-loop-place g l =
    IfSome (g.F.SparseFile.cells l.file) (λ cs. (l.end ≡ length cs) × ((k : ℕ) → l.offset ≤ k → k < l.place → is_hole (cell_at cs k) ≡ false))
