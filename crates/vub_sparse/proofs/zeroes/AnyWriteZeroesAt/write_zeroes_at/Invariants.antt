use Rattle.std.proofs.Common.{◌≡◌, ◌-◌, ◌≤◌}
use Rattle.vub_base.specs.Told.{Told}
use Rattle.vub_sparse.specs.Cells.{zeroed}
use Rattle.vub_sparse.specs.Zeroing.{Zeroes}
use Rattle.vub_sparse.proofs.zeroes.AnyWriteZeroesAt.write_zeroes_at.Given as goal

abbrev pub invariant-loop-done : goal.invariant-loop-done
invariant-loop-done g l = record {
  within : l.done ≤ l.length;
  cells : Told (g.F.SparseFile.cells l.initial.self) (g.F.SparseFile.cells l.self) (λ old new. new ≡ zeroed l.offset l.done old);
  cursor : g.F.SparseFile.cursor l.self ≡ g.F.SparseFile.cursor l.initial.self;
  zeroes : Zeroes g.F.SparseFile.write_gives l.offset l.initial.self l.done l.self;
  later : g.F.SparseFile.fault_count l.initial.self ≤ g.F.SparseFile.fault_count l.self;
}

abbrev pub decreases-loop-done : goal.decreases-loop-done
decreases-loop-done g l = l.length - l.done
