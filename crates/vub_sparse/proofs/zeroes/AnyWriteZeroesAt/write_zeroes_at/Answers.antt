use Rattle.std.proofs.Common.{rules, arith}
use Rattle.vub_sparse.specs.Zeroing.{none, more}
use Rattle.vub_sparse.proofs.CellLemmas.{told_zeroes}
use Rattle.vub_sparse.proofs.zeroes.AnyWriteZeroesAt.write_zeroes_at.Goals as goal

pub loop-done-init : goal.loop-done-init
loop-done-init g c =
    record {
      within = omega arith;
      cells = search rules;
      cursor = search rules;
      zeroes = none;
      later = omega arith;
    }

pub loop-done-preserved : goal.loop-done-preserved
loop-done-preserved g c =
    record {
      within = omega (arith, c.in_ok-count.ensures.bound);
      cells = told_zeroes (g.F.SparseFile.cells c.args.self.now) (g.F.SparseFile.cells c.loop-done.self) (g.F.SparseFile.cells c.write_piece.new.file) c.args.offset c.loop-done.done c.in_ok-count.count
          c.loop-done.invariant.cells c.in_ok-count.ensures.ok;
      cursor = search rules;
      zeroes = more c.loop-done.invariant.zeroes (omega arith) c.in_ok-count.ensures.gives;
      later = omega (arith, c.in_ok-count.ensures.faults.later, c.loop-done.invariant.later);
    }
