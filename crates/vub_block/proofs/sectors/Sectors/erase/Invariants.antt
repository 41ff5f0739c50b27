use Rattle.std.proofs.Common.{◌≡◌, false, drop, length}
use Rattle.std.specs.List.{list_any}
use Rattle.vub_block.specs.Answer.{erased, is_past}
use Rattle.vub_block.proofs.sectors.Sectors.erase.Given as goal

abbrev pub invariant-loop-piece : goal.invariant-loop-piece
invariant-loop-piece l = record {
  within : list_any (λ p. is_past (length l.self) p.first p.count) (drop l.piece-index l.pieces) ≡ false;
  done : erased l.erase (drop l.piece-index l.pieces) l.self ≡ erased l.erase l.pieces l.fn.self;
}
