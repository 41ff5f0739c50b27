use Rattle.std.proofs.Common.{◌≡◌, ◌++◌, ℕ}
use Rattle.std.specs.Cmp.Lexicographic.{slice_cmp}
use Rattle.std.specs.List.Sorted.{IsStrictlySortedBy}
use Rattle.std.specs.Map.{keys_of}
use Rattle.std.specs.Ordering.{nat_cmp}
use Rattle.std.specs.Prelude.{Vec}
use Rattle.std.specs.declared.alloc.Global.{Global}
use Rattle.vub_dir.proofs.names.indexed.Given as goal

abbrev pub invariant-loop-name : goal.invariant-loop-name
invariant-loop-name l = record {
  entries : l.nodes.entries ++ l.name-iterator ≡ l.fn.sorted.entries;
  rises : IsStrictlySortedBy (λ (a b : Vec ℕ Global). slice_cmp nat_cmp a.items b.items) (keys_of l.fn.sorted.entries);
}
