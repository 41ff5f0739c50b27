use Rattle.std.proofs.Common.{◌≡◌, ◌++◌, ◌+◌, ◌<◌, ◌^◌, map, length, ℕ}
use Rattle.std.specs.Prelude.{Vec}
use Rattle.std.specs.declared.alloc.Global.{Global}
use Rattle.vub_dir.specs.Directory.{dirents}
use Rattle.vub_dir.proofs.NameOrder.{entry_of}
use Rattle.vub_dir.proofs.listing.put_entries.Given as goal

abbrev pub invariant-loop-name : goal.invariant-loop-name
invariant-loop-name l = record {
  bytes : l.out.items ++ dirents l.tree l.place l.left (map (entry_of (λ (k : Vec ℕ Global). k.items)) l.name-iterator)
      ≡ l.fn.out.items ++ dirents l.tree l.fn.place l.fn.size (map (entry_of (λ (k : Vec ℕ Global). k.items)) l.fn.entries);
  place : l.place + length l.name-iterator < 2 ^ 64;
  left : l.left < 2 ^ 32;
}
