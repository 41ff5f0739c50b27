use Rattle.std.proofs.Common.{rules}
use Rattle.std.proofs.lemmas.List.Sorted.{answers_always}
use Rattle.vub_locks.specs.Comparing.{serial_of}
use Rattle.vub_locks.proofs.comparing.ordered.Goals as goal

pub returns : goal.returns
returns c =
    let sorted = c.in_ok-sort_by_key.ensures in
    record {
      same = sorted.permutation;
      ascends = sorted.sorted serial_of (answers_always _ _ _ (λ f a r g h. search rules));
      stable = sorted.stable serial_of (answers_always _ _ _ (λ f a r g h. search rules));
    }
