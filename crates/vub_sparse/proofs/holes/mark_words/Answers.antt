use Rattle.std.proofs.Common.{arith, ◌≡◌, ℕ, ◌<◌, nat_eq}
use Rattle.std.specs.Int.{bit_at}
use Rattle.vub_sparse.proofs.BitLemmas.{marked_word, all_holes, all_bytes}
use Rattle.vub_sparse.proofs.holes.mark_words.Goals as goal
use Rattle.vub_sparse.proofs.holes.mark_words.Goals.{then-hole, else-hole}

pub loop-index-preserved : goal.loop-index-preserved
loop-index-preserved c =
    let word : (i : ℕ) → i < 64 → nat_eq (bit_at c.if-hole.word i) 1 ≡ c.args.hole =
    elim c.if-hole.branch [
      | then-hole w ↦ λ i h. rw (w.word-is, w.if-hole.true) (all_holes i h)
      | else-hole w ↦ λ i h. rw (w.word-is, w.if-hole.false) (all_bytes i h)
    ] in
    marked_word c.args.words.now c.loop-index.words c.args.from c.loop-index.index c.if-hole.word c.args.hole
    (omega arith) (omega arith) word c.loop-index.invariant
