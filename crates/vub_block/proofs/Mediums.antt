-- A file of which no call fails or writes nothing.
use Rattle.std.proofs.Common.{◌≡◌, ℕ, ◌+◌, ◌*◌, ◌/◌, ◌≤◌, Bool, false, true≢false, not, cond, ◌&&◌, List, length, take, Result, Ok, Err, IfOk, IsOk, OnOk, sym, ap, subst, ◌∙◌, arith}
use Rattle.std.proofs.lemmas.List.{take_all}
use Rattle.vub_base.specs.Causes.{is_listed}
use Rattle.vub_sparse.specs.Cells.{written}
use Rattle.vub_sparse.specs.Memory.{MemState, Called, Writes, fails, stalls}
use Rattle.vub_sparse.specs.declared.error.FileError.{FileError}
use Rattle.vub_block.specs.Medium.{IsMedium}

pub never_fails : (f : MemState) → IsMedium f → fails f ≡ false
never_fails f m = ap (λ list. is_listed list f.calls) m.failing

never_stalls : (f : MemState) → IsMedium f → stalls f ≡ false
never_stalls f m =
    ap (λ list. not (fails f) && is_listed list f.calls) m.stalling ∙ ap (λ b. not b && false) (never_fails f m)

-- a call that leaves so many cells as there were leaves such a file
pub stays : (old new : MemState) (fault : Bool) → IsMedium old → Called old new fault → length new.cells ≡ length old.cells → IsMedium new
stays old new fault m called long = record {
  failing = called.failing ∙ m.failing;
  stalling = called.stalling ∙ m.stalling;
  whole = subst (λ n. 512 * (n / 512) ≡ n) (sym long) m.whole;
  most = subst (λ n. n / 512 ≤ 131072) (sym long) m.most;
}

-- a write inside the file writes the whole piece
pub writes : (old new : MemState) (offset : ℕ) (piece : List ℕ) (result : Result ℕ FileError) → IsMedium old →
    IfOk result (λ n. new.cells ≡ written offset (take n piece) old.cells) → (fails old ≡ false → offset + length piece ≤ length old.cells → IsOk result) →
    Writes old offset piece result new → offset + length piece ≤ length old.cells → new.cells ≡ written offset piece old.cells
writes old new offset piece (Err e) m ok inside gives fits = absurd (true≢false (sym (inside (never_fails old m) fits)))
writes old new offset piece (Ok n) m ok inside gives fits =
    let whole : n ≡ length piece = gives.whole ∙ ap (λ b. cond b 0 (length piece)) (never_stalls old m) in
    ok ∙ ap (λ k. written offset (take k piece) old.cells) whole ∙ ap (λ bs. written offset bs old.cells) (take_all (length piece) piece (omega arith))

-- what an answer that is Ok leaves
pub done : {T E : Type 0} (P : Type 0) (result : Result T E) → IsOk result → OnOk result P → P
done P (Ok x) is p = p
done P (Err e) is p = absurd (true≢false (sym is))
