-- One more op keeps a book.
use Rattle.std.proofs.Common.{◌≡◌, Bool, true, false, List, [], ◌∷◌, ◌++◌, refl, sym, ap, ◌∙◌, subst, append-nil}
use Rattle.std.specs.Prelude.{if◌then◌else◌, ◌&&◌, not}
use Rattle.vub_model.specs.declared.ring_op.RingOp.{RingOp}
use Rattle.vub_model.specs.declared.ring_op.RingOp.TheVariants as op
use Rattle.vub_model.specs.declared.ring_op.RingSaid.{RingSaid}
use Rattle.vub_model.specs.declared.ring_op.RingSaid.TheVariants.{Done, Waits, Base}
use Rattle.vub_model.specs.RingRecord.{Vring, waits, fits, changed, said_in_time, ring_said, ring_after}
use Rattle.vub_locks.specs.Rings.{kept_of, replayed}

pub replayed_snoc : (r : Vring) (os : List RingOp) (o : RingOp) → replayed r (os ++ o ∷ []) ≡ ring_after (replayed r os) o
replayed_snoc r [] o = refl
replayed_snoc r (p ∷ ps) o = replayed_snoc (ring_after r p) ps o

kept : (r : Vring) (os : List RingOp) (s : Vring) (o : RingOp) → s ≡ replayed r os → ring_after s o ≡ replayed r (os ++ o ∷ [])
kept r os s o e = ap (λ (t : Vring). ring_after t o) e ∙ sym (replayed_snoc r os o)

none : (r : Vring) (os : List RingOp) (s t : Vring) → s ≡ replayed r os → t ≡ s → t ≡ replayed r (os ++ [])
none r os s t e f = f ∙ (e ∙ sym (ap (λ (l : List RingOp). replayed r l) (append-nil os)))

after_base : (b : Bool) (s : Vring) → (if not b && true then s else s) ≡ s
after_base true s = refl
after_base false s = refl

step_if : (r : Vring) (os : List RingOp) (s : Vring) (o : RingOp) (b : Bool) → waits s o ≡ b → s ≡ replayed r os
    → (if not b && fits s o then changed s o else s) ≡ replayed r (os ++ kept_of (if b then Waits else said_in_time s o) o)
step_if r os s o true is e = none r os s s e refl
step_if r os s op.GetBase false is e = none r os s s e refl
step_if r os s (op.SetEnabled v) false is e = kept r os s (op.SetEnabled v) e
step_if r os s (op.SetReady v) false is e = ap (λ (t : Bool). if not t && true then changed s (op.SetReady v) else s) (sym is) ∙ kept r os s (op.SetReady v) e
step_if r os s (op.SetSize n) false is e = ap (λ (t : Bool). if not t && fits s (op.SetSize n) then changed s (op.SetSize n) else s) (sym is) ∙ kept r os s (op.SetSize n) e
step_if r os s (op.SetInfo a b c d) false is e = ap (λ (t : Bool). if not t && fits s (op.SetInfo a b c d) then changed s (op.SetInfo a b c d) else s) (sym is) ∙ kept r os s (op.SetInfo a b c d) e
step_if r os s (op.SetBase n) false is e = ap (λ (t : Bool). if not t && true then changed s (op.SetBase n) else s) (sym is) ∙ kept r os s (op.SetBase n) e
step_if r os s (op.SetEventIdx v) false is e = kept r os s (op.SetEventIdx v) e
step_if r os s (op.SetKick v) false is e = kept r os s (op.SetKick v) e
step_if r os s (op.SetCall v) false is e = kept r os s (op.SetCall v) e
step_if r os s (op.SetErr v) false is e = kept r os s (op.SetErr v) e
step_if r os s op.Taken false is e = kept r os s op.Taken e
step_if r os s op.Put false is e = kept r os s op.Put e
step_if r os s op.Hold false is e = kept r os s op.Hold e

-- an op that was done leads to what the replay leads to with it
pub done_keeps : (r : Vring) (os now : List RingOp) (s : Vring) (o : RingOp) (said : RingSaid) (new : Vring) → said ≡ ring_said s o → new ≡ ring_after s o → said ≡ Done → now ≡ os ++ o ∷ [] → s ≡ replayed r os → new ≡ replayed r now
done_keeps r os now s o said new e f d n book =
    f ∙ (step_if r os s o (waits s o) refl book ∙ (ap (λ (t : RingSaid). replayed r (os ++ kept_of t o)) (sym e ∙ d) ∙ ap (λ (l : List RingOp). replayed r l) (sym n)))

-- an op that was not leaves the ring
pub other_keeps : (r : Vring) (os : List RingOp) (s : Vring) (o : RingOp) (said : RingSaid) (new : Vring) → said ≡ ring_said s o → new ≡ ring_after s o → (said ≡ Done → ⊥) → s ≡ replayed r os → new ≡ replayed r os
other_keeps r os s o said new e f n book =
    f ∙ (step_if r os s o (waits s o) refl book ∙ (ap (λ (t : RingSaid). replayed r (os ++ kept_of t o)) (sym e) ∙ (ap (λ (l : List RingOp). replayed r (os ++ l)) (kept_none said o n) ∙ ap (λ (l : List RingOp). replayed r l) (append-nil os))))
  where
    kept_none : (s : RingSaid) (o : RingOp) → (s ≡ Done → ⊥) → kept_of s o ≡ []
    kept_none Done o n = absurd (n refl)
    kept_none Waits o n = refl
    kept_none (Base b) o n = refl
