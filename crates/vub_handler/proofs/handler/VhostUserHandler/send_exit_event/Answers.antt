use Rattle.std.proofs.Common.{◌≡◌, ℕ, suc, ◌+◌, Option, take, ap, ◌∙◌, subst, arith}
use Rattle.std.proofs.Math.Seq.{take-suc}
use Rattle.vub_loop.specs.Listening.{SendsExit}
use Rattle.vub_handler.proofs.Exits.{ended-more}
use Rattle.vub_handler.proofs.handler.VhostUserHandler.send_exit_event.Goals as goal

pub loop-number-preserved : goal.loop-number-preserved
loop-number-preserved g c =
    let old = g.P.Parts.state c.args.parts.now in
    let mid = g.P.Parts.state c.loop-number.parts in
    let new = g.P.Parts.state c.send_exit_event.new.parts in
    let l = c.opened-opened.result.now in
    let n = c.loop-number.number in
    let S : Option ℕ → Type 0 = λ exit. SendsExit exit mid new in
    let next : n + 1 ≡ suc n = omega arith in
    ended-more (take n l) (take (n + 1) l) _ old mid new c.loop-number.invariant
    (subst S (ap (λ h. h.exit) c.handle_for.ensures) c.send_exit_event.ensures.row) c.send_exit_event.ensures.frame
    (ap (λ k. take k l) next ∙ take-suc l n _ (omega (arith, c.loop-number-test.true)))
