use Rattle.std.proofs.Common.{◌≡◌, List, refl, ap, ◌∙◌}
use Rattle.vub_model.specs.declared.small.Small.{Small}
use Rattle.vub_model.specs.declared.wiring.Known.{Known}
use Rattle.vub_plan.specs.Halves.{turned}
use Rattle.vub_handler.specs.Player.{Player}
use Rattle.vub_handler.specs.Playing.{known_by}
use Rattle.vub_handler.proofs.PlaySteps.{step_from}
use Rattle.vub_handler.proofs.handler.VhostUserHandler.play_step.Goals as goal

pub returns-in-Some-drop_first-clause-row : goal.returns-in-Some-drop_first-clause-row
returns-in-Some-drop_first-clause-row g c =
    let learned : c.learn.new.known ≡ known_by c.in-Some-drop_first.small c.self.inside.known = c.learn.ensures ∙ ap (λ (s : Small). known_by s c.self.inside.known) c.get-in-Some-drop_first.ensures in
    let player : List Known → Player = λ known. record { wiring = c.self.inside.wired; session = c.self.inside.session; known = known } in
    step_from _ c.args.self.now (player c.learn.new.known) c.self.inside.wired c.args.half.now c.turn.new.self _ _ _ _ _ _ _ _ _ (ap (λ (p : Player). p.wiring) c.self.view_is) c.get.ensures (c.in-Some.ensures.some c.in-Some.small refl) (c.in-Some-drop_first.ensures.some c.in-Some-drop_first.small refl) c.in-Made.is c.as_played.ensures c.requires.head c.requires.stage (c.turn.ensures.head ∙ c.drop_first.ensures.head) (c.turn.ensures.plan ∙ ap (turned c.in-Made.turn) c.drop_first.ensures.plan) (ap player learned ∙ ap (λ (p : Player). record p { known = known_by c.in-Some-drop_first.small p.known }) c.self.view_is) c.in_ok-act-in-Some.ensures.row
