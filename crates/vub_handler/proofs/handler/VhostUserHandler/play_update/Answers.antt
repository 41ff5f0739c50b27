use Rattle.std.proofs.Common.{None, sym, ap, ◌∙◌}
use Rattle.vub_model.specs.declared.small.Small.{Small}
use Rattle.vub_plan.specs.Halves.{Begun, turned}
use Rattle.vub_handler.specs.Player.{Player}
use Rattle.vub_handler.proofs.PlaySteps.{played_as, update_from}
use Rattle.vub_handler.proofs.handler.VhostUserHandler.play_update.Goals as goal

pub returns-in-Made-clause-row : goal.returns-in-Made-clause-row
returns-in-Made-clause-row g c =
    update_from _ c.args.self.now c.self.inside.wired c.args.half.now c.turn.new.self c.args.regions _ _ _ _ _ _ _ (ap (λ (p : Player). p.wiring) c.self.view_is) (c.get.ensures ∙ c.in_ok-small.ensures) c.in-Made.is (c.as_played.ensures ∙ ap (λ (s : Small). played_as s c.in-Made.refused None) (sym c.get.ensures)) c.requires (c.turn.ensures.head ∙ ap (λ (b : Begun). b.head) c.set_head.ensures) (c.turn.ensures.plan ∙ ap (λ (b : Begun). turned c.in-Made.turn b.plan) c.set_head.ensures) c.in_ok-act.ensures.row
