use Rattle.std.proofs.Common.{◌∷◌, ap, sym, ◌∙◌}
use Rattle.vub_proto.specs.declared.device_op.DeviceOp.TheVariants as device
use Rattle.vub_model.specs.declared.small.Small.TheVariants.{Device}
use Rattle.vub_model.specs.Control.{tail_of}
use Rattle.vub_plan.specs.Halves.{with_head}
use Rattle.vub_core.proofs.first.first_of.Goals as goal

pub returns-in-Table : goal.returns-in-Table
returns-in-Table c regions =
    (c.in-Table.field-0, (_, ap (λ h. with_head h regions c.args.half.now.plan.steps) (sym c.head.ensures ∙ c.in-Table.is)))

pub returns-in-Update : goal.returns-in-Update
returns-in-Update c regions =
    (_, ap (λ h. with_head h regions c.args.half.now.plan.steps) (sym c.head.ensures ∙ c.in-Update.is) ∙ ap (λ rs. Device (device.UpdateMemory rs) ∷ c.args.half.now.plan.steps) (sym c.as_slice.ensures))

pub returns-in-Some : goal.returns-in-Some
returns-in-Some c regions =
    (_, ap (λ h. with_head h regions c.args.half.now.plan.steps) (sym c.head.ensures ∙ c.in-None.is) ∙ c.first.ensures.some c.in-Some.small c.in-Some.is ∙ ap (λ s. s ∷ tail_of c.args.half.now.plan.steps) (sym c.get.ensures))
