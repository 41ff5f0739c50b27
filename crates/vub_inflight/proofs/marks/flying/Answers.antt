use Rattle.std.proofs.Common.{◌+◌, ◌++◌, ◌∙◌, ap, drop, get_or, refl}
use Rattle.vub_inflight.specs.Order.{flying_from}
use Rattle.vub_inflight.specs.State.{idle}
use Rattle.vub_inflight.proofs.marks.flying.Goals as goal
use Rattle.vub_inflight.proofs.marks.flying.Goals.{then-slot+in_ok-push, else-slot}
use Rattle.vub_inflight.proofs.Reading.{flying_less, flying_more}

pub loop-head-preserved : goal.loop-head-preserved
loop-head-preserved c =
    elim c.if-slot.branch [
      | then-slot+in_ok-push w ↦ flying_more c.args.slots.now c.loop-head.head (get_or c.args.slots.now c.loop-head.head idle) c.loop-head.marks.items c.if-slot.marks.items c.loop-head-test.true refl w.if-slot.true
          (ap (λ v. v.items) w.marks-is ∙ w.in_ok-push.ensures.items) c.loop-head.invariant
      | else-slot w ↦ ap (λ v. v.items ++ flying_from (c.loop-head.head + 1) (drop (c.loop-head.head + 1) c.args.slots.now)) w.marks-is
          ∙ flying_less c.args.slots.now c.loop-head.head (get_or c.args.slots.now c.loop-head.head idle) c.loop-head.marks.items c.loop-head-test.true refl w.if-slot.false c.loop-head.invariant
    ]
