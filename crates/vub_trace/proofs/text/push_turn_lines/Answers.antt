use Rattle.std.proofs.Common.{◌++◌, sym, ap, ◌∙◌, append-nil, string_bytes}
use Rattle.vub_trace.proofs.Turned.{lines_none}
use Rattle.vub_trace.proofs.text.push_turn_lines.Goals as goal

pub returns-then-at-labels : goal.returns-then-at-labels
returns-then-at-labels c =
    sym (append-nil (string_bytes c.loop-at.text))
    ∙ sym (ap (λ l. string_bytes c.loop-at.text ++ l) (lines_none c.args.setup.now c.args.masks.now c.args.run.now c.loop-at.past c.args.schedule.now c.args.labels.now c.loop-at.at c.if-at-labels.true))
    ∙ c.loop-at.invariant.told
