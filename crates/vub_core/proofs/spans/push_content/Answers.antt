use Rattle.std.proofs.Common.{◌∙◌, sym}
use Rattle.vub_core.proofs.Runs.{push_none}
use Rattle.vub_core.proofs.spans.push_content.Goals as goal

pub returns-else-has_flag : goal.returns-else-has_flag
returns-else-has_flag c all is = push_none all c.args.flags.now c.args.object _ c.args.spans.now.items is (sym c.has_flag.ensures ∙ c.if-has_flag.false)
