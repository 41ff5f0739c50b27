use Rattle.std.proofs.Common.{◌∙◌, sym}
use Rattle.vub_core.proofs.Flags.{flags_next, place_none}
use Rattle.vub_core.proofs.written.Written.flag_range.Goals as goal

pub returns-in-None : goal.returns-in-None
returns-in-None c all = absurd (place_none _ _ _ _ _ _ _ all c.loop-left.invariant c.loop-left-test.true (sym c.place_of.ensures.value ∙ c.in-None.is))

pub loop-left-preserved : goal.loop-left-preserved
loop-left-preserved c = flags_next _ _ _ _ _ _ _ _ _ _ c.loop-left.invariant c.in-Some.ensures.run c.min-here.ensures c.flag.ensures
