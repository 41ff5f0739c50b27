use Rattle.std.proofs.Common.{sym, ◌∙◌}
use Rattle.vub_talk.proofs.Fewer.{device_few}
use Rattle.vub_talk.proofs.conversing.converse.Goals as goal

pub returns-in-Some-device_fault-clause-few : goal.returns-in-Some-device_fault-clause-few
returns-in-Some-device_fault-clause-few g c single = device_few _ c.args.layout c.args.asks.now c.args.rounds c.in-Some-device_fault.fault (sym c.device_fault.ensures ∙ c.in-Some-device_fault.is)
