use Rattle.vub_vring.proofs.Harvesting.{harvest_bits, harvest_logs}
use Rattle.vub_vring.proofs.acting.harvest_word.Goals as goal

pub returns-clause-bits : goal.returns-clause-bits
returns-clause-bits c = harvest_bits c.args.memory.now.logs c.args.object c.args.word c.in-Ok.bits c.harvest.new.self.logs c.in-Ok.ensures.harvested

pub returns-clause-logs : goal.returns-clause-logs
returns-clause-logs c = harvest_logs c.args.memory.now.logs c.args.object c.args.word c.in-Ok.bits c.harvest.new.self.logs c.in-Ok.ensures.harvested
