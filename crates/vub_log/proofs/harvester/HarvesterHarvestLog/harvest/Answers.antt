use Rattle.std.proofs.Common.{◌≡◌, ◌+◌, ◌<◌, length, set, rules, sym, subst}
use Rattle.vub_log.specs.Notes.{Party}
use Rattle.vub_log.specs.Rule.{HasCounts}
use Rattle.vub_log.proofs.Seating.{counts_step, index_is}
use Rattle.vub_log.proofs.harvester.HarvesterHarvestLog.harvest.Goals as goal

pub invariant_of-self : goal.invariant_of-self
invariant_of-self c =
    let gs = c.self.inside.generations.items in
    let below : c.args.word < length gs = search rules in
    let is = index_is gs c.args.word c.index-generation.result.now below (search rules) in
    record {
      keeps = search rules;
      counts = search rules;
      counted = subst (λ (p : Party). HasCounts (set gs c.args.word (c.index-generation.result.now + 1)) p.notes.harvests) (sym c.take_bits-bits.ensures.0)
          (counts_step gs c.self.inside.seat.notes.harvests c.args.word c.index-generation.result.now c.take_bits-bits.result below is c.self.invariant.counted);
    }
