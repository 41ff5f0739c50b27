use Rattle.std.proofs.Common.{rules}
use Rattle.vub_queue.specs.Take.{Costs}
use Rattle.vub_queue.proofs.taking.take.Goals as goal
use Rattle.vub_queue.proofs.Takes.{long_cost, taken_one}

pub returns-clause-only : goal.returns-clause-only
returns-clause-only g c = λ t h. taken_one c.args.memory.now.guest c.args.queue.now c.finish-took.result t c.finish-took.ensures.taken h

pub returns-clause-cost : goal.returns-clause-cost
returns-clause-cost g c =
    let looked : Costs c.args.memory.now.guest c.args.queue.now c.args.steps.now c.look.new.steps c.in_ok-looked.looked = search rules in
    c.finish-took.ensures.costs c.args.steps.now c.look.new.steps looked

pub returns-clause-long : goal.returns-clause-long
returns-clause-long g c =
    let looked : Costs c.args.memory.now.guest c.args.queue.now c.args.steps.now c.look.new.steps c.in_ok-looked.looked = search rules in
    λ is. long_cost c.args.memory.now.guest c.args.queue.now c.finish-took.result c.args.steps.now c.look.new.steps c.finish-took.ensures.taken (c.finish-took.ensures.costs c.args.steps.now c.look.new.steps looked) is
