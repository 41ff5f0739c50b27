use Rattle.std.proofs.Common.{inl, refl, ◌∙◌, sym}
use Rattle.vub_queue.proofs.taking.look.Goals as goal
use Rattle.vub_queue.proofs.HeadChains.{costs_at, looks_at}

pub returns-in-Broken-clause-cost : goal.returns-in-Broken-clause-cost
returns-in-Broken-clause-cost g c = inl (inl (sym c.next_head.ensures ∙ c.in-Broken.is), refl)

pub returns-in-At-clause-took : goal.returns-in-At-clause-took
returns-in-At-clause-took g c = looks_at c.args.memory.now.guest c.args.queue.now c.in-At.head _ (sym c.next_head.ensures ∙ c.in-At.is) c.chain_at.ensures.gives

pub returns-in-At-clause-cost : goal.returns-in-At-clause-cost
returns-in-At-clause-cost g c = costs_at c.args.memory.now.guest c.args.queue.now c.in-At.head c.args.steps.now c.chain_at.new.steps _ (sym c.next_head.ensures ∙ c.in-At.is) c.chain_at.ensures.gives c.chain_at.ensures.cost
