use Rattle.std.proofs.Common.{rules, ◌≡◌, ◌+◌, length}
use Rattle.vub_queue.specs.Chain.{IsChain}
use Rattle.vub_queue.specs.Layout.{table_of}
use Rattle.vub_queue.specs.Walk.{FailsFirst}
use Rattle.vub_queue.specs.declared.took.Took.TheVariants.{Damaged, Entry}
use Rattle.vub_queue.proofs.head_chain.chain_at.Goals as goal
use Rattle.vub_queue.proofs.Chains.{links_covered}
use Rattle.vub_queue.proofs.HeadChains.{gives_one, whole_cost}

pub make_chain-requires-clause-covered : goal.make_chain-requires-clause-covered
make_chain-requires-clause-covered g c =
    let chain : IsChain c.args.memory.now.guest (table_of c.args.queue.now) c.args.head c.as_slice.result.now = search rules in
    links_covered _ _ _ _ chain.links

pub returns-in-Failed-clause-only : goal.returns-in-Failed-clause-only
returns-in-Failed-clause-only g c =
    let fails : FailsFirst c.args.memory.now.guest (table_of c.args.queue.now) c.args.head c.in-Failed.damage = search rules in
    λ t h. gives_one c.args.memory.now.guest c.args.queue.now c.args.head (Damaged c.in-Failed.damage) t fails h

pub returns-in_ok-chain-in-Whole-clause-only : goal.returns-in_ok-chain-in-Whole-clause-only
returns-in_ok-chain-in-Whole-clause-only g c =
    let chain : IsChain c.args.memory.now.guest (table_of c.args.queue.now) c.args.head c.as_slice.result.now = search rules in
    λ t h. gives_one c.args.memory.now.guest c.args.queue.now c.args.head (Entry c.in_ok-chain-in-Whole.chain) t (c.as_slice.result.now, chain, c.in_ok-chain-in-Whole.ensures.chain) h

pub returns-in_ok-chain-in-Whole-clause-cost : goal.returns-in_ok-chain-in-Whole-clause-cost
returns-in_ok-chain-in-Whole-clause-cost g c =
    let chain : IsChain c.args.memory.now.guest (table_of c.args.queue.now) c.args.head c.as_slice.result.now = search rules in
    let cost : c.read_chain.new.steps ≡ c.args.steps.now + length c.as_slice.result.now = search rules in
    λ es h. whole_cost c.args.memory.now.guest c.args.queue.now c.args.head c.as_slice.result.now c.args.steps.now c.read_chain.new.steps chain cost es h
