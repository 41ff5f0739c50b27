use Rattle.std.proofs.Common.{◌≡◌, ◌∙◌, true, rules}
use Rattle.vub_model.specs.RingRecord.{has_addresses}
use Rattle.vub_ring.proofs.Using.{put_in}
use Rattle.vub_ring.proofs.play.put_found.Goals as goal

pub returns-clause-answer : goal.returns-clause-answer
returns-clause-answer g c =
    let set : has_addresses c.args.ring.now ≡ true = search rules in
    put_in c.args.memory.now.guest c.put.new.memory.guest c.args.ring.now c.copy-queue.result c.args.chain.now c.args.reply.now c.put.result set (c.copy-queue.ensures ∙ c.get_queue.ensures) c.put.ensures.answer c.put.ensures.put
