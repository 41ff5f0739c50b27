use Rattle.std.proofs.Common.{◌∙◌, ap}
use Rattle.vub_queue.specs.Put.{room_covers}
use Rattle.vub_model.specs.Written.{reply_spots, with_spots}
use Rattle.vub_core.proofs.Uses.{use_flagged}
use Rattle.vub_core.proofs.written.Written.flag_use.Goals as goal

pub returns : goal.returns
returns c r wanted answer is ok =
    let rs = c.args.memory.now.guest.regions in
    use_flagged rs r c.args.chain.now c.args.reply.now wanted answer c.args.place c.args.self.now c.flag_room.new.self c.flag_behind.new.self c.flag_behind-2.new.self is ok
    (λ all. c.flag_room.ensures (ap (λ ss. room_covers rs ss c.args.reply.now) c.as_slice.ensures ∙ all) ∙ ap (λ ss. with_spots c.args.self.now (reply_spots rs ss c.args.reply.now)) c.as_slice.ensures)
    c.flag_behind.ensures
    c.flag_behind-2.ensures
