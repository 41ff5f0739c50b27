use Rattle.std.proofs.Common.{arith}
use Rattle.vub_open.proofs.ValidParts.{no_fault, sound_device}
use Rattle.vub_core.proofs.session.open_session.Goals as goal

pub new-wired-requires-clause-size : goal.new-wired-requires-clause-size
new-wired-requires-clause-size c =
    let sound = sound_device c.args.constants.now c.args.setup.now.objects (no_fault c.args.constants.now c.args.setup.now c.requires.valid).device in
    let same = c.in_ok-copy_constants.ensures in
    rw same sound.max

pub new-wired-requires-clause-queues : goal.new-wired-requires-clause-queues
new-wired-requires-clause-queues c =
    let sound = sound_device c.args.constants.now c.args.setup.now.objects (no_fault c.args.constants.now c.args.setup.now c.requires.valid).device in
    let same = c.in_ok-copy_constants.ensures in
    rw same (omega (arith, sound.queues))
