use Rattle.vub_mem.proofs.Finds.{all_at}
use Rattle.vub_queue.specs.Chain.{IsCovered}
use Rattle.vub_queue.specs.declared.descriptor.Descriptor.{Descriptor}
use Rattle.vub_queue.proofs.taking.read_request.Goals as goal

pub append_part-requires : goal.append_part-requires
append_part-requires g c =
    let Covered : Descriptor → Type 0 = λ d. IsCovered c.args.memory.now.guest d in
    all_at Covered _ _ _ c.loop-descriptor-test.true c.requires
