use Rattle.std.proofs.Common.{arith, subst, ◌≡◌}
use Rattle.std.specs.List.{range_with_len}
use Rattle.vub_mem.specs.Bits.{MarksBits}
use Rattle.vub_mem.specs.Marks.{page_marks}
use Rattle.vub_mem.proofs.atomic_bitmap.mark_bits.Goals as goal
use Rattle.vub_mem.proofs.MarkLaws.{bits_more}

pub mark_one-requires : goal.mark_one-requires
mark_one-requires g c = omega (arith, c.loop-i.invariant.kept, c.requires.within)

pub loop-i-preserved : goal.loop-i-preserved
loop-i-preserved g c = bits_more g.L.DirtyLog.byte_len g.L.DirtyLog.marks _ _ _ _ _ c.loop-i.invariant c.mark_one.ensures

pub returns : goal.returns
returns g c =
    let whole : c.loop-i.i ≡ c.args.count = omega arith in
    subst (λ n. MarksBits (page_marks g.L.DirtyLog.byte_len g.L.DirtyLog.marks) c.args.log.now (range_with_len c.args.first n) c.loop-i.log) whole c.loop-i.invariant.marked
