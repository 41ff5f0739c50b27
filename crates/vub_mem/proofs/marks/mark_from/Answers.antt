use Rattle.std.proofs.Common.{arith, refl, subst, sym, ◌≡◌}
use Rattle.vub_mem.specs.Halving.{IsPast}
use Rattle.vub_mem.specs.Marks.{page_marks, page_count}
use Rattle.vub_mem.proofs.marks.mark_from.Goals as goal
use Rattle.vub_mem.proofs.MarkLaws.{marks_more, marks_whole, logged_marks}
use Rattle.vub_mem.proofs.Halving.{past_of, past_up}

pub loop-i-init : goal.loop-i-init
loop-i-init g c = record { marked = refl; past = past_up _ _ _ _ (past_of _ _ _ c.requires.stands) (omega arith) }

pub stand_from-on-requires-clause-past : goal.stand_from-on-requires-clause-past
stand_from-on-requires-clause-past g c = subst (λ a. IsPast c.args.regions.now a c.loop-i.on) (sym c.max-at.ensures) c.loop-i.invariant.past

pub mark_page-requires-clause-logged : goal.mark_page-requires-clause-logged
mark_page-requires-clause-logged g c = logged_marks g.L.DirtyLog.byte_len g.L.DirtyLog.marks _ _ _ _ c.loop-i.invariant.marked c.requires.logged

pub loop-i-preserved : goal.loop-i-preserved
loop-i-preserved g c = record {
  marked = marks_more (page_marks g.L.DirtyLog.byte_len g.L.DirtyLog.marks) _ _ _ _ _ _ _ c.loop-i.invariant.marked c.max-at.ensures c.mark_page.ensures;
  past = past_up _ _ _ _ (past_of _ _ _ c.stand_from-on.ensures) (omega (arith, c.max-at.ensures));
}

pub returns-clause-marked : goal.returns-clause-marked
returns-clause-marked g c =
    let whole : c.loop-i.i ≡ page_count c.args.addr c.args.len = omega (arith, c.count_pages-count.ensures.value) in
    marks_whole (page_marks g.L.DirtyLog.byte_len g.L.DirtyLog.marks) _ _ _ _ _ _ whole c.loop-i.invariant.marked

pub returns-clause-logged : goal.returns-clause-logged
returns-clause-logged g c = logged_marks g.L.DirtyLog.byte_len g.L.DirtyLog.marks _ _ _ _ c.loop-i.invariant.marked c.requires.logged
