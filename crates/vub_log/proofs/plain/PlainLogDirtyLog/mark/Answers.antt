use Rattle.std.proofs.Common.{◌≡◌, ℕ, ◌<◌, ◌*◌, subst, sym, arith, length}
use Rattle.std.proofs.lemmas.Grind.{common_steps}
use Rattle.vub_mem.specs.LogBits.{MarksPage}
use Rattle.vub_log.specs.Plain.{Plain, marked, told_bits}
use Rattle.vub_log.specs.View.{plain_view}
use Rattle.vub_log.proofs.plain.PlainLogDirtyLog.mark.Goals as goal
use Rattle.vub_log.specs.PageBits.{marks_page}

marked_from : (view old new : Plain) (page : ℕ) → view ≡ old → page < 32 * length view.words → new ≡ marked view page → MarksPage page (told_bits old) (told_bits new)
marked_from view old new page same within after =
    subst (λ (s : Plain). MarksPage page (told_bits s) (told_bits new)) same (marks_page view page new (record { within = within; after = after }))

pub returns-clause-told : goal.returns-clause-told
returns-clause-told c =
    let has : c.args.page < 8 * c.self.inside.len = subst (λ (s : Plain). c.args.page < 8 * s.len) (sym c.self.view_is) c.requires in
    marked_from (plain_view c.self.inside) c.args.self.now (record { len = c.self.inside.len; words = _; counts = c.self.inside.counts.items }) c.args.page c.self.view_is (omega (arith, has, c.self.invariant.words)) (grind (arith, common_steps))
