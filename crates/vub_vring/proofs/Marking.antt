-- The marks that a step makes in plain logs, one after the other, leave what the machine's logs are after them.
use Rattle.std.proofs.Common.{◌≡◌, ℕ, Bool, true, false, cond, MatchBool, eqb, List, [], ◌∷◌, refl, ap, ◌∙◌}
use Rattle.vub_log.specs.Plain.{Plain, marked, IsMark}
use Rattle.vub_mem.specs.declared.dirty.Stored.{Stored}
use Rattle.vub_mem.specs.Logs.{ChangesOne}
use Rattle.vub_mem.specs.Marks.{Mark, MarksOne, MarksAll, IsMarked, page_marks}
use Rattle.vub_model.specs.Logs.{with_log_at, with_mark, with_marks}

abbrev Step : Plain → ℕ → Plain → Type 0
Step old page new = page_marks (λ (log : Plain). log.len) IsMark old page new

-- the first log, or the rest
head-marked : (m : Mark) (s t : Stored Plain) (logs after : List (Stored Plain)) (own : Bool)
    → MatchBool own ((t.object ≡ s.object) × Step s.log m.page t.log × (after ≡ logs)) ((t ≡ s) × ChangesOne (λ old log. Step old m.page log) logs m.object after)
    → (ChangesOne (λ old log. Step old m.page log) logs m.object after → after ≡ with_mark logs m)
    → t ∷ after ≡ cond own (record s { log = marked s.log m.page } ∷ logs) (s ∷ with_mark logs m)
head-marked m s t logs after true changes rest =
    ap (λ o. record { object = o; log = t.log } ∷ after) changes.0
    ∙ (ap (λ l. record { object = s.object; log = l } ∷ after) changes.1.marked.after ∙ ap (λ ls. record s { log = marked s.log m.page } ∷ ls) changes.2)
head-marked m s t logs after false changes rest = ap (λ x. x ∷ after) changes.0 ∙ ap (λ ls. s ∷ ls) (rest changes.1)

mark-made : (old : List (Stored Plain)) (m : Mark) (new : List (Stored Plain)) → ChangesOne (λ old log. Step old m.page log) old m.object new → new ≡ with_mark old m
mark-made [] m new changes = absurd changes
mark-made (s ∷ logs) m [] changes = absurd changes
mark-made (s ∷ logs) m (t ∷ after) changes = head-marked m s t logs after (eqb s.object m.object) changes (mark-made logs m after)

pub marks-made : (old : List (Stored Plain)) (marks : List Mark) (new : List (Stored Plain)) → MarksAll Step old marks new → new ≡ with_marks old marks
marks-made old [] new all = all
marks-made old (m ∷ marks) new all = marks-made all.0 marks new all.2 ∙ ap (λ logs. with_marks logs marks) (mark-made old m all.0 all.1)
