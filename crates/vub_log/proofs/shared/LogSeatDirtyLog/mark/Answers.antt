use Rattle.std.proofs.Common.{◌≡◌, rules, refl}
use Rattle.vub_log.specs.Notes.{generation_of, mark_note, with_mark}
use Rattle.vub_log.proofs.Steps.{marks_step}
use Rattle.vub_log.proofs.shared.LogSeatDirtyLog.mark.Goals as goal

pub fetch_or-requires : goal.fetch_or-requires
fetch_or-requires c = (search rules, search rules, marks_step _ _ _ _ c.args.page (search rules))

pub returns-clause-marked : goal.returns-clause-marked
returns-clause-marked c =
    let noted : c.fetch_or.new.seat.me.0 ≡ with_mark c.self.inside.seat.me.0 (mark_note c.args.page (generation_of c.fetch_or.result)) = c.fetch_or.ensures.2.0 c.args.page refl refl in
    (generation_of c.fetch_or.result, rw (← c.self.view_is) (λ z. record { log = c.fetch_or.ensures.0 z; len = c.self.inside.len; notes = noted z }))
