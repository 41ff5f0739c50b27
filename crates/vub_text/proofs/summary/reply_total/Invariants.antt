use Rattle.std.proofs.Common.{◌≡◌, ◌≤◌, ◌*◌, ◌^◌, take, length, sum_by}
use Rattle.vub_text.proofs.summary.reply_total.Given as goal

abbrev pub invariant-loop-used : goal.invariant-loop-used
invariant-loop-used l = (l.total ≡ sum_by (λ u. length u.reply) (take l.used-index l.uses)) × (l.total ≤ l.used-index * 2 ^ 64)
