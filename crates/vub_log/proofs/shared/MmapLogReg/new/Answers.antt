use Rattle.std.proofs.Common.{◌≡◌, ℕ, ◌+◌, ◌/◌, List, [], replicate, rules, sym, subst}
use Rattle.atomic_table.specs.Table.{opening}
use Rattle.vub_log.specs.Rule.{Kept, keeper_notes}
use Rattle.vub_log.proofs.Seating.{splits_step, begins_at}
use Rattle.vub_log.proofs.shared.MmapLogReg.new.Goals as goal

pub of_words-requires : goal.of_words-requires
of_words-requires c =
    let n : ℕ = (c.args.len + 3) / 4 in
    let z : c.as_slice.result.now ≡ replicate n 0 = search rules in
    subst (λ (l : List ℕ). Kept n (opening l [] keeper_notes)) (sym z) (begins_at n)

pub split_seat-first-requires : goal.split_seat-first-requires
split_seat-first-requires c = (search rules, search rules, splits_step _ _ _)
