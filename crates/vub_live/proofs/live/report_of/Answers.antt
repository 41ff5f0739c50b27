use Rattle.std.proofs.Common.{ℕ, IfErr, sym, subst}
use Rattle.vub_live.specs.Lived.{IsMissing}
use Rattle.vub_live.proofs.live.report_of.Goals as goal

pub returns-in-Ok-new : goal.returns-in-Ok-new
returns-in-Ok-new g c =
    let count = g.S.Spawner.fault_count in
    let played = c.play-played.result in
    let begun : IfErr played (IsMissing (count c.args.spawner) (count c.play-played.new.daemon.spawner)) =
    subst (λ (n : ℕ). IfErr played (IsMissing n (count c.play-played.new.daemon.spawner))) c.in-Ok-new.ensures.count c.play-played.ensures.err in
    let told : IfErr played (IsMissing (count c.args.spawner) (count c.close_and_give_back-closed.result.1)) =
    subst (λ s. IfErr played (IsMissing (count c.args.spawner) (count s))) (sym c.close_and_give_back-closed.ensures.spawner) begun in
    c.reported.ensures (count c.args.spawner) (count c.close_and_give_back-closed.result.1) told

pub returns-in-Err : goal.returns-in-Err
returns-in-Err g c =
    let count = g.S.Spawner.fault_count in
    c.missing_of.ensures.made c.in-Ok.device.max (count c.args.spawner) (count c.in-Err.spawner) c.in-Err.ensures.err
