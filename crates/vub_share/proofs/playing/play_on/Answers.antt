use Rattle.std.proofs.Common.{sym, subst}
use Rattle.vub_share.specs.declared.no_run.NoRun.{NoRun}
use Rattle.vub_share.specs.ScriptRun.{CausedBy, script_with}
use Rattle.vub_share.proofs.OneRunOf.{run-of, why-none}
use Rattle.vub_share.proofs.playing.play_on.Goals as goal

pub returns-in-Ok-drive-clause-run : goal.returns-in-Ok-drive-clause-run
returns-in-Ok-drive-clause-run g c =
    run-of g.B.BitmapReplace.TRACKS c.args.setup.now c.args.schedule.now c.args.form c.args.service c.new-device.result c.drive.new.device c.in-Ok.service c.drive.new.service c.in-Ok-drive.run' c.requires.bitmap c.new-device.ensures c.in-Ok.ensures c.in-Ok-drive.ensures.played

pub returns-clause-refused : goal.returns-clause-refused
returns-clause-refused g c =
    let P : NoRun → Type 0 = λ n. CausedBy (script_with c.args.setup.now c.args.form c.args.service c.args.schedule.now) n in
    subst P (sym c.no_run_for.ensures) (why-none g.B.BitmapReplace.TRACKS c.new-device.result c.drive.new.device c.args.form c.args.service c.args.setup.now c.args.schedule.now c.in-Ok.service c.drive.new.service c.in-Err-drive.fault c.requires.bitmap c.new-device.ensures c.in-Err-drive.ensures.refused)
