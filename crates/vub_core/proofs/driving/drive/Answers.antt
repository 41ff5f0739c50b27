use Rattle.std.proofs.Common.{rules, refl}
use Rattle.vub_model.specs.ValidSetup.{fault_of}
use Rattle.vub_open.specs.Asked.{constants_by}
use Rattle.vub_open.specs.Refused.{IsRefusal}
use Rattle.vub_core.specs.DeviceRun.{state_by, telling_by}
use Rattle.vub_core.specs.Meanings.{meaning_by}
use Rattle.vub_core.proofs.Outcomes.{opening-service, none-played, opening-refused}
use Rattle.vub_core.proofs.driving.drive.Goals as goal

pub returns-in-Err-clause-refused : goal.returns-in-Err-clause-refused
returns-in-Err-clause-refused g c =
    let k = constants_by g.D.VhostUserBackendMut g.D.Bitmap.BitmapReplace.TRACKS c.args.device.now in
    let d = state_by g.D.VhostUserBackendMut c.args.device.now in
    let v = c.args.service.now in
    none-played (meaning_by g.V.Service) (telling_by g.D.VhostUserBackendMut) k c.args.setup.now v c.args.schedule.now d d v refl (opening-service k c.args.setup.now v) refl

pub returns-in-Err-open-clause-refused : goal.returns-in-Err-open-clause-refused
returns-in-Err-open-clause-refused g c =
    let k = constants_by g.D.VhostUserBackendMut g.D.Bitmap.BitmapReplace.TRACKS c.args.device.now in
    let d = state_by g.D.VhostUserBackendMut c.args.device.now in
    let v = c.args.service.now in
    let refused : IsRefusal (fault_of k c.args.setup.now) c.in-Err-open.fault = search rules in
    opening-refused (meaning_by g.V.Service) (telling_by g.D.VhostUserBackendMut) k c.args.setup.now v c.args.schedule.now d d v c.in-Err-open.fault refl (opening-service k c.args.setup.now v) refl refused
