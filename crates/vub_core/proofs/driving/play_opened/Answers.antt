use Rattle.std.proofs.Common.{rules, ◌≡◌, ◌∙◌, ◌<◌, ◌^◌, length, refl, subst, arith}
use Rattle.vub_model.specs.World.{World}
use Rattle.vub_core.specs.DeviceRun.{state_by, telling_by}
use Rattle.vub_core.specs.Machine.{world_of}
use Rattle.vub_core.specs.Meanings.{meaning_by}
use Rattle.vub_core.specs.Played.{HasPlayed, WasCutShort}
use Rattle.vub_core.proofs.OpenedFor.{world_for}
use Rattle.vub_core.proofs.WorkerCount.{worker-count}
use Rattle.vub_core.proofs.Outcomes.{opening-service, all-played, none-played, some-played, end-played}
use Rattle.vub_core.proofs.driving.play_opened.Goals as goal

pub returns-then-schedule-ge-MAX_TURNS-clause-refused : goal.returns-then-schedule-ge-MAX_TURNS-clause-refused
returns-then-schedule-ge-MAX_TURNS-clause-refused g c =
    let d = state_by g.D.VhostUserBackendMut c.args.device.now in
    none-played (meaning_by g.V.Service) (telling_by g.D.VhostUserBackendMut) c.args.constants.now c.args.setup.now c.args.service.now c.args.schedule.now d d c.args.service.now refl (opening-service c.args.constants.now c.args.setup.now c.args.service.now) refl

pub play-requires-clause-opened : goal.play-requires-clause-opened
play-requires-clause-opened g c = world_for c.args.constants.now c.args.setup.now c.args.service.now c.args.machine c.requires.opened

pub finish-requires-clause-workers : goal.finish-requires-clause-workers
finish-requires-clause-workers g c =
    let count : length c.play.new.machine.workers.items ≡ length c.args.constants.now.masks = c.in-Ok.ensures.count ∙ worker-count c.args.constants.now c.args.setup.now c.args.machine c.requires.opened in
    omega (arith, c.requires.numbers)

pub returns-in-Err-clause-refused : goal.returns-in-Err-clause-refused
returns-in-Err-clause-refused g c =
    let k = c.args.constants.now in
    let s = c.args.setup.now in
    let v = c.args.service.now in
    let m = meaning_by g.V.Service in
    let t = telling_by g.D.VhostUserBackendMut in
    let d = state_by g.D.VhostUserBackendMut c.args.device.now in
    let e = state_by g.D.VhostUserBackendMut c.play.new.device in
    let turns = c.args.schedule.now in
    let labels = c.play.new.labels.items in
    let O : World g.row.V.Denot → Type 0 = λ o. WasCutShort m t turns labels o c.play.new.service d e in
    let long : c.len.result ≡ length labels = search rules in
    some-played m t k s v turns d e labels c.play.new.service c.len.result c.requires.valid long (subst O (world_for k s v c.args.machine c.requires.opened) c.in-Err.ensures.cut)

pub returns-in-Ok-finish-clause-played : goal.returns-in-Ok-finish-clause-played
returns-in-Ok-finish-clause-played g c =
    let k = c.args.constants.now in
    let s = c.args.setup.now in
    let v = c.args.service.now in
    let m = meaning_by g.V.Service in
    let t = telling_by g.D.VhostUserBackendMut in
    let d = state_by g.D.VhostUserBackendMut c.args.device.now in
    let e = state_by g.D.VhostUserBackendMut c.play.new.device in
    let turns = c.args.schedule.now in
    let labels = c.play.new.labels.items in
    let calls = c.play.new.machine.calls.items in
    let closing = world_of s c.play.new.machine c.play.new.service in
    let O : World g.row.V.Denot → Type 0 = λ o. HasPlayed m t turns labels calls o closing d e in
    let short : length turns < 2 ^ 63 = omega (arith, c.if-schedule-ge-MAX_TURNS.false) in
    all-played m t k s v turns d e labels calls closing c.play.new.service c.in-Ok-finish.run' c.requires.valid short
    (subst O (world_for k s v c.args.machine c.requires.opened) c.in-Ok.ensures.played) refl c.in-Ok-finish.ensures

pub returns-in-Err-finish-clause-refused : goal.returns-in-Err-finish-clause-refused
returns-in-Err-finish-clause-refused g c =
    let k = c.args.constants.now in
    let s = c.args.setup.now in
    let v = c.args.service.now in
    let m = meaning_by g.V.Service in
    let t = telling_by g.D.VhostUserBackendMut in
    let d = state_by g.D.VhostUserBackendMut c.args.device.now in
    let e = state_by g.D.VhostUserBackendMut c.play.new.device in
    let turns = c.args.schedule.now in
    let labels = c.play.new.labels.items in
    let calls = c.play.new.machine.calls.items in
    let closing = world_of s c.play.new.machine c.play.new.service in
    let O : World g.row.V.Denot → Type 0 = λ o. HasPlayed m t turns labels calls o closing d e in
    let long : c.len-done.result ≡ length labels = search rules in
    end-played m t k s v turns d e labels calls closing c.play.new.service c.len-done.result c.requires.valid long
    (subst O (world_for k s v c.args.machine c.requires.opened) c.in-Ok.ensures.played) refl
