use Rattle.std.proofs.Common.{rules, ◌≡◌, ℕ, suc, ◌+◌, ◌-◌, ◌++◌, ◌∷◌, [], length, get_or, refl, sym, ap, subst, ◌∙◌, arith, length-append}
use Rattle.std.specs.List.{AllByRecursion}
use Rattle.vub_model.specs.Frame.{frame_of}
use Rattle.vub_model.specs.RunOf.{party_of}
use Rattle.vub_model.specs.Schedule.{NamesThere}
use Rattle.vub_model.specs.World.{World}
use Rattle.vub_model.proofs.Drive.{names-opening, names-kept}
use Rattle.vub_model.proofs.OpeningSound.{opening-sound}
use Rattle.vub_model.proofs.Sound.{IsSound, sound-turn}
use Rattle.vub_core.specs.DeviceRun.{state_by, telling_by}
use Rattle.vub_core.specs.Machine.{world_of}
use Rattle.vub_core.specs.Meanings.{meaning_by}
use Rattle.vub_core.proofs.Kept.{on-err}
use Rattle.vub_core.proofs.Longer.{played-none, played-more, played-all, cut-short}
use Rattle.vub_core.proofs.Made.{made-same}
use Rattle.vub_core.proofs.Readying.{first-named, next-acts}
use Rattle.vub_core.proofs.playing.play.Goals as goal

pub turn-requires-clause-ready : goal.turn-requires-clause-ready
turn-requires-clause-ready g c =
    let so = c.loop-party.invariant in
    record {
      requests = so.names;
      first = first-named (length c.args.schedule.now - c.loop-party.party-index) (world_of c.args.setup.now c.loop-party.machine c.loop-party.service) so.sound;
      acts = next-acts (world_of c.args.setup.now c.loop-party.machine c.loop-party.service) so.sound.logs;
    }

pub returns-in_err-reserve-clause-cut : goal.returns-in_err-reserve-clause-cut
returns-in_err-reserve-clause-cut g c =
    let m = meaning_by g.V.Service in
    let t = telling_by g.D.VhostUserBackendMut in
    let d = state_by g.D.VhostUserBackendMut c.args.device.now in
    let e = state_by g.D.VhostUserBackendMut c.loop-party.device in
    let so = c.loop-party.invariant in
    let same : c.reserve.new.self.items ≡ c.loop-party.labels.items = search rules in
    on-err c.from_residual.result (cut-short m t c.args.schedule.now c.loop-party.labels.items c.reserve.new.self.items c.loop-party.machine.calls.items (world_of c.args.setup.now c.args.machine.now c.args.service.now) (world_of c.args.setup.now c.loop-party.machine c.loop-party.service) d e e c.loop-party.party-index c.loop-party.service (omega (arith, c.loop-party-test.true)) so.done so.played same refl (made-same t e e refl))

pub returns-in_err-label-clause-cut : goal.returns-in_err-label-clause-cut
returns-in_err-label-clause-cut g c =
    let m = meaning_by g.V.Service in
    let t = telling_by g.D.VhostUserBackendMut in
    let d = state_by g.D.VhostUserBackendMut c.args.device.now in
    let e = state_by g.D.VhostUserBackendMut c.loop-party.device in
    let f = state_by g.D.VhostUserBackendMut c.turn.new.device in
    let so = c.loop-party.invariant in
    let same : c.reserve.new.self.items ≡ c.loop-party.labels.items = search rules in
    on-err c.from_residual-in_err-label.result (cut-short m t c.args.schedule.now c.loop-party.labels.items c.reserve.new.self.items c.loop-party.machine.calls.items (world_of c.args.setup.now c.args.machine.now c.args.service.now) (world_of c.args.setup.now c.loop-party.machine c.loop-party.service) d e f c.loop-party.party-index c.turn.new.service (omega (arith, c.loop-party-test.true)) so.done so.played same c.in_err-label.ensures.service c.in_err-label.ensures.device)

pub loop-party-preserved : goal.loop-party-preserved
loop-party-preserved g c =
    let m = meaning_by g.V.Service in
    let t = telling_by g.D.VhostUserBackendMut in
    let d = state_by g.D.VhostUserBackendMut c.args.device.now in
    let e = state_by g.D.VhostUserBackendMut c.loop-party.device in
    let f = state_by g.D.VhostUserBackendMut c.turn.new.device in
    let s = c.args.setup.now in
    let i = c.loop-party.party-index in
    let size : ℕ = length c.args.schedule.now in
    let w = world_of s c.loop-party.machine c.loop-party.service in
    let z = world_of s c.turn.new.machine c.turn.new.service in
    let p = party_of (get_or c.args.schedule.now i 0) in
    let so = c.loop-party.invariant in
    let its = c.in_ok-label.ensures.turned in
    let push : c.push.new.self.items ≡ c.loop-party.labels.items ++ c.in_ok-label.label ∷ [] = search rules in
    let left : size - i ≡ suc (size - (i + 1)) = omega (arith, c.loop-party-test.true) in
    let N : ℕ → Type 0 = λ n. IsSound n w in
    record {
      whole = c.in_ok-label.ensures.whole;
      done = ap length push ∙ length-append c.loop-party.labels.items (c.in_ok-label.label ∷ []) ∙ ap (λ n. n + 1) so.done;
      count = c.in_ok-label.ensures.count ∙ so.count;
      names = names-kept m (size - i) w so.sound p z its.play its.turn s.requests so.names;
      sound = sound-turn m (size - (i + 1)) w p its.play z (subst N left so.sound) its.turn;
      played = played-more m t c.args.schedule.now c.loop-party.labels.items c.push.new.self.items c.loop-party.machine.calls.items c.turn.new.machine.calls.items (world_of s c.args.machine.now c.args.service.now) w z d e f i 0 c.in_ok-label.label c.loop-party-test.true so.played its push;
    }

pub loop-party-init : goal.loop-party-init
loop-party-init g c =
    let s = c.args.setup.now in
    let k = c.args.constants.now in
    let v = c.args.service.now in
    let w = world_of s c.args.machine.now v in
    let size : ℕ = length c.args.schedule.now in
    let none : size ≡ size - 0 = omega arith in
    let S : World g.row.V.Denot → Type 0 = λ x. IsSound size x in
    let R : World g.row.V.Denot → Type 0 = λ x. AllByRecursion (NamesThere (frame_of x.shared).events) s.requests in
    let N : ℕ → Type 0 = λ n. IsSound n w in
    record {
      whole = c.requires.whole;
      done = ap length c.requires.none;
      count = refl;
      names = subst R (sym c.requires.opened) (names-opening k s v c.requires.valid);
      sound = subst N none (subst S (sym c.requires.opened) (opening-sound k s v c.requires.valid size c.requires.short));
      played = played-none (meaning_by g.V.Service) (telling_by g.D.VhostUserBackendMut) c.args.schedule.now w c.args.labels.now.items c.args.machine.now.calls.items (state_by g.D.VhostUserBackendMut c.args.device.now) c.requires.none c.requires.calls;
    }

pub returns-clause-played : goal.returns-clause-played
returns-clause-played g c =
    played-all (meaning_by g.V.Service) (telling_by g.D.VhostUserBackendMut) c.args.schedule.now c.loop-party.labels.items c.loop-party.machine.calls.items (world_of c.args.setup.now c.args.machine.now c.args.service.now) (world_of c.args.setup.now c.loop-party.machine c.loop-party.service) (state_by g.D.VhostUserBackendMut c.args.device.now) (state_by g.D.VhostUserBackendMut c.loop-party.device) c.loop-party.party-index c.loop-party-test.false c.loop-party.invariant.played
