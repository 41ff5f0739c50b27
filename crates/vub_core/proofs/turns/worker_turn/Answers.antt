use Rattle.std.proofs.Common.{rules, ◌≡◌, ◌∙◌, ◌++◌, ◌<◌, inl, Bool, List, length, refl, sym, ap, subst}
use Rattle.std.specs.Vec.{with_item}
use Rattle.vub_model.specs.declared.party.Party.{Party}
use Rattle.vub_model.specs.declared.phase.Phase.{Phase}
use Rattle.vub_model.specs.DeviceCalls.{heard_in}
use Rattle.vub_model.specs.RingRecord.{Vring}
use Rattle.vub_model.specs.World.{takes_by}
use Rattle.vub_loop.specs.Handler.{phase_of}
use Rattle.vub_loop.specs.Sound.{IsSound}
use Rattle.vub_vring.specs.Store.{shared_of}
use Rattle.vub_core.specs.declared.machine.Machine.{Machine}
use Rattle.vub_core.specs.DeviceRun.{state_by, telling_by, HasMade}
use Rattle.vub_core.specs.Machine.{begun_of, world_of}
use Rattle.vub_core.specs.Meanings.{meaning_by}
use Rattle.vub_core.specs.Places.{IsFootprint}
use Rattle.vub_core.specs.Recorded.{uses_in, IsWritten}
use Rattle.vub_core.specs.Stepped.{IsTurn}
use Rattle.vub_core.proofs.Framed.{turn-framed}
use Rattle.vub_core.proofs.Kept.{handler-here, handlers-again, same-taken, turn-keeps, on-err}
use Rattle.vub_core.proofs.Made.{recorded-none}
use Rattle.vub_core.proofs.Replies.{turn-fits}
use Rattle.vub_core.proofs.Staying.{control-kept, known-kept, with-control}
use Rattle.vub_core.proofs.Stepping.{machine-turned, phase-here}
use Rattle.vub_core.proofs.turns.worker_turn.Goals as goal

pub returns-in_err-record-clause-service : goal.returns-in_err-record-clause-service
returns-in_err-record-clause-service g c =
    let w = c.args.machine.now.handler.wiring in
    let within : c.args.worker < length c.args.machine.now.workers.items = search rules in
    let own = handler-here w c.args.machine.now.workers.items c.args.worker c.index_mut-handler.result.now c.requires.workers within c.index_mut-handler.ensures.value in
    let row = c.in_ok-play.ensures.row w c.args.worker own in
    on-err c.from_residual-in_err-record.result (turn-keeps (meaning_by g.V.Service) w c.args.worker _ _ _ _ c.in_ok-play.play row (inl c.in_err-record.ensures.err))

pub returns-in_err-record-clause-device : goal.returns-in_err-record-clause-device
returns-in_err-record-clause-device g c =
    let w = c.args.machine.now.handler.wiring in
    let within : c.args.worker < length c.args.machine.now.workers.items = search rules in
    let own = handler-here w c.args.machine.now.workers.items c.args.worker c.index_mut-handler.result.now c.requires.workers within c.index_mut-handler.ensures.value in
    on-err c.from_residual-in_err-record.result (recorded-none (telling_by g.D.VhostUserBackendMut) c.args.worker (phase_of c.index_mut-handler.result.now) (phase_of c.play_worker.new.worker) c.in_ok-play.play (state_by g.D.VhostUserBackendMut c.args.device.now) (state_by g.D.VhostUserBackendMut c.play_worker.new.device) (inl c.in_err-record.ensures.err) (c.in_ok-play.ensures.made w c.args.worker own))

pub returns-clause-turn : goal.returns-clause-turn
returns-clause-turn g c =
    let m = c.args.machine.now in
    let s = c.args.setup.now in
    let v = c.args.service.now in
    let z = c.play_worker.new.service in
    let w = m.handler.wiring in
    let new : Machine = record m { store = c.play_worker.new.store; calls = c.push_into.new.list; workers = with_item m.workers c.args.worker c.take_finished-finished.new.self; records = c.record.new.self } in
    let within : c.args.worker < length m.workers.items = search rules in
    let own = handler-here w m.workers.items c.args.worker c.index_mut-handler.result.now c.requires.workers within c.index_mut-handler.ensures.value in
    let row = c.in_ok-play.ensures.row w c.args.worker own in
    let now : Phase = phase_of c.play_worker.new.worker in
    let ended : c.phase-3.result.now ≡ now = c.phase-3.ensures.same ∙ ap (λ h. phase_of h) c.take_finished-finished.ensures.left in
    let F : List Vring → Phase → Type 0 = λ rs p. IsFootprint rs p c.next_footprint-footprint.result in
    let foot = subst (λ rs. F rs (phase_of c.index_mut-handler.result.now)) c.as_slice.ensures.value (subst (λ p. F c.as_slice.result.now p) c.phase.ensures.same c.next_footprint-footprint.ensures) in
    let took = c.in_ok-record.ensures.takes ∙ ap (λ ts. ts ++ takes_by c.in_ok-play.play c.phase-3.result.now) c.reserve.ensures.takes ∙ ap (λ p. m.records.takes.items ++ takes_by c.in_ok-play.play p) ended in
    let used = c.in_ok-record.ensures.uses ∙ ap (λ us. us ++ uses_in c.take_finished-finished.result) c.reserve.ensures.uses in
    let W : Phase → List (List Bool) → Type 0 = λ p flags. IsWritten c.play_worker.new.store.memory.guest.regions c.next_footprint-footprint.result c.in_ok-play.play p c.take_finished-finished.result flags c.record.new.self.written in
    let framed = turn-framed (meaning_by g.V.Service) w c.args.worker (shared_of m.store v) c.in_ok-play.play (phase_of c.index_mut-handler.result.now) now (shared_of c.play_worker.new.store z) row in
    with-control (meaning_by g.V.Service) (world_of s m v) (world_of s new z) (Party.Worker c.args.worker) c.in_ok-play.play (begun_of s m) (sym (control-kept s m new v z framed refl refl refl refl))
    (machine-turned (meaning_by g.V.Service) (world_of s m v) c.args.worker m.workers.items c.index_mut-handler.result.now c.take_finished-finished.new.self
    (shared_of c.play_worker.new.store z) now c.next_footprint-footprint.result c.take_finished-finished.result _ _ _ c.record.new.self.harvests.items c.in_ok-play.play
    (ap (λ hs. hs.items) (c.record.ensures.harvests ∙ c.reserve.ensures.harvests)) refl within c.index_mut-handler.ensures.value
    row
    foot
    (c.take_finished-finished.ensures.was ∙ c.in_ok-play.ensures.finished)
    took
    used
    (subst (λ flags. W now flags) c.reserve.ensures.written (subst (λ p. W p c.reserve.new.self.written) ended c.in_ok-record.ensures.written))
    (ap (λ h. phase_of h) c.take_finished-finished.ensures.left))

pub returns-clause-least : goal.returns-clause-least
returns-clause-least g c =
    let w = c.args.machine.now.handler.wiring in
    let within : c.args.worker < length c.args.machine.now.workers.items = search rules in
    let own = handler-here w c.args.machine.now.workers.items c.args.worker c.index_mut-handler.result.now c.requires.workers within c.index_mut-handler.ensures.value in
    c.in_ok-play.ensures.least w c.args.worker own

pub returns-clause-made : goal.returns-clause-made
returns-clause-made g c =
    let w = c.args.machine.now.handler.wiring in
    let within : c.args.worker < length c.args.machine.now.workers.items = search rules in
    let own = handler-here w c.args.machine.now.workers.items c.args.worker c.index_mut-handler.result.now c.requires.workers within c.index_mut-handler.ensures.value in
    let here = phase-here c.args.machine.now.workers.items c.args.worker c.index_mut-handler.result.now _ refl within c.index_mut-handler.ensures.value in
    let P : Phase → Type 0 = λ p. HasMade (telling_by g.D.VhostUserBackendMut) (state_by g.D.VhostUserBackendMut c.args.device.now) (state_by g.D.VhostUserBackendMut c.play_worker.new.device) (heard_in c.args.worker p c.in_ok-play.play) in
    subst P here (c.in_ok-play.ensures.made w c.args.worker own)

pub returns-clause-fits : goal.returns-clause-fits
returns-clause-fits g c =
    let m = c.args.machine.now in
    let v = c.args.service.now in
    let w = world_of c.args.setup.now m v in
    let h = shared_of c.play_worker.new.store c.play_worker.new.service in
    let now : Phase = phase_of c.play_worker.new.worker in
    let within : c.args.worker < length m.workers.items = search rules in
    let own = handler-here m.handler.wiring m.workers.items c.args.worker c.index_mut-handler.result.now c.requires.workers within c.index_mut-handler.ensures.value in
    let here = phase-here m.workers.items c.args.worker c.index_mut-handler.result.now w.phases refl within c.index_mut-handler.ensures.value in
    let R : Phase → Type 0 = λ p. IsTurn (meaning_by g.V.Service) m.handler.wiring c.args.worker c.in_ok-play.play p now w.shared h in
    let sound : IsSound now = subst IsSound (ap (λ x. phase_of x) c.take_finished-finished.ensures.left) c.phase-3.ensures.fits in
    turn-fits (meaning_by g.V.Service) w c.args.worker c.in_ok-play.play now h (subst R here (c.in_ok-play.ensures.row m.handler.wiring c.args.worker own)) sound

pub returns-clause-whole : goal.returns-clause-whole
returns-clause-whole g c =
    let m = c.args.machine.now in
    let v = c.args.service.now in
    let z = c.play_worker.new.service in
    let w = m.handler.wiring in
    let new : Machine = record m { store = c.play_worker.new.store; calls = c.push_into.new.list; workers = with_item m.workers c.args.worker c.take_finished-finished.new.self; records = c.record.new.self } in
    let within : c.args.worker < length m.workers.items = search rules in
    let own = handler-here w m.workers.items c.args.worker c.index_mut-handler.result.now c.requires.workers within c.index_mut-handler.ensures.value in
    let row = c.in_ok-play.ensures.row w c.args.worker own in
    let framed = turn-framed (meaning_by g.V.Service) w c.args.worker (shared_of m.store v) c.in_ok-play.play (phase_of c.index_mut-handler.result.now) (phase_of c.play_worker.new.worker) (shared_of c.play_worker.new.store z) row in
    record {
      workers = handlers-again w _ c.args.worker _ _ c.requires.workers c.index_mut-handler.ensures.value (same-taken _ _ _ c.play_worker.ensures.same c.take_finished-finished.ensures.left);
      sound = c.play_worker.ensures.sound;
      known = known-kept c.args.setup.now m new v z framed refl c.requires.known;
    }
