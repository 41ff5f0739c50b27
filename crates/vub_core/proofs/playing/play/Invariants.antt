use Rattle.std.proofs.Common.{◌≡◌, ◌-◌, length, take}
use Rattle.vub_model.proofs.Sound.{IsSound}
use Rattle.vub_core.specs.DeviceRun.{state_by, telling_by}
use Rattle.vub_core.specs.Machine.{world_of}
use Rattle.vub_core.specs.Meanings.{meaning_by}
use Rattle.vub_core.specs.Played.{HasPlayed}
use Rattle.vub_core.specs.Ready.{RequestsName}
use Rattle.vub_core.specs.Whole.{IsWhole}
use Rattle.vub_core.proofs.playing.play.Given as goal

abbrev pub invariant-loop-party : goal.invariant-loop-party
invariant-loop-party g l =
    record {
      whole : IsWhole l.machine;
      done : length l.labels.items ≡ l.party-index;
      count : length l.machine.workers.items ≡ length l.initial.machine.workers.items;
      names : RequestsName l.setup l.machine;
      sound : IsSound (length l.schedule - l.party-index) (world_of l.setup l.machine l.service);
      played : HasPlayed (meaning_by g.V.Service) (telling_by g.D.VhostUserBackendMut) (take l.party-index l.schedule) l.labels.items l.machine.calls.items (world_of l.setup l.initial.machine l.initial.service) (world_of l.setup l.machine l.service) (state_by g.D.VhostUserBackendMut l.initial.device) (state_by g.D.VhostUserBackendMut l.device);
    }
