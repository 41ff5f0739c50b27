use Rattle.std.proofs.Common.{◌≡◌, fold, length, take, drop}
use Rattle.vub_model.specs.Opening.{wiring_of, registered}
use Rattle.vub_open.specs.Hosts.{NeverFails}
use Rattle.vub_open.specs.Opened.{unserved, AreTaken}
use Rattle.vub_open.proofs.registering.register_rings.Given as goal

abbrev pub invariant-loop-ring : goal.invariant-loop-ring
invariant-loop-ring l =
    record {
      shared : unserved l.store ≡ fold (λ h r. registered (wiring_of l.constants l.count) h r) (unserved l.initial.store) (take l.ring-index l.given);
      sets : length l.store.pending.items ≡ length l.constants.masks;
      sound : NeverFails l.store.host;
      taken : AreTaken l.constants l.count (unserved l.store) (drop l.ring-index l.given);
    }
