-- How many workers a machine has that was opened.
use Rattle.std.proofs.Common.{◌≡◌, length, sym, ap, ◌∙◌}
use Rattle.std.proofs.lemmas.List.{length-map}
use Rattle.vub_model.specs.declared.constants.Constants.{Constants}
use Rattle.vub_model.specs.declared.setup.Setup.{Setup}
use Rattle.vub_model.specs.Opening.{opening}
use Rattle.vub_loop.specs.Handler.{phase_of}
use Rattle.vub_core.specs.declared.machine.Machine.{Machine}
use Rattle.vub_core.specs.Machine.{opened_world}

pub worker-count : (k : Constants) (s : Setup) (m : Machine) → opened_world s m ≡ opening k s (tt {0}) → length m.workers.items ≡ length k.masks
unfolding opening
worker-count k s m is = sym (length-map m.workers.items (λ h. phase_of h)) ∙ ap (λ x. length x.phases) is ∙ length-map k.masks _
