use Rattle.std.proofs.Common.{[], ◌∷◌, Err, refl, ap, ◌∙◌}
use Rattle.vub_event.specs.declared.error.HostError.TheVariants.{WouldBlock, EINVAL, EBADF, Failed}
use Rattle.vub_open.proofs.Claims.{signal_raises}
use Rattle.vub_open.proofs.HostCauses.{no-refusal}
use Rattle.vub_open.proofs.registering.ring_bell.Goals as goal

pub unreachable-requires : goal.unreachable-requires
unreachable-requires c = no-refusal _ (Failed ∷ WouldBlock ∷ EINVAL ∷ EBADF ∷ []) _ c.requires.taken c.in-Err.ensures.table.0 (λ same. c.in-Err.ensures.faults.sound c.requires.sound (ap (λ e. Err e) same)) c.in-Err.ensures.refusals refl

pub returns-clause-table : goal.returns-clause-table
returns-clause-table c = c.in-Ok.ensures.table.2 ∙ signal_raises c.args.host.now.table c.args.bell c.requires.taken
