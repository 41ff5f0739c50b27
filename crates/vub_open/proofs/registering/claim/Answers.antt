use Rattle.std.proofs.Common.{[], ◌∷◌, Err, refl, ap, ◌∙◌}
use Rattle.vub_event.specs.declared.error.HostError.TheVariants.{EBADF, Failed, Held}
use Rattle.vub_open.proofs.Claims.{claim_claims}
use Rattle.vub_open.proofs.HostCauses.{no-refusal}
use Rattle.vub_open.proofs.registering.claim.Goals as goal

pub unreachable-requires : goal.unreachable-requires
unreachable-requires c = no-refusal _ (Failed ∷ EBADF ∷ Held ∷ []) _ c.requires.taken c.in-Err.ensures.table.0 (λ same. c.in-Err.ensures.faults.sound c.requires.sound (ap (λ e. Err e) same)) c.in-Err.ensures.refusals refl

pub returns-clause-table : goal.returns-clause-table
returns-clause-table c = c.in-Ok.ensures.table.2 ∙ claim_claims c.args.host.now.table c.args.kick c.args.queue c.requires.taken
