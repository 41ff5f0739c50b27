use Rattle.std.proofs.Common.{rules, refl}
use Rattle.vub_log.specs.Notes.{generation_of, bits_of}
use Rattle.vub_log.proofs.Steps.{loads_step}
use Rattle.vub_log.proofs.shared.LogSeatDirtyLog.load.Goals as goal

pub load-found-requires : goal.load-found-requires
load-found-requires c = (search rules, search rules, loads_step _ _ _ _ _ (search rules))

pub returns-clause-loaded : goal.returns-clause-loaded
returns-clause-loaded c =
    let told = c.load-found.ensures.2 in (
      bits_of c.load-found.result,
      generation_of c.load-found.result,
      rw (← c.self.view_is) (λ z. record { log = c.load-found.ensures.0 z; len = c.self.inside.len; notes = told.0 z }),
      refl,
      rw (← c.self.view_is) told.1,
    )
