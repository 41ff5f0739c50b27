use Rattle.std.proofs.Common.{arith, ◌≡◌, ℕ, subst, refl}
use Rattle.std.proofs.lemmas.Grind.{common_steps}
use Rattle.vub_mem.specs.LogBits.{LoadsByte}
use Rattle.vub_log.specs.Plain.{Plain, byte_of, told_bits}
use Rattle.vub_log.specs.View.{plain_view}
use Rattle.vub_log.proofs.plain.PlainLogDirtyLog.load.Goals as goal
use Rattle.vub_log.specs.PageBits.{loads_byte}

loaded_from : (view old : Plain) (byte number : ℕ) → view ≡ old → number ≡ byte_of view byte → LoadsByte byte number (told_bits old) (told_bits old)
loaded_from view old byte number same gives = loads_byte old byte number old (subst (λ (s : Plain). number ≡ byte_of s byte) same gives, refl)

pub returns-clause-told : goal.returns-clause-told
returns-clause-told c = loaded_from (plain_view c.self.inside) c.args.self.now c.args.byte _ c.self.view_is (grind (arith, common_steps))
