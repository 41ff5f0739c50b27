use Rattle.std.proofs.Common.{arith, rules}
use Rattle.vub_mem.proofs.mapping.va_to_gpa.Goals as goal
use Rattle.vub_mem.proofs.Mapped.{mapped}

pub overflow_sub-result : goal.overflow_sub-result
overflow_sub-result c = (mapped c.args.mappings.now c.args.va c.in-Some.mapping.now (search rules)).low

pub overflow_add-result : goal.overflow_add-result
overflow_add-result c = omega (arith, (mapped c.args.mappings.now c.args.va c.in-Some.mapping.now (search rules)).fits)
