use Rattle.vub_script.proofs.Texts.{reads_some, reads_none}
use Rattle.vub_script.proofs.read.draft_of_bytes.Goals as goal

pub returns-in-Ok-clause-draft : goal.returns-in-Ok-clause-draft
returns-in-Ok-clause-draft c = rw (reads_some _ _ c.in-Ok.ensures.ok.0 c.in-Ok.ensures.ok.1) c.draft_from.ensures.draft

pub returns-else-is_memory-clause-draft : goal.returns-else-is_memory-clause-draft
returns-else-is_memory-clause-draft c = reads_none _ (c.in-Err.ensures.err (λ e. let no = c.if-is_memory.ensures.1 e in cc))
