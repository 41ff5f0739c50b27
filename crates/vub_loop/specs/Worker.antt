-- A worker, as its callers see it.
use Rattle.std.specs.Prelude.{ℕ, List, Option}
use Rattle.vub_model.specs.declared.phase.Phase.{Phase}
use Rattle.vub_model.specs.declared.wiring.Opened.{Opened}
use Rattle.vub_loop.specs.declared.finished.Finished.{Finished}

pub record Worker : Type 0 where
  -- how it was opened
  pub opened : Opened
  -- its queues, in order
  pub queues : List ℕ
  -- the number of all queues
  pub count : ℕ
  -- where it stands
  pub phase : Phase
  -- what its last step used
  pub finished : Option Finished
