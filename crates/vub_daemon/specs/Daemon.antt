-- What a daemon shows of itself.
use Rattle.std.specs.Prelude.{Bool, List}
use Rattle.vub_loop.specs.declared.listening.EpollHandle.{EpollHandle}

pub record Daemon (S : Type 0) : Type 0 where
  -- who starts its threads
  pub spawner : S
  -- a control thread was started, and is not waited for yet
  pub connected : Bool
  -- a handle of each worker, by number
  pub handles : List EpollHandle
