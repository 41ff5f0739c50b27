use Rattle.std.proofs.Common.{◌≡◌, ◌++◌, drop}
use Rattle.vub_counter.specs.Messages.{joined}
use Rattle.vub_counter.proofs.messages.join.Given as goal

abbrev pub invariant-loop-buf : goal.invariant-loop-buf
invariant-loop-buf l = l.bytes.items ++ joined (drop l.buf-index l.bufs) ≡ joined l.bufs
