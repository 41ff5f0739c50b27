use Rattle.std.proofs.Common.{take}
use Rattle.vub_handler.proofs.Exits.{Ended}
use Rattle.vub_handler.proofs.handler.VhostUserHandler.send_exit_event.Given as goal

abbrev pub invariant-loop-number : goal.invariant-loop-number
invariant-loop-number g l = Ended (take l.number l.opened) (g.P.Parts.state l.initial.parts) (g.P.Parts.state l.parts)
