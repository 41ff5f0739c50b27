use Rattle.std.proofs.Common.{ℕ, Option, sym, subst}
use Rattle.vub_loop.specs.Listening.{SendsExit}
use Rattle.vub_loop.proofs.Listeners.{exit-told}
use Rattle.vub_loop.proofs.listening.EpollHandle.send_exit_event.Goals as goal

pub returns-in-Some-clause-row : goal.returns-in-Some-clause-row
returns-in-Some-clause-row g c =
    let old = g.P.Parts.state c.args.parts.now in
    let new = g.P.Parts.state c.host-said.new.self in
    let S : Option ℕ → Type 0 = λ exit. SendsExit exit old new in
    subst S (sym c.in-Some.is)
    (exit-told c.in-Some.exit c.host-said.result old.faults new.faults old.NeverFails new.NeverFails old.shared new.shared c.host-said.ensures.said (λ lacking. let none = c.host-said.ensures.memory lacking in absurd (cc)) c.host-said.ensures.frame.faults c.host-said.ensures.row)
