use Rattle.std.proofs.Common.{subst, sym}
use Rattle.vub_ring.specs.declared.ops.TableRing.{TableRing}
use Rattle.vub_ring.specs.declared.ops.TableRingSaid.TheVariants as table_said
use Rattle.vub_vring.specs.Store.{ClosedPlays}
use Rattle.vub_vring.proofs.Places.{closed_take, closed_outside, closed_done}
use Rattle.vub_vring.proofs.store.closed_table_said.Goals as goal

pub returns-in-Take-clause-row : goal.returns-in-Take-clause-row
returns-in-Take-clause-row g c =
    let P : TableRing → Type 0 = λ o. ClosedPlays o table_said.Nothing c.args.memory.now.guest in
    subst P (sym c.in-Take.is) (closed_take c.args.memory.now.guest)

pub returns-in-None-clause-row : goal.returns-in-None-clause-row
returns-in-None-clause-row g c =
    let P : TableRing → Type 0 = λ o. ClosedPlays o table_said.Outside c.args.memory.now.guest in
    subst P (sym c.in-Info.is) (closed_outside c.args.memory.now.guest c.in-Info.desc c.in-Info.avail c.in-Info.used c.in-None.ensures.none)

pub returns-in-Some-clause-row : goal.returns-in-Some-clause-row
returns-in-Some-clause-row g c =
    let P : TableRing → Type 0 = λ o. ClosedPlays o table_said.Done c.args.memory.now.guest in
    subst P (sym c.in-Info.is) (closed_done c.args.memory.now.guest c.in-Info.desc c.in-Info.avail c.in-Info.used _ c.in-Some.ensures.some)
