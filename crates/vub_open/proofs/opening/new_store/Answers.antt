use Rattle.std.proofs.Common.{List, length, sym, subst}
use Rattle.std.specs.List.{AllByRecursion}
use Rattle.vub_model.specs.declared.setup.GivenRing.{GivenRing}
use Rattle.vub_model.specs.declared.setup.Object.{Object}
use Rattle.vub_open.specs.Opened.{IsFit, ExitsAreThere}
use Rattle.vub_open.proofs.HostTakes.{exits-below}
use Rattle.vub_open.proofs.ValidParts.{valid_rings}
use Rattle.vub_open.proofs.opening.new_store.Goals as goal

pub open_rings-requires-clause-fit : goal.open_rings-requires-clause-fit
open_rings-requires-clause-fit c =
    let max = c.args.constants.now.max in
    let AllFit : List GivenRing → Type 0 = λ rings. AllByRecursion (λ r. IsFit max r) rings in
    subst AllFit (sym c.as_slice-3.ensures) (valid_rings c.args.constants.now c.args.setup.now c.requires.valid).fit

pub open_host-requires-clause-exits : goal.open_host-requires-clause-exits
open_host-requires-clause-exits c =
    let There : List Object → Type 0 = λ os. ExitsAreThere c.args.constants.now (length os) in
    subst There (sym c.as_slice-2.ensures) (exits-below c.args.constants.now c.args.setup.now c.requires.valid)
