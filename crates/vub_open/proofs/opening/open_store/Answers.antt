use Rattle.std.proofs.Common.{rules, ◌<◌, ◌^◌, ℕ, List, length, sym, subst}
use Rattle.vub_model.specs.declared.setup.GivenRing.{GivenRing}
use Rattle.vub_model.specs.Shared.{Shared}
use Rattle.vub_open.specs.Opened.{unserved, AreTaken}
use Rattle.vub_open.proofs.HostTakes.{rings-taken}
use Rattle.vub_open.proofs.opening.open_store.Goals as goal

pub register_rings-requires-clause-taken : goal.register_rings-requires-clause-taken
register_rings-requires-clause-taken c =
    let k = c.args.constants.now in
    let s = c.args.setup.now in
    let long : length c.as_slice.result.now < 2 ^ 63 = search rules in
    let few : length s.rings < 2 ^ 63 = (let L : List GivenRing → Type 0 = λ rings. length rings < 2 ^ 63 in subst L c.as_slice.ensures long) in
    let H : Shared (Unit {0}) → Type 0 = λ h. AreTaken k (length s.objects) h s.rings in
    let N : ℕ → Type 0 = λ n. AreTaken k n (unserved c.in_ok-store.store) s.rings in
    let R : List GivenRing → Type 0 = λ rings. AreTaken k c.len-count.result (unserved c.in_ok-store.store) rings in
    subst R (sym c.as_slice.ensures) (subst N (sym c.len-count.ensures) (subst H (sym c.in_ok-store.ensures.shared) (rings-taken k s (tt {0}) c.requires.valid few)))
