use Rattle.std.proofs.Common.{ℕ, ◌+◌, ◌<◌, List, length, Some, None, ◌∙◌, ap, subst}
use Rattle.vub_event.specs.HostCalls.{add_refusal, signal_refusal}
use Rattle.vub_model.specs.Opening.{wiring_of, listed}
use Rattle.vub_open.specs.Opened.{unserved}
use Rattle.vub_open.proofs.Placing.{place_there, ring_registered}
use Rattle.vub_open.proofs.registering.register.Goals as goal

pub claim-requires-clause-taken : goal.claim-requires-clause-taken
claim-requires-clause-taken c = c.requires.taken.claim c.in-Some.kick c.in-Some.is

pub place_kick-requires-clause-add : goal.place_kick-requires-clause-add
place_kick-requires-clause-add c =
    ap (λ t. add_refusal t c.in-Some-place_of.place.worker (listed c.in-Some.kick c.in-Some-place_of.place.number)) c.claim.ensures.table
    ∙ c.requires.taken.add c.in-Some.kick c.in-Some-place_of.place.worker c.in-Some-place_of.place.number c.in-Some.is (let L : List ℕ → Type 0 = λ ms. c.in-Some-place_of.place.worker < length ms in subst L c.as_slice.ensures c.in-Some-place_of.ensures.there)

pub place_kick-requires-clause-bell : goal.place_kick-requires-clause-bell
place_kick-requires-clause-bell c =
    ap (λ t. signal_refusal t (c.args.count + c.in-Some-place_of.place.worker) 1) c.claim.ensures.table
    ∙ c.requires.taken.signal c.in-Some.kick c.in-Some-place_of.place.worker c.in-Some.is (let L : List ℕ → Type 0 = λ ms. c.in-Some-place_of.place.worker < length ms in subst L c.as_slice.ensures c.in-Some-place_of.ensures.there)

pub returns-in-None-clause-shared : goal.returns-in-None-clause-shared
returns-in-None-clause-shared c =
    let k = c.args.constants.now in
    ring_registered (wiring_of k c.args.count) (unserved c.args.store.now) c.args.ring.now c.in-Some.kick c.claim.new.host.table None c.in-Some.is c.claim.ensures.table c.if-not-ring.false c.if-not-ring-2.false
    (place_there k c.args.count c.args.ring.now.queue c.as_slice.result.now None c.as_slice.ensures c.in-None.ensures.place)

pub returns-in_ok-place_kick-in-Some-place_of-clause-shared : goal.returns-in_ok-place_kick-in-Some-place_of-clause-shared
returns-in_ok-place_kick-in-Some-place_of-clause-shared c =
    let k = c.args.constants.now in
    c.in_ok-place_kick-in-Some-place_of.ensures.shared
    ∙ ring_registered (wiring_of k c.args.count) (unserved c.args.store.now) c.args.ring.now c.in-Some.kick c.claim.new.host.table (Some c.in-Some-place_of.place) c.in-Some.is c.claim.ensures.table c.if-not-ring.false c.if-not-ring-2.false
    (place_there k c.args.count c.args.ring.now.queue c.as_slice.result.now (Some c.in-Some-place_of.place) c.as_slice.ensures c.in-Some-place_of.ensures.place)
