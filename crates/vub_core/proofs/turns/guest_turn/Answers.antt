use Rattle.std.proofs.Common.{rules, ◌≡◌, ◌<◌, ◌+◌, ◌++◌, List, length, get_or, refl, sym, ap, subst, ◌∙◌}
use Rattle.std.proofs.lemmas.Bool.{ltb-true}
use Rattle.vub_model.specs.declared.party.Party.{Party}
use Rattle.vub_model.specs.declared.play.Play.{Play}
use Rattle.vub_model.specs.declared.setup.Guest.{Guest}
use Rattle.vub_model.specs.World.{harvests_by}
use Rattle.vub_vring.specs.Store.{shared_of, from_option}
use Rattle.vub_core.specs.declared.machine.Machine.{Machine}
use Rattle.vub_core.specs.Machine.{begun_of, world_of}
use Rattle.vub_core.specs.Meanings.{meaning_by}
use Rattle.vub_core.proofs.Acting.{guest-turned, guest-framed, next-may}
use Rattle.vub_core.proofs.Staying.{control-kept, known-kept, with-control}
use Rattle.vub_core.proofs.turns.guest_turn.Goals as goal

pub act-harvested-requires : goal.act-harvested-requires
act-harvested-requires g c =
    let m = c.args.machine.now in
    let s = c.args.setup.now in
    let action = c.in-Some.action.now in
    let all : c.as_slice.result.now ≡ s.guest = search rules in
    let W : List Guest → Type 0 = λ l. m.acted < length l in
    let within = subst W all (ltb-true m.acted _ (sym c.in-Some.ensures.lookup.0)) in
    let here : action ≡ get_or s.guest m.acted action = c.in-Some.ensures.lookup.1 ∙ ap (λ l. get_or l m.acted action) all in
    record { possible = next-may m.store.memory.logs s.guest m.acted action within here c.requires.acts }

pub returns-in_ok-reserve-in-Some-clause-turn : goal.returns-in_ok-reserve-in-Some-clause-turn
returns-in_ok-reserve-in-Some-clause-turn g c =
    let m = c.args.machine.now in
    let s = c.args.setup.now in
    let v = c.args.service.now in
    let new : Machine = record m { store = c.act-harvested.new.self; acted = m.acted + 1; records = record m.records { harvests = c.push_harvest.new.harvests } } in
    let w = world_of s m v in
    let action = c.in-Some.action.now in
    let all : c.as_slice.result.now ≡ s.guest = search rules in
    let W : List Guest → Type 0 = λ l. m.acted < length l in
    let within = subst W all (ltb-true m.acted _ (sym c.in-Some.ensures.lookup.0)) in
    let here : action ≡ get_or s.guest m.acted action = c.in-Some.ensures.lookup.1 ∙ ap (λ l. get_or l m.acted action) all in
    let shared = c.act-harvested.ensures.shared c.requires.whole.sound v in
    let kept : c.push_harvest.new.harvests.items ≡ w.harvests ++ harvests_by (shared_of m.store v) action =
    c.push_harvest.ensures ∙ ap (λ hs. hs ++ from_option c.act-harvested.result) c.reserve.ensures.items ∙ ap (λ hs. m.records.harvests.items ++ hs) (c.act-harvested.ensures.harvested v) in
    let framed = guest-framed (shared_of m.store v) (shared_of c.act-harvested.new.self v) action shared in
    with-control (meaning_by g.V.Service) w (world_of s new v) Party.Guest Play.Guest (begun_of s m) (sym (control-kept s m new v v framed refl refl refl refl))
    (guest-turned (meaning_by g.V.Service) w s.guest m.acted action (shared_of c.act-harvested.new.self v) c.push_harvest.new.harvests.items refl within here shared kept)

pub returns-in_ok-reserve-in-Some-clause-whole : goal.returns-in_ok-reserve-in-Some-clause-whole
returns-in_ok-reserve-in-Some-clause-whole g c =
    let m = c.args.machine.now in
    let v = c.args.service.now in
    let new : Machine = record m { store = c.act-harvested.new.self; acted = m.acted + 1; records = record m.records { harvests = c.push_harvest.new.harvests } } in
    let framed = guest-framed (shared_of m.store v) (shared_of c.act-harvested.new.self v) c.in-Some.action.now (c.act-harvested.ensures.shared c.requires.whole.sound v) in
    record {
      workers = c.requires.whole.workers;
      sound = c.act-harvested.ensures.still c.requires.whole.sound;
      known = known-kept c.args.setup.now m new v v framed refl c.requires.whole.known;
    }
