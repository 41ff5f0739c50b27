use Rattle.std.proofs.Common.{◌≡◌, ◌∙◌, ℕ, ap, map, drop, sym}
use Rattle.std.proofs.lemmas.List.{drop-map}
use Rattle.std.specs.Prelude.{Vec}
use Rattle.std.specs.declared.alloc.Global.{Global}
use Rattle.vub_dir.proofs.NameOrder.{entry_of}
use Rattle.vub_dir.proofs.names.Names.from_place.Goals as goal

pub returns-clause-names : goal.returns-clause-names
returns-clause-names c =
    let there : c.deref.result.now.entries ≡ c.self.inside.nodes.value.entries = ap (λ m. m.entries) c.deref.ensures in
    rw (← c.self.view_is)
    (ap (map (entry_of (λ (k : Vec ℕ Global). k.items))) (c.past.ensures.rest ∙ ap (drop c.args.offset) there)
    ∙ sym (drop-map (entry_of (λ (k : Vec ℕ Global). k.items)) c.args.offset c.self.inside.nodes.value.entries))
