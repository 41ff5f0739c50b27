use Rattle.std.proofs.Common.{◌≡◌, ◌∙◌, ℕ, List, ap, map}
use Rattle.std.specs.Prelude.{Vec}
use Rattle.std.specs.declared.alloc.Global.{Global}
use Rattle.vub_dir.specs.Names.{find_name}
use Rattle.vub_dir.proofs.NameOrder.{entry_of, find_indexed}
use Rattle.vub_dir.proofs.names.Names.find.Goals as goal

pub returns : goal.returns
returns c =
    let there : c.deref.result.now.entries ≡ c.self.inside.nodes.value.entries = ap (λ m. m.entries) c.deref.ensures in
    rw (← c.self.view_is)
    (c.copied.ensures ∙ c.get.ensures.value
    ∙ find_indexed (λ (k : Vec ℕ Global). k.items) c.args.name.now c.deref.result.now.entries
    ∙ ap (λ (es : List (Vec ℕ Global × ℕ)). find_name c.args.name.now (map (entry_of (λ (k : Vec ℕ Global). k.items)) es)) there)
