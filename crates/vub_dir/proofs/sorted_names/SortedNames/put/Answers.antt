use Rattle.std.proofs.Common.{◌∙◌, ℕ, List, ap, map}
use Rattle.std.specs.Prelude.{Vec}
use Rattle.std.specs.declared.alloc.Global.{Global}
use Rattle.vub_dir.specs.Names.{put_name}
use Rattle.vub_dir.proofs.NameOrder.{entry_of, put_listed}
use Rattle.vub_dir.proofs.sorted_names.SortedNames.put.Goals as goal

pub returns : goal.returns
returns c =
    rw (← c.self.view_is)
    (ap (map (entry_of (λ (k : Vec ℕ Global). k.items))) c.in_ok-_before.ensures.entries
    ∙ put_listed (λ (k : Vec ℕ Global). k.items) c.self.inside.nodes.entries c.in_ok-name.name c.args.node
    ∙ ap (λ (n : List ℕ). put_name (map (entry_of (λ (k : Vec ℕ Global). k.items)) c.self.inside.nodes.entries) n c.args.node) c.in_ok-name.ensures.items)
