use Rattle.std.proofs.Common.{◌∙◌, ℕ}
use Rattle.std.specs.Prelude.{Vec}
use Rattle.std.specs.declared.alloc.Global.{Global}
use Rattle.vub_dir.proofs.NameOrder.{find_listed}
use Rattle.vub_dir.proofs.sorted_names.SortedNames.find.Goals as goal

pub returns : goal.returns
returns c = rw (← c.self.view_is) (c.copied.ensures ∙ c.get.ensures.value ∙ find_listed (λ (k : Vec ℕ Global). k.items) c.args.name.now c.self.inside.nodes.entries)
