use Rattle.std.proofs.Common.{◌≡◌, ◌∙◌, List, map, ap, subst, Ok}
use Rattle.vub_dir.specs.Building.{content_of}
use Rattle.vub_dir.specs.Tree.{child_of}
use Rattle.vub_dir.specs.Node.{Node}
use Rattle.vub_dir.proofs.TreeFiles.{tree_files}
use Rattle.vub_dir.proofs.TreeNames.{tree_named, tree_only}
use Rattle.vub_dir.proofs.tree.Tree.new.Goals as goal

pub returns-in-Ok-clause-files : goal.returns-in-Ok-clause-files
returns-in-Ok-clause-files c = ap (map content_of) c.in-Ok.ensures.tree ∙ tree_files c.args.entries.now

pub returns-in-Ok-clause-named : goal.returns-in-Ok-clause-named
returns-in-Ok-clause-named c = λ i e names at there. ap (λ (t : List Node). child_of t e.parent e.name) c.in-Ok.ensures.tree ∙ tree_named c.args.entries.now i e names c.in-Ok.ensures.sound at there

pub returns-in-Ok-clause-only : goal.returns-in-Ok-clause-only
returns-in-Ok-clause-only c = λ p q n h. tree_only c.args.entries.now p q n (subst (λ (t : List Node). child_of t p q ≡ Ok n) c.in-Ok.ensures.tree h)
