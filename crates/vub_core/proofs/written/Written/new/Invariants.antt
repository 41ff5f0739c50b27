use Rattle.std.proofs.Common.{◌≡◌, map, take}
use Rattle.vub_model.specs.Opening.{unwritten}
use Rattle.vub_core.proofs.written.Written.new.Given as goal

abbrev pub invariant-loop-object : goal.invariant-loop-object
invariant-loop-object l = map (λ v. v.items) l.list.items ≡ map unwritten (take l.object-index l.objects)
