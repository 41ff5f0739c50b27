use Rattle.std.proofs.Common.{◌≡◌, map}
use Rattle.vub_script.specs.Script.{object_from}
use Rattle.vub_script.proofs.write_out.objects_of_drafts.Given as goal

abbrev pub invariant-loop-draft : goal.invariant-loop-draft
invariant-loop-draft l = l.objects ≡ map object_from l.yielded
