use Rattle.std.proofs.Common.{◌≡◌, ◌+◌, drop}
use Rattle.vub_script.specs.Script.{content_total}
use Rattle.vub_script.proofs.limits.do_contents_fit.Given as goal

abbrev pub invariant-loop-object : goal.invariant-loop-object
invariant-loop-object l = content_total l.objects + l.left ≡ 67108864 + content_total (drop l.object-index l.objects)
