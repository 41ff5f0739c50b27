use Rattle.std.proofs.Common.{◌≡◌, drop}
use Rattle.vub_talk.specs.Talking.{calls_of}
use Rattle.vub_talk.proofs.batch.calls_in.Given as goal

abbrev pub invariant-loop-count : goal.invariant-loop-count
invariant-loop-count l = calls_of l.counts ≡ calls_of (drop l.count-index l.counts)
