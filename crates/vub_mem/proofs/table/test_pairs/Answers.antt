use Rattle.std.proofs.Common.{◌+◌, ◌<◌, ◌^◌}
use Rattle.vub_mem.specs.declared.region.Region.{Region}
use Rattle.vub_mem.proofs.table.test_pairs.Goals as goal
use Rattle.vub_mem.proofs.Tables.{pairs_some, pairs_none, pairs_end}
use Rattle.vub_mem.proofs.Finds.{all_at}

pub returns-in-Some : goal.returns-in-Some
returns-in-Some c = pairs_some _ _ _ _ _ _ c.loop-region-test.true c.loop-region.invariant.0 c.in-Some.ensures

pub loop-region-preserved : goal.loop-region-preserved
loop-region-preserved c = (
  pairs_none _ _ _ _ _ c.loop-region-test.true c.loop-region.invariant.0 c.in-None.ensures,
  (let Ends : Region → Type 0 = λ r. r.start + r.len < 2 ^ 64 in all_at Ends _ _ _ c.loop-region-test.true c.requires.others),
)

pub returns : goal.returns
returns c = pairs_end _ _ _ _ c.loop-region-test.false c.loop-region.invariant.0
