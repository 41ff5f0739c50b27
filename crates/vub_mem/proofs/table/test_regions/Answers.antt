use Rattle.vub_mem.specs.declared.region.Region.{Region}
use Rattle.vub_mem.specs.Table.{IsTested, region_fault}
use Rattle.vub_mem.proofs.table.test_regions.Goals as goal
use Rattle.vub_mem.proofs.Finds.{faults_some, faults_none, faults_end, all_more}

pub returns-in-Some-clause-value : goal.returns-in-Some-clause-value
returns-in-Some-clause-value c = faults_some (λ r. region_fault c.args.contents.now r) _ _ _ _ _ c.loop-region-test.true c.loop-region.invariant.0 c.in-Some.ensures.value

pub loop-region-preserved : goal.loop-region-preserved
loop-region-preserved c = (
  faults_none (λ r. region_fault c.args.contents.now r) _ _ _ _ c.loop-region-test.true c.loop-region.invariant.0 c.in-None.ensures.value,
  (let Tested : Region → Type 0 = λ r. IsTested c.args.contents.now r in all_more Tested _ _ _ c.loop-region-test.true c.loop-region.invariant.1 c.in-None.ensures.tested),
)

pub returns-clause-value : goal.returns-clause-value
returns-clause-value c = faults_end (λ r. region_fault c.args.contents.now r) _ _ _ c.loop-region-test.false c.loop-region.invariant.0
