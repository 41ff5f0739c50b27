use Rattle.std.proofs.Common.{rules}
use Rattle.vub_open.proofs.ContentsFrom.{contents_more}
use Rattle.vub_open.proofs.validation.contents_of.Goals as goal

pub loop-number-preserved : goal.loop-number-preserved
loop-number-preserved c = record {
  below = search rules;
  contents = contents_more _ _ _ _ _ c.loop-number-test.true c.index-objects-number.is c.loop-number.invariant.contents c.in_ok-put_content.ensures.ok;
  regions = search rules;
  logs = search rules;
}
