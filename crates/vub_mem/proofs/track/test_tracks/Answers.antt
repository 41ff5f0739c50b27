use Rattle.vub_mem.specs.declared.region.Region.{Region}
use Rattle.vub_mem.specs.Sound.{IsBounded}
use Rattle.vub_mem.specs.Track.{IsTrackable, track_fault}
use Rattle.vub_mem.proofs.track.test_tracks.Goals as goal
use Rattle.vub_mem.proofs.Finds.{faults_some, faults_none, faults_end, all_at, all_more}

pub test_track-requires-clause-bounded : goal.test_track-requires-clause-bounded
test_track-requires-clause-bounded c = all_at IsBounded _ _ _ c.loop-region-test.true c.requires.bounded

pub returns-in-Some-clause-value : goal.returns-in-Some-clause-value
returns-in-Some-clause-value c = faults_some (λ r. track_fault c.args.size c.args.tracks r) _ _ _ _ _ c.loop-region-test.true c.loop-region.invariant.0 c.in-Some.ensures.value

pub loop-region-preserved : goal.loop-region-preserved
loop-region-preserved c = (
  faults_none (λ r. track_fault c.args.size c.args.tracks r) _ _ _ _ c.loop-region-test.true c.loop-region.invariant.0 c.in-None.ensures.value,
  (let Trackable : Region → Type 0 = λ r. IsTrackable c.args.size r in all_more Trackable _ _ _ c.loop-region-test.true c.loop-region.invariant.1 c.in-None.ensures.trackable),
)

pub returns-clause-value : goal.returns-clause-value
returns-clause-value c = faults_end (λ r. track_fault c.args.size c.args.tracks r) _ _ _ c.loop-region-test.false c.loop-region.invariant.0
