use Rattle.std.proofs.Common.{◌≡◌, drop, take}
use Rattle.std.specs.List.{AllByRecursion}
use Rattle.vub_mem.specs.Track.{IsTrackable, tracks_fault}
use Rattle.vub_mem.proofs.track.test_tracks.Given as goal

abbrev pub invariant-loop-region : goal.invariant-loop-region
invariant-loop-region l =
    (tracks_fault l.size l.tracks (drop l.region-index l.regions) ≡ tracks_fault l.size l.tracks l.regions)
    × AllByRecursion (λ r. IsTrackable l.size r) (take l.region-index l.regions)
