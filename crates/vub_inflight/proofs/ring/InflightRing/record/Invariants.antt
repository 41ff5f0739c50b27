use Rattle.std.proofs.Common.{◌≡◌, ◌++◌, take}
use Rattle.std.specs.List.{flat_map}
use Rattle.vub_inflight.specs.Bytes.{front_bytes, slot_bytes}
use Rattle.vub_inflight.proofs.ring.InflightRing.record.Given as goal

abbrev pub invariant-loop-slot : goal.invariant-loop-slot
invariant-loop-slot l = l.bytes.items ≡ front_bytes l.self.ring.size l.self.last l.self.used ++ flat_map slot_bytes (take l.slot-index l.self.slots)
