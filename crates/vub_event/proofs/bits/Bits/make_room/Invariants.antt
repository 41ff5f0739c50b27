use Rattle.std.proofs.Common.{◌+◌, ◌-◌, ◌/◌, length}
use Rattle.vub_event.specs.BitWords.{MakesRoom}
use Rattle.vub_event.proofs.bits.Bits.make_room.Given as goal

abbrev pub invariant-loop-self : goal.invariant-loop-self
invariant-loop-self l = MakesRoom l.fn.self l.number l.self-inside.words.items

abbrev pub decreases-loop-self : goal.decreases-loop-self
decreases-loop-self l = l.number / 64 + 1 - length l.self-inside.words.items
