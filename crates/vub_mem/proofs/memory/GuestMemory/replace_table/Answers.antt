use Rattle.std.proofs.Common.{arith, rules, refl, ◌≡◌, map}
use Rattle.vub_mem.specs.Sound.{IsSound}
use Rattle.vub_mem.specs.Table.{unlogged}
use Rattle.vub_mem.proofs.memory.GuestMemory.replace_table.Goals as goal
use Rattle.vub_mem.proofs.Tables.{sound_cleared}

pub invariant_of-self : goal.invariant_of-self
invariant_of-self g c =
    let sound : IsSound (record { regions = map unlogged c.args.regions.items; contents = c.self.inside.contents }) = search rules in
    let cleared : c.clear_logs.new.regions ≡ map unlogged c.args.regions.items = search rules in
    sound_cleared g.L.DirtyLog.byte_len _ _ _ _ _ _ (omega arith) (omega arith) refl cleared sound
