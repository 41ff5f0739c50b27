-- How many entries a ring has left, for laws that count.
use Rattle.std.specs.Prelude.{ℕ, if◌then◌else◌}
use Rattle.vub_mem.specs.Memory.{Guest}
use Rattle.vub_model.specs.RingRecord.{Vring, has_addresses}
use Rattle.vub_model.specs.EntryNumber.{left_count}

-- none where the addresses are absent or the index word is not covered
abbrev pub entries_left : Guest → Vring → ℕ
entries_left g r = if has_addresses r then left_count g r else 0
