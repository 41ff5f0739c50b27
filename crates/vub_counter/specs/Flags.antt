-- The flags of eventfd(2) for NONBLOCK 1 and CLOEXEC 2.
use Rattle.std.specs.Prelude.{ℕ, ◌+◌, if◌then◌else◌}
use Rattle.vub_event.specs.Counter.{has_bits}

abbrev pub made_flags : ℕ → ℕ
made_flags flags = (if has_bits flags 1 then 0x800 else 0) + (if has_bits flags 2 then 0x80000 else 0)
