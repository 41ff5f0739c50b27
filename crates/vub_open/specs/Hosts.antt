-- The host of a machine.
use Rattle.std.specs.Prelude.{◌≡◌, []}
use Rattle.vub_event.specs.declared.mem_host.MemHost.{MemHost}

-- it has no call that is to fail
abbrev pub NeverFails : MemHost → Type 0
NeverFails host = host.plan.calls.items ≡ []
