-- The calls of counters as calls of the host table.
use Rattle.std.specs.Prelude.{ℕ, Result}
use Rattle.vub_event.specs.declared.error.HostError.{HostError}
use Rattle.vub_event.specs.HostTable.{HostTable, IsNextNumber}
use Rattle.vub_event.specs.HostCalls.{Meets, Done, consume_refusal, consume_after, flags_refusal, create_event_after}

-- a new event object with these flags, whose number is read by `number`
abbrev pub MakesEvent : {T : Type 0} → (T → ℕ) → ℕ → Result T HostError → HostTable → HostTable → Type 0
MakesEvent number flags result old =
    Meets (flags_refusal flags) (λ made. IsNextNumber old.objects (number made)) (create_event_after old flags) result
    old

-- a read of a counter that does not answer the count
abbrev pub ReadsCounter : {T : Type 0} → ℕ → Result T HostError → HostTable → HostTable → Type 0
ReadsCounter object result old = Meets (consume_refusal old object) Done (consume_after old object) result old
