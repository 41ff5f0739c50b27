-- What the calls of a ring's state do, besides its ops.
use Rattle.std.specs.Prelude.{◌≡◌, ℕ, Bool, if◌then◌else◌, Option, Some, None, Result}
use Rattle.std.specs.Result.{is_ok}
use Rattle.std.specs.Borrow.{Lends, MutBor, Fml}
use Rattle.vub_event.specs.declared.error.HostError.{HostError}
use Rattle.vub_event.specs.HostTable.{HostTable}
use Rattle.vub_event.specs.HostCalls.{Meets, Done}
use Rattle.vub_queue.specs.Ring.{Ring}
use Rattle.vub_queue.specs.Settings.{size_answer}
use Rattle.vub_queue.specs.contracts.Queue.{the_row as queue_row}
use Rattle.vub_model.specs.RingRecord.{Vring, fits, changed}
use Rattle.vub_model.specs.declared.ring_op.RingOp.{RingOp}
use Rattle.vub_ring.specs.Events.{RaisesEvent, missing, table_read}
use Rattle.vub_ring.specs.contracts.state.VringState.{the_row}

-- the ring ends with the last value of the queue that was lent
abbrev pub LendsQueue : MutBor Vring → MutBor Ring → Fml
LendsQueue s r = Lends the_row queue_row s r (λ q. record s.now { queue = q })

-- the ring with this size, where the queue takes it
abbrev pub sized : Vring → ℕ → Vring
sized r n = if is_ok (size_answer r.queue n) then record r { queue = record r.queue { size = n } } else r

-- the ring after an op that does not wait, where it takes it
abbrev pub changed_if : Vring → RingOp → Vring
changed_if r o = if fits r o then changed r o else r

-- a signal of the call, if there is one
abbrev pub SignalsCall : {T : Type 0} → Option ℕ → Result T HostError → HostTable → HostTable → Type 0
SignalsCall None result old new = Meets None Done old result old new
SignalsCall (Some object) result old new = RaisesEvent object result old new

-- a read of the kick, if there is one, that answers whether the ring is enabled
abbrev pub ReadsKick : Option ℕ → Bool → Result Bool HostError → HostTable → HostTable → Type 0
ReadsKick None enabled result old new = Meets None (λ b. b ≡ enabled) old result old new
ReadsKick (Some object) enabled result old new =
    Meets (missing old object) (λ b. b ≡ enabled) (table_read old object) result old new
