-- A queue of messages, after a socket that carries bytes and objects, unix(7). Each message has some bytes and some
-- objects; a receive takes one whole message, and bytes for which there is no room are lost.
use Rattle.std.specs.Prelude.{ℕ, ◌≡◌, ◌≤◌, ◌<◌, ◌++◌, List, [], ◌∷◌, length, take, drop, min, Option, Result, Ok, Err}
use Rattle.std.specs.Prelude.{slice_get}
use Rattle.std.specs.declared.vec.Vec.{Vec}
use Rattle.std.specs.declared.alloc.Global.{Global}
use Rattle.vub_event.specs.declared.error.HostError.{HostError}
use Rattle.vub_event.specs.declared.error.HostError.TheVariants.{WouldBlock, ENOBUFS}
use Rattle.vub_event.specs.HostTable.{HostTable}
use Rattle.vub_event.specs.HostCalls.{close_after}
use Rattle.vub_counter.specs.declared.message.Message.{Message}

-- the table once these objects are closed, one after the other
abbrev pub closed : HostTable → List ℕ → HostTable
closed table [] = table
closed table (object ∷ objects) = closed (close_after table object) objects

-- `before` with its front written over by `values`, as far as there is room
abbrev pub written_over : {T : Type 0} → List T → List T → List T
written_over values before = take (length before) values ++ drop (length values) before

-- the bytes of several buffers, one after the other
abbrev pub joined : List (Vec ℕ Global) → List ℕ
joined [] = []
joined (buf ∷ bufs) = buf.items ++ joined bufs

-- a receive into a buffer of bytes and a room for objects, each before and after: it takes the first message. Without
-- one it is WouldBlock, and with more objects than there is room for ENOBUFS
abbrev pub Receives :
    List Message → List ℕ → List ℕ → Result (ℕ × ℕ) HostError → List Message → List ℕ → List ℕ → Type 0
Receives [] buf room (Ok got) queue buf' room' = ⊥
Receives [] buf room (Err e) queue buf' room' = (e ≡ WouldBlock) × (queue ≡ []) × (buf' ≡ buf) × (room' ≡ room)
Receives (m ∷ rest) buf room (Ok got) queue buf' room' =
    (length m.objects ≤ length room) × (got.0 ≡ min (length m.bytes) (length buf)) × (got.1 ≡ length m.objects)
    × (queue ≡ rest) × (buf' ≡ written_over m.bytes buf) × (room' ≡ written_over m.objects room)
Receives (m ∷ rest) buf room (Err e) queue buf' room' =
    (length room < length m.objects) × (e ≡ ENOBUFS) × (queue ≡ rest) × (buf' ≡ buf) × (room' ≡ room)

-- the same where there is room for one object
abbrev pub ReceivesOne : List Message → List ℕ → Result (ℕ × Option ℕ) HostError → List Message → List ℕ → Type 0
ReceivesOne [] buf (Ok got) queue buf' = ⊥
ReceivesOne [] buf (Err e) queue buf' = (e ≡ WouldBlock) × (queue ≡ []) × (buf' ≡ buf)
ReceivesOne (m ∷ rest) buf (Ok got) queue buf' =
    (length m.objects ≤ 1) × (got.0 ≡ min (length m.bytes) (length buf)) × (got.1 ≡ slice_get m.objects 0)
    × (queue ≡ rest) × (buf' ≡ written_over m.bytes buf)
ReceivesOne (m ∷ rest) buf (Err e) queue buf' =
    (1 < length m.objects) × (e ≡ ENOBUFS) × (queue ≡ rest) × (buf' ≡ buf)

-- the table after a receive: the objects of a refused message are closed
abbrev pub receive_after : {T : Type 0} → List Message → Result T HostError → HostTable → HostTable
receive_after [] result table = table
receive_after (m ∷ rest) (Ok got) table = table
receive_after (m ∷ rest) (Err e) table = closed table m.objects
