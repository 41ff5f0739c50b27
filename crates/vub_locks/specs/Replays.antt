-- The book of a service: its opening, the calls that were made of it, and the value that they lead to.
use Rattle.std.specs.Prelude.{◌≡◌, ℕ, suc, List, [], ◌∷◌, ◌++◌, length}
use Rattle.vub_model.specs.Service.{Meaning}
use Rattle.vub_model.specs.declared.entry.Entry.{Entry}
use Rattle.vub_locks.specs.declared.records.Served.{Served}
use Rattle.vub_locks.specs.declared.records.Receipt.{Receipt}

pub record Calls (V : Type 0) : Type 0 where
  -- the value with which the book begins
  pub opening : V
  -- the value as it is
  pub value : V
  -- the calls that were made since
  pub calls : List Served

-- The calls lead from one value of the service to another, where the first has this serial: each call has the next
-- serial and the reply of the value then, and the value moves on.
abbrev pub IsReplay : {V : Type 0} → Meaning V → ℕ → V → List Served → V → Type 0
IsReplay m n v [] w = w ≡ v
IsReplay m n v (c ∷ cs) w =
    (c.serial ≡ n) × (c.reply ≡ m.reply_of v c.request c.room) × IsReplay m (suc n) (m.after v c.request c.room) cs w

-- the receipt of a call
abbrev pub receipt_of : Served → Receipt
receipt_of c = record { serial = c.serial; queue = c.queue; number = c.number }

-- the call of a service for an entry, with this serial and this reply
abbrev pub call_for : Entry → ℕ → List ℕ → Served
call_for e serial reply =
    record {
      serial = serial;
      queue = e.queue;
      epoch = e.epoch;
      number = e.number;
      request = e.chain.request;
      room = e.chain.room;
      reply = reply;
    }
