-- What recovering gives, as a function of the record's bytes, the queue and guest memory.
use Rattle.std.specs.Prelude.{◌≡◌, ℕ, ◌+◌, ◌*◌, ◌%◌, ◌^◌, ◌==◌, ◌⊎◌, Bool, not, ◌||◌, nat_lt, if◌then◌else◌, List, length, drop, slice_set, Result, Ok, Err}
use Rattle.std.specs.Int.{w16}
use Rattle.vub_mem.specs.Memory.{Guest}
use Rattle.vub_mem.specs.Place.{covers, number_at}
use Rattle.vub_queue.specs.EntryNumber.{after}
use Rattle.vub_queue.specs.Layout.{used_index_at}
use Rattle.vub_queue.specs.Ring.{Ring}
use Rattle.vub_inflight.specs.Bytes.{word_in, slots_in, flags_fit}
use Rattle.vub_inflight.specs.Order.{marks_of, heads_of, has_twins, is_spent, next_after}
use Rattle.vub_inflight.specs.State.{idle}
use Rattle.vub_inflight.specs.declared.error.RecoverError.{RecoverError}
use Rattle.vub_inflight.specs.declared.error.RecoverError.TheVariants.{Length, Version, Size, Flag, Head, Counter, Outside, UsedMoved, CounterSpent, OutOfMemory}
use Rattle.vub_inflight.specs.declared.resumed.Resumed.{Resumed}
use Rattle.vub_inflight.specs.declared.slot.Slot.{Slot}
use Rattle.vub_inflight.specs.declared.stage.Stage.TheVariants.{Settled}

-- the used index in memory
abbrev pub index_in : Guest → Ring → ℕ
index_in g q = number_at w16 g (used_index_at q)

-- whether its word is covered
abbrev pub index_covered : Guest → Ring → Bool
index_covered g q = covers g.regions (used_index_at q) 2

-- The slots of the open entries: where the index moved, the last head was published and its use not settled.
abbrev pub live_slots : List Slot → ℕ → ℕ → ℕ → List Slot
live_slots slots last used index = if index == used then slots else slice_set slots last idle

-- the ring that goes on at this used index with these slots, whose heads are served again in the order of taking
abbrev pub resumed_of : Ring → ℕ → ℕ → List Slot → Resumed
resumed_of q last index live =
    let marks = marks_of live in
    record {
      ring = record {
        ring = record q { next_avail = (index + length marks) % 2 ^ 16; next_used = index; told = index };
        last = last;
        used = index;
        slots = live;
        next = next_after marks;
        stage = Settled;
      };
      again = heads_of marks;
    }

-- the tests of what the bytes say, in order, and then the ring that goes on
abbrev pub recover_from : Ring → Guest → ℕ → ℕ → List Slot → Result Resumed RecoverError
recover_from q g last used slots =
    let index = index_in g q in
    let live = live_slots slots last used (index_in g q) in
    if not (nat_lt last q.size) then Err Head else
    if has_twins (marks_of slots) then Err Counter else
    if not (index_covered g q) then Err Outside else
    if not ((index == used) || (index == after used)) then Err UsedMoved else
    if is_spent (marks_of live) then Err CounterSpent else
    Ok (resumed_of q last index live)

-- the tests of the bytes, in order, and then those of what they say
unfoldable pub recovered : List ℕ → Ring → Guest → Result Resumed RecoverError
recovered bs q g =
    if not (length bs == 16 + 16 * q.size) then Err Length else
    if not (word_in bs 8 == 1) then Err Version else
    if not (word_in bs 10 == q.size) then Err Size else
    if not (flags_fit q.size (drop 16 bs)) then Err Flag else
    recover_from q g (word_in bs 12) (word_in bs 14) (slots_in q.size (drop 16 bs))

-- this answer, or want of memory
abbrev pub IsOrNoMemory : Result Resumed RecoverError → Result Resumed RecoverError → Type 0
IsOrNoMemory result answer = (result ≡ answer) ⊎ (result ≡ Err OutOfMemory)
