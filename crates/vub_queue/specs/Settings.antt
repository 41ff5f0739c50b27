-- The state of a new queue, and which sizes and addresses a queue takes.
use Rattle.std.specs.Prelude.{◌≡◌, ℕ, ◌%◌, false, not, ◌==◌, ◌&&◌, nat_le, if◌then◌else◌, List, None, Result, Ok, Err}
use Rattle.std.specs.Prelude.{codes}
use Rattle.std.specs.Int.{is_power_of_two}
use Rattle.vub_queue.specs.Ring.{Ring}
use Rattle.vub_queue.specs.declared.addresses.Addresses.{Addresses}
use Rattle.vub_queue.specs.declared.error.QueueError.{QueueError}
use Rattle.vub_queue.specs.declared.error.QueueError.TheVariants.{InvalidMaxSize, InvalidSize, Misaligned}
use Rattle.vub_queue.specs.declared.error.RingPart.{RingPart}
use Rattle.vub_queue.specs.declared.error.RingPart.TheVariants.{Desc, Avail, Used}

-- how an error names a part of a ring
abbrev pub part_text : RingPart → List ℕ
part_text Desc = codes "descriptor table"
part_text Avail = codes "available ring"
part_text Used = codes "used ring"

-- a queue before the driver has set it up
abbrev pub new_ring : ℕ → Ring
new_ring max =
    record {
      max = max;
      size = max;
      ready = false;
      event_idx = false;
      addresses = None;
      next_avail = 0;
      next_used = 0;
      told = 0;
    }

-- The size of a queue is a power of two (virtio 1.2, 2.7).
abbrev pub new_answer : ℕ → Result Ring QueueError
new_answer max = if is_power_of_two max then Ok (new_ring max) else Err InvalidMaxSize

abbrev pub size_answer : Ring → ℕ → Result (Unit {0}) QueueError
size_answer r n = if is_power_of_two n && nat_le n r.max then Ok tt else Err InvalidSize

-- The descriptor table is aligned to 16 bytes, the available ring to 2, the used ring to 4 (virtio 1.2, 2.7). They are
-- tested in this order.
abbrev pub info_answer : ℕ → ℕ → ℕ → Result (Unit {0}) QueueError
info_answer desc avail used =
    if not (desc % 16 == 0) then Err (Misaligned Desc) else
    if not (avail % 2 == 0) then Err (Misaligned Avail) else
    if not (used % 4 == 0) then Err (Misaligned Used) else
    Ok tt

pub record IsAligned (a : Addresses) : Type 0 where
  pub desc : a.desc % 16 ≡ 0
  pub avail : a.avail % 2 ≡ 0
  pub used : a.used % 4 ≡ 0
