-- What a contract sees of a queue's fields, and what every queue keeps.
use Rattle.std.specs.Prelude.{◌≡◌, ◌≤◌, true}
use Rattle.std.specs.Int.{is_power_of_two}
use Rattle.std.specs.Option.{ForSome}
use Rattle.vub_queue.specs.Ring.{Ring}
use Rattle.vub_queue.specs.Settings.{IsAligned}
use Rattle.vub_queue.specs.declared.queue.Queue.TheInside.{Inside}

-- what a contract sees of the fields
abbrev pub ring_of : Inside → Ring
ring_of q =
    record {
      max = q.max;
      size = q.size;
      ready = q.ready;
      event_idx = q.event_idx;
      addresses = q.addresses;
      next_avail = q.next_avail;
      next_used = q.next_used;
      told = q.told;
    }

-- what every queue keeps
pub record IsSound (q : Inside) : Type 0 where
  pub max : is_power_of_two q.max ≡ true
  pub size : is_power_of_two q.size ≡ true
  pub fits : q.size ≤ q.max
  pub aligned : ForSome q.addresses IsAligned
