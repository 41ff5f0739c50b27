-- Where the parts of a driver's ring and its buffers lie (virtio 1.2, 2.7). Request n has place n modulo half of the
-- size: two descriptors, and in the buffers the bytes of the request and behind them the room for the reply.
use Rattle.std.specs.Prelude.{ℕ, ◌+◌, ◌*◌, ◌/◌, ◌%◌}
use Rattle.vub_driver.specs.declared.layout.Layout.{Layout}

-- how many requests may be outstanding
abbrev pub half_of : Layout → ℕ
half_of l = l.size / 2

abbrev pub place_of : Layout → ℕ → ℕ
place_of l n = n % half_of l

-- the number of the first of its two descriptors
abbrev pub head_of : Layout → ℕ → ℕ
head_of l n = 2 * place_of l n

abbrev pub descriptors_at : Layout → ℕ → ℕ
descriptors_at l n = l.desc + 16 * head_of l n

abbrev pub request_at : Layout → ℕ → ℕ
request_at l n = l.buffers + 2 * place_of l n * l.slot

abbrev pub reply_at : Layout → ℕ → ℕ
reply_at l n = l.buffers + 2 * place_of l n * l.slot + l.slot

-- the available ring: its index, and the slot of request n
abbrev pub avail_index_at : Layout → ℕ
avail_index_at l = l.avail + 2

abbrev pub avail_slot_at : Layout → ℕ → ℕ
avail_slot_at l n = l.avail + (4 + 2 * (n % l.size))

-- the used ring: its index, the element of request n, and the word by which the device asks for signals
abbrev pub used_index_at : Layout → ℕ
used_index_at l = l.used + 2

abbrev pub used_element_at : Layout → ℕ → ℕ
used_element_at l n = l.used + (4 + 8 * (n % l.size))

abbrev pub avail_event_at : Layout → ℕ
avail_event_at l = l.used + (4 + 8 * l.size)
