-- The script that the word `make` plays: on one queue of 256 descriptors the guest publishes so many entries, one after
-- the other, each with 8 bytes to echo, and a worker serves each before the next.
use Rattle.std.specs.Prelude.{ℕ, ◌+◌, ◌*◌, ◌%◌, true, false, List, [], ◌∷◌, ◌++◌, replicate, Some}
use Rattle.std.specs.Int.{w16, w32, w64, to_le_bytes}
use Rattle.std.specs.List.{flat_map, range_with_len, repeat}
use Rattle.vub_model.specs.declared.setup.Object.{Object}
use Rattle.vub_model.specs.declared.setup.Object.TheVariants as object
use Rattle.vub_model.specs.declared.setup.Guest.{Guest}
use Rattle.vub_model.specs.declared.setup.Guest.TheVariants.{Store, Signal}
use Rattle.vub_model.specs.declared.setup.GivenRegion.{GivenRegion}
use Rattle.vub_model.specs.declared.setup.GivenRing.{GivenRing}
use Rattle.vub_model.specs.declared.setup.Info.{Info}
use Rattle.vub_script.specs.declared.device_form.BitmapForm.TheVariants as bitmap
use Rattle.vub_script.specs.declared.device_form.DeviceForm.{DeviceForm}
use Rattle.vub_script.specs.declared.script.Script.{Script}
use Rattle.vub_script.specs.declared.service_form.ServiceForm.TheVariants.{Echo}

-- a descriptor (virtio 1.2, section 2.7.5): address, length, flags and the number of the next one
abbrev pub descriptor : ℕ → ℕ → ℕ → ℕ → List ℕ
descriptor address len flags next =
    to_le_bytes w64 address ++ (to_le_bytes w32 len ++ (to_le_bytes w16 flags ++ to_le_bytes w16 next))

-- Memory begins at address 0x100000. In slot s stand the request, the 8 bytes of i, at 65536 + 32 s,
abbrev pub request_stored : ℕ → ℕ → Guest
request_stored i s = Store 0 (65536 + 32 * s) (to_le_bytes w64 i)

-- descriptor 2 s, of these bytes (flag 1: there is a next one), and descriptor 2 s + 1, of 16 bytes for the reply
-- (flag 2: they are written),
abbrev pub table_stored : ℕ → Guest
table_stored s =
    Store 0 (32 * s) (descriptor (1114112 + 32 * s) 8 1 (2 * s + 1) ++ descriptor (1114128 + 32 * s) 16 2 0)

-- the available entry, in place i modulo 256,
abbrev pub available_stored : ℕ → ℕ → Guest
available_stored i s = Store 0 (8196 + 2 * (i % 256)) (to_le_bytes w16 (2 * s))

-- and the available index behind it.
abbrev pub index_stored : ℕ → Guest
index_stored i = Store 0 8194 (to_le_bytes w16 ((i + 1) % 65536))

-- The guest publishes entry i in slot s, and kicks.
abbrev pub published_in : ℕ → ℕ → List Guest
published_in i s = request_stored i s ∷ table_stored s ∷ available_stored i s ∷ index_stored i ∷ Signal 1 ∷ []

unfoldable pub published : ℕ → List Guest
published i = published_in i (i % 128)

unfoldable pub zeros : ℕ → List ℕ
zeros len = replicate len 0

-- a content of 1 MiB of zero bytes, the kick, and the call
unfoldable pub objects_made : List Object
objects_made = object.Content (zeros 1048576) ∷ object.Event 0 ∷ object.Event 0 ∷ []

-- the content is guest memory from 0x100000 on
abbrev pub region_made : GivenRegion
region_made = record { start = 1048576; len = 1048576; user = 1048576; offset = 0; object = 0 }

-- descriptor table, available ring and used ring at 0x100000, 0x102000 and 0x104000
abbrev pub ring_made : GivenRing
ring_made = record {
  queue = 0;
  size = 256;
  info = Some (record { desc = 1048576; avail = 1056768; used = 1064960 });
  base = 0;
  next_used = 0;
  kick = Some 1;
  call = Some 2;
  ready = true;
  enabled = true;
}

-- the device of a script that says nothing of it
abbrev pub device_made : DeviceForm
device_made = record {
  queues = 1;
  max_size = 256;
  masks = 4294967295 ∷ [];
  features = 5972688896;
  protocol = 522;
  config = [];
  bitmap = bitmap.None;
  exits = [];
  refuse = [];
}

-- five turns of the guest and eight of the worker
abbrev pub turns_of_entry : List ℕ
turns_of_entry = 0 ∷ 0 ∷ 0 ∷ 0 ∷ 0 ∷ 2 ∷ 2 ∷ 2 ∷ 2 ∷ 2 ∷ 2 ∷ 2 ∷ 2 ∷ []

-- and at the end eight of the worker
abbrev pub last_turns : List ℕ
last_turns = 2 ∷ 2 ∷ 2 ∷ 2 ∷ 2 ∷ 2 ∷ 2 ∷ 2 ∷ []

unfoldable pub made : ℕ → Script
made n = record {
  setup = record {
    objects = objects_made;
    regions = region_made ∷ [];
    rings = ring_made ∷ [];
    requests = [];
    guest = flat_map published (range_with_len 0 n);
  };
  device = device_made;
  service = Echo;
  schedule = repeat n turns_of_entry ++ last_turns;
}
