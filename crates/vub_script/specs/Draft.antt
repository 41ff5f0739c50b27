-- What a tree says, where it is in the grammar of scripts: the whole grammar in one definition. Each key is optional.
use Rattle.std.specs.Prelude.{false, if◌then◌else◌, [], ◌∷◌, codes, Option, Some, None}
use Rattle.serde_json.specs.Data.{Data}
use Rattle.serde_json.specs.Find.{get}
use Rattle.vub_script.specs.declared.device_form.DeviceForm.{DeviceForm}
use Rattle.vub_script.specs.declared.service_form.ServiceForm.TheVariants.{Echo}
use Rattle.vub_script.specs.declared.draft.Draft.{Draft}
use Rattle.vub_forms.specs.Reading.{◌>>=◌, or_default}
use Rattle.vub_forms.specs.Numbers.{number_of, u32_of}
use Rattle.vub_forms.specs.Hexadecimal.{bytes_of}
use Rattle.vub_forms.specs.Leaves.{or_null}
use Rattle.vub_forms.specs.Lists.{list_of}
use Rattle.vub_script.specs.Objects.{object_of}
use Rattle.vub_forms.specs.Regions.{region_of}
use Rattle.vub_forms.specs.Rings.{ring_of}
use Rattle.vub_forms.specs.Requests.{request_of}
use Rattle.vub_forms.specs.Guest.{guest_of}
use Rattle.vub_script.specs.Directory.{service_of}
use Rattle.vub_forms.specs.Keys.{has_form}
use Rattle.vub_script.specs.Bitmaps.{bitmap_of}
use Rattle.vub_script.specs.declared.device_form.BitmapForm.TheVariants.{None as NoPages}

-- What is left out is one queue and one worker, whose mask has the queues 0 to 31. The features are VIRTIO_F_VERSION_1
-- (bit 32), VHOST_USER_F_PROTOCOL_FEATURES (30), VIRTIO_RING_F_EVENT_IDX (29) and VHOST_F_LOG_ALL (26); the protocol
-- features are VHOST_USER_PROTOCOL_F_LOG_SHMFD (bit 1), _REPLY_ACK (3) and _CONFIG (9).
unfoldable pub device_of : Data → Option DeviceForm
device_of d = do
  queues ← or_default 1 number_of (get (codes "queues") d)
  max_size ← or_default 256 number_of (get (codes "max_size") d)
  masks ← or_default (4294967295 ∷ []) (list_of number_of) (get (codes "masks") d)
  features ← or_default 5972688896 number_of (get (codes "features") d)
  protocol ← or_default 522 number_of (get (codes "protocol") d)
  config ← or_default [] bytes_of (get (codes "config") d)
  bitmap ← or_default NoPages bitmap_of (get (codes "bitmap") d)
  exits ← or_default [] (list_of (or_null u32_of)) (get (codes "exits") d)
  refuse ← or_default [] (list_of number_of) (get (codes "refuse") d)
  Some (record {
    queues = queues;
    max_size = max_size;
    masks = masks;
    features = features;
    protocol = protocol;
    config = config;
    bitmap = bitmap;
    exits = exits;
    refuse = refuse;
  })

unfoldable pub fields_of : Data → Option Draft
fields_of d = do
  objects ← or_default [] (list_of object_of) (get (codes "objects") d)
  regions ← or_default [] (list_of region_of) (get (codes "regions") d)
  rings ← or_default [] (list_of ring_of) (get (codes "rings") d)
  requests ← or_default [] (list_of request_of) (get (codes "requests") d)
  guest ← or_default [] (list_of guest_of) (get (codes "guest") d)
  device ← device_of d
  service ← or_default Echo service_of (get (codes "service") d)
  listed ← or_default [] (list_of u32_of) (get (codes "schedule") d)
  rounds ← or_default 0 number_of (get (codes "rounds") d)
  Some (record {
    objects = objects;
    regions = regions;
    rings = rings;
    requests = requests;
    guest = guest;
    device = device;
    service = service;
    listed = listed;
    rounds = rounds;
  })

-- no key but the script's, and each part in its form
unfoldable pub draft_of_tree : Data → Option Draft
draft_of_tree d = if has_form d then fields_of d else None
