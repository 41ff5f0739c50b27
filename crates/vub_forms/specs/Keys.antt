-- The keys of a script and of a ring. A tree with another key is no script.
use Rattle.std.specs.Prelude.{ℕ, ◌&&◌, ◌||◌, Bool, true, false, List, codes}
use Rattle.std.specs.Str.{bytes_eq}
use Rattle.serde_json.specs.Data.{Data, null, boolean, number, string, array, object, Members, no_members, member}

-- every member's key passes
abbrev pub keys_are : (List ℕ → Bool) → Members → Bool
keys_are p no_members = true
keys_are p (member k d ms) = p k && keys_are p ms

-- an object whose keys all pass
abbrev pub object_keys_are : (List ℕ → Bool) → Data → Bool
object_keys_are p null = false
object_keys_are p (boolean b) = false
object_keys_are p (number n) = false
object_keys_are p (string s) = false
object_keys_are p (array ds) = false
object_keys_are p (object ms) = keys_are p ms

-- ---- a script

abbrev pub is_setup_key : List ℕ → Bool
is_setup_key k =
    bytes_eq k (codes "service") || bytes_eq k (codes "objects") || bytes_eq k (codes "regions") ||
    bytes_eq k (codes "rings") || bytes_eq k (codes "requests") || bytes_eq k (codes "guest")

abbrev pub is_device_number_key : List ℕ → Bool
is_device_number_key k =
    bytes_eq k (codes "queues") || bytes_eq k (codes "max_size") || bytes_eq k (codes "features") ||
    bytes_eq k (codes "protocol")

abbrev pub is_device_list_key : List ℕ → Bool
is_device_list_key k =
    bytes_eq k (codes "masks") || bytes_eq k (codes "config") || bytes_eq k (codes "exits") || bytes_eq k (codes "refuse")

abbrev pub is_device_key : List ℕ → Bool
is_device_key k = is_device_number_key k || is_device_list_key k || bytes_eq k (codes "bitmap")

abbrev pub is_turn_key : List ℕ → Bool
is_turn_key k = bytes_eq k (codes "schedule") || bytes_eq k (codes "rounds")

abbrev pub is_key : List ℕ → Bool
is_key k = is_setup_key k || is_device_key k || is_turn_key k

abbrev pub has_form : Data → Bool
has_form d = object_keys_are is_key d

-- ---- a ring

abbrev pub is_ring_place_key : List ℕ → Bool
is_ring_place_key k =
    bytes_eq k (codes "queue") || bytes_eq k (codes "size") || bytes_eq k (codes "info") || bytes_eq k (codes "base") ||
    bytes_eq k (codes "next_used")

abbrev pub is_ring_state_key : List ℕ → Bool
is_ring_state_key k =
    bytes_eq k (codes "kick") || bytes_eq k (codes "call") || bytes_eq k (codes "ready") || bytes_eq k (codes "enabled")

abbrev pub is_ring_key : List ℕ → Bool
is_ring_key k = is_ring_place_key k || is_ring_state_key k

abbrev pub has_ring_form : Data → Bool
has_ring_form d = object_keys_are is_ring_key d
