-- From bytes to a script: the draft that a text is, the limits on drafts, and the script that a draft is written out
-- to.
use Rattle.std.specs.Prelude.{ℕ, ◌+◌, ◌*◌, ◌&&◌, nat_le, Bool, if◌then◌else◌, List, [], ◌∷◌, ◌++◌, length, map}
use Rattle.std.specs.Prelude.{replicate, Option, None}
use Rattle.std.specs.List.{range_with_len, repeat}
use Rattle.std.specs.Str.{is_utf8}
use Rattle.serde_json.specs.Read.{read}
use Rattle.vub_model.specs.declared.setup.Object.{Object}
use Rattle.vub_model.specs.declared.setup.Object.TheVariants.{Event, Content, Log}
use Rattle.vub_script.specs.declared.draft.Draft.{Draft}
use Rattle.vub_script.specs.declared.draft.ObjectDraft.{ObjectDraft}
use Rattle.vub_script.specs.declared.draft.ObjectDraft.TheVariants as draft
use Rattle.vub_script.specs.declared.script.Script.{Script}
use Rattle.vub_forms.specs.Reading.{◌>>=◌}
use Rattle.vub_script.specs.Draft.{draft_of_tree}

-- What the bytes say: a JSON text in UTF-8 (RFC 8259, as the crate serde_json reads it: the last of equal keys counts)
-- whose tree is in the grammar.
unfoldable pub read_draft : List ℕ → Option Draft
read_draft bytes = if is_utf8 bytes then read bytes >>= draft_of_tree else None

-- ---- limits

abbrev pub content_len : ObjectDraft → ℕ
content_len (draft.Event flags) = 0
content_len (draft.Zeros n) = n
content_len (draft.Content bytes) = length bytes
content_len (draft.Log len) = len

abbrev pub content_total : List ObjectDraft → ℕ
content_total [] = 0
content_total (o ∷ os) = content_len o + content_total os

-- turns that are listed, and rounds in each of which the guest, the control party and each worker have one
abbrev pub turn_total : ℕ → ℕ → ℕ → ℕ
turn_total listed rounds workers = listed + rounds * (workers + 2)

abbrev pub are_turns_within : ℕ → ℕ → ℕ → Bool
are_turns_within listed rounds workers = nat_le (turn_total listed rounds workers) 4194304

-- at most 67108864 bytes in all contents and logs together, and at most 4194304 turns
unfoldable pub is_within : Draft → Bool
is_within d =
    nat_le (content_total d.objects) 67108864 && are_turns_within (length d.listed) d.rounds (length d.device.masks)

-- ---- what is written out

abbrev pub object_from : ObjectDraft → Object
object_from (draft.Event flags) = Event flags
object_from (draft.Zeros n) = Content (replicate n 0)
object_from (draft.Content bytes) = Content bytes
object_from (draft.Log len) = Log len

-- the parties of one round: the guest 0, the control party 1, and the workers from 2 on
abbrev pub parties : ℕ → List ℕ
parties workers = range_with_len 0 (workers + 2)

unfoldable pub script_from : Draft → Script
script_from d = record {
  setup = record {
    objects = map object_from d.objects;
    regions = d.regions;
    rings = d.rings;
    requests = d.requests;
    guest = d.guest;
  };
  device = d.device;
  service = d.service;
  schedule = d.listed ++ repeat d.rounds (parties (length d.device.masks));
}
