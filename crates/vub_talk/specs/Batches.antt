-- The set-up and the schedule of a batch.
use Rattle.std.specs.Prelude.{ℕ, ◌+◌, ◌-◌, ◌++◌, true, List, [], ◌∷◌, Some}
use Rattle.std.specs.List.{range_with_len, repeat}
use Rattle.vub_model.specs.declared.setup.Guest.{Guest}
use Rattle.vub_model.specs.declared.setup.Guest.TheVariants.{Store}
use Rattle.vub_model.specs.declared.setup.Object.TheVariants as object
use Rattle.vub_model.specs.declared.setup.Setup.{Setup}
use Rattle.vub_driver.specs.Calls.{index_of}
use Rattle.vub_driver.specs.Writings.{writes_of}
use Rattle.vub_driver.specs.declared.layout.Layout.{Layout}
use Rattle.vub_driver.specs.declared.writing.Submission.{Submission}
use Rattle.vub_driver.specs.declared.writing.Write.{Write}
use Rattle.vub_talk.specs.declared.ask.Ask.{Ask}

-- so many rounds, in each of which each party has a turn, by number
abbrev pub schedule_of : ℕ → ℕ → List ℕ
schedule_of rounds parties = repeat rounds (range_with_len 0 parties)

-- the store of the guest that makes a driver's write: the content shows its first byte at 0x100000
abbrev pub store_of : Write → Guest
store_of w = Store 0 (w.at - 1048576) w.bytes

-- four stores: the request's bytes, its two descriptors together, its slot, the index
abbrev pub stores_of : Submission → List Guest
stores_of s = store_of s.request ∷ store_of s.descriptors ∷ store_of s.slot ∷ store_of s.index ∷ []

-- the four stores of each ask, numbered from n on
abbrev pub asks_stored : Layout → ℕ → List Ask → List Guest
asks_stored l n [] = []
asks_stored l n (a ∷ asks) = stores_of (writes_of l n a.request a.room) ++ asks_stored l (n + 1) asks

-- Guest memory is one region over object 0; object 1 is the kick and object 2 the call. The ring is ready and enabled,
-- and goes on at this number.
unfoldable pub batch_setup : Layout → ℕ → List ℕ → List Guest → Setup
batch_setup l n content guest = record {
  objects = object.Content content ∷ object.Event 0 ∷ object.Event 0 ∷ [];
  regions = record { start = 1048576; len = 1048576; user = 0; offset = 0; object = 0 } ∷ [];
  rings =
      record {
        queue = 0;
        size = l.size;
        info = Some (record { desc = l.desc; avail = l.avail; used = l.used });
        base = index_of n;
        next_used = index_of n;
        kick = Some 1;
        call = Some 2;
        ready = true;
        enabled = true;
      }
      ∷ [];
  requests = [];
  guest = guest;
}
