-- What a batch makes of driver and memory.
use Rattle.std.specs.Prelude.{◌≡◌, ◌≤◌, ◌<◌, ◌^◌, ℕ, ◌+◌, ◌*◌, Bool, true, false, List}
use Rattle.std.specs.Prelude.{[], ◌∷◌, ◌++◌, None, length, replicate, map}
use Rattle.std.specs.List.{list_any, range_with_len}
use Rattle.vub_mem.specs.Memory.{Guest}
use Rattle.vub_mem.specs.Place.{covers}
use Rattle.vub_mem.specs.declared.region.Region.{Region}
use Rattle.vub_driver.specs.Calls.{is_too_large}
use Rattle.vub_driver.specs.Places.{half_of}
use Rattle.vub_driver.specs.State.{State}
use Rattle.vub_driver.specs.View.{IsFit}
use Rattle.vub_driver.specs.declared.done.Done.{Done}
use Rattle.vub_driver.specs.declared.layout.Layout.{Layout}
use Rattle.vub_talk.specs.declared.ask.Ask.{Ask}

unfoldable pub zeros : ℕ → List ℕ
zeros n = replicate n 0

-- the one region, and its bytes at first
abbrev pub region : Region
region = record { start = 1048576; len = 1048576; object = 0; offset = 0; log = None }

abbrev pub blank : Guest
blank = record { regions = region ∷ []; contents = record { object = 0; bytes = zeros 1048576 } ∷ [] }

-- an ask is too large for the layout
abbrev pub is_large : Layout → Ask → Bool
is_large l a = is_too_large l (length a.request) a.room

-- what a submit writes lies in these regions: the descriptors, the available ring and the buffers
pub record Covers (rs : List Region) (l : Layout) : Type 0 where
  pub desc : covers rs l.desc (16 * l.size) ≡ true
  pub avail : covers rs l.avail (6 + 2 * l.size) ≡ true
  pub buffers : covers rs l.buffers (l.slot * l.size) ≡ true

-- the driver may submit so many more: of a layout that it takes, over regions that hold it
pub record MaySubmit (s : State) (rs : List Region) (more : ℕ) : Type 0 where
  pub fit : IsFit s.layout
  pub plain : s.event_idx ≡ false
  pub free : s.submitted + more ≤ s.collected + half_of s.layout
  pub counted : s.submitted + more < 2 ^ 64
  pub covered : Covers rs s.layout

-- the driver after so many submits and collects more
pub record HasMoved (submits collects : ℕ) (old new : State) : Type 0 where
  pub layout : new.layout ≡ old.layout
  pub event_idx : new.event_idx ≡ old.event_idx
  pub submitted : new.submitted ≡ old.submitted + submits
  pub collected : new.collected ≡ old.collected + collects

-- no ask is too large
abbrev pub AreSmall : Layout → List Ask → Type 0
AreSmall l asks = list_any (λ (a : Ask). is_large l a) asks ≡ false

-- the answers are longer by so many, numbered on from n
abbrev pub NumbersOn : ℕ → ℕ → List Done → List Done → Type 0
NumbersOn n count old new =
    map (λ (d : Done). d.number) new ≡ map (λ (d : Done). d.number) old ++ range_with_len n count
