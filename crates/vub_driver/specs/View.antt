-- What a contract sees of the fields, and what every driver keeps.
use Rattle.std.specs.Prelude.{◌≡◌, ◌+◌, ◌*◌, ◌^◌, ◌≤◌, ◌<◌, length}
use Rattle.vub_driver.specs.Places.{half_of}
use Rattle.vub_driver.specs.State.{State}
use Rattle.vub_driver.specs.declared.driver.Driver.TheInside.{Inside}
use Rattle.vub_driver.specs.declared.layout.Layout.{Layout}

abbrev pub state_of : Inside → State
state_of d = record {
  layout = d.layout;
  event_idx = d.event_idx;
  submitted = d.submitted;
  collected = d.collected;
  rooms = d.rooms.items;
  tested = d.tested;
}

-- what the code needs of a layout: pairs of descriptors, and areas that end before the last address
pub record IsFit (l : Layout) : Type 0 where
  pub even : l.size ≡ 2 * half_of l
  pub some : 0 < half_of l
  pub small : l.size ≤ 32768
  pub desc : l.desc + 16 * l.size < 2 ^ 64
  pub avail : l.avail + (6 + 2 * l.size) < 2 ^ 64
  pub used : l.used + (6 + 8 * l.size) < 2 ^ 64
  pub buffers : l.buffers + l.slot * l.size < 2 ^ 64

pub record IsSound (d : Inside) : Type 0 where
  pub layout : IsFit d.layout
  pub rooms : length d.rooms.items ≡ half_of d.layout
  pub order : d.collected ≤ d.submitted
  pub outstanding : d.submitted ≤ d.collected + half_of d.layout
