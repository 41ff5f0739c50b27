-- What a contract sees of guest memory.
use Rattle.std.specs.Prelude.{List}
use Rattle.vub_mem.specs.declared.dirty.Stored.{Stored}
use Rattle.vub_mem.specs.declared.region.Region.{Region}
use Rattle.vub_mem.specs.declared.content.Content.{Content}

-- the table of regions and the bytes of the contents
pub record Guest : Type 0 where
  pub regions : List Region
  pub contents : List Content

pub record Memory (L : Type 0) : Type 0 where
  pub guest : Guest
  pub logs : List (Stored L)
