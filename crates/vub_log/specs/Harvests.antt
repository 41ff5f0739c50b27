-- What always holds of a harvester.
use Rattle.std.specs.Prelude.{◌≡◌, true, length}
use Rattle.vub_log.specs.Plain.{word_count}
use Rattle.vub_log.specs.Rule.{HasCounts}
use Rattle.vub_log.specs.declared.harvester.Harvester.TheInside.{Inside}

-- the harvester keeps the harvests, and knows the generation of each word
pub record IsHarvester (a : Inside) : Type 0 where
  pub keeps : a.seat.notes.keeps ≡ true
  pub counts : length a.generations.items ≡ word_count a.seat.len
  pub counted : HasCounts a.generations.items a.seat.notes.harvests
