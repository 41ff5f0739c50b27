use Rattle.vub_laws.proofs.laws.each_byte_has_its_place.Goals as goal
use Rattle.vub_laws.proofs.Placed.{places-each-byte}

pub returns : goal.returns
returns c = places-each-byte
