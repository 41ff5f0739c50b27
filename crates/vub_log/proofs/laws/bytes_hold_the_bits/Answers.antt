use Rattle.vub_log.proofs.laws.bytes_hold_the_bits.Goals as goal
use Rattle.vub_log.specs.PageBits.{byte_has_bit}

pub returns : goal.returns
returns c = byte_has_bit
