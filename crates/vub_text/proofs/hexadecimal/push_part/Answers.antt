use Rattle.std.proofs.Common.{rules, ◌≡◌}
use Rattle.hex.specs.Hex.{encode_lower}
use Rattle.vub_text.proofs.Digits.{digits-text}
use Rattle.vub_text.proofs.hexadecimal.push_part.Goals as goal

pub from_utf8_unchecked-requires : goal.from_utf8_unchecked-requires
from_utf8_unchecked-requires c =
    let written : c.encode_to_slice.new.output ≡ encode_lower c.args.bytes.now = search rules in
    digits-text c.args.bytes.now c.encode_to_slice.new.output written
