use Rattle.std.proofs.Common.{sym, ap, ◌∙◌}
use Rattle.std.specs.Int.{w64}
use Rattle.std.proofs.lemmas.Nat.Bits.{bit_at_set_same, bit_at_set_other, bit_at_clear_same, bit_at_clear_other}
use Rattle.vub_event.specs.BitWords.{as_bit}
use Rattle.vub_ring.proofs.pending.with_bit.Goals as goal

pub returns-then-is_in : goal.returns-then-is_in
returns-then-is_in c = record {
  here = bit_at_set_same w64 c.args.word c.args.bit c.requires ∙ sym (ap as_bit c.if-is_in.true);
  others = λ i lt ne. bit_at_set_other w64 c.args.word c.args.bit c.requires i ne;
}

pub returns-else-is_in : goal.returns-else-is_in
returns-else-is_in c = record {
  here = bit_at_clear_same w64 c.args.word c.args.bit c.requires ∙ sym (ap as_bit c.if-is_in.false);
  others = λ i lt ne. bit_at_clear_other w64 c.args.word c.args.bit c.requires i lt ne;
}
