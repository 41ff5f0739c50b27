use Rattle.std.proofs.Common.{rules, ◌≡◌, length}
use Rattle.vub_text.proofs.Digits.{part-written, none-left}
use Rattle.vub_text.proofs.hexadecimal.push_digits.Goals as goal

pub loop-rest-preserved : goal.loop-rest-preserved
loop-rest-preserved c = part-written _ _ _ _ _ _ _ c.loop-rest.invariant c.in_ok-push_part.ensures c.split_at.ensures.front c.split_at.ensures.back

pub returns : goal.returns
returns c =
    let empty : length c.loop-rest.rest.now ≡ 0 = search rules in
    none-left _ c.loop-rest.rest.now _ empty c.loop-rest.invariant
