use Rattle.std.proofs.Common.{rules, ◌≡◌, true}
use Rattle.vub_live.specs.Words.{is_decimal}
use Rattle.vub_live.proofs.Decimals.{too_great}
use Rattle.vub_live.proofs.words.number_in.Goals as goal

pub returns-in-Err-clause-number : goal.returns-in-Err-clause-number
returns-in-Err-clause-number c =
    let decimal : is_decimal c.args.word.now ≡ true = search rules in
    too_great c.args.most c.args.word.now c.ranges.most.fits decimal c.in-Err.ensures.value.0
