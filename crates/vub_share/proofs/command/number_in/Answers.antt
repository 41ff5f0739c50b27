use Rattle.std.proofs.Common.{rules, ◌≡◌, true}
use Rattle.vub_share.specs.Commands.{is_decimal}
use Rattle.vub_share.proofs.Decimals.{too_great}
use Rattle.vub_share.proofs.command.number_in.Goals as goal

pub returns-in-Err-clause-number : goal.returns-in-Err-clause-number
returns-in-Err-clause-number c =
    let decimal : is_decimal c.args.word.now ≡ true = search rules in
    too_great c.args.word.now decimal c.in-Err.ensures.value.0
