use Rattle.std.proofs.Common.{rules, ◌∙◌, w32, SFits}
use Rattle.std.proofs.lemmas.Int.{to_z-of_z}
use Rattle.vub_util.proofs.Unknown.{unknown_text}
use Rattle.vub_util.proofs.errno.ErrorDisplay.fmt.Goals as goal

pub returns-in-None-clause-writes : goal.returns-in-None-clause-writes
returns-in-None-clause-writes g c = λ plain ok.
    let errno = c.errno-errno.result in
    let fits : SFits w32 errno = search rules in
    let same = to_z-of_z w32 errno fits ∙ c.errno-errno.ensures in
    rw (unknown_text c.args.self.now _ same (search rules)) (c.write-in-None.ensures.writes plain ok)
