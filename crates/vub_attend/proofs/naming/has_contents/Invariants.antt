use Rattle.std.proofs.Common.{◌≡◌, true, take}
use Rattle.std.specs.List.{list_all}
use Rattle.std.specs.Option.{ForSome}
use Rattle.vub_attend.specs.Naming.{has_content}
use Rattle.vub_attend.proofs.naming.has_contents.Given as goal

abbrev pub invariant-loop-content : goal.invariant-loop-content
invariant-loop-content g l =
    ForSome (g.P.Parts.state l.parts).shared (λ h. list_all (has_content h) (take l.content-index l.contents) ≡ true)
