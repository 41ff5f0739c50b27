use Rattle.std.proofs.Common.{arith, ap, sym, ◌∙◌, is_some, subst, ◌+◌}
use Rattle.std.proofs.lemmas.Bool.{true≢false}
use Rattle.vub_mem.specs.Halving.{StandsAt}
use Rattle.vub_mem.proofs.places.chunk_on.Goals as goal
use Rattle.vub_mem.proofs.Halving.{next_after}

pub unreachable-requires : goal.unreachable-requires
unreachable-requires c = true≢false (sym c.requires.covered ∙ ap is_some c.in-None.ensures.none)

pub returns-clause-next : goal.returns-clause-next
returns-clause-next c = λ more.
    subst (λ n. StandsAt c.args.regions.now (c.args.at + n) (c.args.place + 1)) (sym c.region_part.ensures.len)
    (next_after _ _ _ _ _ _ c.requires.sound.bounded c.requires.sound.apart c.in-Some.ensures.found c.in-Some.ensures.place c.min-here.ensures (omega (arith, c.region_part.ensures.len)))

pub returns-clause-within : goal.returns-clause-within
returns-clause-within c = c.in-Some.ensures.place.within
