use Rattle.std.proofs.Common.{refl, subst}
use Rattle.vub_event.specs.InterestList.{IsOrdered}
use Rattle.vub_event.proofs.Readying.{words_first, words_none}
use Rattle.vub_event.proofs.members.Members.first_ready.Goals as goal

pub returns-in-Some-clause-first : goal.returns-in-Some-clause-first
returns-in-Some-clause-first g c = (words_first _ _ _ _ _ (subst IsOrdered c.self.view_is c.self.invariant) c.requires c.in-Some.ensures.least c.report.ensures).first

pub returns-in-Some-clause-least : goal.returns-in-Some-clause-least
returns-in-Some-clause-least g c = (words_first _ _ _ _ _ (subst IsOrdered c.self.view_is c.self.invariant) c.requires c.in-Some.ensures.least c.report.ensures).least

pub returns-in-None-clause-first : goal.returns-in-None-clause-first
returns-in-None-clause-first g c = rw (words_none _ _ _ (subst IsOrdered c.self.view_is c.self.invariant) c.requires c.in-None.ensures.least) refl

pub returns-in-None-clause-least : goal.returns-in-None-clause-least
returns-in-None-clause-least g c = words_none _ _ _ (subst IsOrdered c.self.view_is c.self.invariant) c.requires c.in-None.ensures.least
