use Rattle.vub_mem.proofs.Contents.{place_found, place_none}
use Rattle.vub_mem.proofs.Numbers.{any_is, absent_is}
use Rattle.vub_mem.proofs.numbered.Contents.place.Goals as goal

pub returns-in-Some-clause-found : goal.returns-in-Some-clause-found
returns-in-Some-clause-found c = place_found _ _ _ c.in-Some.ensures

pub returns-in-Some-clause-any : goal.returns-in-Some-clause-any
returns-in-Some-clause-any c = any_is c.args.self.now c.args.object _ c.in-Some.ensures

pub returns-in-None-clause-none : goal.returns-in-None-clause-none
returns-in-None-clause-none c = place_none c.args.self.now c.args.object c.in-None.ensures

pub returns-in-None-clause-any : goal.returns-in-None-clause-any
returns-in-None-clause-any c = any_is c.args.self.now c.args.object _ c.in-None.ensures

pub returns-in-None-clause-absent : goal.returns-in-None-clause-absent
returns-in-None-clause-absent c = absent_is _ _ c.in-None.ensures
