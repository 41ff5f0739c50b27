use Rattle.std.proofs.Common.{◌≡◌, ◌<◌, [], take}
use Rattle.std.specs.List.{AllByRecursion}
use Rattle.vub_model.specs.ValidSetup.{contents_from}
use Rattle.vub_open.proofs.validation.contents_of.Given as goal

-- the contents so far, whose numbers are below the next
abbrev pub invariant-loop-number : goal.invariant-loop-number
invariant-loop-number l =
    record {
      below : AllByRecursion (λ c. c.object < l.number) l.memory.guest.contents;
      contents : l.memory.guest.contents ≡ contents_from 0 (take l.number l.objects);
      regions : l.memory.guest.regions ≡ [];
      logs : l.memory.logs ≡ [];
    }
