use Rattle.std.proofs.Common.{◌≡◌}
use Rattle.vub_talk.specs.Asking.{HasMoved, NumbersOn}
use Rattle.vub_talk.specs.Talking.{Collects}
use Rattle.vub_talk.proofs.conversation.Conversation.collect_all.Given as goal

abbrev pub invariant-loop-ask : goal.invariant-loop-ask
invariant-loop-ask l =
    record {
      driver : HasMoved 0 l._ask l.initial.self.driver l.self.driver;
      answers : NumbersOn l.initial.self.driver.collected l._ask l.initial.answers l.answers;
      replies : Collects l._ask l.initial.self.driver l.initial.self.memory.guest l.initial.answers l.self.driver l.answers;
      memory : l.self.memory ≡ l.initial.self.memory;
    }
