use Rattle.std.proofs.Common.{◌≡◌, ◌+◌, length, take}
use Rattle.vub_mem.specs.Place.{content_of}
use Rattle.vub_talk.specs.Asking.{HasMoved}
use Rattle.vub_talk.specs.Batches.{asks_stored}
use Rattle.vub_talk.specs.Ready.{IsReady}
use Rattle.vub_talk.specs.Talking.{guest_asked, state_asked}
use Rattle.vub_talk.proofs.conversation.Conversation.submit_all.Given as goal

abbrev pub invariant-loop-ask : goal.invariant-loop-ask
invariant-loop-ask l =
    record {
      driver : HasMoved l.ask-index 0 l.initial.self.driver l.self.driver;
      regions : l.self.memory.guest.regions ≡ l.initial.self.memory.guest.regions;
      bytes : length (content_of l.self.memory.guest.contents 0) ≡ length (content_of l.initial.self.memory.guest.contents 0);
      ready : IsReady l.layout (l.initial.self.driver.submitted + l.ask-index) l.self.memory.guest;
      state : l.self.driver ≡ state_asked l.initial.self.driver (take l.ask-index l.asks);
      memory : l.self.memory.guest ≡ guest_asked l.layout l.initial.self.memory.guest l.initial.self.driver.submitted (take l.ask-index l.asks);
      guest : l.guest ≡ asks_stored l.layout l.number (take l.ask-index l.asks);
    }
