use Rattle.std.proofs.Common.{◌≡◌, ℕ, length, take}
use Rattle.vub_mem.specs.Place.{content_of}
use Rattle.vub_driver.specs.declared.layout.Layout.{Layout}
use Rattle.vub_talk.specs.Ready.{AreOff, IsLaid, IsReady}
use Rattle.vub_talk.specs.Talking.{spans_stored}
use Rattle.vub_talk.proofs.conversation.Conversation.store_all.Given as goal

abbrev pub invariant-loop-span : goal.invariant-loop-span
invariant-loop-span l =
    record {
      bytes : length (content_of l.self.memory.guest.contents 0) ≡ length (content_of l.initial.self.memory.guest.contents 0);
      regions : l.self.memory.guest.regions ≡ l.initial.self.memory.guest.regions;
      ready : (k : Layout) (n : ℕ) → IsLaid k → AreOff k l.spans → IsReady k n l.initial.self.memory.guest → IsReady k n l.self.memory.guest;
      driver : l.self.driver ≡ l.initial.self.driver;
      guest : l.self.memory.guest ≡ spans_stored l.initial.self.memory.guest (take l.span-index l.spans);
    }
