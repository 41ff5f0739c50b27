use Rattle.std.proofs.Common.{◌≡◌, ◌+◌, ◌-◌, ◌*◌, ◌<◌, ◌≤◌, false, [], ◌∷◌, length, map, take}
use Rattle.std.specs.List.{range_with_len}
use Rattle.vub_mem.specs.Place.{content_of}
use Rattle.vub_driver.specs.Places.{half_of}
use Rattle.vub_driver.specs.declared.done.Done.{Done}
use Rattle.vub_core.specs.Meanings.{meaning_by}
use Rattle.vub_talk.specs.Replies.{asked_by}
use Rattle.vub_talk.specs.Talked.{lengths_of}
use Rattle.vub_talk.specs.Talks.{Talks}
use Rattle.vub_talk.specs.Asking.{region}
use Rattle.vub_talk.specs.Ready.{IsReady}
use Rattle.vub_talk.proofs.conversing.talk_with.Given as goal

abbrev pub invariant-loop-done : goal.invariant-loop-done
invariant-loop-done g l =
    record {
      layout : l.conversation.driver.layout ≡ l.layout;
      event_idx : l.conversation.driver.event_idx ≡ false;
      submitted : l.conversation.driver.submitted ≡ l.done;
      collected : l.conversation.driver.collected ≡ l.done;
      regions : l.conversation.memory.guest.regions ≡ region ∷ [];
      bytes : length (content_of l.conversation.memory.guest.contents 0) ≡ 1048576;
      ready : IsReady l.layout l.done l.conversation.memory.guest;
      numbers : map (λ (d : Done). d.number) l.talk.answers ≡ range_with_len 0 l.done;
      calls : length l.talk.calls ≡ l.batch;
      within : l.done ≤ length l.asks;
      talks : 0 < l.layout.slot → Talks (meaning_by g.V.Service) l.initial.service (map (λ a. asked_by a) (take l.done l.asks)) l.conversation.driver l.conversation.memory.guest l.talk.answers l.service;
      counted : 0 < l.layout.slot → l.talk.calls ≡ lengths_of l.layout l.asks l.batch;
      reached : l.done ≤ l.batch * half_of l.layout;
      close : l.batch * half_of l.layout < l.done + half_of l.layout;
      whole : l.done < length l.asks → l.done ≡ l.batch * half_of l.layout;
    }

abbrev pub decreases-loop-done : goal.decreases-loop-done
decreases-loop-done g l = length l.asks - l.done
