use Rattle.std.proofs.Common.{◌≡◌, ◌+◌, ◌<◌, ◌≤◌, false, List, [], ◌∷◌, ◌++◌, length, take, sym, ap, ap₂, subst, ◌∙◌, arith}
use Rattle.std.proofs.lemmas.List.{take_more, length-take-le}
use Rattle.vub_mem.specs.declared.region.Region.{Region}
use Rattle.vub_driver.specs.Places.{half_of}
use Rattle.vub_driver.specs.View.{IsFit}
use Rattle.vub_driver.specs.Writings.{writes_of}
use Rattle.vub_talk.specs.declared.ask.Ask.{Ask}
use Rattle.vub_talk.specs.Asking.{Covers, is_large}
use Rattle.vub_talk.specs.Batches.{asks_stored, stores_of}
use Rattle.vub_talk.proofs.Accepting.{accepted, each_small, request_short}
use Rattle.vub_talk.proofs.Submitted.{submitted-ready}
use Rattle.vub_talk.proofs.Asked.{asks_pushed, moved-more, moved-submit}
use Rattle.vub_driver.specs.Calls.{state_submitted, submit_guest}
use Rattle.vub_talk.specs.Talking.{guest_asked, state_asked}
use Rattle.vub_talk.proofs.Pushed.{guest_pushed, state_pushed}
use Rattle.vub_talk.proofs.conversation.Conversation.submit_all.Goals as goal

pub submit-requires-clause-small : goal.submit-requires-clause-small
submit-requires-clause-small c =
    let i = c.loop-ask.ask-index in
    let asks = c.args.asks.now in
    let a : Ask = c.ask-item.result in
    let small : is_large c.args.layout.now a ≡ false = ap (is_large c.args.layout.now) c.ask-item.is ∙ each_small c.args.layout.now asks i a c.requires.small c.loop-ask-test.true in
    request_short c.args.layout.now (length a.request) a.room small

pub submit-requires-clause-accepted : goal.submit-requires-clause-accepted
submit-requires-clause-accepted c =
    let i = c.loop-ask.ask-index in
    let asks = c.args.asks.now in
    let s = c.loop-ask.self.driver in
    let rs : List Region = c.loop-ask.self.memory.guest.regions in
    let so = c.loop-ask.invariant in
    let a : Ask = c.ask-item.result in
    let below : i < length asks = c.loop-ask-test.true in
    let small : is_large c.args.layout.now a ≡ false = ap (is_large c.args.layout.now) c.ask-item.is ∙ each_small c.args.layout.now asks i a c.requires.small below in
    let layout : s.layout ≡ c.args.layout.now = so.driver.layout ∙ sym c.requires.layout in
    let mine : is_large s.layout a ≡ false = ap (λ l. is_large l a) layout ∙ small in
    let same-half : half_of s.layout ≡ half_of c.args.self.now.driver.layout = ap half_of so.driver.layout in
    let free : s.submitted + 1 ≤ s.collected + half_of s.layout = omega (arith, so.driver.submitted, so.driver.collected, c.requires.may.free, below, same-half) in
    let fit : IsFit s.layout = subst IsFit (sym so.driver.layout) c.requires.may.fit in
    let covered : Covers rs s.layout = subst (λ x. Covers x s.layout) (sym so.regions) (subst (Covers c.args.self.now.memory.guest.regions) (sym so.driver.layout) c.requires.may.covered) in
    accepted s rs 1 (length a.request) a.room (record {
      fit = fit;
      plain = so.driver.event_idx ∙ c.requires.may.plain;
      free = free;
      counted = omega (arith, so.driver.submitted, c.requires.may.counted, below);
      covered = covered;
    }) (omega arith) mine

pub loop-ask-preserved : goal.loop-ask-preserved
loop-ask-preserved c =
    let i = c.loop-ask.ask-index in
    let asks = c.args.asks.now in
    let so = c.loop-ask.invariant in
    let its = c.in_ok-submit.ensures in
    let s = c.loop-ask.self.driver in
    let a : Ask = c.ask-item.result in
    let l = c.args.layout.now in
    let n = c.submitted-number.result in
    let below : i < length asks = c.loop-ask-test.true in
    let long : length (take i asks) ≡ i = length-take-le i asks (omega (arith, below)) in
    let number : s.submitted ≡ n + length (take i asks) = omega (arith, so.driver.submitted, c.submitted-number.ensures, long) in
    let layout : s.layout ≡ l = so.driver.layout ∙ sym c.requires.layout in
    let taken : take (i + 1) asks ≡ take i asks ++ a ∷ [] = take_more asks i a below ∙ ap (λ x. take i asks ++ x ∷ []) (sym c.ask-item.is) in
    record {
      driver = moved-more i 0 1 0 c.args.self.now.driver s c.submit.new.self.driver so.driver (moved-submit s c.submit.new.self.driver a.room its.driver);
      regions = its.regions ∙ so.regions;
      bytes = its.bytes ∙ so.bytes;
      ready = submitted-ready l c.args.self.now.driver.submitted i s.layout s.submitted c.loop-ask.self.memory.guest c.submit.new.self.memory.guest a layout (omega (arith, so.driver.submitted))
          (ap (is_large l) c.ask-item.is ∙ each_small l asks i a c.requires.small below) c.requires.laid so.ready its.memory;
      state = its.driver ∙ ap (λ x. state_submitted x a.room) so.state ∙ sym (state_pushed c.args.self.now.driver (take i asks) a) ∙ ap (state_asked c.args.self.now.driver) (sym taken);
      memory =
          its.memory
          ∙ ap₂ (λ x k. submit_guest x c.loop-ask.self.memory.guest k a.request a.room) layout (so.driver.submitted ∙ ap (λ k. c.args.self.now.driver.submitted + k) (sym long))
          ∙ ap (λ g. submit_guest l g (c.args.self.now.driver.submitted + length (take i asks)) a.request a.room) so.memory
          ∙ sym (guest_pushed l c.args.self.now.memory.guest c.args.self.now.driver.submitted (take i asks) a)
          ∙ ap (guest_asked l c.args.self.now.memory.guest c.args.self.now.driver.submitted) (sym taken);
      guest =
          its.guest
          ∙ ap (λ gs. gs ++ stores_of (writes_of s.layout s.submitted a.request a.room)) so.guest
          ∙ ap (λ x. asks_stored l n (take i asks) ++ stores_of (writes_of x s.submitted a.request a.room)) layout
          ∙ ap (λ x. asks_stored l n (take i asks) ++ stores_of (writes_of l x a.request a.room)) number
          ∙ sym (asks_pushed l n (take i asks) a)
          ∙ ap (asks_stored l n) (sym taken);
    }
