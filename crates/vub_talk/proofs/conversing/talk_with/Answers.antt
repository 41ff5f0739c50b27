use Rattle.std.proofs.Common.{rules, ◌≡◌, ◌⊎◌, inl, inr, ℕ, ◌+◌, ◌-◌, ◌*◌, ◌^◌, ◌<◌, ◌≤◌, List, [], ◌∷◌, ◌++◌, false, length, map, take, drop, min, None, sym, ap, ap₂, subst, ◌∙◌, arith}
use Rattle.std.specs.List.{range_with_len}
use Rattle.vub_mem.specs.Memory.{Guest}
use Rattle.vub_mem.specs.Place.{content_of}
use Rattle.vub_model.specs.ValidSetup.{fault_of}
use Rattle.vub_model.specs.declared.setup.Guest.TheVariants.{Signal}
use Rattle.vub_driver.specs.Places.{half_of}
use Rattle.vub_driver.specs.View.{IsFit}
use Rattle.vub_driver.specs.declared.done.Done.{Done}
use Rattle.vub_driver.specs.declared.layout.Layout.{Layout}
use Rattle.vub_talk.specs.declared.ask.Ask.{Ask}
use Rattle.vub_talk.specs.Asking.{AreSmall, Covers, blank, region}
use Rattle.vub_talk.specs.Ready.{IsReady}
use Rattle.vub_talk.specs.Batches.{asks_stored, batch_setup}
use Rattle.vub_talk.specs.Machine.{constants_in, fixed}
use Rattle.vub_core.specs.Meanings.{meaning_by}
use Rattle.vub_driver.specs.Calls.{new_state}
use Rattle.vub_driver.specs.Machine.{Asked}
use Rattle.vub_driver.specs.State.{State}
use Rattle.vub_talk.specs.Replies.{asked_by}
use Rattle.vub_talk.specs.Talks.{IsSlow, Talks}
use Rattle.vub_talk.specs.declared.fault.TalkFault.{TalkFault}
use Rattle.vub_talk.proofs.Pushed.{err_by}
use Rattle.vub_talk.proofs.Started.{asked_more, least, lengths_more, talks_none}
use Rattle.vub_talk.proofs.Asked.{range-more}
use Rattle.vub_talk.proofs.Batching.{size_taken, aligned_taken, small_asks, lies_asks, covers_layout, small-drop, small-take, part-length, length-zeros}
use Rattle.vub_talk.proofs.Refusing.{fit_taken}
use Rattle.vub_talk.proofs.Submitted.{carried, ready-at}
use Rattle.vub_talk.proofs.Valid.{few_masks, no_exits, some_queues, valid}
use Rattle.vub_talk.proofs.Blank.{blank_ready}
use Rattle.vub_talk.proofs.conversing.talk_with.Goals as goal

pub overflow_cast-parties : goal.overflow_cast-parties
overflow_cast-parties g c = omega (arith, few_masks c.args.constants.now c.args.layout.now c.requires.device, c.len.ensures)

pub overflow_add-parties : goal.overflow_add-parties
overflow_add-parties g c = omega (arith, few_masks c.args.constants.now c.args.layout.now c.requires.device, c.len.ensures)

pub loop-done-init : goal.loop-done-init
loop-done-init g c =
    let fit : IsFit c.args.layout.now = fit_taken c.args.layout.now c.requires.layout in
    let some : 0 < half_of c.args.layout.now = fit.some in
    record {
      layout = ap (λ s. s.layout) c.requires.driver;
      event_idx = ap (λ s. s.event_idx) c.requires.driver;
      submitted = ap (λ s. s.submitted) c.requires.driver;
      collected = ap (λ s. s.collected) c.requires.driver;
      regions = ap (λ m. m.regions) c.in_ok-memory.ensures;
      bytes = ap (λ m. length (content_of m.contents 0)) c.in_ok-memory.ensures ∙ length-zeros 1048576;
      ready = (let R : Guest → Type 0 = λ x. IsReady c.args.layout.now 0 x in subst R (sym c.in_ok-memory.ensures) (blank_ready c.args.layout.now));
      numbers = ap (map (λ (d : Done). d.number)) c.new.ensures;
      calls = ap length c.new-2.ensures;
      within = omega arith;
      talks = λ some.
          let m = meaning_by g.V.Service in
          let v = c.args.service.now in
          let T : State → Guest → List Done → Type 0 = λ s memory answers. Talks (meaning_by g.V.Service) c.args.service.now [] s memory answers c.args.service.now in
          subst (λ x. T x c.in_ok-memory.memory.guest c.new.result) (sym c.requires.driver)
          (subst (λ x. T (new_state c.args.layout.now false) x c.new.result) (sym c.in_ok-memory.ensures)
          (subst (T (new_state c.args.layout.now false) blank) (sym c.new.ensures)
          (talks_none m v c.args.layout.now some c.requires.layout (lies_asks c.args.layout.now c.args.asks.now c.requires.asks))));
      counted = λ some. c.new-2.ensures;
      reached = omega arith;
      close = omega (arith, some);
      whole = λ more. omega arith;
    }

pub talk_batch-requires-clause-queues : goal.talk_batch-requires-clause-queues
talk_batch-requires-clause-queues g c = some_queues c.args.constants.now c.args.layout.now c.requires.device

pub talk_batch-requires-clause-laid : goal.talk_batch-requires-clause-laid
talk_batch-requires-clause-laid g c = record { taken = c.requires.layout; lies = lies_asks c.args.layout.now c.args.asks.now c.requires.asks }

pub talk_batch-requires-clause-ready : goal.talk_batch-requires-clause-ready
talk_batch-requires-clause-ready g c = (let so = c.loop-done.invariant in ready-at c.args.layout.now c.loop-done.done c.loop-done.conversation.driver.submitted c.loop-done.conversation.memory.guest (sym so.submitted) so.ready)

pub talk_batch-requires-clause-small : goal.talk_batch-requires-clause-small
talk_batch-requires-clause-small g c =
    let l = c.args.layout.now in
    small-take l (c.loop-done.done + c.next_count-count.result - c.loop-done.done) (drop c.loop-done.done c.args.asks.now) (small-drop l c.loop-done.done c.args.asks.now (small_asks l c.args.asks.now c.requires.asks))

pub talk_batch-requires-clause-may : goal.talk_batch-requires-clause-may
talk_batch-requires-clause-may g c =
    let l = c.args.layout.now in
    let asks : List Ask = c.args.asks.now in
    let so = c.loop-done.invariant in
    let s = c.loop-done.conversation.driver in
    let rs = c.loop-done.conversation.memory.guest.regions in
    let i = c.loop-done.done in
    let k = c.next_count-count.result in
    let its = c.next_count-count.ensures in
    let below : i < length asks = search rules in
    let small : length asks < 2 ^ 64 = search rules in
    let half : c.from-half.result ≡ half_of l = c.from-half.ensures in
    let left : k ≤ length asks - i = search rules in
    let long : length (take (i + k - i) (drop i asks)) ≡ k = part-length asks i k (omega (arith, left, below)) in
    let fits : half_of s.layout ≡ half_of l = ap half_of so.layout in
    record {
      fit = subst IsFit (sym so.layout) (fit_taken l c.requires.layout);
      plain = so.event_idx;
      free = omega (arith, so.submitted, so.collected, long, its.most, half, fits);
      counted = omega (arith, so.submitted, long, left, below, small);
      covered = subst (λ x. Covers x s.layout) (sym so.regions) (subst (Covers (region ∷ [])) (sym so.layout) (covers_layout l (lies_asks l asks c.requires.asks)));
    }

pub talk_batch-requires-clause-valid : goal.talk_batch-requires-clause-valid
talk_batch-requires-clause-valid g c =
    let l = c.args.layout.now in
    let asks : List Ask = c.args.asks.now in
    let so = c.loop-done.invariant in
    let s = c.loop-done.conversation.driver in
    let content : List ℕ = content_of c.loop-done.conversation.memory.guest.contents 0 in
    let i = c.loop-done.done in
    let k = c.next_count-count.result in
    let part : List Ask = take (i + k - i) (drop i asks) in
    let below : i < length asks = search rules in
    let left : k ≤ length asks - i = search rules in
    let half : c.from-half.result ≡ half_of l = c.from-half.ensures in
    let long : length part ≡ k = part-length asks i k (omega (arith, left, below)) in
    let small : AreSmall l part = small-take l (i + k - i) (drop i asks) (small-drop l i asks (small_asks l asks c.requires.asks)) in
    let P : Layout → Type 0 = λ x. fault_of (constants_in (fixed c.args.constants.now)) (batch_setup x s.submitted content (asks_stored x s.submitted part ++ Signal 1 ∷ [])) ≡ None in
    subst P (sym so.layout)
    (valid c.args.constants.now l s.submitted content part c.requires.layout (size_taken l c.requires.layout) (aligned_taken l c.requires.layout) (lies_asks l asks c.requires.asks) c.requires.device so.bytes small
    (omega (arith, long, c.next_count-count.ensures.most, half)))

pub loop-done-preserved : goal.loop-done-preserved
loop-done-preserved g c =
    let l = c.args.layout.now in
    let asks : List Ask = c.args.asks.now in
    let so = c.loop-done.invariant in
    let its = c.in_ok-talk_batch.ensures in
    let s = c.loop-done.conversation.driver in
    let i = c.loop-done.done in
    let k = c.next_count-count.result in
    let part : List Ask = take (i + k - i) (drop i asks) in
    let below : i < length asks = search rules in
    let left : k ≤ length asks - i = search rules in
    let cases : (k ≡ half_of l) ⊎ (k ≡ length asks - i) = search rules in
    let half : c.from-half.result ≡ half_of l = c.from-half.ensures in
    let most : k ≤ half_of l = omega (arith, c.next_count-count.ensures.most, half) in
    let fit : IsFit l = fit_taken l c.requires.layout in
    let some : 0 < half_of l = fit.some in
    let long : length part ≡ k = part-length asks i k (omega (arith, left, below)) in
    let here : i ≡ c.loop-done.batch * half_of l = so.whole below in
    let more : 0 < k = elim cases as (λ _. 0 < k) [ inl full ↦ omega (arith, full, some) | inr last ↦ omega (arith, last, below) ] in
    let first : i ≡ 0 + i = omega arith in
    record {
      layout = its.driver.layout ∙ so.layout;
      event_idx = its.driver.event_idx ∙ so.event_idx;
      submitted = omega (arith, its.driver.submitted, so.submitted, long);
      collected = omega (arith, its.driver.collected, so.collected, long);
      regions = its.regions ∙ so.regions;
      bytes = its.bytes ∙ so.bytes;
      ready = carried l s.layout s.submitted (length part) i k c.talk_batch.new.conversation.memory.guest so.layout so.submitted long its.ready;
      numbers =
          its.answers
          ∙ ap₂ (λ xs n. xs ++ range_with_len n (length part)) so.numbers (so.collected ∙ first)
          ∙ ap (λ n. range_with_len 0 i ++ range_with_len (0 + i) n) long
          ∙ sym (range-more 0 i k);
      calls = its.calls ∙ ap (λ n. n + 1) so.calls;
      within = omega (arith, left, below);
      talks = λ some.
          let v = c.args.service.now in
          let new = its.talks v (map (λ a. asked_by a) (take i asks)) (so.talks some) in
          let T : List Asked → Type 0 = λ q. Talks (meaning_by g.V.Service) c.args.service.now q c.talk_batch.new.conversation.driver c.talk_batch.new.conversation.memory.guest c.talk_batch.new.talk.answers c.talk_batch.new.service in
          let one : i + k - i ≡ k = omega arith in
          subst T (ap (λ n. map (λ a. asked_by a) (take i asks) ++ map (λ a. asked_by a) (take n (drop i asks))) one ∙ asked_more asks i k) new;
      counted = λ some.
          let count : length part ≡ min (half_of l) (length asks - c.loop-done.batch * half_of l) =
          long ∙ least k (half_of l) (length asks - c.loop-done.batch * half_of l) most (omega (arith, left, here))
          (elim cases as (λ _. (k ≡ half_of l) ⊎ (k ≡ length asks - c.loop-done.batch * half_of l)) [ inl full ↦ inl full | inr last ↦ inr (last ∙ ap (λ n. length asks - n) here) ]) in
          its.counted c.args.service.now (map (λ a. asked_by a) (take i asks)) (so.talks some)
          ∙ ap₂ (λ xs n. xs ++ n ∷ []) (so.counted some) count ∙ sym (lengths_more l asks c.loop-done.batch);
      reached = omega (arith, here, most);
      close = omega (arith, here, more);
      whole = λ rest. elim cases as (λ _. i + k ≡ (c.loop-done.batch + 1) * half_of l) [ inl full ↦ omega (arith, full, here) | inr last ↦ absurd (omega (arith, last, rest, below)) ];
    }

pub returns-in_err-talk_batch-clause-slow : goal.returns-in_err-talk_batch-clause-slow
returns-in_err-talk_batch-clause-slow g c =
    let so = c.loop-done.invariant in
    let P : TalkFault → Type 0 = λ e. 0 < c.args.layout.now.slot → IsSlow e in
    err_by c.from_residual-in_err-talk_batch.result c.in_err-talk_batch.field-0.0 P c.from_residual-in_err-talk_batch.ensures.1
    (λ some. c.in_err-talk_batch.ensures.trusted c.args.service.now (map (λ a. asked_by a) (take c.loop-done.done c.args.asks.now)) (so.talks some))

pub talk_batch-requires-clause-exits : goal.talk_batch-requires-clause-exits
talk_batch-requires-clause-exits g c = no_exits c.args.constants.now c.args.layout.now c.requires.device
