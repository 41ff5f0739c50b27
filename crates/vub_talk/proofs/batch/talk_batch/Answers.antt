use Rattle.std.proofs.Common.{◌≡◌, ◌+◌, [], ◌∷◌, ◌++◌, List, length, map, ℕ, sym, ap, subst, ◌∙◌, arith, ◌<◌}
use Rattle.vub_mem.specs.Memory.{Guest}
use Rattle.vub_proto.specs.declared.fixed.FixedDevice.{FixedDevice}
use Rattle.vub_model.specs.declared.records.Span.{Span}
use Rattle.vub_talk.specs.Ample.{IsBatch, IsFew}
use Rattle.vub_talk.specs.Batches.{schedule_of}
use Rattle.vub_talk.proofs.Fewer.{no_rest_few}
use Rattle.vub_talk.specs.Ready.{AreOff, IsReady}
use Rattle.vub_core.specs.Meanings.{meaning_by}
use Rattle.vub_driver.specs.Machine.{Asked}
use Rattle.vub_talk.specs.Asking.{NumbersOn}
use Rattle.vub_talk.specs.Machine.{constants_in}
use Rattle.vub_talk.specs.Replies.{asked_by}
use Rattle.vub_talk.specs.Talking.{calls_of, state_asked}
use Rattle.vub_talk.specs.Talks.{IsSlow, IsTrusted, Talks}
use Rattle.vub_talk.specs.declared.fault.TalkFault.{TalkFault}
use Rattle.vub_talk.proofs.Pushed.{err_by}
use Rattle.vub_talk.proofs.Batched.{batch_answers, batch_stands, trusts}
use Rattle.vub_talk.proofs.batch.talk_batch.Goals as goal

pub returns-clause-talks : goal.returns-clause-talks
returns-clause-talks g c v asked talks =
    let m = meaning_by g.V.Service in
    let s = c.args.conversation.now.driver in
    let memory = c.args.conversation.now.memory.guest in
    let asks = c.args.asks.now in
    let ends = batch_stands m v asked s memory c.args.talk.now.answers c.args.service.now c.play.new.service c.args.constants.now asks c.in_ok-run.run' c.args.layout.now c.in_ok-setup.setup c.in_ok-device.device
    c.submit_all.new.self.memory.guest c.store_all.new.self.memory.guest c.as_slice.result.now
    c.requires.layout c.requires.may c.requires.small c.requires.queues c.requires.exits c.in_ok-device.ensures c.in_ok-setup.ensures.setup c.in_ok-run.ensures.run c.in_ok-setup.ensures.memory c.as_slice.ensures c.store_all.ensures.guest talks in
    let replies = c.in_ok-collect_all.ensures.replies in
    subst (λ x. Talks m v (asked ++ map (λ a. asked_by a) asks) c.collect_all.new.self.driver x.guest c.collect_all.new.answers c.play.new.service) (sym c.collect_all.ensures.memory)
    (batch_answers m v asked s c.store_all.new.self.driver memory c.store_all.new.self.memory.guest c.args.talk.now.answers c.args.service.now c.play.new.service asks (calls_of c.in_ok-run.run'.counts) c.collect_all.new.self.driver c.collect_all.new.answers
    talks ends (c.store_all.ensures.driver ∙ c.in_ok-setup.ensures.state) replies).0

pub returns-clause-counted : goal.returns-clause-counted
returns-clause-counted g c v asked talks =
    let m = meaning_by g.V.Service in
    let s = c.args.conversation.now.driver in
    let memory = c.args.conversation.now.memory.guest in
    let asks = c.args.asks.now in
    let ends = batch_stands m v asked s memory c.args.talk.now.answers c.args.service.now c.play.new.service c.args.constants.now asks c.in_ok-run.run' c.args.layout.now c.in_ok-setup.setup c.in_ok-device.device
    c.submit_all.new.self.memory.guest c.store_all.new.self.memory.guest c.as_slice.result.now
    c.requires.layout c.requires.may c.requires.small c.requires.queues c.requires.exits c.in_ok-device.ensures c.in_ok-setup.ensures.setup c.in_ok-run.ensures.run c.in_ok-setup.ensures.memory c.as_slice.ensures c.store_all.ensures.guest talks in
    let both = batch_answers m v asked s c.store_all.new.self.driver memory c.store_all.new.self.memory.guest c.args.talk.now.answers c.args.service.now c.play.new.service asks (calls_of c.in_ok-run.run'.counts) c.collect_all.new.self.driver c.collect_all.new.answers
    talks ends (c.store_all.ensures.driver ∙ c.in_ok-setup.ensures.state) c.in_ok-collect_all.ensures.replies in
    let count : c.calls_in.result ≡ length asks = c.calls_in.ensures ∙ ap calls_of c.as_slice-2.ensures ∙ both.1 in
    c.in_ok-push.ensures.ok ∙ ap (λ n. c.args.talk.now.calls ++ n ∷ []) count

pub returns-clause-answers : goal.returns-clause-answers
returns-clause-answers g c =
    let N : ℕ → Type 0 = λ n. NumbersOn n (length c.args.asks.now) c.args.talk.now.answers c.collect_all.new.answers in
    let first = ap (λ x. x.collected) c.store_all.ensures.driver in
    subst N (omega (arith, first, c.in_ok-setup.ensures.driver.collected)) c.in_ok-collect_all.ensures.answers

pub returns-in_err-collect_all-clause-trusted : goal.returns-in_err-collect_all-clause-trusted
returns-in_err-collect_all-clause-trusted g c =
    let m = meaning_by g.V.Service in
    let s = c.args.conversation.now.driver in
    let memory = c.args.conversation.now.memory.guest in
    let asks = c.args.asks.now in
    let mine : (v : g.row.V.Denot) → (asked : List Asked) → Talks (meaning_by g.V.Service) v asked c.args.conversation.now.driver c.args.conversation.now.memory.guest c.args.talk.now.answers c.args.service.now → IsSlow c.in_err-collect_all.field-0.0 = λ v asked talks.
    let ends = batch_stands m v asked s memory c.args.talk.now.answers c.args.service.now c.play.new.service c.args.constants.now asks c.in_ok-run.run' c.args.layout.now c.in_ok-setup.setup c.in_ok-device.device
    c.submit_all.new.self.memory.guest c.store_all.new.self.memory.guest c.as_slice.result.now
    c.requires.layout c.requires.may c.requires.small c.requires.queues c.requires.exits c.in_ok-device.ensures c.in_ok-setup.ensures.setup c.in_ok-run.ensures.run c.in_ok-setup.ensures.memory c.as_slice.ensures c.store_all.ensures.guest talks in
    c.in_err-collect_all.ensures.trusted
    (subst (λ x. IsTrusted x c.store_all.new.self.memory.guest) (sym (c.store_all.ensures.driver ∙ c.in_ok-setup.ensures.state))
    (trusts m v (asked ++ map (λ a. asked_by a) asks) (record { state = state_asked s asks; answers = c.args.talk.now.answers; before = s.submitted }) c.play.new.service c.store_all.new.self.memory.guest (calls_of c.in_ok-run.run'.counts) ends)) in
    let P : TalkFault → Type 0 = λ e. (v : g.row.V.Denot) → (asked : List Asked) → Talks (meaning_by g.V.Service) v asked c.args.conversation.now.driver c.args.conversation.now.memory.guest c.args.talk.now.answers c.args.service.now → IsSlow e in
    err_by c.from_residual-in_err-collect_all.result c.in_err-collect_all.field-0.0 P c.from_residual-in_err-collect_all.ensures.1 mine

pub returns-clause-ready : goal.returns-clause-ready
returns-clause-ready g c =
    let l = c.args.layout.now in
    let s = c.args.conversation.now.driver in
    let old : Guest = c.args.conversation.now.memory.guest in
    let n : ℕ = c.args.conversation.now.driver.submitted + length c.args.asks.now in
    let Q : FixedDevice → Type 0 = λ d. 0 < d.queues in
    let batch : IsBatch (constants_in c.in_ok-device.device) c.in_ok-setup.setup = record {
      layout = c.args.layout.now;
      number = c.args.conversation.now.driver.submitted;
      guest = c.args.conversation.now.memory.guest;
      asks = c.args.asks.now;
      setup_is = c.in_ok-setup.ensures.setup;
      queues = subst Q (sym c.in_ok-device.ensures) c.requires.queues;
      laid = c.requires.laid;
      small = c.requires.small;
      ready = c.requires.ready;
    } in
    let W : List Span → Type 0 = λ spans. AreOff c.args.layout.now spans in
    let off = subst W (sym c.as_slice.ensures) (c.in_ok-run.ensures.off batch) in
    let R : Guest → Type 0 = λ x. IsReady c.args.layout.now (c.args.conversation.now.driver.submitted + length c.args.asks.now) x in
    subst R (sym (ap (λ m. m.guest) c.in_ok-collect_all.ensures.memory)) (c.store_all.ensures.ready c.args.layout.now n c.requires.laid off c.in_ok-setup.ensures.ready)

pub returns-in_err-run-clause-few : goal.returns-in_err-run-clause-few
returns-in_err-run-clause-few g c =
    let Q : FixedDevice → Type 0 = λ d. 0 < d.queues in
    let M : FixedDevice → Type 0 = λ d. length d.masks ≡ 1 in
    let batch : IsBatch (constants_in c.in_ok-device.device) c.in_ok-setup.setup = record {
      layout = c.args.layout.now;
      number = c.args.conversation.now.driver.submitted;
      guest = c.args.conversation.now.memory.guest;
      asks = c.args.asks.now;
      setup_is = c.in_ok-setup.ensures.setup;
      queues = subst Q (sym c.in_ok-device.ensures) c.requires.queues;
      laid = c.requires.laid;
      small = c.requires.small;
      ready = c.requires.ready;
    } in
    let P : TalkFault → Type 0 = λ e. length c.args.constants.now.masks ≡ 1 → (rounds : ℕ) → c.args.schedule.now ≡ schedule_of rounds 3 → rounds < 4294967296 → IsFew (length c.args.asks.now) c.args.batch rounds e in
    err_by c.from_residual-in_err-run.result c.in_err-run.field-0.0 P c.from_residual-in_err-run.ensures.1
    (λ single rounds turns few. c.in_err-run.ensures.few batch (subst M (sym c.in_ok-device.ensures) single) rounds turns few)

pub returns-in_err-collect_all-clause-few : goal.returns-in_err-collect_all-clause-few
returns-in_err-collect_all-clause-few g c =
    let P : TalkFault → Type 0 = λ e. length c.args.constants.now.masks ≡ 1 → (rounds : ℕ) → c.args.schedule.now ≡ schedule_of rounds 3 → rounds < 4294967296 → IsFew (length c.args.asks.now) c.args.batch rounds e in
    err_by c.from_residual-in_err-collect_all.result c.in_err-collect_all.field-0.0 P c.from_residual-in_err-collect_all.ensures.1
    (λ single rounds turns few. no_rest_few (length c.args.asks.now) c.args.batch rounds c.in_err-collect_all.field-0.0 c.in_err-collect_all.ensures.rests)
