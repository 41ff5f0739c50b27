use Rattle.std.proofs.Common.{◌≡◌, ◌+◌, ◌<◌, [], ◌∷◌, ◌++◌, length, take, sym, ap, subst, ◌∙◌}
use Rattle.std.proofs.lemmas.List.{take_more}
use Rattle.vub_model.specs.World.{stored}
use Rattle.vub_talk.specs.Talking.{spans_stored}
use Rattle.vub_talk.proofs.Pushed.{spans_pushed}
use Rattle.vub_mem.specs.Memory.{Guest}
use Rattle.vub_model.specs.declared.records.Span.{Span}
use Rattle.vub_talk.specs.Ready.{IsOff, IsReady}
use Rattle.vub_talk.proofs.Spans.{off_at, span_ready}
use Rattle.vub_talk.proofs.conversation.Conversation.store_all.Goals as goal

pub loop-span-preserved : goal.loop-span-preserved
loop-span-preserved c =
    let i = c.loop-span.span-index in
    let spans = c.args.spans.now in
    let so = c.loop-span.invariant in
    let its = c.store_span.ensures in
    let g = c.args.self.now.memory.guest in
    let s = c.span-item.result in
    let below : i < length spans = c.loop-span-test.true in
    let taken : take (i + 1) spans ≡ take i spans ++ s ∷ [] = take_more spans i s below ∙ ap (λ x. take i spans ++ x ∷ []) (sym c.span-item.is) in
    record {
      bytes = its.bytes ∙ so.bytes;
      regions = its.regions ∙ so.regions;
      ready = λ k n laid off was.
          let R : Guest → Type 0 = λ x. IsReady k n x in
          let O : Span → Type 0 = λ x. IsOff k x in
          subst R (sym its.guest)
          (span_ready k n c.loop-span.self.memory.guest s laid (subst O (sym c.span-item.is) (off_at k c.args.spans.now c.loop-span.span-index s off c.loop-span-test.true)) (so.ready k n laid off was));
      driver = so.driver;
      guest = its.guest ∙ ap (λ x. stored x 0 s.offset s.bytes) so.guest ∙ sym (spans_pushed g (take i spans) s) ∙ ap (spans_stored g) (sym taken);
    }
