use Rattle.std.proofs.Common.{◌+◌, ◌<◌, length, ap, ◌∙◌, arith}
use Rattle.vub_mem.specs.Place.{content_of, store_at}
use Rattle.vub_talk.proofs.Pushed.{stored_in, stored_past}
use Rattle.vub_talk.proofs.conversation.store_span.Goals as goal
use Rattle.vub_talk.proofs.conversation.store_span.Goals.{else-bytes-len-via-then-bytes-len+else-span-len, else-bytes-len-via-else-bytes-len}

pub returns-then-span-len-clause-guest : goal.returns-then-span-len-clause-guest
returns-then-span-len-clause-guest c =
    let g = c.args.memory.now.guest in
    let long = ap length c.content-len.ensures in
    let short = ap length c.as_slice-bytes.ensures in
    c.store.ensures.guest ∙ ap (store_at g 0 c.args.span.now.offset) c.as_slice-bytes.ensures
    ∙ stored_in g c.args.span.now.offset c.args.span.now.bytes (omega (arith, c.if-bytes-len.true, long, short)) (omega (arith, c.if-bytes-len.true, c.if-span-len.true, long, short))

pub returns-else-bytes-len-clause-guest : goal.returns-else-bytes-len-clause-guest
returns-else-bytes-len-clause-guest c =
    let g = c.args.memory.now.guest in
    let long = ap length c.content-len.ensures in
    let short = ap length c.as_slice-bytes.ensures in
    stored_past g c.args.span.now.offset c.args.span.now.bytes (elim c.else-bytes-len.branch as (λ _. length (content_of g.contents 0) < c.args.span.now.offset + length c.args.span.now.bytes) [
      | else-bytes-len-via-then-bytes-len+else-span-len w ↦ omega (arith, w.if-bytes-len, w.if-span-len, long, short)
      | else-bytes-len-via-else-bytes-len w ↦ omega (arith, w.if-bytes-len, long, short)
    ])
