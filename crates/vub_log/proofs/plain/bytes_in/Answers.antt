use Rattle.std.proofs.Common.{refl}
use Rattle.vub_log.proofs.PlainBytes.{bytes_more}
use Rattle.vub_log.proofs.plain.bytes_in.Goals as goal

pub loop-byte-preserved : goal.loop-byte-preserved
loop-byte-preserved c = record { bytes = bytes_more c.args.words.now c.loop-byte.bytes.items c.push.new.self.items c.loop-byte.byte c.byte_at.result c.loop-byte.invariant.bytes c.byte_at.ensures c.in_ok-push.ensures.items }
