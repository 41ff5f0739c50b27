use Rattle.std.proofs.Common.{arith}
use Rattle.vub_stream.proofs.Cut.{gives_front}
use Rattle.vub_stream.proofs.Listed.{not_listed}
use Rattle.vub_stream.proofs.mem_source.MemSourceSource.read.Goals as goal

pub returns-clause-bytes : goal.returns-clause-bytes
returns-clause-bytes c =
    gives_front _ _ _ _ _ c.args.most c.args.self.now.piece c.deref-2.ensures.value c.in_ok-bytes.ensures c.requires c.args.self.now.moves c.args.self.now.within (omega arith)

pub returns-in_err-bytes-clause-fails : goal.returns-in_err-bytes-clause-fails
returns-in_err-bytes-clause-fails c = λ t. absurd (not_listed c.args.self.now.calls c.args.self.now.failing.items _ _ c.contains.ensures.value c.deref.ensures.value c.if-contains.false t)

pub returns-clause-fails : goal.returns-clause-fails
returns-clause-fails c = λ t. absurd (not_listed c.args.self.now.calls c.args.self.now.failing.items _ _ c.contains.ensures.value c.deref.ensures.value c.if-contains.false t)
