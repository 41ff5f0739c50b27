use Rattle.std.proofs.Common.{◌≡◌, ◌++◌, take, string_bytes}
use Rattle.std.specs.List.{flat_map}
use Rattle.vub_text.proofs.lines.push_lines.Given as goal

abbrev pub invariant-loop-record : goal.invariant-loop-record
invariant-loop-record g l = string_bytes l.text ≡ string_bytes l.fn.text ++ flat_map g.T.Line.line (take l.record-index l.records)
