use Rattle.std.proofs.Common.{◌≡◌, ◌++◌, drop}
use Rattle.vub_dir.specs.Layout.{fields_bytes}
use Rattle.vub_dir.proofs.layout.put_fields.Given as goal

abbrev pub invariant-loop-field : goal.invariant-loop-field
invariant-loop-field l = l.out.items ++ fields_bytes (drop l.field-index l.fields) ≡ l.fn.out.items ++ fields_bytes l.fields
