use Rattle.std.proofs.Common.{◌≡◌, map}
use Rattle.std.specs.List.{range_with_len}
use Rattle.vub_log.specs.Plain.{byte_in}
use Rattle.vub_log.proofs.plain.bytes_in.Given as goal

-- the bytes so far
abbrev pub invariant-loop-byte : goal.invariant-loop-byte
invariant-loop-byte l =
    record {
      bytes : l.bytes.items ≡ map (λ n. byte_in l.words n) (range_with_len 0 l.byte);
    }
