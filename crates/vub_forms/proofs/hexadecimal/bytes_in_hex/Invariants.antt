use Rattle.std.proofs.Common.{◌≡◌, ◌++◌, length, option_map}
use Rattle.vub_forms.specs.Hexadecimal.{hex_bytes}
use Rattle.vub_forms.proofs.hexadecimal.bytes_in_hex.Given as goal

-- the bytes so far, and behind them those of the rest
abbrev pub invariant-loop-rest : goal.invariant-loop-rest
invariant-loop-rest l = option_map (λ more. l.bytes.items ++ more) (hex_bytes l.rest) ≡ hex_bytes l.text

abbrev pub decreases-loop-rest : goal.decreases-loop-rest
decreases-loop-rest l = length l.rest
