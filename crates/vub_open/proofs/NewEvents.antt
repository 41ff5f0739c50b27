-- A new event has those of its flags that an event may have.
use Rattle.std.proofs.Common.{◌≡◌, ℕ, ◌==◌, false, None, refl, ap, arith}
use Rattle.std.specs.Int.RustNames.{bit_and, bit_or}
use Rattle.std.specs.Int.Bits.{or_add_and}
use Rattle.std.proofs.lemmas.Nat.{and_assoc}
use Rattle.vub_event.specs.HostCalls.{new_event, flags_refusal}

pub cut_event : (flags : ℕ) → new_event (bit_and flags 0x80801) ≡ new_event flags
cut_event flags = ap (λ n. record { count = 0; semaphore = n == 1; hung_up = false; claim = None }) (and_assoc 1 flags 0x80801)

or_within : (flags : ℕ) → bit_or (bit_and flags 0x80801) 0x80801 ≡ 0x80801
or_within flags =
    let sum = or_add_and (bit_and flags 0x80801) 0x80801 in
    let same : bit_and (bit_and flags 0x80801) 0x80801 ≡ bit_and flags 0x80801 = and_assoc 0x80801 flags 0x80801 in
    omega (arith, sum, same)

-- and no other
pub cut_flags : (flags : ℕ) → flags_refusal (bit_and flags 0x80801) ≡ None
cut_flags flags = rw (or_within flags) refl
