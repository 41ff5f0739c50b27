-- The number of an ioctl request (asm-generic/ioctl.h): its direction, size, type and place, side by side in 32 bits.
use Rattle.std.specs.Prelude.{ℕ, ◌*◌, ◌^◌, ◌%◌, bit_or}

-- a number shifted to the left by some bits, in 32 bits
abbrev pub shifted : ℕ → ℕ → ℕ
shifted n places = n * 2 ^ places % 2 ^ 32

abbrev pub ioctl_number : ℕ → ℕ → ℕ → ℕ → ℕ
ioctl_number dir ty nr size = bit_or (bit_or (bit_or (shifted dir 30) (shifted ty 8)) nr) (shifted size 16)
