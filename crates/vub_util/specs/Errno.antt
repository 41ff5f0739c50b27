-- The texts of error numbers, and how an error is printed.
use Rattle.std.specs.Prelude.{ℕ, ℤ, pos, negsuc, List, [], ◌∷◌, ◌++◌, Option, Some, None, unwrap_or, ◌==◌}
use Rattle.std.specs.Prelude.{if◌then◌else◌, codes}
use Rattle.std.specs.Fmt.{signed_decimal}

-- a number and its text
pub record Row : Type 0 where
  pub number : ℕ
  pub text : List ℕ

abbrev pub row : ℕ → List ℕ → Row
row number text = record { number = number; text = text }

-- the numbers that have a text, which is that of Linux's C library
abbrev pub texts : List Row
texts =
    row 1 (codes "Operation not permitted") ∷
    row 2 (codes "No such file or directory") ∷
    row 3 (codes "No such process") ∷
    row 4 (codes "Interrupted system call") ∷
    row 5 (codes "Input/output error") ∷
    row 6 (codes "No such device or address") ∷
    row 7 (codes "Argument list too long") ∷
    row 8 (codes "Exec format error") ∷
    row 9 (codes "Bad file descriptor") ∷
    row 10 (codes "No child processes") ∷
    row 11 (codes "Resource temporarily unavailable") ∷
    row 12 (codes "Cannot allocate memory") ∷
    row 13 (codes "Permission denied") ∷
    row 14 (codes "Bad address") ∷
    row 16 (codes "Device or resource busy") ∷
    row 17 (codes "File exists") ∷
    row 18 (codes "Invalid cross-device link") ∷
    row 19 (codes "No such device") ∷
    row 20 (codes "Not a directory") ∷
    row 21 (codes "Is a directory") ∷
    row 22 (codes "Invalid argument") ∷
    row 23 (codes "Too many open files in system") ∷
    row 24 (codes "Too many open files") ∷
    row 25 (codes "Inappropriate ioctl for device") ∷
    row 27 (codes "File too large") ∷
    row 28 (codes "No space left on device") ∷
    row 29 (codes "Illegal seek") ∷
    row 30 (codes "Read-only file system") ∷
    row 32 (codes "Broken pipe") ∷
    row 105 (codes "No buffer space available") ∷
    []

-- the text beside a number
abbrev pub text_in : List Row → ℕ → Option (List ℕ)
text_in [] n = None
text_in (r ∷ rs) n = if n == r.number then Some r.text else text_in rs n

-- the text of an error number, if it has one
abbrev pub errno_text : ℤ → Option (List ℕ)
errno_text (pos n) = text_in texts n
errno_text (negsuc _) = None

-- an error is printed as its text, or as an unknown one, with its number
abbrev pub error_text : ℤ → List ℕ
error_text errno =
    unwrap_or (errno_text errno) (codes "Unknown error " ++ signed_decimal errno)
    ++ codes " (os error " ++ signed_decimal errno ++ codes ")"
