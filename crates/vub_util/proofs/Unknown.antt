-- The text of an error whose number has none.
use Rattle.std.proofs.Common.{◌≡◌, ℤ, ◌++◌, None, codes, append_assoc}
use Rattle.std.specs.Fmt.{signed_decimal}
use Rattle.vub_util.specs.Errno.{errno_text, error_text}

pub unknown_text : (errno shown : ℤ) → shown ≡ errno → errno_text errno ≡ None → error_text errno ≡ codes "Unknown error " ++ (signed_decimal shown ++ (codes " (os error " ++ (signed_decimal shown ++ codes ")")))
unknown_text errno shown same none = rw same (simp none (simp append_assoc))
