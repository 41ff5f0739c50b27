-- When a WRITE succeeds with a reply that fits.
use Rattle.std.proofs.Common.{◌≡◌, ◌∙◌, ℕ, List, [], ◌∷◌, false, Option, Some, None, nat_le, refl, ap}
use Rattle.vub_dir.specs.Node.{Node}
use Rattle.vub_dir.specs.declared.layout.Field.TheVariants.{U32}
use Rattle.vub_dir.specs.Layout.{fields_bytes}
use Rattle.vub_dir.specs.Directory.{write_refusal, write_of, unless_refused, succeeds, size_in}

-- the body of the reply has 8 bytes
body_fits : (room size : ℕ) → succeeds room (unless_refused None (fields_bytes (U32 size ∷ U32 0 ∷ []))) ≡ nat_le 24 room
unfolding fields_bytes
body_fits room size = refl

pub succeeds_none : (nodes : List Node) (n : ℕ) (body : List ℕ) (room : ℕ) → write_refusal nodes n body ≡ None → succeeds room (write_of nodes n body) ≡ nat_le 24 room
unfolding write_of
succeeds_none nodes n body room e =
    ap (λ (r : Option ℕ). succeeds room (unless_refused r (fields_bytes (U32 (size_in body) ∷ U32 0 ∷ [])))) e ∙ body_fits room (size_in body)

pub succeeds_some : (nodes : List Node) (n : ℕ) (body : List ℕ) (room errno : ℕ) → write_refusal nodes n body ≡ Some errno → succeeds room (write_of nodes n body) ≡ false
unfolding write_of
succeeds_some nodes n body room errno e =
    ap (λ (r : Option ℕ). succeeds room (unless_refused r (fields_bytes (U32 (size_in body) ∷ U32 0 ∷ [])))) e
