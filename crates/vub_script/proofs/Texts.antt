-- From a text to a draft, the limits, and the rounds.
use Rattle.std.proofs.Common.{◌≡◌, ℕ, zero, suc, ◌+◌, ◌-◌, ◌<◌, List, ◌++◌, Bool, true, false, Some, None, refl, sym, ap, ◌∙◌, append_assoc, arith, if◌then◌else◌}
use Rattle.std.specs.List.{repeat}
use Rattle.std.specs.Str.{IsUtf8, is_utf8}
use Rattle.std.proofs.lemmas.Str.{is_utf8-from_IsUtf8, IsUtf8-from_is_utf8}
use Rattle.serde_json.specs.Data.{Data}
use Rattle.serde_json.specs.Read.{read}
use Rattle.vub_forms.specs.Reading.{◌>>=◌}
use Rattle.vub_script.specs.Draft.{draft_of_tree}
use Rattle.vub_script.specs.Script.{read_draft}

pub reads_some : (bytes : List ℕ) (d : Data) → IsUtf8 bytes → read bytes ≡ Some d → read_draft bytes ≡ draft_of_tree d
unfolding read_draft
reads_some bytes d text is = ap (λ b. if b then read bytes >>= draft_of_tree else None) (is_utf8-from_IsUtf8 bytes text) ∙ ap (λ r. r >>= draft_of_tree) is

reads_none_at : (bytes : List ℕ) (b : Bool) → is_utf8 bytes ≡ b → (IsUtf8 bytes → read bytes ≡ None) → (if b then read bytes >>= draft_of_tree else None) ≡ None
reads_none_at bytes true e h = ap (λ r. r >>= draft_of_tree) (h (IsUtf8-from_is_utf8 bytes e))
reads_none_at bytes false e h = refl

pub reads_none : (bytes : List ℕ) → (IsUtf8 bytes → read bytes ≡ None) → read_draft bytes ≡ None
unfolding read_draft
reads_none bytes h = reads_none_at bytes (is_utf8 bytes) refl h

repeat_next : (n : ℕ) (turns : List ℕ) → 0 < n → repeat n turns ≡ turns ++ repeat (n - 1) turns
repeat_next zero turns h = absurd (omega arith)
repeat_next (suc n) turns h = ap (λ k. turns ++ repeat k turns) (omega arith)

-- one more round stands after those before it
pub one_round : (front longer whole turns : List ℕ) (i n : ℕ) → i < n → longer ≡ front ++ turns
    → front ++ repeat (n - i) turns ≡ whole → longer ++ repeat (n - (i + 1)) turns ≡ whole
one_round front longer whole turns i n h is so_far =
    let last : n - i - 1 ≡ n - (i + 1) = omega arith in
    let round : repeat (n - i) turns ≡ turns ++ repeat (n - (i + 1)) turns = repeat_next (n - i) turns (omega arith) ∙ ap (λ k. turns ++ repeat k turns) last in
    ap (λ l. l ++ repeat (n - (i + 1)) turns) is ∙ append_assoc front turns (repeat (n - (i + 1)) turns) ∙ ap (λ l. front ++ l) (sym round) ∙ so_far
