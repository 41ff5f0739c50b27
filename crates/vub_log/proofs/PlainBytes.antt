-- The bytes of a plain log, one after the other.
use Rattle.std.proofs.Common.{◌≡◌, ℕ, ◌+◌, List, [], ◌∷◌, ◌++◌, map, sym, ap, ◌∙◌, arith}
use Rattle.std.proofs.lemmas.List.FromFn.{map-range_with_len_more}
use Rattle.std.specs.List.{range_with_len}
use Rattle.vub_log.specs.Plain.{byte_in}

-- one more byte
pub bytes_more : (words bytes more : List ℕ) (n byte : ℕ) → bytes ≡ map (λ k. byte_in words k) (range_with_len 0 n) → byte ≡ byte_in words n → more ≡ bytes ++ byte ∷ [] → more ≡ map (λ k. byte_in words k) (range_with_len 0 (n + 1))
bytes_more words bytes more n byte so_far is pushed =
    pushed ∙ (ap (λ bs. bs ++ byte ∷ []) so_far ∙ (ap (λ b. map (λ k. byte_in words k) (range_with_len 0 n) ++ b ∷ []) is ∙ sym (map-range_with_len_more (λ k. byte_in words k) 0 n n (omega arith))))
