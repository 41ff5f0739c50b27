-- Lists of a generated script, entry by entry.
use Rattle.std.proofs.Common.{◌≡◌, ◌∙◌, ℕ, zero, suc, ◌+◌, ◌-◌, ◌<◌, List, [], ◌∷◌, ◌++◌, Result, Ok, Err, OnOk, refl, sym, ap, append_assoc, arith}
use Rattle.std.specs.List.{flat_map, range_with_len, repeat}
use Rattle.vub_model.specs.declared.setup.Guest.{Guest}
use Rattle.vub_share.specs.Generator.{published}

next_entry : (i n : ℕ) → 0 < n → flat_map published (range_with_len i n) ≡ published i ++ flat_map published (range_with_len (i + 1) (n - 1))
next_entry i zero h = absurd (omega arith)
next_entry i (suc n) h = ap (λ k. published i ++ flat_map published (range_with_len (i + 1) k)) (omega arith)

-- one more entry stands behind those before it
pub one_entry_more : (front longer whole : List Guest) (i n : ℕ) → i < n → longer ≡ front ++ published i
    → front ++ flat_map published (range_with_len i (n - i)) ≡ whole
    → longer ++ flat_map published (range_with_len (i + 1) (n - (i + 1))) ≡ whole
one_entry_more front longer whole i n h is so_far =
    let last : n - i - 1 ≡ n - (i + 1) = omega arith in
    let rest = flat_map published (range_with_len (i + 1) (n - (i + 1))) in
    let round : flat_map published (range_with_len i (n - i)) ≡ published i ++ rest =
    next_entry i (n - i) (omega arith) ∙ ap (λ k. published i ++ flat_map published (range_with_len (i + 1) k)) last in
    ap (λ l. l ++ rest) is ∙ append_assoc front (published i) rest ∙ ap (λ l. front ++ l) (sym round) ∙ so_far

next_turns : (n : ℕ) (turns : List ℕ) → 0 < n → repeat n turns ≡ turns ++ repeat (n - 1) turns
next_turns zero turns h = absurd (omega arith)
next_turns (suc n) turns h = ap (λ k. turns ++ repeat k turns) (omega arith)

-- one more entry's turns stand behind those before them
pub one_turn_more : (front longer whole turns : List ℕ) (i n : ℕ) → i < n → longer ≡ front ++ turns
    → front ++ repeat (n - i) turns ≡ whole → longer ++ repeat (n - (i + 1)) turns ≡ whole
one_turn_more front longer whole turns i n h is so_far =
    let last : n - i - 1 ≡ n - (i + 1) = omega arith in
    let round : repeat (n - i) turns ≡ turns ++ repeat (n - (i + 1)) turns = next_turns (n - i) turns (omega arith) ∙ ap (λ k. turns ++ repeat k turns) last in
    ap (λ l. l ++ repeat (n - (i + 1)) turns) is ∙ append_assoc front turns (repeat (n - (i + 1)) turns) ∙ ap (λ l. front ++ l) (sym round) ∙ so_far

-- five actions, one behind the other
pub five : {E : Type 0} (r : Result (Unit {0}) E) (g p1 p2 p3 p4 p5 : List Guest) (a b c d a' b' c' d' e : Guest)
    → a' ≡ a → b' ≡ b → c' ≡ c → d' ≡ d → p1 ≡ g ++ a' ∷ [] → p2 ≡ p1 ++ b' ∷ [] → p3 ≡ p2 ++ c' ∷ [] → p4 ≡ p3 ++ d' ∷ []
    → OnOk r (p5 ≡ p4 ++ e ∷ []) → OnOk r (p5 ≡ g ++ a ∷ b ∷ c ∷ d ∷ e ∷ [])
five (Err x) g p1 p2 p3 p4 p5 a b c d a' b' c' d' e ea eb ec ed h1 h2 h3 h4 h5 = tt
five (Ok u) g p1 p2 p3 p4 p5 a b c d a' b' c' d' e ea eb ec ed h1 h2 h3 h4 h5 =
    let q1 : p1 ≡ g ++ a ∷ [] = h1 ∙ ap (λ x. g ++ x ∷ []) ea in
    let q2 : p2 ≡ p1 ++ b ∷ [] = h2 ∙ ap (λ x. p1 ++ x ∷ []) eb in
    let q3 : p3 ≡ p2 ++ c ∷ [] = h3 ∙ ap (λ x. p2 ++ x ∷ []) ec in
    let q4 : p4 ≡ p3 ++ d ∷ [] = h4 ∙ ap (λ x. p3 ++ x ∷ []) ed in
    let r2 : p2 ≡ g ++ a ∷ b ∷ [] = q2 ∙ ap (λ l. l ++ b ∷ []) q1 ∙ append_assoc g (a ∷ []) (b ∷ []) in
    let r3 : p3 ≡ g ++ a ∷ b ∷ c ∷ [] = q3 ∙ ap (λ l. l ++ c ∷ []) r2 ∙ append_assoc g (a ∷ b ∷ []) (c ∷ []) in
    let r4 : p4 ≡ g ++ a ∷ b ∷ c ∷ d ∷ [] = q4 ∙ ap (λ l. l ++ d ∷ []) r3 ∙ append_assoc g (a ∷ b ∷ c ∷ []) (d ∷ []) in
    h5 ∙ ap (λ l. l ++ e ∷ []) r4 ∙ append_assoc g (a ∷ b ∷ c ∷ d ∷ []) (e ∷ [])
