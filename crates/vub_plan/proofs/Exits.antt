-- Exit objects, from the last worker on.
use Rattle.std.proofs.Common.{◌≡◌, ℕ, zero, suc, ◌+◌, ◌-◌, ◌<◌, List, [], ◌∷◌, ◌++◌, length, take, slice_index_or, sym, ap, ◌∙◌, append_assoc, arith}
use Rattle.vub_model.specs.declared.small.Small.{Small}
use Rattle.vub_model.specs.declared.wiring.Opened.{Opened}
use Rattle.vub_model.specs.Plans.{bell_steps, exit_steps}

exit-more : (n : ℕ) (ws : List Opened) (w : Opened) (rest : List Small) → n < length ws → exit_steps (take (suc n) ws) ++ rest ≡ exit_steps (take n ws) ++ (bell_steps (slice_index_or ws n w).exit ++ rest)
exit-more n [] w rest below = absurd (omega (arith, below))
exit-more zero (x ∷ ws) w rest below = append_assoc (bell_steps x.exit) [] rest
exit-more (suc n) (x ∷ ws) w rest below =
    append_assoc (bell_steps x.exit) (exit_steps (take (suc n) ws)) rest
    ∙ ap (λ (r : List Small). bell_steps x.exit ++ r) (exit-more n ws w rest (omega (arith, below)))
    ∙ sym (append_assoc (bell_steps x.exit) (exit_steps (take n ws)) (bell_steps (slice_index_or ws n w).exit ++ rest))

-- one more is done
pub exits_next : (ws : List Opened) (done : ℕ) (w : Opened) (rest : List Small) → done < length ws → exit_steps (take (length ws - (done + 1)) ws) ++ (bell_steps (slice_index_or ws (length ws - 1 - done) w).exit ++ rest) ≡ exit_steps (take (length ws - done) ws) ++ rest
exits_next ws done w rest below =
    let n : ℕ = length ws in
    let here : n - 1 - done ≡ n - (done + 1) = omega arith in
    let next : n - done ≡ suc (n - (done + 1)) = omega arith in
    ap (λ (k : ℕ). exit_steps (take (n - (done + 1)) ws) ++ (bell_steps (slice_index_or ws k w).exit ++ rest)) here
    ∙ sym (ap (λ (k : ℕ). exit_steps (take k ws) ++ rest) next ∙ exit-more (n - (done + 1)) ws w rest (omega (arith, below)))
