-- Steps of each queue, from the last queue on.
use Rattle.std.proofs.Common.{◌≡◌, ℕ, zero, suc, ◌+◌, ◌-◌, ◌<◌, List, ◌++◌, sym, ap, ◌∙◌, append_assoc, arith}
use Rattle.vub_model.specs.declared.small.Small.{Small}
use Rattle.vub_model.specs.Plans.{each_queue}

each-more : (steps : ℕ → List Small) (m n : ℕ) (rest : List Small) → n ≡ suc m → each_queue steps n ++ rest ≡ each_queue steps m ++ (steps m ++ rest)
each-more steps m n rest is = ap (λ (k : ℕ). each_queue steps k ++ rest) is ∙ append_assoc (each_queue steps m) (steps m) rest

-- none is done
pub queues-first : (steps : ℕ → List Small) (n : ℕ) (rest : List Small) → each_queue steps (n - 0) ++ rest ≡ each_queue steps n ++ rest
queues-first steps n rest = (let is : n - 0 ≡ n = omega arith in ap (λ (k : ℕ). each_queue steps k ++ rest) is)

-- one more is done
pub queues-next : (steps : ℕ → List Small) (n done : ℕ) (rest : List Small) → done < n → each_queue steps (n - (done + 1)) ++ (steps (n - 1 - done) ++ rest) ≡ each_queue steps (n - done) ++ rest
queues-next steps n done rest below =
    let is : n - done ≡ suc (n - (done + 1)) = omega arith in
    let here : n - 1 - done ≡ n - (done + 1) = omega arith in
    ap (λ (k : ℕ). each_queue steps (n - (done + 1)) ++ (steps k ++ rest)) here ∙ sym (each-more steps (n - (done + 1)) (n - done) rest is)

-- all are done
pub queues-last : (steps : ℕ → List Small) (n done : ℕ) (rest : List Small) → n ≡ done → each_queue steps (n - done) ++ rest ≡ rest
queues-last steps n done rest all = (let is : n - done ≡ 0 = omega arith in ap (λ (k : ℕ). each_queue steps k ++ rest) is)
