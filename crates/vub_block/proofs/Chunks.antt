-- A list cut into chunks of z elements.
use Rattle.std.proofs.Common.{◌≡◌, ℕ, zero, suc, ◌+◌, ◌-◌, ◌*◌, ◌<◌, ◌≤◌, List, [], ◌∷◌, ◌++◌, length, map, take, drop, replicate, get_or, refl, sym, ap, ap₂, ◌∙◌, arith, add-zero, length-append, length-drop}
use Rattle.std.proofs.lemmas.List.{append-nil, length-replicate, nil_from_length, take-append-le, drop-append-le, take-append-drop, drop-drop, take_at, drop_at, map-append, replicate-append-replicate, length-take-le}
use Rattle.std.proofs.Math.Seq.{take-add}
use Rattle.std.proofs.Math.Nat.{mul-le-mul_left}
use Rattle.std.specs.List.{All, flat_map}
use Rattle.std.specs.Simd.{first_chunks}

pub length-first_chunks : {A : Type 0} (z n : ℕ) (xs : List A) → length (first_chunks z n xs) ≡ n
length-first_chunks z zero xs = refl
length-first_chunks z (suc n) xs = ap suc (length-first_chunks z n (drop z xs))

mul_le : (z a b : ℕ) → a ≤ b → z * a ≤ z * b
mul_le z a b h = mul-le-mul_left z h

mul-suc : (z n : ℕ) → z * suc n ≡ z + z * n
mul-suc z n = omega arith

pub first_chunks-append : {A : Type 0} (z n m : ℕ) (xs ys : List A) → length xs ≡ z * n → first_chunks z (n + m) (xs ++ ys) ≡ first_chunks z n xs ++ first_chunks z m ys
first_chunks-append z zero m xs ys long =
    let none : xs ≡ [] = nil_from_length xs (omega (arith, long)) in
    let same : zero + m ≡ m = omega arith in
    rw (none, same) refl
first_chunks-append z (suc n) m xs ys long =
    let fits : z ≤ length xs = omega (arith, long, mul-suc z n) in
    let rest : length (drop z xs) ≡ z * n = length-drop z xs ∙ omega (arith, long, mul-suc z n) in
    let more : suc n + m ≡ suc (n + m) = omega arith in
    ap (λ k. first_chunks z k (xs ++ ys)) more
    ∙ ap₂ (λ c cs. c ∷ cs) (take-append-le z xs ys fits)
    (ap (λ l. first_chunks z (n + m) l) (drop-append-le z xs ys fits) ∙ first_chunks-append z n m (drop z xs) ys rest)

pub take-first_chunks : {A : Type 0} (z k n : ℕ) (xs : List A) → k ≤ n → take k (first_chunks z n xs) ≡ first_chunks z k xs
take-first_chunks z zero n xs h = refl
take-first_chunks z (suc k) zero xs h = absurd (omega arith)
take-first_chunks z (suc k) (suc n) xs h = ap (λ cs. take z xs ∷ cs) (take-first_chunks z k n (drop z xs) (omega arith))

pub drop-first_chunks : {A : Type 0} (z k n : ℕ) (xs : List A) → drop k (first_chunks z (k + n) xs) ≡ first_chunks z n (drop (z * k) xs)
drop-first_chunks z zero n xs =
    let same : zero + n ≡ n = omega arith in
    let none : z * zero ≡ 0 = omega arith in
    rw (same, none) refl
drop-first_chunks z (suc k) n xs =
    let more : suc k + n ≡ suc (k + n) = omega arith in
    ap (λ j. drop (suc k) (first_chunks z j xs)) more
    ∙ drop-first_chunks z k n (drop z xs)
    ∙ ap (λ l. first_chunks z n l) (drop-drop (z * k) z xs ∙ ap (λ j. drop j xs) (sym (mul-suc z k)))

-- what stands after the chunks doesn't count
pub first_chunks-front : {A : Type 0} (z n : ℕ) (xs ys : List A) → length xs ≡ z * n → first_chunks z n (xs ++ ys) ≡ first_chunks z n xs
first_chunks-front z n xs ys long =
    ap (λ k. first_chunks z k (xs ++ ys)) (sym (add-zero n))
    ∙ first_chunks-append z n 0 xs ys long
    ∙ append-nil (first_chunks z n xs)

pub first_chunks-take : {A : Type 0} (z n : ℕ) (xs : List A) → z * n ≤ length xs → first_chunks z n (take (z * n) xs) ≡ first_chunks z n xs
first_chunks-take z n xs fits =
    sym (first_chunks-front z n (take (z * n) xs) (drop (z * n) xs) (length-take-le (z * n) xs fits))
    ∙ ap (λ l. first_chunks z n l) (take-append-drop (z * n) xs)

pub first_chunks-replicate : {A : Type 0} (z n : ℕ) (x : A) → first_chunks z n (replicate (z * n) x) ≡ replicate n (replicate z x)
first_chunks-replicate z zero x = refl
first_chunks-replicate z (suc n) x =
    let parts : replicate (z * suc n) x ≡ replicate z x ++ replicate (z * n) x = ap (λ k. replicate k x) (mul-suc z n) ∙ sym (replicate-append-replicate z (z * n) x) in
    let long : length (replicate z x) ≡ z = length-replicate z x in
    ap (λ l. first_chunks z (suc n) l) parts
    ∙ ap₂ (λ c cs. c ∷ cs) (take_at (replicate z x) (replicate (z * n) x) z long)
    (ap (λ l. first_chunks z n l) (drop_at (replicate z x) (replicate (z * n) x) z long) ∙ first_chunks-replicate z n x)

-- the chunks, one after the other, each mapped
pub flat_map-first_chunks : {A B : Type 0} (f : A → B) (z n : ℕ) (xs : List A) → flat_map (λ c. map f c) (first_chunks z n xs) ≡ map f (take (z * n) xs)
flat_map-first_chunks f z zero xs =
    let none : z * zero ≡ 0 = omega arith in
    rw none refl
flat_map-first_chunks f z (suc n) xs =
    ap (λ l. map f (take z xs) ++ l) (flat_map-first_chunks f z n (drop z xs))
    ∙ sym (map-append f (take z xs) (take (z * n) (drop z xs)))
    ∙ ap (λ l. map f l) (sym (take-add z (z * n) xs) ∙ ap (λ k. take k xs) (sym (mul-suc z n)))

all_cons : {A : Type 0} (P : A → Type 0) (x : A) (xs : List A) → P x → All P xs → (k : ℕ) (d : A) → k < length (x ∷ xs) → P (get_or (x ∷ xs) k d)
all_cons P x xs here rest zero d h = here
all_cons P x xs here rest (suc k) d h = rest k d (omega arith)

pub first_chunks-whole : {A : Type 0} (z n : ℕ) (xs : List A) → z * n ≤ length xs → All (λ c. length c ≡ z) (first_chunks z n xs)
first_chunks-whole z zero xs fits = λ k d h. absurd (omega arith)
first_chunks-whole z (suc n) xs fits =
    let rest : z * n ≤ length (drop z xs) = omega (arith, fits, mul-suc z n, length-drop z xs) in
    all_cons (λ c. length c ≡ z) (take z xs) (first_chunks z n (drop z xs)) (length-take-le z xs (omega (arith, fits, mul-suc z n))) (first_chunks-whole z n (drop z xs) rest)

pub get_or-first_chunks : {A : Type 0} (z n k : ℕ) (xs d : List A) → k < n → (e : List A) → get_or (first_chunks z n xs) k e ≡ take z (drop (z * k) xs)
get_or-first_chunks z zero k xs d h e = absurd (omega arith)
get_or-first_chunks z (suc n) zero xs d h e =
    let none : z * zero ≡ 0 = omega arith in
    rw none refl
get_or-first_chunks z (suc n) (suc k) xs d h e =
    get_or-first_chunks z n k (drop z xs) d (omega arith) e
    ∙ ap (λ l. take z l) (drop-drop (z * k) z xs ∙ ap (λ j. drop j xs) (sym (mul-suc z k)))

-- whole chunks in the place of others
pub first_chunks-splice : {A : Type 0} (z n s m : ℕ) (xs new : List A) → length xs ≡ z * n → length new ≡ z * m → s + m ≤ n →
    first_chunks z n (take (z * s) xs ++ new ++ drop (z * s + z * m) xs) ≡ take s (first_chunks z n xs) ++ first_chunks z m new ++ drop (s + m) (first_chunks z n xs)
first_chunks-splice z n s m xs new long long_new fits =
    let r : ℕ = n - (s + m) in
    let parts : n ≡ (s + m) + r = omega arith in
    let sum : z * (s + m) ≡ z * s + z * m = omega arith in
    let room : z * (s + m) ≤ z * n = mul_le z (s + m) n fits in
    let front : length (take (z * s) xs) ≡ z * s = length-take-le (z * s) xs (omega (arith, long, room, sum)) in
    let both : length (take (z * s) xs ++ new) ≡ z * (s + m) = length-append (take (z * s) xs) new ∙ omega (arith, front, long_new, sum) in
    ap (λ k. first_chunks z k (take (z * s) xs ++ new ++ drop (z * s + z * m) xs)) parts
    ∙ first_chunks-append z (s + m) r (take (z * s) xs ++ new) (drop (z * s + z * m) xs) both
    ∙ ap₂ (λ a b. a ++ b)
    (first_chunks-append z s m (take (z * s) xs) new front
    ∙ ap (λ a. a ++ first_chunks z m new) (first_chunks-take z s xs (omega (arith, long, room, sum)) ∙ sym (take-first_chunks z s n xs (omega arith))))
    (ap (λ k. first_chunks z r (drop k xs)) (sym sum)
    ∙ sym (drop-first_chunks z (s + m) r xs)
    ∙ ap (λ k. drop (s + m) (first_chunks z k xs)) (sym parts))
