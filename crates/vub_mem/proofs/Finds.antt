-- Laws of look-ups in a list, of its first fault, and of facts of all its elements.
use Rattle.std.proofs.Common.{◌||◌, ◌≡◌, ℕ, zero, suc, ◌+◌, ◌<◌, ◌≤◌, inl, inr, Bool, true, false, List, [], ◌∷◌, ◌++◌, Option, Some, None, refl, sym, ap, subst, ◌∙◌, arith, find, position, ltb, length, get_or, take, drop, drop-cons, drop_of_length-le}
use Rattle.std.specs.List.{position_or_len, AllByRecursion, insert, remove, list_any}
use Rattle.std.proofs.lemmas.List.{take_more}
use Rattle.std.proofs.lemmas.Bool.{cases_Bool, true≢false, ltb-true, ltb-false, cond-true, cond-false}
use Rattle.vub_mem.specs.Faults.{or_else, first_fault}

-- what is found passes the test
pub find_passes : {X : Type 0} → (p : X → Bool) (xs : List X) (x : X) → Some x ≡ find p xs → p x ≡ true
find_passes p [] x e = (let h : Some x ≡ None = e in cc)
find_passes p (y ∷ ys) x e =
    elim (cases_Bool (p y)) [
      | inl t ↦ (let h : Some x ≡ Some y = e ∙ cond-true (p y) (Some y) (find p ys) t in let same : x ≡ y = cc in subst (λ z. p z ≡ true) (sym same) t)
      | inr f ↦ find_passes p ys x (e ∙ cond-false (p y) (Some y) (find p ys) f)
    ]

pub first_true : {X : Type 0} → (p : X → Bool) (x : X) (xs : List X) → p x ≡ true → position_or_len p (x ∷ xs) ≡ 0
first_true p x xs t = rw t refl

pub first_false : {X : Type 0} → (p : X → Bool) (x : X) (xs : List X) → p x ≡ false → position_or_len p (x ∷ xs) ≡ suc (position_or_len p xs)
first_false p x xs f = rw f (omega arith)

pub find_first : {X : Type 0} → (p : X → Bool) (xs : List X) (d : X) → position_or_len p xs < length xs → find p xs ≡ Some (get_or xs (position_or_len p xs) d)
find_first p [] d h = absurd (omega arith)
find_first p (x ∷ xs) d h =
    elim (cases_Bool (p x)) [
      | inl t ↦ cond-true (p x) (Some x) (find p xs) t ∙ sym (ap (λ k. Some (get_or (x ∷ xs) k d)) (first_true p x xs t))
      | inr f ↦ (let below : position_or_len p xs < length xs = omega (arith, first_false p x xs f) in
          cond-false (p x) (Some x) (find p xs) f ∙ find_first p xs d below ∙ sym (ap (λ k. Some (get_or (x ∷ xs) k d)) (first_false p x xs f)))
    ]

pub find_nothing : {X : Type 0} → (p : X → Bool) (xs : List X) → length xs ≤ position_or_len p xs → find p xs ≡ None
find_nothing p [] h = refl
find_nothing p (x ∷ xs) h =
    elim (cases_Bool (p x)) [
      | inl t ↦ absurd (omega (arith, first_true p x xs t))
      | inr f ↦ cond-false (p x) (Some x) (find p xs) f ∙ find_nothing p xs (omega (arith, first_false p x xs f))
    ]

-- the place of the first element that passes
pub record IsFirst {X : Type 0} (p : X → Bool) (xs : List X) (k : ℕ) : Type 0 where
  pub is : k ≡ position_or_len p xs
  pub within : k < length xs
  pub found : (d : X) → find p xs ≡ Some (get_or xs k d)

pub position_first : {X : Type 0} → (p : X → Bool) (xs : List X) (k : ℕ) → Some k ≡ position p xs → IsFirst p xs k
position_first p xs k e =
    elim (cases_Bool (ltb (position_or_len p xs) (length xs))) [
      | inl t ↦ (let same : k ≡ position_or_len p xs = (let h : Some k ≡ Some (position_or_len p xs) = e ∙ cond-true (ltb (position_or_len p xs) (length xs)) (Some (position_or_len p xs)) None t in cc) in
          let below : position_or_len p xs < length xs = ltb-true (position_or_len p xs) (length xs) t in
          record { is = same; within = omega arith; found = λ d. find_first p xs d below ∙ ap (λ i. Some (get_or xs i d)) (sym same) })
      | inr f ↦ (let h : Some k ≡ None = e ∙ cond-false (ltb (position_or_len p xs) (length xs)) (Some (position_or_len p xs)) None f in cc)
    ]

pub position_none : {X : Type 0} → (p : X → Bool) (xs : List X) → None ≡ position p xs → length xs ≤ position_or_len p xs
position_none p xs e =
    elim (cases_Bool (ltb (position_or_len p xs) (length xs))) [
      | inl t ↦ (let h : None ≡ Some (position_or_len p xs) = e ∙ cond-true (ltb (position_or_len p xs) (length xs)) (Some (position_or_len p xs)) None t in cc)
      | inr f ↦ ltb-false (position_or_len p xs) (length xs) f
    ]

first_within : {X : Type 0} → (p : X → Bool) (xs : List X) → position_or_len p xs ≤ length xs
first_within p [] = omega arith
first_within p (x ∷ xs) =
    elim (cases_Bool (p x)) [
      | inl t ↦ omega (arith, first_true p x xs t)
      | inr f ↦ omega (arith, first_false p x xs f, first_within p xs)
    ]

pub position_end : {X : Type 0} → (p : X → Bool) (xs : List X) → None ≡ position p xs → length xs ≡ position_or_len p xs
position_end p xs e = omega (arith, position_none p xs e, first_within p xs)

pub find_none : {X : Type 0} → (p : X → Bool) (xs : List X) → None ≡ position p xs → find p xs ≡ None
find_none p xs e = find_nothing p xs (position_none p xs e)

faults_step : {X E : Type 0} → (test : X → Option E) (xs : List X) (i : ℕ) (d : X) → i < length xs → first_fault test (drop i xs) ≡ or_else (test (get_or xs i d)) (first_fault test (drop (i + 1) xs))
faults_step test xs i d h =
    ap (λ l. first_fault test l) (drop-cons xs i d h)
    ∙ (let up : suc i ≡ i + 1 = omega arith in ap (λ k. or_else (test (get_or xs i d)) (first_fault test (drop k xs))) up)

pub faults_end : {X E : Type 0} → (test : X → Option E) (xs : List X) (i : ℕ) (o : Option E) → length xs ≤ i → first_fault test (drop i xs) ≡ o → None ≡ o
faults_end test xs i o h e = sym (ap (λ l. first_fault test l) (drop_of_length-le xs h)) ∙ e

pub faults_some : {X E : Type 0} → (test : X → Option E) (xs : List X) (i : ℕ) (d : X) (f : E) (o : Option E) → i < length xs → first_fault test (drop i xs) ≡ o → Some f ≡ test (get_or xs i d) → Some f ≡ o
faults_some test xs i d f o h e is = ap (λ x. or_else x (first_fault test (drop (i + 1) xs))) is ∙ sym (faults_step test xs i d h) ∙ e

pub faults_none : {X E : Type 0} → (test : X → Option E) (xs : List X) (i : ℕ) (d : X) (o : Option E) → i < length xs → first_fault test (drop i xs) ≡ o → None ≡ test (get_or xs i d) → first_fault test (drop (i + 1) xs) ≡ o
faults_none test xs i d o h e is = ap (λ x. or_else x (first_fault test (drop (i + 1) xs))) is ∙ sym (faults_step test xs i d h) ∙ e

pub all_at : {X : Type 0} → (P : X → Type 0) (xs : List X) (i : ℕ) (d : X) → i < length xs → AllByRecursion P xs → P (get_or xs i d)
all_at P [] i d h all = absurd (omega arith)
all_at P (x ∷ xs) zero d h all = all.0
all_at P (x ∷ xs) (suc i) d h all = all_at P xs i d (omega arith) all.1

pub all_append : {X : Type 0} → (P : X → Type 0) (xs ys : List X) → AllByRecursion P xs → AllByRecursion P ys → AllByRecursion P (xs ++ ys)
all_append P [] ys all here = here
all_append P (x ∷ xs) ys all here = (all.0, all_append P xs ys all.1 here)

pub all_take : {X : Type 0} → (P : X → Type 0) (xs : List X) (i : ℕ) → AllByRecursion P xs → AllByRecursion P (take i xs)
all_take P xs zero all = tt
all_take P [] (suc i) all = tt
all_take P (x ∷ xs) (suc i) all = (all.0, all_take P xs i all.1)

pub all_drop : {X : Type 0} → (P : X → Type 0) (xs : List X) (i : ℕ) → AllByRecursion P xs → AllByRecursion P (drop i xs)
all_drop P xs zero all = all
all_drop P [] (suc i) all = tt
all_drop P (x ∷ xs) (suc i) all = all_drop P xs i all.1

pub all_more : {X : Type 0} → (P : X → Type 0) (xs : List X) (i : ℕ) (d : X) → i < length xs → AllByRecursion P (take i xs) → P (get_or xs i d) → AllByRecursion P (take (i + 1) xs)
all_more P xs i d h all here = rw (take_more xs i d h) (all_append P (take i xs) (get_or xs i d ∷ []) all (here, tt))

pub all_insert : {X : Type 0} → (P : X → Type 0) (xs : List X) (i : ℕ) (x : X) → AllByRecursion P xs → P x → AllByRecursion P (insert xs i x)
all_insert P xs i x all here = all_append P (take i xs) (x ∷ drop i xs) (all_take P xs i all) (here, all_drop P xs i all)

pub all_remove : {X : Type 0} → (P : X → Type 0) (xs : List X) (i : ℕ) → AllByRecursion P xs → AllByRecursion P (remove xs i)
all_remove P xs i all = all_append P (take i xs) (drop (suc i) xs) (all_take P xs i all) (all_drop P xs (suc i) all)

pub all_from : {X : Type 0} → (P Q : X → Type 0) (xs : List X) → ((x : X) → P x → Q x) → AllByRecursion P xs → AllByRecursion Q xs
all_from P Q [] step all = tt
all_from P Q (x ∷ xs) step all = (step x all.0, all_from P Q xs step all.1)

-- no element passes
pub none_any : {X : Type 0} → (p : X → Bool) (P : X → Type 0) (xs : List X) → ((x : X) → p x ≡ false → P x) → list_any p xs ≡ false → AllByRecursion P xs
none_any p P [] step h = tt
none_any p P (x ∷ xs) step h =
    elim (cases_Bool (p x)) [
      | inl t ↦ absurd (true≢false (let e : (true || list_any p xs) ≡ false = subst (λ b. (b || list_any p xs) ≡ false) t h in e))
      | inr f ↦ (step x f, none_any p P xs step (let e : (false || list_any p xs) ≡ false = subst (λ b. (b || list_any p xs) ≡ false) f h in e))
    ]
