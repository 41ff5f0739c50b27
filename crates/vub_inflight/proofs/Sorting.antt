-- Marks that a sort leaves are those in the order of their counters.
use Rattle.std.proofs.Common.{Ordering, Less, Equal, Greater, ◌≡◌, ◌⊎◌, ℕ, suc, ◌+◌, ◌<◌, ◌≤◌, inl, inr, Bool, true, false, true≢false, ◌&&◌, cond, List, [], ◌∷◌, refl, sym, ap, ap₂, subst, ◌∙◌, arith, ltb, eqb, get_or}
use Rattle.std.specs.List.{sum_by, AllByRecursion as Each}
use Rattle.std.specs.List.Sorted.{IsPermutation, IsSorted}
use Rattle.std.specs.Ordering.{is_lt, nat_cmp, ordering_then}
use Rattle.std.proofs.lemmas.Bool.{cases_Bool, cond-true, cond-false, eqb-true, eq-eqb, le-ltb, lt-ltb, and_parts, and_from}
use Rattle.std.proofs.lemmas.List.Sorted.{sum_by-IsPermutation}
use Rattle.std.proofs.lemmas.List.Sums.{sum_by-cons}
use Rattle.vub_inflight.specs.declared.mark.Mark.{Mark}
use Rattle.vub_inflight.specs.declared.slot.Slot.{Slot}
use Rattle.vub_inflight.specs.Order.{flying_from, in_order, put_in, marks_of}
use Rattle.vub_inflight.proofs.MarkLaws.{each_put, put_low, put_high, order, weaker}

-- a mark is no later than another: by counter, and by head where the counters are equal
record Before (m n : Mark) : Type 0 where
  counter : m.counter ≤ n.counter
  head : m.counter ≡ n.counter → m.head ≤ n.head

before_next : (m n o : Mark) → Before m n → Before n o → Before m o
before_next m n o p q = record {
  counter = omega (arith, p.counter, q.counter);
  head = λ e. (let first : m.counter ≡ n.counter = omega (arith, p.counter, q.counter) in let second : n.counter ≡ o.counter = omega (arith, p.counter, q.counter) in omega (arith, p.head first, q.head second));
}

before_both : (m n : Mark) → Before m n → Before n m → m ≡ n
before_both m n p q =
    let counter : m.counter ≡ n.counter = omega (arith, p.counter, q.counter) in
    let head : m.head ≡ n.head = omega (arith, p.head counter, q.head (sym counter)) in
    ap₂ (λ c h. record { counter = c; head = h }) counter head

-- each mark is no later than those that follow
abbrev InTurn : List Mark → Type 0
InTurn [] = Unit {0}
InTurn (m ∷ ns) = Each (λ n. Before m n) ns × InTurn ns

-- how often a mark stands in a list
is_mark : Mark → Mark → Bool
is_mark m n = eqb m.counter n.counter && eqb m.head n.head

one_if : Bool → ℕ
one_if true = 1
one_if false = 0

abbrev times : Mark → List Mark → ℕ
times m ns = sum_by (λ n. one_if (is_mark m n)) ns

times_cons : (m n : Mark) (ns : List Mark) → times m (n ∷ ns) ≡ one_if (is_mark m n) + times m ns
times_cons m n ns = sum_by-cons (λ x. one_if (is_mark m x)) n ns

is_mark_self : (m : Mark) → is_mark m m ≡ true
unfolding is_mark
is_mark_self m = and_from (eqb m.counter m.counter) (eqb m.head m.head) (eq-eqb m.counter m.counter refl) (eq-eqb m.head m.head refl)

same_mark : (m n : Mark) → is_mark m n ≡ true → m ≡ n
unfolding is_mark
same_mark m n h =
    let parts = and_parts (eqb m.counter n.counter) (eqb m.head n.head) h in
    ap₂ (λ c d. record { counter = c; head = d }) (eqb-true m.counter n.counter parts.0) (eqb-true m.head n.head parts.1)

stands_once : one_if true ≡ 1
unfolding one_if
stands_once = refl

stands_not : one_if false ≡ 0
unfolding one_if
stands_not = refl

-- a mark stands at the front
front_some : (m : Mark) (ns : List Mark) → 0 < times m (m ∷ ns)
front_some m ns = (let one : one_if (is_mark m m) ≡ 1 = ap one_if (is_mark_self m) ∙ stands_once in omega (arith, times_cons m m ns))

-- a mark that does not stand at the front stands behind it
back_some : (n x : Mark) (ns : List Mark) → is_mark n x ≡ false → 0 < times n (x ∷ ns) → 0 < times n ns
back_some n x ns f some = (let none : one_if (is_mark n x) ≡ 0 = ap one_if f ∙ stands_not in omega (arith, times_cons n x ns))

before_self : (m : Mark) → Before m m
before_self m = record { counter = omega arith; head = λ e. omega arith }

-- the first of marks in turn is no later than one that stands there
first_before : (m n : Mark) (ns : List Mark) → Each (λ x. Before m x) ns → 0 < times n ns → Before m n
first_before m n [] all some = absurd (omega arith)
first_before m n (x ∷ ns) all some =
    elim (cases_Bool (is_mark n x)) [
      | inl t ↦ subst (λ y. Before m y) (sym (same_mark n x t)) all.0
      | inr f ↦ first_before m n ns all.1 (back_some n x ns f some)
    ]

head_before : (m n : Mark) (ms : List Mark) → InTurn (m ∷ ms) → 0 < times n (m ∷ ms) → Before m n
head_before m n ms turn some = first_before m n (m ∷ ms) (before_self m, turn.0) some

-- two lists in turn that have each mark equally often are one
one_turn : (ms ns : List Mark) → InTurn ms → InTurn ns → ((x : Mark) → times x ms ≡ times x ns) → ms ≡ ns
one_turn [] [] p q same = refl
one_turn [] (n ∷ ns) p q same = absurd (let none : times n [] ≡ 0 = refl in omega (arith, same n, front_some n ns))
one_turn (m ∷ ms) [] p q same = absurd (let none : times m [] ≡ 0 = refl in omega (arith, same m, front_some m ms))
one_turn (m ∷ ms) (n ∷ ns) p q same =
    let low : Before m n = head_before m n ms p (omega (arith, same n, front_some n ns)) in
    let high : Before n m = head_before n m ns q (omega (arith, same m, front_some m ms)) in
    let first : m ≡ n = before_both m n low high in
    let rest : (x : Mark) → times x ms ≡ times x ns = λ x. (let here : one_if (is_mark x m) ≡ one_if (is_mark x n) = ap (λ y. one_if (is_mark x y)) first in omega (arith, same x, times_cons x m ms, times_cons x n ns)) in
    ap₂ (λ y ys. y ∷ ys) first (one_turn ms ns p.1 q.1 rest)

-- putting marks in order keeps them
sum_put : (f : Mark → ℕ) (m : Mark) (ns : List Mark) → sum_by f (put_in m ns) ≡ f m + sum_by f ns
sum_put f m [] = sum_by-cons f m []
sum_put f m (n ∷ ns) =
    elim (order m n) [
      | inl low ↦ ap (sum_by f) (put_low m n ns low) ∙ sum_by-cons f m (n ∷ ns)
      | inr high ↦ ap (sum_by f) (put_high m n ns high) ∙ (let rest : sum_by f (put_in m ns) ≡ f m + sum_by f ns = sum_put f m ns in omega (arith, sum_by-cons f n (put_in m ns), sum_by-cons f n ns))
    ]

sum_order : (f : Mark → ℕ) (ms : List Mark) → sum_by f (in_order ms) ≡ sum_by f ms
sum_order f [] = refl
sum_order f (m ∷ ms) = sum_put f m (in_order ms) ∙ ap (λ n. f m + n) (sum_order f ms) ∙ sym (sum_by-cons f m ms)

-- a mark of a lower head than all others is put in its turn
turn_put : (m : Mark) (ns : List Mark) → Each (λ n. m.head < n.head) ns → InTurn ns → InTurn (put_in m ns)
turn_put m [] low turn = (tt, tt)
turn_put m (n ∷ ns) low turn =
    elim (order m n) [
      | inl le ↦ subst InTurn (sym (put_low m n ns le)) (
        (let first : Before m n = record { counter = le; head = λ e. (let lt : m.head < n.head = low.0 in omega arith) } in
            (first, weaker (λ x. Before n x) (λ x. Before m x) (λ x next. before_next m n x first next) ns turn.0)),
        turn,
      )
      | inr gt ↦ subst InTurn (sym (put_high m n ns gt))
          (each_put (λ x. Before n x) m ns (record { counter = omega arith; head = λ e. absurd (omega arith) }) turn.0, turn_put m ns low.1 turn.1)
    ]

flying_high : (h : ℕ) (ss : List Slot) → Each (λ m. h ≤ m.head) (flying_from h ss)
flying_high h [] = tt
flying_high h (s ∷ ss) =
    let rest : Each (λ m. h ≤ m.head) (flying_from (h + 1) ss) = weaker (λ m. h + 1 ≤ m.head) (λ m. h ≤ m.head) (λ m le. omega arith) (flying_from (h + 1) ss) (flying_high (h + 1) ss) in
    elim s.in_flight as (λ b. Each (λ m. h ≤ m.head) (cond b (record { counter = s.counter; head = h } ∷ flying_from (h + 1) ss) (flying_from (h + 1) ss))) [ true ↦ (omega arith, rest) | false ↦ rest ]

each_order : (P : Mark → Type 0) (ms : List Mark) → Each P ms → Each P (in_order ms)
each_order P [] all = tt
each_order P (m ∷ ms) all = each_put P m (in_order ms) all.0 (each_order P ms all.1)

turn_marks : (h : ℕ) (ss : List Slot) → InTurn (in_order (flying_from h ss))
turn_marks h [] = tt
turn_marks h (s ∷ ss) =
    let above : Each (λ m. h < m.head) (in_order (flying_from (h + 1) ss)) = each_order (λ m. h < m.head) (flying_from (h + 1) ss) (weaker (λ m. h + 1 ≤ m.head) (λ m. h < m.head) (λ m le. omega arith) (flying_from (h + 1) ss) (flying_high (h + 1) ss)) in
    elim s.in_flight as (λ b. InTurn (in_order (cond b (record { counter = s.counter; head = h } ∷ flying_from (h + 1) ss) (flying_from (h + 1) ss)))) [
      | true ↦ turn_put (record { counter = s.counter; head = h }) (in_order (flying_from (h + 1) ss)) above (turn_marks (h + 1) ss)
      | false ↦ turn_marks (h + 1) ss
    ]

-- how marks compare: by counter, and then by head
abbrev pub mark_cmp : Mark → Mark → Ordering
mark_cmp m n = ordering_then (nat_cmp m.counter n.counter) (nat_cmp m.head n.head)

less : (x y : ℕ) → x < y → nat_cmp x y ≡ Less
less x y h = cond-true (ltb x y) Less (cond (eqb x y) Equal Greater) (lt-ltb x y h)

equal : (x y : ℕ) → x ≡ y → nat_cmp x y ≡ Equal
equal x y e = cond-false (ltb x y) Less (cond (eqb x y) Equal Greater) (le-ltb x y (omega arith)) ∙ cond-true (eqb x y) Equal Greater (eq-eqb x y e)

three : (x y : ℕ) → ((x < y) ⊎ ((x ≡ y) ⊎ (y < x)))
three x y = grind arith

-- a mark before which the next does not come is no later than that
not_less : (m n : Mark) → is_lt (mark_cmp n m) ≡ false → Before m n
not_less m n h =
    elim (three n.counter m.counter) [
      | inl lt ↦ absurd (true≢false (sym (ap (λ o. is_lt (ordering_then o (nat_cmp n.head m.head))) (less n.counter m.counter lt)) ∙ h))
      | inr ge ↦ elim ge [
        | inl eq ↦ (let heads : is_lt (nat_cmp n.head m.head) ≡ false = sym (ap (λ o. is_lt (ordering_then o (nat_cmp n.head m.head))) (equal n.counter m.counter eq)) ∙ h in
            record {
              counter = omega arith;
              head = λ e. (elim (three n.head m.head) [
                | inl lt ↦ absurd (true≢false (sym (ap is_lt (less n.head m.head lt)) ∙ heads))
                | inr rest ↦ elim rest [ inl same ↦ omega arith | inr gt ↦ omega arith ]
              ]);
            })
        | inr gt ↦ record { counter = omega arith; head = λ e. absurd (omega arith) }
      ]
    ]

-- marks that a sort leaves stand in turn
turn_from : (ms : List Mark) → IsSorted mark_cmp ms → InTurn ms
turn_from [] sorted = tt
turn_from (m ∷ []) sorted = (tt, tt)
turn_from (m ∷ n ∷ ns) sorted =
    let next : Before m n = not_less m n (sorted 0 m (omega arith) (omega arith)) in
    let rest : InTurn (n ∷ ns) = turn_from (n ∷ ns) (λ k d low high.
    let up : suc k + 1 ≡ suc (k + 1) = omega arith in
    subst (λ i. is_lt (mark_cmp (get_or (m ∷ n ∷ ns) i d) (get_or (m ∷ n ∷ ns) (suc k) d)) ≡ false) up (sorted (suc k) d (omega arith) (omega arith))) in
    ((next, weaker (λ x. Before n x) (λ x. Before m x) (λ x p. before_next m n x next p) ns rest.0), rest)

-- what a sort makes of the marks of the slots is these in their order
pub sorted_is : (ss : List Slot) (fs ms : List Mark) → fs ≡ flying_from 0 ss → IsPermutation fs ms → IsSorted mark_cmp ms → ms ≡ marks_of ss
unfolding marks_of
sorted_is ss fs ms e moved sorted =
    one_turn ms (in_order (flying_from 0 ss)) (turn_from ms sorted) (turn_marks 0 ss)
    (λ x. sum_by-IsPermutation (λ n. one_if (is_mark x n)) fs ms moved ∙ ap (times x) e ∙ sym (sum_order (λ n. one_if (is_mark x n)) (flying_from 0 ss)))
