-- Laws of marks that stand in the order of their counters.
use Rattle.std.proofs.Common.{◌≡◌, ◌≢◌, ◌⊎◌, ℕ, zero, suc, ◌+◌, ◌<◌, ◌≤◌, inl, inr, Bool, true, false, true≢false, not, cond, List, [], ◌∷◌, ◌++◌, refl, sym, ap, subst, ◌∙◌, arith, leb, eqb, length, get_or, set}
use Rattle.std.specs.List.{filter, AllByRecursion as Each}
use Rattle.std.proofs.lemmas.Bool.{cases_Bool, le-leb, leb-true, eq-eqb, ne_eqb, cond-true, cond-false}
use Rattle.vub_mem.specs.Laws.{IsIn}
use Rattle.vub_inflight.specs.declared.mark.Mark.{Mark}
use Rattle.vub_inflight.specs.Order.{flying_from, in_order, put_in, marks_of, heads_of}
use Rattle.vub_inflight.specs.State.{idle}
use Rattle.vub_inflight.specs.declared.slot.Slot.{Slot}

-- the marks of the slots, of which the first is that of this head, in the order of their counters
abbrev pub marks_from : ℕ → List Slot → List Mark
marks_from h ss = in_order (flying_from h ss)

-- the marks but that of this head
abbrev pub without : ℕ → List Mark → List Mark
without h ms = filter (λ m. not (eqb m.head h)) ms

pub weaker : {X : Type 0} (P Q : X → Type 0) → ((x : X) → P x → Q x) → (xs : List X) → Each P xs → Each Q xs
weaker P Q f [] h = tt
weaker P Q f (x ∷ xs) h = (f x h.0, weaker P Q f xs h.1)

pub kept_each : {X : Type 0} (P : X → Type 0) (p : X → Bool) (xs : List X) → Each P xs → Each P (filter p xs)
kept_each P p [] h = tt
kept_each P p (x ∷ xs) h =
    elim (p x) as (λ b. Each P (cond b (x ∷ filter p xs) (filter p xs))) [ true ↦ (h.0, kept_each P p xs h.1) | false ↦ kept_each P p xs h.1 ]

pub each_append : {X : Type 0} (P : X → Type 0) (xs : List X) (y : X) → Each P xs → P y → Each P (xs ++ y ∷ [])
each_append P [] y h p = (p, tt)
each_append P (x ∷ xs) y h p = (h.0, each_append P xs y h.1 p)

not_le : (a b : ℕ) → b < a → leb a b ≡ false
not_le a b h = elim (cases_Bool (leb a b)) [ inl t ↦ absurd (omega (arith, leb-true a b t)) | inr f ↦ f ]

pub put_low : (m n : Mark) (ns : List Mark) → m.counter ≤ n.counter → put_in m (n ∷ ns) ≡ m ∷ n ∷ ns
put_low m n ns h = cond-true (leb m.counter n.counter) (m ∷ n ∷ ns) (n ∷ put_in m ns) (le-leb m.counter n.counter h)

pub put_high : (m n : Mark) (ns : List Mark) → n.counter < m.counter → put_in m (n ∷ ns) ≡ n ∷ put_in m ns
put_high m n ns h = cond-false (leb m.counter n.counter) (m ∷ n ∷ ns) (n ∷ put_in m ns) (not_le m.counter n.counter h)

-- a mark is put before another or behind it
pub order : (m n : Mark) → ((m.counter ≤ n.counter) ⊎ (n.counter < m.counter))
order m n = grind arith

pub each_put : (P : Mark → Type 0) (m : Mark) (ns : List Mark) → P m → Each P ns → Each P (put_in m ns)
each_put P m [] p h = (p, tt)
each_put P m (n ∷ ns) p h =
    elim (order m n) [
      | inl low ↦ subst (λ l. Each P l) (sym (put_low m n ns low)) (p, h)
      | inr high ↦ subst (λ l. Each P l) (sym (put_high m n ns high)) (h.0, each_put P m ns p h.1)
    ]

pub each_unput : (P : Mark → Type 0) (m : Mark) (ns : List Mark) → Each P (put_in m ns) → P m × Each P ns
each_unput P m [] h = (h.0, tt)
each_unput P m (n ∷ ns) h =
    elim (order m n) [
      | inl low ↦ (let all : Each P (m ∷ n ∷ ns) = subst (λ l. Each P l) (put_low m n ns low) h in (all.0, all.1))
      | inr high ↦ (let all : Each P (n ∷ put_in m ns) = subst (λ l. Each P l) (put_high m n ns high) h in
          let rest : P m × Each P ns = each_unput P m ns all.1 in (rest.0, (all.0, rest.1)))
    ]

-- marks stand in order
abbrev pub Sorted : List Mark → Type 0
Sorted [] = Unit {0}
Sorted (m ∷ ns) = Each (λ n. m.counter ≤ n.counter) ns × Sorted ns

pub sorted_put : (m : Mark) (ns : List Mark) → Sorted ns → Sorted (put_in m ns)
sorted_put m [] s = (tt, tt)
sorted_put m (n ∷ ns) s =
    elim (order m n) [
      | inl low ↦ subst Sorted (sym (put_low m n ns low)) ((low, weaker (λ x. n.counter ≤ x.counter) (λ x. m.counter ≤ x.counter) (λ x h. omega arith) ns s.0), s)
      | inr high ↦ subst Sorted (sym (put_high m n ns high)) (each_put (λ x. n.counter ≤ x.counter) m ns (omega arith) s.0, sorted_put m ns s.1)
    ]

pub marks_some : (i : ℕ) (s : Slot) (ss : List Slot) → s.in_flight ≡ true → marks_from i (s ∷ ss) ≡ put_in (record { counter = s.counter; head = i }) (marks_from (i + 1) ss)
marks_some i s ss h = ap in_order (cond-true s.in_flight (record { counter = s.counter; head = i } ∷ flying_from (i + 1) ss) (flying_from (i + 1) ss) h)

pub marks_none : (i : ℕ) (s : Slot) (ss : List Slot) → s.in_flight ≡ false → marks_from i (s ∷ ss) ≡ marks_from (i + 1) ss
marks_none i s ss h = ap in_order (cond-false s.in_flight (record { counter = s.counter; head = i } ∷ flying_from (i + 1) ss) (flying_from (i + 1) ss) h)

pub marks_sorted : (i : ℕ) (ss : List Slot) → Sorted (marks_from i ss)
marks_sorted i [] = tt
marks_sorted i (s ∷ ss) =
    elim (cases_Bool s.in_flight) [
      | inl t ↦ subst Sorted (sym (marks_some i s ss t)) (sorted_put (record { counter = s.counter; head = i }) (marks_from (i + 1) ss) (marks_sorted (i + 1) ss))
      | inr f ↦ subst Sorted (sym (marks_none i s ss f)) (marks_sorted (i + 1) ss)
    ]

-- heads lie from the first slot on
pub marks_high : (i : ℕ) (ss : List Slot) → Each (λ m. i ≤ m.head) (marks_from i ss)
marks_high i [] = tt
marks_high i (s ∷ ss) =
    let rest : Each (λ m. i ≤ m.head) (marks_from (i + 1) ss) = weaker (λ m. i + 1 ≤ m.head) (λ m. i ≤ m.head) (λ m h. omega arith) (marks_from (i + 1) ss) (marks_high (i + 1) ss) in
    elim (cases_Bool s.in_flight) [
      | inl t ↦ subst (λ l. Each (λ m. i ≤ m.head) l) (sym (marks_some i s ss t)) (each_put (λ m. i ≤ m.head) (record { counter = s.counter; head = i }) (marks_from (i + 1) ss) (omega arith) rest)
      | inr f ↦ subst (λ l. Each (λ m. i ≤ m.head) l) (sym (marks_none i s ss f)) rest
    ]

without_other : (h : ℕ) (m : Mark) (ns : List Mark) → m.head ≢ h → without h (m ∷ ns) ≡ m ∷ without h ns
without_other h m ns ne = cond-true (not (eqb m.head h)) (m ∷ without h ns) (without h ns) (ap not (ne_eqb m.head h ne))

without_same : (h : ℕ) (m : Mark) (ns : List Mark) → m.head ≡ h → without h (m ∷ ns) ≡ without h ns
without_same h m ns e = cond-false (not (eqb m.head h)) (m ∷ without h ns) (without h ns) (ap not (eq-eqb m.head h e))

pub without_none : (h : ℕ) (ns : List Mark) → Each (λ m. m.head ≢ h) ns → without h ns ≡ ns
without_none h [] all = refl
without_none h (n ∷ ns) all = without_other h n ns all.0 ∙ ap (λ l. n ∷ l) (without_none h ns all.1)

same_or : (a b : ℕ) → ((a ≡ b) ⊎ (a ≢ b))
same_or a b = grind arith

pub without_push : (h : ℕ) (ns : List Mark) (m : Mark) → m.head ≢ h → without h (ns ++ m ∷ []) ≡ without h ns ++ m ∷ []
without_push h [] m ne = without_other h m [] ne
without_push h (n ∷ ns) m ne =
    elim (same_or n.head h) [
      | inl e ↦ without_same h n (ns ++ m ∷ []) e ∙ without_push h ns m ne ∙ ap (λ l. l ++ m ∷ []) (sym (without_same h n ns e))
      | inr d ↦ without_other h n (ns ++ m ∷ []) d ∙ ap (λ l. n ∷ l) (without_push h ns m ne) ∙ ap (λ l. l ++ m ∷ []) (sym (without_other h n ns d))
    ]

put_front : (m : Mark) (ns : List Mark) → Each (λ n. m.counter ≤ n.counter) ns → put_in m ns ≡ m ∷ ns
put_front m [] h = refl
put_front m (n ∷ ns) h = put_low m n ns h.0

put_last : (m : Mark) (ns : List Mark) → Each (λ n. n.counter < m.counter) ns → put_in m ns ≡ ns ++ m ∷ []
put_last m [] h = refl
put_last m (n ∷ ns) h = put_high m n ns h.0 ∙ ap (λ l. n ∷ l) (put_last m ns h.1)

put_before : (m z : Mark) (ns : List Mark) → m.counter < z.counter → put_in m (ns ++ z ∷ []) ≡ put_in m ns ++ z ∷ []
put_before m z [] h = put_low m z [] (omega arith)
put_before m z (n ∷ ns) h =
    elim (order m n) [
      | inl low ↦ put_low m n (ns ++ z ∷ []) low ∙ ap (λ l. l ++ z ∷ []) (sym (put_low m n ns low))
      | inr high ↦ put_high m n (ns ++ z ∷ []) high ∙ ap (λ l. n ∷ l) (put_before m z ns h) ∙ ap (λ l. l ++ z ∷ []) (sym (put_high m n ns high))
    ]

without_put_same : (h : ℕ) (m : Mark) (ns : List Mark) → m.head ≡ h → without h (put_in m ns) ≡ without h ns
without_put_same h m [] e = without_same h m [] e
without_put_same h m (n ∷ ns) e =
    elim (order m n) [
      | inl low ↦ ap (without h) (put_low m n ns low) ∙ without_same h m (n ∷ ns) e
      | inr high ↦ ap (without h) (put_high m n ns high) ∙ elim (same_or n.head h) [
        | inl s ↦ without_same h n (put_in m ns) s ∙ without_put_same h m ns e ∙ sym (without_same h n ns s)
        | inr d ↦ without_other h n (put_in m ns) d ∙ ap (λ l. n ∷ l) (without_put_same h m ns e) ∙ sym (without_other h n ns d)
      ]
    ]

without_put_other : (h : ℕ) (m : Mark) (ns : List Mark) → m.head ≢ h → Sorted ns → without h (put_in m ns) ≡ put_in m (without h ns)
without_put_other h m [] ne s = without_other h m [] ne
without_put_other h m (n ∷ ns) ne s =
    elim (order m n) [
      | inl low ↦ (let all : Each (λ x. m.counter ≤ x.counter) (n ∷ ns) = (low, weaker (λ x. n.counter ≤ x.counter) (λ x. m.counter ≤ x.counter) (λ x le. omega arith) ns s.0) in
          ap (without h) (put_low m n ns low) ∙ without_other h m (n ∷ ns) ne ∙ sym (put_front m (without h (n ∷ ns)) (kept_each (λ x. m.counter ≤ x.counter) (λ x. not (eqb x.head h)) (n ∷ ns) all)))
      | inr high ↦ ap (without h) (put_high m n ns high) ∙ elim (same_or n.head h) [
        | inl e ↦ without_same h n (put_in m ns) e ∙ without_put_other h m ns ne s.1 ∙ ap (put_in m) (sym (without_same h n ns e))
        | inr d ↦ without_other h n (put_in m ns) d ∙ ap (λ l. n ∷ l) (without_put_other h m ns ne s.1) ∙ sym (ap (put_in m) (without_other h n ns d) ∙ put_high m n (without h ns) high)
      ]
    ]

-- a head that is not in flight has no mark
pub no_mark : (i k : ℕ) (ss : List Slot) → (get_or ss k idle).in_flight ≡ false → Each (λ m. m.head ≢ i + k) (marks_from i ss)
no_mark i k [] f = tt
no_mark i zero (s ∷ ss) f =
    subst (λ l. Each (λ m. m.head ≢ i + zero) l) (sym (marks_none i s ss f)) (weaker (λ m. i + 1 ≤ m.head) (λ m. m.head ≢ i + zero) (λ m le e. absurd (let e2 : m.head ≡ i + zero = e in omega arith)) (marks_from (i + 1) ss) (marks_high (i + 1) ss))
no_mark i (suc k) (s ∷ ss) f =
    let up : i + 1 + k ≡ i + suc k = omega arith in
    let rest : Each (λ m. m.head ≢ i + suc k) (marks_from (i + 1) ss) = subst (λ n. Each (λ m. m.head ≢ n) (marks_from (i + 1) ss)) up (no_mark (i + 1) k ss f) in
    elim (cases_Bool s.in_flight) [
      | inl t ↦ subst (λ l. Each (λ m. m.head ≢ i + suc k) l) (sym (marks_some i s ss t)) (each_put (λ m. m.head ≢ i + suc k) (record { counter = s.counter; head = i }) (marks_from (i + 1) ss) (λ e. absurd (let e2 : i ≡ i + suc k = e in omega arith)) rest)
      | inr g ↦ subst (λ l. Each (λ m. m.head ≢ i + suc k) l) (sym (marks_none i s ss g)) rest
    ]

-- an entry is taken: its mark is the last
pub marks_taken : (i k n : ℕ) (ss : List Slot) → k < length ss → (get_or ss k idle).in_flight ≡ false → Each (λ m. m.counter < n) (marks_from i ss) →
    marks_from i (set ss k (record { in_flight = true; counter = n })) ≡ marks_from i ss ++ record { counter = n; head = i + k } ∷ []
marks_taken i k n [] lt f all = absurd (omega arith)
marks_taken i zero n (s ∷ ss) lt f all =
    let below : Each (λ m. m.counter < n) (marks_from (i + 1) ss) = subst (λ l. Each (λ m. m.counter < n) l) (marks_none i s ss f) all in
    let here : i ≡ i + zero = omega arith in
    put_last (record { counter = n; head = i }) (marks_from (i + 1) ss) below
    ∙ ap (λ h. marks_from (i + 1) ss ++ record { counter = n; head = h } ∷ []) here
    ∙ ap (λ l. l ++ record { counter = n; head = i + zero } ∷ []) (sym (marks_none i s ss f))
marks_taken i (suc k) n (s ∷ ss) lt f all =
    let up : i + 1 + k ≡ i + suc k = omega arith in
    let new : List Slot = set ss k (record { in_flight = true; counter = n }) in
    elim (cases_Bool s.in_flight) [
      | inl t ↦ (let parts = each_unput (λ m. m.counter < n) (record { counter = s.counter; head = i }) (marks_from (i + 1) ss) (subst (λ l. Each (λ m. m.counter < n) l) (marks_some i s ss t) all) in
          marks_some i s new t
          ∙ ap (put_in (record { counter = s.counter; head = i })) (marks_taken (i + 1) k n ss (omega arith) f parts.1 ∙ ap (λ h. marks_from (i + 1) ss ++ record { counter = n; head = h } ∷ []) up)
          ∙ put_before (record { counter = s.counter; head = i }) (record { counter = n; head = i + suc k }) (marks_from (i + 1) ss) parts.0
          ∙ ap (λ l. l ++ record { counter = n; head = i + suc k } ∷ []) (sym (marks_some i s ss t)))
      | inr g ↦ (let below : Each (λ m. m.counter < n) (marks_from (i + 1) ss) = subst (λ l. Each (λ m. m.counter < n) l) (marks_none i s ss g) all in
          marks_none i s new g ∙ marks_taken (i + 1) k n ss (omega arith) f below ∙ ap (λ h. marks_from (i + 1) ss ++ record { counter = n; head = h } ∷ []) up
          ∙ ap (λ l. l ++ record { counter = n; head = i + suc k } ∷ []) (sym (marks_none i s ss g)))
    ]

-- a head is cleared: its mark goes
pub marks_cleared : (i k : ℕ) (ss : List Slot) → marks_from i (set ss k idle) ≡ without (i + k) (marks_from i ss)
marks_cleared i k [] = refl
marks_cleared i zero (s ∷ ss) =
    let others : Each (λ m. m.head ≢ i + zero) (marks_from (i + 1) ss) = weaker (λ m. i + 1 ≤ m.head) (λ m. m.head ≢ i + zero) (λ m le e. absurd (let e2 : m.head ≡ i + zero = e in omega arith)) (marks_from (i + 1) ss) (marks_high (i + 1) ss) in
    let here : i ≡ i + zero = omega arith in
    elim (cases_Bool s.in_flight) [
      | inl t ↦ sym (ap (without (i + zero)) (marks_some i s ss t) ∙ without_put_same (i + zero) (record { counter = s.counter; head = i }) (marks_from (i + 1) ss) here ∙ without_none (i + zero) (marks_from (i + 1) ss) others)
      | inr f ↦ sym (ap (without (i + zero)) (marks_none i s ss f) ∙ without_none (i + zero) (marks_from (i + 1) ss) others)
    ]
marks_cleared i (suc k) (s ∷ ss) =
    let up : i + 1 + k ≡ i + suc k = omega arith in
    let rest : marks_from (i + 1) (set ss k idle) ≡ without (i + suc k) (marks_from (i + 1) ss) = subst (λ n. marks_from (i + 1) (set ss k idle) ≡ without n (marks_from (i + 1) ss)) up (marks_cleared (i + 1) k ss) in
    elim (cases_Bool s.in_flight) [
      | inl t ↦ marks_some i s (set ss k idle) t ∙ ap (put_in (record { counter = s.counter; head = i })) rest
          ∙ sym (ap (without (i + suc k)) (marks_some i s ss t) ∙ without_put_other (i + suc k) (record { counter = s.counter; head = i }) (marks_from (i + 1) ss) (λ e. absurd (let e2 : i ≡ i + suc k = e in omega arith)) (marks_sorted (i + 1) ss))
      | inr f ↦ marks_none i s (set ss k idle) f ∙ rest ∙ ap (without (i + suc k)) (sym (marks_none i s ss f))
    ]

-- what is put among marks is there, and they stay
put_has : (h : ℕ) (m : Mark) (ns : List Mark) → IsIn h (heads_of (m ∷ ns)) → IsIn h (heads_of (put_in m ns))
put_has h m [] is = is
put_has h m (n ∷ ns) is =
    elim (order m n) [
      | inl low ↦ subst (λ l. IsIn h (heads_of l)) (sym (put_low m n ns low)) is
      | inr high ↦ subst (λ l. IsIn h (heads_of l)) (sym (put_high m n ns high)) (elim is [
        | inl here ↦ inr (put_has h m ns (inl here))
        | inr there ↦ elim there [
          | inl next ↦ inl next
          | inr rest ↦ inr (put_has h m ns (inr rest))
        ]
      ])
    ]

-- a head that is in flight has a mark
pub mark_there : (i k : ℕ) (ss : List Slot) → (get_or ss k idle).in_flight ≡ true → IsIn (i + k) (heads_of (marks_from i ss))
mark_there i k [] f = absurd (true≢false (sym f))
mark_there i zero (s ∷ ss) f =
    let here : i ≡ i + zero = omega arith in
    subst (λ l. IsIn (i + zero) (heads_of l)) (sym (marks_some i s ss f)) (put_has (i + zero) (record { counter = s.counter; head = i }) (marks_from (i + 1) ss) (inl here))
mark_there i (suc k) (s ∷ ss) f =
    let up : i + 1 + k ≡ i + suc k = omega arith in
    let rest : IsIn (i + suc k) (heads_of (marks_from (i + 1) ss)) = subst (λ n. IsIn n (heads_of (marks_from (i + 1) ss))) up (mark_there (i + 1) k ss f) in
    elim (cases_Bool s.in_flight) [
      | inl t ↦ subst (λ l. IsIn (i + suc k) (heads_of l)) (sym (marks_some i s ss t)) (put_has (i + suc k) (record { counter = s.counter; head = i }) (marks_from (i + 1) ss) (inr rest))
      | inr g ↦ subst (λ l. IsIn (i + suc k) (heads_of l)) (sym (marks_none i s ss g)) rest
    ]

length-put_in : (m : Mark) (ns : List Mark) → length (put_in m ns) ≡ suc (length ns)
length-put_in m [] = refl
length-put_in m (n ∷ ns) = elim (leb m.counter n.counter) as (λ b. length (cond b (m ∷ n ∷ ns) (n ∷ put_in m ns)) ≡ suc (suc (length ns))) [ true ↦ refl | false ↦ ap suc (length-put_in m ns) ]

length-marks_from : (i : ℕ) (ss : List Slot) → length (marks_from i ss) ≤ length ss
length-marks_from i [] = omega arith
length-marks_from i (s ∷ ss) =
    elim (cases_Bool s.in_flight) [
      | inl t ↦ omega (arith, ap length (marks_some i s ss t), length-put_in (record { counter = s.counter; head = i }) (marks_from (i + 1) ss), length-marks_from (i + 1) ss)
      | inr f ↦ omega (arith, ap length (marks_none i s ss f), length-marks_from (i + 1) ss)
    ]

pub length_marks_of : (ss : List Slot) → length (marks_of ss) ≤ length ss
unfolding marks_of
length_marks_of ss = length-marks_from 0 ss
