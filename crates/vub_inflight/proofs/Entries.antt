-- Laws of the entries that were taken and not published.
use Rattle.std.proofs.Common.{◌≡◌, ◌≢◌, ℕ, suc, ◌+◌, ◌<◌, ◌≤◌, inl, inr, Bool, true, false, not, ◌&&◌, ◌||◌, cond, List, [], ◌∷◌, ◌++◌, refl, sym, ap, subst, ◌∙◌, arith, eqb, length, map}
use Rattle.std.specs.List.{filter, list_any, AllByRecursion as Each}
use Rattle.std.proofs.lemmas.Bool.{cases_Bool, eqb-false, eqb-true, eq-eqb, ne_eqb, cond-true, cond-false, or_from, or_parts, not-true}
use Rattle.std.proofs.lemmas.List.Elements.{filter-append}
use Rattle.vub_mem.specs.Laws.{IsIn}
use Rattle.vub_inflight.specs.Machine.{Entry, IsOnce, open_of, entry_heads}
use Rattle.vub_inflight.specs.declared.mark.Mark.{Mark}
use Rattle.vub_inflight.specs.Order.{put_in, heads_of}
use Rattle.vub_inflight.specs.declared.slot.Slot.{Slot}
use Rattle.vub_inflight.proofs.MarkLaws.{marks_from, without, weaker, kept_each, each_append, each_put, marks_high, marks_some, marks_none, put_low, put_high, order}

-- the numbers but this one
abbrev pub others : ℕ → List ℕ → List ℕ
others h ns = filter (λ n. not (eqb n h)) ns

-- the entries but that with this number
abbrev pub but : ℕ → List Entry → List Entry
but n es = filter (λ e. not (eqb e.number n)) es

abbrev pub Apart : List ℕ → Type 0
Apart ns = IsOnce ns

abbrev pub numbers_of : List Entry → List ℕ
numbers_of es = map (λ e. e.number) es

pub map_each : {X Y : Type 0} (f : X → Y) (P : Y → Type 0) (xs : List X) → Each (λ x. P (f x)) xs → Each P (map f xs)
map_each f P [] h = tt
map_each f P (x ∷ xs) h = (h.0, map_each f P xs h.1)

pub unmap_each : {X Y : Type 0} (f : X → Y) (P : Y → Type 0) (xs : List X) → Each P (map f xs) → Each (λ x. P (f x)) xs
unmap_each f P [] h = tt
unmap_each f P (x ∷ xs) h = (h.0, unmap_each f P xs h.1)

pub in_each : (P : Entry → Type 0) (es : List Entry) (e : Entry) → IsIn e es → Each P es → P e
in_each P [] e h all = absurd h
in_each P (x ∷ es) e (inl same) all = subst P same all.0
in_each P (x ∷ es) e (inr more) all = in_each P es e more all.1

drop_one : {X : Type 0} (p : X → Bool) (x : X) (xs : List X) → p x ≡ false → filter p (x ∷ xs) ≡ filter p xs
drop_one p x xs h = cond-false (p x) (x ∷ filter p xs) (filter p xs) h

keep_one : {X : Type 0} (p : X → Bool) (x : X) (xs : List X) → p x ≡ true → filter p (x ∷ xs) ≡ x ∷ filter p xs
keep_one p x xs h = cond-true (p x) (x ∷ filter p xs) (filter p xs) h

pub keep_all : {X : Type 0} (p : X → Bool) (xs : List X) → Each (λ x. p x ≡ true) xs → filter p xs ≡ xs
keep_all p [] h = refl
keep_all p (x ∷ xs) h = keep_one p x xs h.0 ∙ ap (λ l. x ∷ l) (keep_all p xs h.1)

differ : (a b : ℕ) → a ≢ b → not (eqb a b) ≡ true
differ a b ne = ap not (ne_eqb a b ne)

alike : (a b : ℕ) → a ≡ b → not (eqb a b) ≡ false
alike a b e = ap not (eq-eqb a b e)

-- one entry goes by its number, as its head does
pub goes : (es : List Entry) (e : Entry) → IsIn e es → Apart (numbers_of es) → Apart (entry_heads es) →
    (entry_heads (but e.number es) ≡ others e.head (entry_heads es)) × (length (but e.number es) + 1 ≡ length es)
goes [] e h numbers heads = absurd h
goes (x ∷ es) e (inl same) numbers heads =
    let ns : Each (λ y. y.number ≢ e.number) es = subst (λ z. Each (λ y. y.number ≢ z.number) es) same (unmap_each (λ y. y.number) (λ k. k ≢ x.number) es numbers.0) in
    let hs : Each (λ k. k ≢ e.head) (entry_heads es) = subst (λ z. Each (λ k. k ≢ z.head) (entry_heads es)) same heads.0 in
    let rest : but e.number (x ∷ es) ≡ es =
    drop_one (λ y. not (eqb y.number e.number)) x es (alike x.number e.number (ap (λ z. z.number) same))
    ∙ keep_all (λ y. not (eqb y.number e.number)) es (weaker (λ y. y.number ≢ e.number) (λ y. not (eqb y.number e.number) ≡ true) (λ y ne. differ y.number e.number ne) es ns) in
    let back : others e.head (entry_heads (x ∷ es)) ≡ entry_heads es =
    drop_one (λ k. not (eqb k e.head)) x.head (entry_heads es) (alike x.head e.head (ap (λ z. z.head) same))
    ∙ keep_all (λ k. not (eqb k e.head)) (entry_heads es) (weaker (λ k. k ≢ e.head) (λ k. not (eqb k e.head) ≡ true) (λ k ne. differ k e.head ne) (entry_heads es) hs) in
    (ap entry_heads rest ∙ sym back, (let l : length (but e.number (x ∷ es)) ≡ length es = ap length rest in omega arith))
goes (x ∷ es) e (inr more) numbers heads =
    let n : e.number ≢ x.number = in_each (λ y. y.number ≢ x.number) es e more (unmap_each (λ y. y.number) (λ k. k ≢ x.number) es numbers.0) in
    let h : e.head ≢ x.head = in_each (λ y. y.head ≢ x.head) es e more (unmap_each (λ y. y.head) (λ k. k ≢ x.head) es heads.0) in
    let rest = goes es e more numbers.1 heads.1 in
    let here : but e.number (x ∷ es) ≡ x ∷ but e.number es = keep_one (λ y. not (eqb y.number e.number)) x es (differ x.number e.number (λ q. n (sym q))) in
    let there : others e.head (entry_heads (x ∷ es)) ≡ x.head ∷ others e.head (entry_heads es) = keep_one (λ k. not (eqb k e.head)) x.head (entry_heads es) (differ x.head e.head (λ q. h (sym q))) in
    (ap entry_heads here ∙ ap (λ l. x.head ∷ l) rest.0 ∙ sym there, (let l : length (but e.number (x ∷ es)) ≡ suc (length (but e.number es)) = ap length here in omega (arith, rest.1)))

-- the heads of marks
pub heads-without : (h : ℕ) (ms : List Mark) → heads_of (without h ms) ≡ others h (heads_of ms)
heads-without h [] = refl
heads-without h (m ∷ ms) =
    elim (not (eqb m.head h)) as (λ b. heads_of (cond b (m ∷ without h ms) (without h ms)) ≡ cond b (m.head ∷ others h (heads_of ms)) (others h (heads_of ms))) [
      | true ↦ ap (λ l. m.head ∷ l) (heads-without h ms)
      | false ↦ heads-without h ms
    ]

apart_put : (m : Mark) (ns : List Mark) → Each (λ n. n.head ≢ m.head) ns → Apart (heads_of ns) → Apart (heads_of (put_in m ns))
apart_put m [] all a = (tt, tt)
apart_put m (n ∷ ns) all a =
    elim (order m n) [
      | inl low ↦ subst (λ l. Apart (heads_of l)) (sym (put_low m n ns low)) (map_each (λ x. x.head) (λ k. k ≢ m.head) (n ∷ ns) all, a)
      | inr high ↦ subst (λ l. Apart (heads_of l)) (sym (put_high m n ns high))
          (map_each (λ x. x.head) (λ k. k ≢ n.head) (put_in m ns) (each_put (λ x. x.head ≢ n.head) m ns (λ e. all.0 (sym e)) (unmap_each (λ x. x.head) (λ k. k ≢ n.head) ns a.0)), apart_put m ns all.1 a.1)
    ]

-- no head has two marks
pub marks_apart : (i : ℕ) (ss : List Slot) → Apart (heads_of (marks_from i ss))
marks_apart i [] = tt
marks_apart i (s ∷ ss) =
    elim (cases_Bool s.in_flight) [
      | inl t ↦ subst (λ l. Apart (heads_of l)) (sym (marks_some i s ss t)) (apart_put (record { counter = s.counter; head = i }) (marks_from (i + 1) ss)
          (weaker (λ m. i + 1 ≤ m.head) (λ m. m.head ≢ i) (λ m le e. absurd (let e2 : m.head ≡ i = e in omega arith)) (marks_from (i + 1) ss) (marks_high (i + 1) ss)) (marks_apart (i + 1) ss))
      | inr f ↦ subst (λ l. Apart (heads_of l)) (sym (marks_none i s ss f)) (marks_apart (i + 1) ss)
    ]

pub apart_kept : (p : ℕ → Bool) (ns : List ℕ) → Apart ns → Apart (filter p ns)
apart_kept p [] a = tt
apart_kept p (n ∷ ns) a =
    elim (p n) as (λ b. Apart (cond b (n ∷ filter p ns) (filter p ns))) [ true ↦ (kept_each (λ k. k ≢ n) p ns a.0, apart_kept p ns a.1) | false ↦ apart_kept p ns a.1 ]

pub apart_push : (ns : List ℕ) (n : ℕ) → Apart ns → Each (λ k. k < n) ns → Apart (ns ++ n ∷ [])
apart_push [] n a all = (tt, tt)
apart_push (k ∷ ns) n a all = (each_append (λ x. x ≢ k) ns n a.0 (λ e. absurd (let lt : k < n = all.0 in let e2 : n ≡ k = e in omega arith)), apart_push ns n a.1 all.1)

-- the open entries keep what holds of the taken ones
pub apart_open : (p : Entry → Bool) (es : List Entry) → Apart (numbers_of es) → Apart (numbers_of (filter p es))
apart_open p [] a = tt
apart_open p (e ∷ es) a =
    elim (p e) as (λ b. Apart (numbers_of (cond b (e ∷ filter p es) (filter p es)))) [
      | true ↦ (map_each (λ y. y.number) (λ k. k ≢ e.number) (filter p es) (kept_each (λ y. y.number ≢ e.number) p es (unmap_each (λ y. y.number) (λ k. k ≢ e.number) es a.0)), apart_open p es a.1)
      | false ↦ apart_open p es a.1
    ]

fresh : (n : ℕ) (published : List ℕ) → Each (λ k. k < n) published → list_any (λ k. eqb k n) published ≡ false
fresh n [] h = refl
fresh n (k ∷ ks) h = or_from (eqb k n) (list_any (λ k. eqb k n) ks) (ne_eqb k n (λ e. absurd (let lt : k < n = h.0 in omega arith))) (fresh n ks h.1)

pub open_taken : (taken : List Entry) (published : List ℕ) (e : Entry) → Each (λ k. k < e.number) published → open_of (taken ++ e ∷ []) published ≡ open_of taken published ++ e ∷ []
open_taken taken published e h =
    filter-append (λ x. not (list_any (λ n. eqb n x.number) published)) taken (e ∷ [])
    ∙ ap (λ l. open_of taken published ++ l) (keep_one (λ x. not (list_any (λ n. eqb n x.number) published)) e [] (ap not (fresh e.number published h)))

any_push : (m : ℕ) (ns : List ℕ) (n : ℕ) → list_any (λ k. eqb k m) (ns ++ n ∷ []) ≡ (list_any (λ k. eqb k m) ns || eqb n m)
any_push m [] n = elim (eqb n m) as (λ b. (b || false) ≡ (false || b)) [ true ↦ refl | false ↦ refl ]
any_push m (k ∷ ns) n = ap (λ b. eqb k m || b) (any_push m ns n) ∙ elim (eqb k m) as (λ b. (b || (list_any (λ k. eqb k m) ns || eqb n m)) ≡ ((b || list_any (λ k. eqb k m) ns) || eqb n m)) [ true ↦ refl | false ↦ refl ]

eqb_sym : (a b : ℕ) → eqb a b ≡ eqb b a
eqb_sym a b = elim (cases_Bool (eqb b a)) [
  | inl t ↦ eq-eqb a b (sym (eqb-true b a t)) ∙ sym t
  | inr f ↦ ne_eqb a b (λ e. eqb-false b a f (sym e)) ∙ sym f
]

two_tests : {X : Type 0} (a b : Bool) (x : X) (l m : List X) (p : X → Bool) → p x ≡ b → l ≡ filter p m → cond (not a && b) (x ∷ l) l ≡ filter p (cond (not a) (x ∷ m) m)
two_tests true b x l m p e h = h
two_tests false true x l m p e h = ap (λ k. x ∷ k) h ∙ sym (keep_one p x m e)
two_tests false false x l m p e h = h ∙ sym (drop_one p x m e)

not_or : (a b : Bool) → not (a || b) ≡ (not a && not b)
not_or true b = refl
not_or false b = refl

-- one entry more is published
pub open_published : (taken : List Entry) (published : List ℕ) (n : ℕ) → open_of taken (published ++ n ∷ []) ≡ but n (open_of taken published)
open_published [] published n = refl
open_published (e ∷ taken) published n =
    let a : Bool = list_any (λ k. eqb k e.number) published in
    let test : not (list_any (λ k. eqb k e.number) (published ++ n ∷ [])) ≡ (not (list_any (λ k. eqb k e.number) published) && not (eqb e.number n)) = ap not (any_push e.number published n) ∙ not_or (list_any (λ k. eqb k e.number) published) (eqb n e.number) ∙ ap (λ b. not (list_any (λ k. eqb k e.number) published) && not b) (eqb_sym n e.number) in
    ap (λ b. cond b (e ∷ open_of taken (published ++ n ∷ [])) (open_of taken (published ++ n ∷ []))) test
    ∙ two_tests (list_any (λ k. eqb k e.number) published) (not (eqb e.number n)) e (open_of taken (published ++ n ∷ [])) (open_of taken published) (λ x. not (eqb x.number n)) refl (open_published taken published n)

unlisted : (m : ℕ) (ns : List ℕ) → list_any (λ k. eqb k m) ns ≡ false → Each (λ k. k ≢ m) ns
unlisted m [] h = tt
unlisted m (n ∷ ns) h = (let parts = or_parts (eqb n m) (list_any (λ k. eqb k m) ns) h in (eqb-false n m parts.0, unlisted m ns parts.1))

passes : (p : Entry → Bool) (es : List Entry) → Each (λ e. p e ≡ true) (filter p es)
passes p [] = tt
passes p (e ∷ es) = elim (cases_Bool (p e)) [
  | inl t ↦ subst (λ l. Each (λ x. p x ≡ true) l) (sym (keep_one p e es t)) (t, passes p es)
  | inr f ↦ subst (λ l. Each (λ x. p x ≡ true) l) (sym (drop_one p e es f)) (passes p es)
]

-- an open entry is not published
pub not_published : (taken : List Entry) (published : List ℕ) (e : Entry) → IsIn e (open_of taken published) → Each (λ k. k ≢ e.number) published
not_published taken published e is =
    let on : not (list_any (λ n. eqb n e.number) published) ≡ true = in_each (λ x. not (list_any (λ n. eqb n x.number) published) ≡ true) (open_of taken published) e is (passes (λ x. not (list_any (λ n. eqb n x.number) published)) taken) in
    unlisted e.number published (not-true (list_any (λ n. eqb n e.number) published) on)

pub once_push : (ns : List ℕ) (n : ℕ) → Apart ns → Each (λ k. k ≢ n) ns → Apart (ns ++ n ∷ [])
once_push [] n a all = (tt, tt)
once_push (k ∷ ns) n a all = (each_append (λ x. x ≢ k) ns n a.0 (λ e. all.0 (sym e)), once_push ns n a.1 all.1)

-- a head among those of entries is that of one
pub entry_with : (h : ℕ) (es : List Entry) → IsIn h (entry_heads es) → (e : Entry) × IsIn e es × (e.head ≡ h)
entry_with h [] is = absurd is
entry_with h (e ∷ es) (inl here) = (e, inl refl, here)
entry_with h (e ∷ es) (inr there) = (let rest = entry_with h es there in (rest.0, inr rest.1, rest.2))
