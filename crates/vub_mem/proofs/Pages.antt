-- Every page that a range meets in a region with a log is marked, and a log that tells its bits shows it.
use Rattle.std.proofs.Common.{◌≡◌, ℕ, zero, suc, ◌+◌, ◌-◌, ◌*◌, ◌/◌, ◌%◌, ◌<◌, ◌≤◌, ◌⊎◌, ◌↔◌, inl, inr, Bool, true, List, [], ◌∷◌, ◌++◌, Option, Some, None, refl, sym, ap, subst, ◌∙◌, arith, max, eqb, ltb, leb, flat_map, MatchBool}
use Rattle.std.specs.List.{range_with_len, AllByRecursion}
use Rattle.std.specs.Option.{ForSome}
use Rattle.std.proofs.lemmas.Bool.{cases_Bool, cases_lt, and_parts, and_from, cond-true, cond-false, eqb-true, eqb-false, le-leb, lt-ltb, leb-true, ltb-true}
use Rattle.std.proofs.lemmas.List.Concat.{flat_map-cons}
use Rattle.vub_mem.specs.declared.dirty.Stored.{Stored}
use Rattle.vub_mem.specs.declared.region.Region.{Region}
use Rattle.vub_mem.specs.declared.region.AtomicBitmapMmap.{AtomicBitmapMmap}
use Rattle.vub_mem.specs.Laws.{IsIn, IsShown, MeetsPage}
use Rattle.vub_mem.specs.Logs.{ChangesOne, HoldsOf}
use Rattle.vub_mem.specs.Marks.{Mark, MarksAll, page_marks, mark_at, mark_of, mark_in, marks_of, page_count}
use Rattle.vub_mem.specs.Place.{region_of}
use Rattle.vub_mem.specs.Sound.{IsApart, IsBounded}
use Rattle.vub_mem.specs.Track.{is_aligned}
use Rattle.vub_mem.proofs.Finds.{all_from}
use Rattle.vub_mem.proofs.Ranges.{find_all, find_holds}
use Rattle.vub_mem.proofs.Chunks.{same_region}

pub in_front : {X : Type 0} → (x : X) (xs ys : List X) → IsIn x xs → IsIn x (xs ++ ys)
in_front x [] ys h = absurd h
in_front x (z ∷ zs) ys h = elim h [ inl e ↦ inl e | inr t ↦ inr (in_front x zs ys t) ]

pub in_back : {X : Type 0} → (x : X) (xs ys : List X) → IsIn x ys → IsIn x (xs ++ ys)
in_back x [] ys h = h
in_back x (z ∷ zs) ys h = inr (in_back x zs ys h)

in_flat : {X : Type 0} → (f : ℕ → List X) (x : X) (q a n : ℕ) → a ≤ q → q < a + n → IsIn x (f q) → IsIn x (flat_map f (range_with_len a n))
in_flat f x q a zero low high h = absurd (omega arith)
in_flat f x q a (suc n) low high h =
    subst (λ l. IsIn x l) (sym (flat_map-cons f a (range_with_len (a + 1) n)))
    (elim (cases_lt a q) [
      | inl lt ↦ in_back x (f a) (flat_map f (range_with_len (a + 1) n)) (in_flat f x q (a + 1) n (omega arith) (omega arith) h)
      | inr ge ↦ in_front x (f a) (flat_map f (range_with_len (a + 1) n)) (let same : q ≡ a = omega arith in subst (λ k. IsIn x (f k)) same h)
    ])

-- the first address of the range in a page of an aligned region lies in that region
same_page : (rs : List Region) (a k : ℕ) (r : Region) → IsApart rs → is_aligned r ≡ true → region_of rs (a + k) ≡ Some r → region_of rs (max a (4096 * ((a + k) / 4096))) ≡ Some r
same_page rs a k r apart aligned is =
    let within = and_parts (leb r.start (a + k)) (ltb (a + k - r.start) r.len) (find_holds rs (a + k) r is) in
    let low : r.start ≤ a + k = leb-true r.start (a + k) within.0 in
    let high : a + k - r.start < r.len = ltb-true (a + k - r.start) r.len within.1 in
    let both = and_parts (eqb (r.start % 4096) 0) (eqb (r.len % 4096) 0) aligned in
    let begins : r.start % 4096 ≡ 0 = eqb-true (r.start % 4096) 0 both.0 in
    let page : r.start ≤ 4096 * ((a + k) / 4096) = omega arith in
    let at : ℕ = max a (4096 * ((a + k) / 4096)) in
    let starts : r.start ≤ at = omega arith in
    let below : at - r.start < r.len = omega arith in
    same_region rs (a + k) at r apart is (and_from (leb r.start at) (ltb (at - r.start) r.len) (le-leb r.start at starts) (lt-ltb (at - r.start) r.len below))

count_more : (a n k : ℕ) → k < n → (a + k) / 4096 < a / 4096 + page_count a n
count_more a zero k h = absurd (omega arith)
count_more a (suc n) k h =
    elim (cases_Bool (eqb (suc n) 0)) [
      | inl t ↦ absurd (let zero_is : suc n ≡ 0 = eqb-true (suc n) 0 t in omega arith)
      | inr f ↦ (let e : page_count a (suc n) ≡ (a + suc n - 1) / 4096 - a / 4096 + 1 = cond-false (eqb (suc n) 0) 0 ((a + suc n - 1) / 4096 - a / 4096 + 1) f in
          let up : (a + k) / 4096 ≤ (a + suc n - 1) / 4096 = omega arith in
          omega arith)
    ]

mark_same : (o : Option Region) (r : Region) (l : AtomicBitmapMmap) (x : ℕ) → o ≡ Some r → r.log ≡ Some l → mark_of o x ≡ record { object = l.object; page = 8 * l.offset + x / 4096 } ∷ []
mark_same o r l x e f = ap (λ q. mark_of q x) e ∙ ap (λ q. mark_in q x) f

-- a region that begins and ends at a page, if it has a log
abbrev pub IsPaged : Region → Type 0
IsPaged r = ForSome r.log (λ l. is_aligned r ≡ true)

pub all_paged : (rs : List Region) → AllByRecursion IsBounded rs → AllByRecursion IsPaged rs
all_paged rs bounded = all_from IsBounded IsPaged rs (λ r h. h.aligned) bounded

pub met_page : (rs : List Region) → IsApart rs → AllByRecursion IsPaged rs → (a n k : ℕ) (r : Region) (l : AtomicBitmapMmap) → k < n → region_of rs (a + k) ≡ Some r → r.log ≡ Some l → IsIn (record { object = l.object; page = 8 * l.offset + (a + k) / 4096 }) (marks_of rs a n)
unfolding marks_of mark_at
met_page rs apart paged a n k r l h is has =
    let found : IsPaged r = find_all IsPaged rs (a + k) r paged is in
    let aligned : is_aligned r ≡ true = found l has in
    let page : ℕ = (a + k) / 4096 in
    let first : max a (4096 * page) / 4096 ≡ page = omega arith in
    let one : mark_of (region_of rs (max a (4096 * page))) (max a (4096 * page)) ≡ record { object = l.object; page = 8 * l.offset + page } ∷ [] =
    mark_same (region_of rs (max a (4096 * page))) r l (max a (4096 * page)) (same_page rs a k r apart aligned is) has ∙ ap (λ p. record { object = l.object; page = 8 * l.offset + p } ∷ []) first in
    in_flat (λ p. mark_of (region_of rs (max a (4096 * p))) (max a (4096 * p))) (record { object = l.object; page = 8 * l.offset + page }) page (a / 4096) (page_count a n) (omega arith) (count_more a n k h)
    (subst (λ ms. IsIn (record { object = l.object; page = 8 * l.offset + page }) ms) (sym one) (inl refl))

-- a change of one log: a fact of the log with this number, and facts of others, if the change keeps them
change_shows : {L : Type 0} → (step : L → L → Type 0) (P : L → Type 0) (a b : List (Stored L)) (o : ℕ) → ((x y : L) → step x y → P y) → ChangesOne step a o b → HoldsOf P b o
change_shows step P [] b o shows h = absurd h
change_shows step P (s ∷ ss) [] o shows h = absurd h
change_shows step P (s ∷ ss) (t ∷ ts) o shows h =
    elim (cases_Bool (eqb s.object o)) [
      | inl here ↦ (let changed : (t.object ≡ s.object) × step s.log t.log × (ts ≡ ss) = subst (λ b. MatchBool b ((t.object ≡ s.object) × step s.log t.log × (ts ≡ ss)) ((t ≡ s) × ChangesOne step ss o ts)) here h in
          subst (λ b. MatchBool b (P t.log) (HoldsOf P ts o)) (sym (ap (λ k. eqb k o) changed.0 ∙ here)) (shows s.log t.log changed.1))
      | inr there ↦ (let rest : (t ≡ s) × ChangesOne step ss o ts = subst (λ b. MatchBool b ((t.object ≡ s.object) × step s.log t.log × (ts ≡ ss)) ((t ≡ s) × ChangesOne step ss o ts)) there h in
          subst (λ b. MatchBool b (P t.log) (HoldsOf P ts o)) (sym (ap (λ x. eqb x.object o) rest.0 ∙ there)) (change_shows step P ss ts o shows rest.1))
    ]

change_keeps_fact : {L : Type 0} → (step : L → L → Type 0) (P : L → Type 0) (a b : List (Stored L)) (o q : ℕ) → ((x y : L) → step x y → P x → P y) → ChangesOne step a o b → HoldsOf P a q → HoldsOf P b q
change_keeps_fact step P [] b o q keeps h p = absurd h
change_keeps_fact step P (s ∷ ss) [] o q keeps h p = absurd h
change_keeps_fact step P (s ∷ ss) (t ∷ ts) o q keeps h p =
    elim (cases_Bool (eqb s.object o)) [
      | inl here ↦ (let changed : (t.object ≡ s.object) × step s.log t.log × (ts ≡ ss) = subst (λ b. MatchBool b ((t.object ≡ s.object) × step s.log t.log × (ts ≡ ss)) ((t ≡ s) × ChangesOne step ss o ts)) here h in
          elim (cases_Bool (eqb s.object q)) [
            | inl mine ↦ subst (λ b. MatchBool b (P t.log) (HoldsOf P ts q)) (sym (ap (λ k. eqb k q) changed.0 ∙ mine)) (keeps s.log t.log changed.1 (subst (λ b. MatchBool b (P s.log) (HoldsOf P ss q)) mine p))
            | inr other ↦ subst (λ b. MatchBool b (P t.log) (HoldsOf P ts q)) (sym (ap (λ k. eqb k q) changed.0 ∙ other)) (subst (λ l. HoldsOf P l q) (sym changed.2) (subst (λ b. MatchBool b (P s.log) (HoldsOf P ss q)) other p))
          ])
      | inr there ↦ (let rest : (t ≡ s) × ChangesOne step ss o ts = subst (λ b. MatchBool b ((t.object ≡ s.object) × step s.log t.log × (ts ≡ ss)) ((t ≡ s) × ChangesOne step ss o ts)) there h in
          elim (cases_Bool (eqb s.object q)) [
            | inl mine ↦ subst (λ x. HoldsOf P (x ∷ ts) q) (sym rest.0) (subst (λ b. MatchBool b (P s.log) (HoldsOf P ts q)) (sym mine) (subst (λ b. MatchBool b (P s.log) (HoldsOf P ss q)) mine p))
            | inr other ↦ subst (λ x. HoldsOf P (x ∷ ts) q) (sym rest.0) (subst (λ b. MatchBool b (P s.log) (HoldsOf P ts q)) (sym other) (change_keeps_fact step P ss ts o q keeps rest.1 (subst (λ b. MatchBool b (P s.log) (HoldsOf P ss q)) other p)))
          ])
    ]

pub shown : {L : Type 0} → (len : L → ℕ) (marks : L → ℕ → L → Type 0) (shows : L → ℕ → Bool) → IsShown marks shows → (old new : List (Stored L)) (ms : List Mark) → MarksAll (page_marks len marks) old ms new → (m : Mark) → IsIn m ms ⊎ HoldsOf (λ log. shows log m.page ≡ true) old m.object → HoldsOf (λ log. shows log m.page ≡ true) new m.object
shown len marks shows is old new [] h m known =
    elim known [ inl none ↦ absurd none | inr was ↦ subst (λ l. HoldsOf (λ log. shows log m.page ≡ true) l m.object) (sym h) was ]
shown len marks shows is old new (x ∷ xs) h m known =
    elim known [
      | inl here ↦ elim here [
        | inl same ↦ shown len marks shows is h.0 new xs h.2 m (inr (subst (λ y. HoldsOf (λ log. shows log y.page ≡ true) h.0 y.object) same (change_shows (λ a b. page_marks len marks a x.page b) (λ log. shows log x.page ≡ true) old h.0 x.object (λ a b made. is.sets a x.page b made.marked) h.1)))
        | inr later ↦ shown len marks shows is h.0 new xs h.2 m (inl later)
      ]
      | inr was ↦ shown len marks shows is h.0 new xs h.2 m (inr (change_keeps_fact (λ a b. page_marks len marks a x.page b) (λ log. shows log m.page ≡ true) old h.0 x.object m.object (λ a b made there. is.keeps a x.page b m.page made.marked there) h.1 was))
    ]

pub in_parts : {X : Type 0} → (x : X) (xs ys : List X) → IsIn x (xs ++ ys) → IsIn x xs ⊎ IsIn x ys
in_parts x [] ys h = inr h
in_parts x (z ∷ zs) ys h = elim h [ inl e ↦ inl (inl e) | inr t ↦ elim (in_parts x zs ys t) [ inl i ↦ inl (inr i) | inr i ↦ inr i ] ]

from_flat : {X : Type 0} → (f : ℕ → List X) (x : X) (a n : ℕ) → IsIn x (flat_map f (range_with_len a n)) → (q : ℕ) × (a ≤ q) × (q < a + n) × IsIn x (f q)
from_flat f x a zero h = absurd h
from_flat f x a (suc n) h =
    elim (in_parts x (f a) (flat_map f (range_with_len (a + 1) n)) (subst (λ l. IsIn x l) (flat_map-cons f a (range_with_len (a + 1) n)) h)) [
      | inl here ↦ (a, omega arith, omega arith, here)
      | inr later ↦ (let found = from_flat f x (a + 1) n later in let low : a + 1 ≤ found.0 = found.1 in let high : found.0 < a + 1 + n = found.2 in (found.0, omega arith, omega arith, found.3))
    ]

-- the mark of an address whose region has a log
met_in : (rs : List Region) (a n k : ℕ) (m : Mark) → k < n → (r : Region) → region_of rs (a + k) ≡ Some r → (o : Option AtomicBitmapMmap) → r.log ≡ o → IsIn m (mark_in o (a + k)) → MeetsPage rs a n m
met_in rs a n k m small r is None has h = absurd h
met_in rs a n k m small r is (Some l) has h =
    elim h [
      | inl e ↦ record { behind = k; region = r; log = l; within = small; lies = is; logged = has; is = sym e }
      | inr none ↦ absurd none
    ]

met_at : (rs : List Region) (a n k : ℕ) (m : Mark) → k < n → (o : Option Region) → region_of rs (a + k) ≡ o → IsIn m (mark_of o (a + k)) → MeetsPage rs a n m
met_at rs a n k m small None is h = absurd h
met_at rs a n k m small (Some r) is h = met_in rs a n k m small r is r.log refl h

count_less : (a n q : ℕ) → a / 4096 ≤ q → q < a / 4096 + page_count a n → max a (4096 * q) - a < n
count_less a n q low high =
    elim (cases_Bool (eqb n 0)) [
      | inl t ↦ absurd (let none : page_count a n ≡ 0 = cond-true (eqb n 0) 0 ((a + n - 1) / 4096 - a / 4096 + 1) t in omega arith)
      | inr f ↦ (let some : n ≡ 0 → ⊥ = eqb-false n 0 f in
          let more : 0 < n = omega arith in
          let count : page_count a n ≡ (a + n - 1) / 4096 - a / 4096 + 1 = cond-false (eqb n 0) 0 ((a + n - 1) / 4096 - a / 4096 + 1) f in
          let last : q ≤ (a + n - 1) / 4096 = omega arith in
          omega arith)
    ]

-- the marks of a range are those of the pages that it meets in regions with a log
met_only : (rs : List Region) (a n : ℕ) (m : Mark) → IsIn m (marks_of rs a n) → MeetsPage rs a n m
unfolding marks_of mark_at
met_only rs a n m h =
    let found = from_flat (λ p. mark_of (region_of rs (max a (4096 * p))) (max a (4096 * p))) m (a / 4096) (page_count a n) h in
    let at : ℕ = max a (4096 * found.0) in
    let behind : a + (at - a) ≡ at = omega arith in
    met_at rs a n (at - a) m (count_less a n found.0 found.1 found.2) (region_of rs (a + (at - a))) refl
    (subst (λ x. IsIn m (mark_of (region_of rs x) x)) (sym behind) found.3)

pub marks_met : (rs : List Region) → IsApart rs → AllByRecursion IsPaged rs → (a n : ℕ) (m : Mark) → IsIn m (marks_of rs a n) ↔ MeetsPage rs a n m
marks_met rs apart paged a n m = (met_only rs a n m, (λ meets. subst (λ y. IsIn y (marks_of rs a n)) (sym meets.is) (met_page rs apart paged a n meets.behind meets.region meets.log meets.within meets.lies meets.logged)))
