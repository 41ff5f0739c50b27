-- Laws of covered ranges.
use Rattle.std.proofs.Common.{◌≡◌, ℕ, zero, suc, ◌+◌, ◌-◌, ◌^◌, ◌<◌, ◌≤◌, ◌⊎◌, inl, inr, Bool, true, false, List, [], ◌∷◌, Option, Some, None, is_some, refl, sym, ap, subst, ◌∙◌, arith, ltb, leb, length, get_or, take, take_all, append-nil, drop, drop_of_length-le, ◌++◌, ext_get_or}
use Rattle.std.specs.List.{list_all, range_with_len, AllByRecursion}
use Rattle.std.proofs.lemmas.Bool.{and_parts, and_from, cases_Bool, true≢false, both_ways, cases_lt, leb-true, ltb-true, le-leb, lt-ltb, cond-true, cond-false}
use Rattle.vub_mem.specs.declared.region.Region.{Region}
use Rattle.vub_mem.specs.declared.content.Content.{Content}
use Rattle.std.proofs.lemmas.List.FromFn.{map-range_with_len_more, length-map-range_with_len, get_or-map-range_with_len}
use Rattle.vub_mem.specs.Memory.{Guest}
use Rattle.vub_mem.specs.Place.{holds, region_of, covers, content_of, byte_at, byte_in, bytes_at}
use Rattle.vub_mem.specs.Sound.{IsBounded, IsBacked}
use Rattle.vub_mem.specs.Found.{IsFound}

cases_at : (a x : ℕ) → a ≤ x → (a ≡ x) ⊎ (a < x)
cases_at a x h = elim (cases_lt a x) [ inl lt ↦ inr lt | inr ge ↦ inl (omega arith) ]

none_some : (r : Region) → None ≡ Some r → ⊥
none_some r e = cc

-- a test of each number from a on, at one of them
pub all_at : (p : ℕ → Bool) (a n x : ℕ) → list_all p (range_with_len a n) ≡ true → a ≤ x → x < a + n → p x ≡ true
all_at p a zero x h low high = absurd (omega arith)
all_at p a (suc n) x h low high =
    let parts : (p a ≡ true) × (list_all p (range_with_len (a + 1) n) ≡ true) = and_parts (p a) (list_all p (range_with_len (a + 1) n)) h in
    elim (cases_at a x low) [ inl e ↦ subst (λ v. p v ≡ true) e parts.0 | inr lt ↦ all_at p (a + 1) n x parts.1 (omega arith) (omega arith) ]

pub all_from : (p : ℕ → Bool) (a n : ℕ) → ((x : ℕ) → a ≤ x → x < a + n → p x ≡ true) → list_all p (range_with_len a n) ≡ true
all_from p a zero h = refl
all_from p a (suc n) h =
    and_from (p a) (list_all p (range_with_len (a + 1) n)) (h a (omega arith) (omega arith))
    (all_from p (a + 1) n (λ x low high. h x (omega arith) (omega arith)))

pub covers_at : (rs : List Region) (a n x : ℕ) → covers rs a n ≡ true → a ≤ x → x < a + n → is_some (region_of rs x) ≡ true
unfolding covers
covers_at rs a n x h low high = all_at (λ x. is_some (region_of rs x)) a n x h low high

pub covers_from : (rs : List Region) (a n : ℕ) → ((x : ℕ) → a ≤ x → x < a + n → is_some (region_of rs x) ≡ true) → covers rs a n ≡ true
unfolding covers
covers_from rs a n h = all_from (λ x. is_some (region_of rs x)) a n h

pub covers_not : (rs : List Region) (a n x : ℕ) → a ≤ x → x < a + n → region_of rs x ≡ None → covers rs a n ≡ false
covers_not rs a n x low high e =
    elim (cases_Bool (covers rs a n)) [ inl t ↦ absurd (true≢false (sym (covers_at rs a n x t low high) ∙ ap is_some e)) | inr f ↦ f ]

-- what a found region says
pub find_holds : (rs : List Region) (a : ℕ) (r : Region) → region_of rs a ≡ Some r → holds r a ≡ true
find_holds [] a r e = elim (none_some r e) [ ]
find_holds (q ∷ rs) a r e =
    elim (cases_Bool (holds q a)) [
      | inl t ↦ (let same : q ≡ r = (let h : Some q ≡ Some r = sym (cond-true (holds q a) (Some q) (region_of rs a) t) ∙ e in cc) in subst (λ v. holds v a ≡ true) same t)
      | inr f ↦ find_holds rs a r (sym (cond-false (holds q a) (Some q) (region_of rs a) f) ∙ e)
    ]

-- an address that the found region holds is in some region
pub find_again : (rs : List Region) (a b : ℕ) (r : Region) → region_of rs a ≡ Some r → holds r b ≡ true → is_some (region_of rs b) ≡ true
find_again [] a b r e h = elim (none_some r e) [ ]
find_again (q ∷ rs) a b r e h =
    elim (cases_Bool (holds q b)) [
      | inl t ↦ ap is_some (cond-true (holds q b) (Some q) (region_of rs b) t)
      | inr f ↦ ap is_some (cond-false (holds q b) (Some q) (region_of rs b) f) ∙
          (elim (cases_Bool (holds q a)) [
            | inl t ↦ (let same : q ≡ r = (let h : Some q ≡ Some r = sym (cond-true (holds q a) (Some q) (region_of rs a) t) ∙ e in cc) in absurd (both_ways (holds q b) f (subst (λ v. holds v b ≡ true) (sym same) h)))
            | inr g ↦ find_again rs a b r (sym (cond-false (holds q a) (Some q) (region_of rs a) g) ∙ e) h
          ])
    ]

-- a fact that holds of each region holds of a found one
pub find_all : (P : Region → Type 0) (rs : List Region) (a : ℕ) (r : Region) → AllByRecursion P rs → region_of rs a ≡ Some r → P r
find_all P [] a r all e = elim (none_some r e) [ ]
find_all P (q ∷ rs) a r all e =
    elim (cases_Bool (holds q a)) [
      | inl t ↦ (let same : q ≡ r = (let h : Some q ≡ Some r = sym (cond-true (holds q a) (Some q) (region_of rs a) t) ∙ e in cc) in subst P same all.0)
      | inr f ↦ find_all P rs a r all.1 (sym (cond-false (holds q a) (Some q) (region_of rs a) f) ∙ e)
    ]

-- each address before `at` lies in a region, and `left` of them are still to be looked at
pub record CoversSo (rs : List Region) (addr len at left : ℕ) : Type 0 where
  pub split : at + left ≡ addr + len
  pub past : addr ≤ at
  pub before : (x : ℕ) → addr ≤ x → x < at → is_some (region_of rs x) ≡ true

-- what a lookup found
pub found : (rs : List Region) (a : ℕ) (r : Region) → AllByRecursion IsBounded rs → region_of rs a ≡ Some r → IsFound rs a r
found rs a r all e =
    let h : (leb r.start a ≡ true) × (ltb (a - r.start) r.len ≡ true) = and_parts (leb r.start a) (ltb (a - r.start) r.len) (find_holds rs a r e) in
    let low : r.start ≤ a = leb-true r.start a h.0 in
    let below : a - r.start < r.len = ltb-true (a - r.start) r.len h.1 in
    let bounded : IsBounded r = find_all IsBounded rs a r all e in
    record { is = e; low = low; high = omega arith; ends = bounded.ends; offset_ends = bounded.offset_ends; log_ends = bounded.log_ends }

-- the addresses of the found region from one on lie in regions
pub found_again : (rs : List Region) (a b : ℕ) (r : Region) → IsFound rs a r → a ≤ b → b < r.start + r.len → is_some (region_of rs b) ≡ true
found_again rs a b r f low high =
    let below : b - r.start < r.len = omega (arith, f.low) in
    let starts : r.start ≤ b = omega (arith, f.low) in
    find_again rs a b r f.is (and_from (leb r.start b) (ltb (b - r.start) r.len) (le-leb r.start b starts) (lt-ltb (b - r.start) r.len below))

-- the walk goes on behind the found region
pub covers_more : (rs : List Region) (addr len at left here : ℕ) (r : Region) → CoversSo rs addr len at left → IsFound rs at r → here ≡ r.len - (at - r.start) → here < left → CoversSo rs addr len (at + here) (left - here)
covers_more rs addr len at left here r so f e more = record {
  split = omega (arith, so.split, f.low);
  past = omega (arith, so.past);
  before = λ x low high.
      elim (cases_lt x at) [
        | inl lt ↦ so.before x low lt
        | inr ge ↦ found_again rs at x r f ge (omega (arith, f.low, f.high))
      ];
}

-- the walk ends in the found region
pub covers_end : (rs : List Region) (addr len at left : ℕ) (r : Region) → CoversSo rs addr len at left → IsFound rs at r → left ≤ r.len - (at - r.start) → true ≡ covers rs addr len
covers_end rs addr len at left r so f e =
    sym (covers_from rs addr len (λ x low high.
    elim (cases_lt x at) [
      | inl lt ↦ so.before x low lt
      | inr ge ↦ found_again rs at x r f ge (omega (arith, f.low, f.high, so.split))
    ]))

-- nothing is left to look at
pub covers_all : (rs : List Region) (addr len at left : ℕ) → CoversSo rs addr len at left → left ≤ 0 → true ≡ covers rs addr len
covers_all rs addr len at left so e = sym (covers_from rs addr len (λ x low high. so.before x low (omega (arith, so.split))))

-- an address in no region
pub covers_none : (rs : List Region) (addr len at left : ℕ) → CoversSo rs addr len at left → 0 < left → region_of rs at ≡ None → false ≡ covers rs addr len
covers_none rs addr len at left so e none = sym (covers_not rs addr len at so.past (omega (arith, so.split)) none)

-- the place of an address lies in its content
pub backed : (cs : List Content) (rs : List Region) (a : ℕ) (r : Region) → AllByRecursion (λ r. IsBacked cs r) rs → IsFound rs a r → r.offset + (a - r.start) < length (content_of cs r.object)
backed cs rs a r all f =
    let inside : r.offset + r.len ≤ length (content_of cs r.object) = find_all (λ r. IsBacked cs r) rs a r all f.is in
    omega (arith, f.low, f.high)

pub byte_found : (cs : List Content) (rs : List Region) (a : ℕ) (r : Region) (bytes : List ℕ) → IsFound rs a r → bytes ≡ content_of cs r.object → get_or bytes (r.offset + (a - r.start)) 0 ≡ byte_at (record { regions = rs; contents = cs }) a
unfolding byte_at
byte_found cs rs a r bytes f e = ap (λ b. get_or b (r.offset + (a - r.start)) 0) e ∙ sym (ap (byte_in cs a) f.is)

pub byte_none : (cs : List Content) (rs : List Region) (a : ℕ) → region_of rs a ≡ None → 0 ≡ byte_at (record { regions = rs; contents = cs }) a
unfolding byte_at
byte_none cs rs a e = sym (ap (byte_in cs a) e)

pub bytes_at_none : (g : Guest) (a : ℕ) → bytes_at g a 0 ≡ []
unfolding bytes_at
bytes_at_none g a = refl

pub bytes_at_more : (g : Guest) (a n : ℕ) → bytes_at g a (n + 1) ≡ bytes_at g a n ++ byte_at g (a + n) ∷ []
unfolding bytes_at
bytes_at_more g a n = map-range_with_len_more (λ x. byte_at g x) a n (a + n) refl

pub length-bytes_at : (g : Guest) (a n : ℕ) → length (bytes_at g a n) ≡ n
unfolding bytes_at
length-bytes_at g a n = length-map-range_with_len (λ x. byte_at g x) a n

pub get_or-bytes_at : (g : Guest) (a n i d : ℕ) → i < n → get_or (bytes_at g a n) i d ≡ byte_at g (a + i)
unfolding bytes_at
get_or-bytes_at g a n i d h = get_or-map-range_with_len (λ x. byte_at g x) a n i (a + i) d h refl

pub bytes_at_all : (g : Guest) (a n : ℕ) (xs : List ℕ) → length xs ≡ n → ((k : ℕ) → k < n → get_or xs k 0 ≡ byte_at g (a + k)) → xs ≡ bytes_at g a n
bytes_at_all g a n xs len each =
    ext_get_or 0 xs (bytes_at g a n) (len ∙ sym (length-bytes_at g a n)) (λ i h. let below : i < n = omega (arith, len) in each i below ∙ sym (get_or-bytes_at g a n i 0 below))

-- what a slice of a whole vector gives back
pub put_back : {A : Type 0} → (n : ℕ) (xs ys : List A) → length xs ≡ length ys → n ≡ length ys → take n (xs ++ drop (length xs) ys) ≡ xs
put_back n xs ys e k =
    let rest : drop (length xs) ys ≡ [] = drop_of_length-le ys (omega arith) in
    rw rest (rw append-nil (take_all n xs (omega arith)))

none_if : (o : Option Region) → ((r : Region) → o ≡ Some r → ⊥) → o ≡ None
none_if None h = refl
none_if (Some r) h = absurd (h r refl)

-- no region holds an address of 65 bits
pub beyond : (rs : List Region) (a : ℕ) → AllByRecursion IsBounded rs → 2 ^ 64 ≤ a → region_of rs a ≡ None
beyond rs a all high = none_if (region_of rs a) (λ r e. let f : IsFound rs a r = found rs a r all e in omega (arith, f.high, f.ends))

pub covers_beyond : (rs : List Region) (a n : ℕ) → AllByRecursion IsBounded rs → 2 ^ 64 ≤ a → 0 < n → covers rs a n ≡ false
covers_beyond rs a n all high some = covers_not rs a n a (omega arith) (omega arith) (beyond rs a all high)

-- a covered range ends below 2 ^ 64
pub covered_ends : (rs : List Region) (a n : ℕ) → AllByRecursion IsBounded rs → covers rs a n ≡ true → a < 2 ^ 64 → a + n < 2 ^ 64
covered_ends rs a zero all h low = omega arith
covered_ends rs a (suc n) all h low =
    elim (cases_lt (a + suc n) (2 ^ 64)) [
      | inl lt ↦ lt
      | inr ge ↦ (let none : region_of rs (a + n) ≡ None = none_if (region_of rs (a + n)) (λ r e. let f : IsFound rs (a + n) r = found rs (a + n) r all e in omega (arith, f.high, f.ends)) in
          absurd (true≢false (sym h ∙ covers_not rs a (suc n) (a + n) (omega arith) (omega arith) none)))
    ]
