-- Reading after writing in a memory of one region.
use Rattle.std.proofs.Common.{◌≡◌, ◌⊎◌, ℕ, zero, suc, ◌+◌, ◌-◌, ◌<◌, ◌≤◌, inl, inr, true, true≢false, List, [], ◌∷◌, length, take, drop, get_or, slice_set, Some, None, refl, sym, ap, ap₂, subst, ◌∙◌, arith, eqb, leb, ltb, get_or-set_same, drop-cons}
use Rattle.std.specs.Option.{is_some}
use Rattle.std.proofs.lemmas.Bool.{cases_Bool, and_parts, and_from, leb-true, ltb-true, le-leb, lt-ltb}
use Rattle.vub_mem.specs.declared.region.Region.{Region}
use Rattle.vub_mem.specs.declared.content.Content.{Content}
use Rattle.vub_mem.specs.Laws.{LiesIn, LiesAt}
use Rattle.vub_mem.specs.Memory.{Guest}
use Rattle.vub_mem.specs.Place.{covers, holds, region_of, content_of, with_byte, poke, poke_in, write_at, byte_at, byte_in, bytes_at}
use Rattle.vub_mem.proofs.Contents.{with_true, with_false, content_true, content_false}
use Rattle.vub_mem.proofs.Frames.{regions-write_at, write_apart, length-write_at}
use Rattle.vub_mem.proofs.Ranges.{covers_from, length-bytes_at, get_or-bytes_at}

-- one region that lies in its content
pub record IsFlat (r : Region) (g : Guest) : Type 0 where
  pub one : g.regions ≡ r ∷ []
  pub backed : r.offset + r.len ≤ length (content_of g.contents r.object)

abbrev pub Inside : Region → ℕ → ℕ → Type 0
Inside r a n = (r.start ≤ a) × (a + n ≤ r.start + r.len)

pub flat_write : (r : Region) (g : Guest) (a : ℕ) (bs : List ℕ) → IsFlat r g → IsFlat r (write_at g a bs)
flat_write r g a bs f = record { one = regions-write_at g a bs ∙ f.one; backed = omega (arith, length-write_at g a bs r.object, f.backed) }

held_parts : (r : Region) (a : ℕ) → holds r a ≡ true → (r.start ≤ a) × (a < r.start + r.len)
held_parts r a h =
    let p = and_parts _ _ h in
    let low : r.start ≤ a = leb-true r.start a p.0 in
    let high : a - r.start < r.len = ltb-true (a - r.start) r.len p.1 in
    (low, omega arith)

region_cases : (r : Region) (a : ℕ) → ((region_of (r ∷ []) a ≡ Some r) × (holds r a ≡ true)) ⊎ (region_of (r ∷ []) a ≡ None)
region_cases r a = elim (cases_Bool (holds r a)) [ inl t ↦ inl (rw t refl, t) | inr f ↦ inr (rw f refl) ]

lies_one : (r : Region) (a o i : ℕ) → LiesAt (r ∷ []) a o i → (r.start ≤ a) × (r.offset + (a - r.start) ≡ i)
lies_one r a o i h = elim (region_cases r a) [
  | inl t ↦ ((held_parts r a t.1).0, (subst (λ x. LiesIn x a o i) t.0 h).1)
  | inr n ↦ absurd (subst (λ x. LiesIn x a o i) n h)
]

-- a byte beside a write stays
pub byte_beside : (r : Region) (g : Guest) (a x : ℕ) (bs : List ℕ) → IsFlat r g → ((x < a) ⊎ (a + length bs ≤ x)) → byte_at (write_at g a bs) x ≡ byte_at g x
unfolding byte_at
byte_beside r g a x bs f off =
    ap (λ rs. byte_in (write_at g a bs).contents x (region_of rs x)) (regions-write_at g a bs ∙ f.one)
    ∙ elim (region_cases r x) [
      | inl t ↦ ap (byte_in (write_at g a bs).contents x) t.0
          ∙ write_apart g a bs r.object (r.offset + (x - r.start)) (λ k lt lies.
          let at = lies_one r (a + k) r.object (r.offset + (x - r.start)) (subst (λ rs. LiesAt rs (a + k) r.object (r.offset + (x - r.start))) f.one lies) in
          let low : r.start ≤ x = (held_parts r x t.1).0 in
          let mine : r.start ≤ a + k = at.0 in
          let same : r.offset + (a + k - r.start) ≡ r.offset + (x - r.start) = at.1 in
          elim off [ inl less ↦ absurd (omega arith) | inr more ↦ absurd (omega arith) ])
          ∙ sym (ap (byte_in g.contents x) t.0)
      | inr n ↦ ap (byte_in (write_at g a bs).contents x) n ∙ sym (ap (byte_in g.contents x) n)
    ]
    ∙ sym (ap (λ rs. byte_in g.contents x (region_of rs x)) f.one)

same_byte : (cs : List Content) (o i b : ℕ) → i < length (content_of cs o) → get_or (content_of (with_byte cs o i b) o) i 0 ≡ b
same_byte [] o i b h = absurd (omega arith)
same_byte (c ∷ cs) o i b h =
    elim (cases_Bool (eqb c.object o)) [
      | inl t ↦ ap (λ w. get_or (content_of w o) i 0) (with_true c cs o i b t)
          ∙ ap (λ l. get_or l i 0) (content_true (record c { bytes = slice_set c.bytes i b }) cs o t)
          ∙ get_or-set_same c.bytes i b 0 (subst (λ l. i < length l) (content_true c cs o t) h)
      | inr f ↦ ap (λ w. get_or (content_of w o) i 0) (with_false c cs o i b f)
          ∙ ap (λ l. get_or l i 0) (content_false c (with_byte cs o i b) o f)
          ∙ same_byte cs o i b (subst (λ l. i < length l) (content_false c cs o f) h)
    ]

holds_in : (r : Region) (a : ℕ) → Inside r a 1 → holds r a ≡ true
holds_in r a h = and_from (leb r.start a) (ltb (a - r.start) r.len) (le-leb r.start a h.0) (lt-ltb (a - r.start) r.len (let low : r.start ≤ a = h.0 in let high : a + 1 ≤ r.start + r.len = h.1 in omega arith))

pub region_in : (r : Region) (a : ℕ) → Inside r a 1 → region_of (r ∷ []) a ≡ Some r
region_in r a h = rw (holds_in r a h) refl

byte_poked : (r : Region) (g : Guest) (a b : ℕ) → IsFlat r g → Inside r a 1 → byte_at (poke g a b) a ≡ b
unfolding byte_at poke
byte_poked r g a b f h =
    let at : region_of g.regions a ≡ Some r = ap (λ rs. region_of rs a) f.one ∙ region_in r a h in
    let low : r.start ≤ a = h.0 in
    let high : a + 1 ≤ r.start + r.len = h.1 in
    ap (byte_in (poke_in g.contents a b (region_of g.regions a)) a) at ∙ ap (λ o. get_or (content_of (poke_in g.contents a b o) r.object) (r.offset + (a - r.start)) 0) at
    ∙ same_byte g.contents r.object (r.offset + (a - r.start)) b (omega (arith, f.backed))

-- a byte of a write is read back
pub byte_written : (r : Region) (g : Guest) (a k : ℕ) (bs : List ℕ) → IsFlat r g → Inside r a (length bs) → k < length bs → byte_at (write_at g a bs) (a + k) ≡ get_or bs k 0
unfolding write_at
byte_written r g a k [] f h lt = absurd (omega arith)
byte_written r g a zero (b ∷ bs) f h lt =
    let next : IsFlat r (poke g a b) = flat_write r g a (b ∷ []) f in
    let high : a + suc (length bs) ≤ r.start + r.len = h.1 in
    let z : a + zero ≡ a = omega arith in
    ap (byte_at (write_at (poke g a b) (a + 1) bs)) z ∙ byte_beside r (poke g a b) (a + 1) a bs next (inl (omega arith)) ∙ byte_poked r g a b f (h.0, omega arith)
byte_written r g a (suc k) (b ∷ bs) f h lt =
    let next : IsFlat r (poke g a b) = flat_write r g a (b ∷ []) f in
    let low : r.start ≤ a = h.0 in
    let high : a + suc (length bs) ≤ r.start + r.len = h.1 in
    let up : a + suc k ≡ a + 1 + k = omega arith in
    ap (byte_at (write_at (poke g a b) (a + 1) bs)) up ∙ byte_written r (poke g a b) (a + 1) k bs next (omega arith, omega arith) (omega arith)

-- what reads two memories alike
pub same_bytes : (g h : Guest) (a n : ℕ) → ((x : ℕ) → a ≤ x → x < a + n → byte_at h x ≡ byte_at g x) → bytes_at h a n ≡ bytes_at g a n
unfolding bytes_at
same_bytes g h a zero e = refl
same_bytes g h a (suc n) e = ap₂ (λ x xs. x ∷ xs) (e a (omega arith) (omega arith)) (same_bytes g h (a + 1) n (λ x low high. e x (omega arith) (omega arith)))

pub bytes_beside : (r : Region) (g : Guest) (a x n : ℕ) (bs : List ℕ) → IsFlat r g → ((x + n ≤ a) ⊎ (a + length bs ≤ x)) → bytes_at (write_at g a bs) x n ≡ bytes_at g x n
bytes_beside r g a x n bs f off = same_bytes g (write_at g a bs) x n (λ y low high. byte_beside r g a y bs f (elim off [ inl less ↦ inl (omega arith) | inr more ↦ inr (omega arith) ]))

-- a part of what was written
pub bytes_part : (r : Region) (g : Guest) (a k n : ℕ) (bs : List ℕ) → IsFlat r g → Inside r a (length bs) → k + n ≤ length bs → bytes_at (write_at g a bs) (a + k) n ≡ take n (drop k bs)
unfolding bytes_at
bytes_part r g a k zero bs f h le = refl
bytes_part r g a k (suc n) bs f h le =
    let up : a + k + 1 ≡ a + (k + 1) = omega arith in
    let cut : drop k bs ≡ get_or bs k 0 ∷ drop (suc k) bs = drop-cons bs k 0 (omega arith) in
    let one : suc k ≡ k + 1 = omega arith in
    ap₂ (λ x xs. x ∷ xs) (byte_written r g a k bs f h (omega arith)) (ap (λ q. bytes_at (write_at g a bs) q n) up ∙ bytes_part r g a (k + 1) n bs f h (omega arith) ∙ ap (λ q. take n (drop q bs)) (sym one))
    ∙ sym (ap (take (suc n)) cut)

take_whole : (xs : List ℕ) → take (length xs) xs ≡ xs
take_whole [] = refl
take_whole (x ∷ xs) = ap (λ l. x ∷ l) (take_whole xs)

pub bytes_back : (r : Region) (g : Guest) (a : ℕ) (bs : List ℕ) → IsFlat r g → Inside r a (length bs) → bytes_at (write_at g a bs) a (length bs) ≡ bs
bytes_back r g a bs f h = (let z : a ≡ a + 0 = omega arith in ap (λ q. bytes_at (write_at g a bs) q (length bs)) z) ∙ bytes_part r g a 0 (length bs) bs f h (omega arith) ∙ take_whole bs

-- a part of what is read
pub bytes_sub : (g : Guest) (a m k n : ℕ) → k + n ≤ m → bytes_at g (a + k) n ≡ take n (drop k (bytes_at g a m))
unfolding bytes_at
bytes_sub g a m k zero le = refl
bytes_sub g a m k (suc n) le =
    let up : a + k + 1 ≡ a + (k + 1) = omega arith in
    let one : suc k ≡ k + 1 = omega arith in
    let cut : drop k (bytes_at g a m) ≡ get_or (bytes_at g a m) k 0 ∷ drop (suc k) (bytes_at g a m) = drop-cons (bytes_at g a m) k 0 (omega (arith, length-bytes_at g a m)) in
    ap₂ (λ x xs. x ∷ xs) (sym (get_or-bytes_at g a m k 0 (omega arith))) (ap (λ q. bytes_at g q n) up ∙ bytes_sub g a m (k + 1) n (omega arith) ∙ ap (λ q. take n (drop q (bytes_at g a m))) (sym one))
    ∙ sym (ap (take (suc n)) cut)

-- an address that lies in a region lies in the one
pub lies_byte : (r : Region) (a : ℕ) → is_some (region_of (r ∷ []) a) ≡ true → (r.start ≤ a) × (a < r.start + r.len)
lies_byte r a h = elim (region_cases r a) [
  | inl t ↦ held_parts r a t.1
  | inr n ↦ absurd (true≢false (sym h ∙ ap is_some n))
]

-- a range inside the region is covered
pub covers_inside : (r : Region) (g : Guest) (a n : ℕ) → IsFlat r g → Inside r a n → covers g.regions a n ≡ true
covers_inside r g a n flat h =
    covers_from g.regions a n (λ x low high. ap (λ rs. is_some (region_of rs x)) flat.one ∙ ap is_some (region_in r x (omega (arith, h.0), omega (arith, h.1))))
