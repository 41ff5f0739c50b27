-- A range inside one region is a part of its content.
use Rattle.std.proofs.Common.{◌≡◌, ℕ, zero, suc, ◌+◌, ◌-◌, ◌<◌, ◌≤◌, inl, inr, true, false, List, [], ◌∷◌, ◌++◌, Some, None, is_some, refl, sym, ap, subst, ◌∙◌, arith, ltb, leb, length, get_or, take, drop, ext_get_or, length-take-le, length-drop, append_assoc, append-nil}
use Rattle.std.proofs.lemmas.List.{get_or-take, get_or-drop}
use Rattle.std.specs.List.{AllByRecursion}
use Rattle.std.proofs.lemmas.Bool.{and_parts, and_from, and_right, cases_Bool, leb-true, le-leb, lt-ltb, le-ltb, cond-true, cond-false}
use Rattle.vub_mem.specs.declared.region.Region.{Region}
use Rattle.vub_mem.specs.Memory.{Guest}
use Rattle.vub_mem.specs.Place.{holds, region_of, covers, content_of, byte_at, byte_in, bytes_at}
use Rattle.vub_mem.specs.Sound.{IsApart, IsBacked}
use Rattle.vub_mem.specs.Found.{IsFound}
use Rattle.vub_mem.specs.PlaceAt.{RunsOn, place_in}
use Rattle.vub_mem.proofs.Ranges.{find_all, covers_at, length-bytes_at, get_or-bytes_at, bytes_at_more, bytes_at_none}

pub not_held : (q : Region) (b : ℕ) → q.start + q.len ≤ b → holds q b ≡ false
not_held q b h = and_right (leb q.start b) (ltb (b - q.start) q.len) (le-ltb (b - q.start) q.len (omega arith))

-- each address of a region is found in it
pub same_region : (rs : List Region) (a b : ℕ) (r : Region) → IsApart rs → region_of rs a ≡ Some r → holds r b ≡ true → region_of rs b ≡ Some r
same_region [] a b r apart e h = (let n : None ≡ Some r = e in cc)
same_region (q ∷ rs) a b r apart e h =
    elim (cases_Bool (holds q a)) [
      | inl t ↦ (let some : Some q ≡ Some r = sym (cond-true (holds q a) (Some q) (region_of rs a) t) ∙ e in
          let same : q ≡ r = cc in
          cond-true (holds q b) (Some q) (region_of rs b) (subst (λ x. holds x b ≡ true) (sym same) h) ∙ some)
      | inr f ↦ (let rest : region_of rs a ≡ Some r = sym (cond-false (holds q a) (Some q) (region_of rs a) f) ∙ e in
          let behind : q.start + q.len ≤ r.start = find_all (λ s. q.start + q.len ≤ s.start) rs a r apart.0 rest in
          let low : r.start ≤ b = leb-true r.start b (and_parts (leb r.start b) (ltb (b - r.start) r.len) h).0 in
          cond-false (holds q b) (Some q) (region_of rs b) (not_held q b (omega arith)) ∙ same_region rs a b r apart.1 rest h)
    ]

byte_same : (g : Guest) (a b : ℕ) (r : Region) → IsApart g.regions → IsFound g.regions a r → a ≤ b → b < r.start + r.len → byte_at g b ≡ get_or (content_of g.contents r.object) (r.offset + (b - r.start)) 0
unfolding byte_at
byte_same g a b r apart f low high =
    let starts : r.start ≤ b = omega (arith, f.low) in
    let below : b - r.start < r.len = omega (arith, f.low) in
    ap (λ o. byte_in g.contents b o) (same_region g.regions a b r apart f.is (and_from (leb r.start b) (ltb (b - r.start) r.len) (le-leb r.start b starts) (lt-ltb (b - r.start) r.len below)))

pub chunk : (g : Guest) (a n : ℕ) (r : Region) (bs : List ℕ) → IsApart g.regions → IsFound g.regions a r → n ≤ r.len - (a - r.start) → bs ≡ content_of g.contents r.object → r.offset + r.len ≤ length bs → bytes_at g a n ≡ take n (drop (r.offset + (a - r.start)) bs)
chunk g a n r bs apart f fits e inside =
    let place : ℕ = r.offset + (a - r.start) in
    let fit : n ≤ length (drop place bs) = omega (arith, length-drop place bs, f.low, f.high) in
    ext_get_or 0 (bytes_at g a n) (take n (drop place bs)) (length-bytes_at g a n ∙ sym (length-take-le n (drop place bs) fit))
    (λ i h.
    let below : i < n = omega (arith, length-bytes_at g a n) in
    let up : r.offset + (a + i - r.start) ≡ place + i = omega (arith, f.low) in
    get_or-bytes_at g a n i 0 below
    ∙ byte_same g a (a + i) r apart f (omega arith) (omega (arith, f.low, f.high))
    ∙ ap (λ l. get_or l (r.offset + (a + i - r.start)) 0) (sym e)
    ∙ ap (λ k. get_or bs k 0) up
    ∙ sym (get_or-take n (drop place bs) i 0 below ∙ get_or-drop place bs i 0))

pub bytes_at_add : (g : Guest) (a n m : ℕ) → bytes_at g a (n + m) ≡ bytes_at g a n ++ bytes_at g (a + n) m
bytes_at_add g a n zero = ap (λ k. bytes_at g a k) (let e : n + 0 ≡ n = omega arith in e) ∙ sym (ap (λ l. bytes_at g a n ++ l) (bytes_at_none g (a + n)) ∙ append-nil (bytes_at g a n))
bytes_at_add g a n (suc m) =
    ap (λ k. bytes_at g a k) (let e : n + suc m ≡ n + m + 1 = omega arith in e)
    ∙ bytes_at_more g a (n + m)
    ∙ ap (λ l. l ++ byte_at g (a + (n + m)) ∷ []) (bytes_at_add g a n m)
    ∙ append_assoc (bytes_at g a n) (bytes_at g (a + n) m) (byte_at g (a + (n + m)) ∷ [])
    ∙ ap (λ l. bytes_at g a n ++ l) (ap (λ k. bytes_at g (a + n) m ++ byte_at g k ∷ []) (let e : a + (n + m) ≡ a + n + m = omega arith in e) ∙ sym (bytes_at_more g (a + n) m) ∙ ap (λ k. bytes_at g (a + n) k) (let e : m + 1 ≡ suc m = omega arith in e))

-- the front of the range is read
pub record ReadSo (g : Guest) (addr len at left : ℕ) (bytes : List ℕ) : Type 0 where
  pub split : at + left ≡ addr + len
  pub past : addr ≤ at
  pub read : bytes ≡ bytes_at g addr (at - addr)

pub read_none : (g : Guest) (addr len : ℕ) (bytes : List ℕ) → bytes ≡ [] → ReadSo g addr len addr len bytes
read_none g addr len bytes e = record {
  split = refl;
  past = omega arith;
  read = e ∙ sym (bytes_at_none g addr) ∙ ap (λ k. bytes_at g addr k) (let none : 0 ≡ addr - addr = omega arith in none);
}

pub read_more : (g : Guest) (addr len at left : ℕ) (bytes next chunk : List ℕ) → ReadSo g addr len at left bytes → chunk ≡ bytes_at g at (length chunk) → length chunk ≤ left → next ≡ bytes ++ chunk → ReadSo g addr len (at + length chunk) (left - length chunk) next
read_more g addr len at left bytes next chunk so e short is = record {
  split = omega (arith, so.split);
  past = omega (arith, so.past);
  read =
      is
      ∙ ap (λ l. l ++ chunk) so.read
      ∙ ap (λ l. bytes_at g addr (at - addr) ++ l) e
      ∙ (let start : at ≡ addr + (at - addr) = omega (arith, so.past) in ap (λ k. bytes_at g addr (at - addr) ++ bytes_at g k (length chunk)) start)
      ∙ sym (bytes_at_add g addr (at - addr) (length chunk))
      ∙ (let up : at - addr + length chunk ≡ at + length chunk - addr = omega (arith, so.past) in ap (λ k. bytes_at g addr k) up);
}

pub read_all : (g : Guest) (addr len at left : ℕ) (bytes : List ℕ) → ReadSo g addr len at left bytes → left ≤ 0 → bytes ≡ bytes_at g addr len
read_all g addr len at left bytes so e = so.read ∙ (let all : at - addr ≡ len = omega (arith, so.split, so.past) in ap (λ k. bytes_at g addr k) all)

pub read_covered : (rs : List Region) (addr len at left : ℕ) → covers rs addr len ≡ true → at + left ≡ addr + len → addr ≤ at → 0 < left → is_some (region_of rs at) ≡ true
read_covered rs addr len at left all split past some = covers_at rs addr len at all past (omega arith)

-- a part of a region's content
pub chunk_is : (g : Guest) (a n : ℕ) (r : Region) (bs back chunk_bytes : List ℕ) → IsApart g.regions → IsFound g.regions a r → n ≤ r.len - (a - r.start) → bs ≡ content_of g.contents r.object → r.offset + r.len ≤ length bs →
    back ≡ drop (r.offset + (a - r.start)) bs → chunk_bytes ≡ take n back → chunk_bytes ≡ bytes_at g a n
chunk_is g a n r bs back chunk_bytes apart f fits e inside is_back is =
    is ∙ ap (λ l. take n l) is_back ∙ sym (chunk g a n r bs apart f fits e inside)

-- how much of its content a region has
pub region_backed : (g : Guest) (a : ℕ) (r : Region) (bs : List ℕ) → AllByRecursion (λ r. IsBacked g.contents r) g.regions → IsFound g.regions a r → bs ≡ content_of g.contents r.object → r.offset + r.len ≤ length bs
region_backed g a r bs all f e =
    let inside : r.offset + r.len ≤ length (content_of g.contents r.object) = find_all (λ r. IsBacked g.contents r) g.regions a r all f.is in
    omega (arith, ap length e)

-- where the addresses behind one in its region lie
pub runs_on : (rs : List Region) (a : ℕ) (r : Region) → IsApart rs → IsFound rs a r → RunsOn rs a (place_in a r)
runs_on rs a r apart f i below =
    let low : r.start ≤ a + i = omega (arith, f.low) in
    let high : a + i - r.start < r.len = omega (arith, f.low, f.high) in
    let found : region_of rs (a + i) ≡ Some r = same_region rs a (a + i) r apart f.is (and_from (leb r.start (a + i)) (ltb (a + i - r.start) r.len) (le-leb r.start (a + i) low) (lt-ltb (a + i - r.start) r.len high)) in
    let up : r.offset + (a + i - r.start) ≡ r.offset + (a - r.start) + i = omega (arith, f.low) in
    let down : r.len - (a + i - r.start) ≡ r.len - (a - r.start) - i = omega (arith, f.low, f.high) in
    rw (found, up, down) refl
