-- A write of bytes one after the other into one region is a write of a part of its content.
use Rattle.std.proofs.Common.{◌≡◌, ℕ, ◌+◌, ◌-◌, ◌<◌, ◌≤◌, inl, inr, Bool, true, false, List, [], ◌∷◌, ◌++◌, Some, None, refl, sym, ap, subst, ◌∙◌, arith, ltb, leb, eqb, length, get_or, set, slice_set, take, drop, append_assoc, length-set, length-append, is_some}
use Rattle.std.proofs.lemmas.List.{take_more, drop-set-lt, take-set-le, get_or-set_same, take-append-drop}
use Rattle.std.proofs.lemmas.Bool.{cases_Bool, eqb-true, eqb-false, true≢false, and_from, le-leb, lt-ltb}
use Rattle.vub_mem.specs.declared.region.Region.{Region}
use Rattle.vub_mem.specs.declared.content.Content.{Content}
use Rattle.vub_mem.specs.Memory.{Guest}
use Rattle.vub_mem.specs.Place.{region_of, covers, content_of, poke, poke_in, with_byte, with_bytes, overwritten, write_at}
use Rattle.vub_mem.specs.Sound.{IsApart, IsBacked, IsSound}
use Rattle.vub_mem.specs.Found.{IsFound}
use Rattle.vub_mem.proofs.Ranges.{find_all, covers_at}
use Rattle.vub_mem.proofs.Contents.{with_true, with_false, stores_true, stores_false, store_none, content_true, content_false, length-with_byte, sound_store}
use Rattle.vub_mem.proofs.Chunks.{same_region}

overwritten_more : (xs : List ℕ) (i b : ℕ) (bs : List ℕ) → i < length xs → overwritten (slice_set xs i b) (i + 1) bs ≡ overwritten xs i (b ∷ bs)
overwritten_more xs i b bs h =
    let front : take (i + 1) (set xs i b) ≡ take i xs ++ b ∷ [] =
    take_more (set xs i b) i 0 (let len = length-set xs i b in omega arith)
    ∙ ap (λ l. l ++ get_or (set xs i b) i 0 ∷ []) (take-set-le i xs i b (omega arith))
    ∙ ap (λ k. take i xs ++ k ∷ []) (get_or-set_same xs i b 0 h) in
    let back : drop (i + 1 + length bs) (set xs i b) ≡ drop (i + 1 + length bs) xs = drop-set-lt (i + 1 + length bs) xs i b (omega arith) in
    let same : i + 1 + length bs ≡ i + length (b ∷ bs) = omega arith in
    ap (λ l. l ++ (bs ++ drop (i + 1 + length bs) (set xs i b))) front
    ∙ ap (λ l. (take i xs ++ b ∷ []) ++ (bs ++ l)) (back ∙ ap (λ k. drop k xs) same)
    ∙ append_assoc (take i xs) (b ∷ []) (bs ++ drop (i + length (b ∷ bs)) xs)

with_more : (cs : List Content) (o i b : ℕ) (bs : List ℕ) → i < length (content_of cs o) → with_bytes (with_byte cs o i b) o (i + 1) bs ≡ with_bytes cs o i (b ∷ bs)
with_more [] o i b bs h = refl
with_more (c ∷ cs) o i b bs h =
    elim (cases_Bool (eqb c.object o)) [
      | inl t ↦ ap (λ l. with_bytes l o (i + 1) bs) (with_true c cs o i b t)
          ∙ stores_true (record c { bytes = slice_set c.bytes i b }) cs o (i + 1) bs t
          ∙ ap (λ xs. record c { bytes = xs } ∷ cs) (overwritten_more c.bytes i b bs (omega (arith, ap length (content_true c cs o t))))
          ∙ sym (stores_true c cs o i (b ∷ bs) t)
      | inr f ↦ ap (λ l. with_bytes l o (i + 1) bs) (with_false c cs o i b f)
          ∙ stores_false c (with_byte cs o i b) o (i + 1) bs f
          ∙ ap (λ l. c ∷ l) (with_more cs o i b bs (omega (arith, ap length (content_false c cs o f))))
          ∙ sym (stores_false c cs o i (b ∷ bs) f)
    ]

-- each address of the range lies in the region
abbrev AllIn : List Region → ℕ → ℕ → Region → Type 0
AllIn rs a n r = (k : ℕ) → k < n → region_of rs (a + k) ≡ Some r

written : (rs : List Region) (cs : List Content) (a i : ℕ) (r : Region) (bs : List ℕ) → AllIn rs a (length bs) r → r.start ≤ a → i ≡ r.offset + (a - r.start) → i + length bs ≤ length (content_of cs r.object) → write_at (record { regions = rs; contents = cs }) a bs ≡ record { regions = rs; contents = with_bytes cs r.object i bs }
unfolding write_at poke
written rs cs a i r [] all low place fits = ap (λ l. record { regions = rs; contents = l }) (store_none cs r.object i [] (omega arith))
written rs cs a i r (b ∷ bs) all low place fits =
    let here : region_of rs a ≡ Some r = (let same : a + 0 ≡ a = omega arith in subst (λ k. region_of rs k ≡ Some r) same (all 0 (omega arith))) in
    let first : poke_in cs a b (region_of rs a) ≡ with_byte cs r.object i b = ap (poke_in cs a b) here ∙ ap (λ k. with_byte cs r.object k b) (sym place) in
    ap (λ l. write_at (record { regions = rs; contents = l }) (a + 1) bs) first
    ∙ written rs (with_byte cs r.object i b) (a + 1) (i + 1) r bs (λ k h. let up : a + (k + 1) ≡ a + 1 + k = omega arith in subst (λ x. region_of rs x ≡ Some r) up (all (k + 1) (omega arith))) (omega arith) (omega arith) (omega (arith, length-with_byte cs r.object i b r.object))
    ∙ ap (λ l. record { regions = rs; contents = l }) (with_more cs r.object i b bs (omega arith))

all_in : (rs : List Region) (a n : ℕ) (r : Region) → IsApart rs → IsFound rs a r → n ≤ r.len - (a - r.start) → AllIn rs a n r
all_in rs a n r apart f fits k h =
    let starts : r.start ≤ a + k = omega (arith, f.low) in
    let below : a + k - r.start < r.len = omega (arith, f.low, f.high) in
    same_region rs a (a + k) r apart f.is (and_from (leb r.start (a + k)) (ltb (a + k - r.start) r.len) (le-leb r.start (a + k) starts) (lt-ltb (a + k - r.start) r.len below))

pub fits_in : (rs : List Region) (cs : List Content) (a n : ℕ) (r : Region) → IsSound (record { regions = rs; contents = cs }) → IsFound rs a r → n ≤ r.len - (a - r.start) → r.offset + (a - r.start) + n ≤ length (content_of cs r.object)
fits_in rs cs a n r sound f fits =
    let inside : r.offset + r.len ≤ length (content_of cs r.object) = find_all (λ r. IsBacked cs r) rs a r sound.backed f.is in
    omega (arith, f.low, f.high)

write_split : (g : Guest) (a : ℕ) (bs ds : List ℕ) → write_at g a (bs ++ ds) ≡ write_at (write_at g a bs) (a + length bs) ds
unfolding write_at
write_split g a [] ds = ap (λ k. write_at g k ds) (omega arith)
write_split g a (b ∷ bs) ds = write_split (poke g a b) (a + 1) bs ds ∙ (let up : a + 1 + length bs ≡ a + length (b ∷ bs) = omega arith in ap (λ k. write_at (write_at (poke g a b) (a + 1) bs) k ds) up)

-- the bytes before the rest are written
pub record WritesSo (rs : List Region) (old now : List Content) (addr : ℕ) (bytes : List ℕ) (at : ℕ) (rest : List ℕ) : Type 0 where
  pub sound : IsSound (record { regions = rs; contents = now })
  pub past : addr ≤ at
  pub split : at + length rest ≡ addr + length bytes
  pub same : write_at (record { regions = rs; contents = now }) at rest ≡ write_at (record { regions = rs; contents = old }) addr bytes

pub write_none : (rs : List Region) (old : List Content) (addr : ℕ) (bytes : List ℕ) → IsSound (record { regions = rs; contents = old }) → WritesSo rs old old addr bytes addr bytes
write_none rs old addr bytes sound = record { sound = sound; past = omega arith; split = refl; same = refl }

pub write_more : (rs : List Region) (old now next : List Content) (addr : ℕ) (bytes : List ℕ) (at here : ℕ) (rest chunk after : List ℕ) (r : Region) → WritesSo rs old now addr bytes at rest → IsFound rs at r → here ≤ r.len - (at - r.start) → here ≤ length rest → chunk ≡ take here rest → after ≡ drop here rest → length chunk ≡ here →
    next ≡ with_bytes now r.object (r.offset + (at - r.start)) chunk → WritesSo rs old next addr bytes (at + here) after
write_more rs old now next addr bytes at here rest chunk after r so f fits short front back len is = record {
  sound = sound_store rs now next r.object (r.offset + (at - r.start)) chunk (let inside : r.offset + (at - r.start) + here ≤ length (content_of now r.object) = fits_in rs now at here r so.sound f fits in omega arith) so.sound is;
  past = omega (arith, so.past);
  split = (let both : length (chunk ++ after) ≡ length rest = ap length (rw front (rw back (take-append-drop here rest))) in let sum = length-append chunk after in omega (arith, so.split));
  same =
      ap (λ cs. write_at (record { regions = rs; contents = cs }) (at + here) after) is
      ∙ ap (λ g. write_at g (at + here) after) (sym (written rs now at (r.offset + (at - r.start)) r chunk (all_in rs at (length chunk) r so.sound.apart f (omega arith)) f.low refl (let inside : r.offset + (at - r.start) + here ≤ length (content_of now r.object) = fits_in rs now at here r so.sound f fits in omega arith)))
      ∙ ap (λ k. write_at (write_at (record { regions = rs; contents = now }) at chunk) (at + k) after) (sym len)
      ∙ sym (write_split (record { regions = rs; contents = now }) at chunk after)
      ∙ ap (λ l. write_at (record { regions = rs; contents = now }) at l) (rw front (rw back (take-append-drop here rest)))
      ∙ so.same;
}

pub write_all : (rs : List Region) (old now : List Content) (addr : ℕ) (bytes : List ℕ) (at : ℕ) (rest : List ℕ) (b : Bool) → b ≡ eqb (length rest) 0 → b ≡ true → WritesSo rs old now addr bytes at rest → record { regions = rs; contents = now } ≡ write_at (record { regions = rs; contents = old }) addr bytes
unfolding write_at
write_all rs old now addr bytes at [] b e h so = so.same
write_all rs old now addr bytes at (x ∷ xs) b e h so = absurd (let none : length (x ∷ xs) ≡ 0 = eqb-true (length (x ∷ xs)) 0 (sym e ∙ h) in omega arith)

-- the next byte to be written lies in a region
pub write_here : (rs : List Region) (old now : List Content) (addr : ℕ) (bytes : List ℕ) (at : ℕ) (rest : List ℕ) (b : Bool) → b ≡ eqb (length rest) 0 → b ≡ false → WritesSo rs old now addr bytes at rest → covers rs addr (length bytes) ≡ true → region_of rs at ≡ None → ⊥
write_here rs old now addr bytes at rest b e h so all none =
    let some : length rest ≡ 0 → ⊥ = eqb-false (length rest) 0 (sym e ∙ h) in
    let is : is_some (region_of rs at) ≡ true = covers_at rs addr (length bytes) at all so.past (omega (arith, so.split)) in
    true≢false (sym is ∙ ap is_some none)
