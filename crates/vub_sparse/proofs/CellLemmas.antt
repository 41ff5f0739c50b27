-- Lists of cells by their places.
use Rattle.std.proofs.Common.{◌≡◌, ℕ, ◌+◌, ◌-◌, ◌<◌, ◌≤◌, zero, suc, add-zero, zero-add, Result, Ok, Err, IfOk, Option, Bool, true, false, List, length, take, replicate, max, get_or, cond, refl, sym, ap, ◌∙◌, arith, inl, inr}
use Rattle.std.proofs.lemmas.List.FromFn.{length-map-range_with_len, get_or-map-range_with_len, fill_by_all}
use Rattle.std.proofs.lemmas.List.{get_or-take, get_or-replicate}
use Rattle.std.proofs.lemmas.Bool.{cases_lt}
use Rattle.std.proofs.lemmas.Grind.{common_steps}
use Rattle.vub_base.specs.Told.{Told}
use Rattle.vub_sparse.proofs.ToldLemmas.{told_so, told_then}
use Rattle.vub_sparse.specs.Cells.{Cell, Hole, Byte, cell_at, tabulated, replaced_at, replaced, covered, written, zeroed, inside}

pub length-tabulated : (n : ℕ) (f : ℕ → Cell) → length (tabulated n f) ≡ n
length-tabulated n f = length-map-range_with_len f 0 n

pub cell_at-tabulated : (n : ℕ) (f : ℕ → Cell) (k : ℕ) → k < n → cell_at (tabulated n f) k ≡ f k
cell_at-tabulated n f k h = get_or-map-range_with_len f 0 n k k Hole h (omega arith)

-- a list with n cells that are what the function says is that list
pub is_tabulated : (cells : List Cell) (n : ℕ) (f : ℕ → Cell) → length cells ≡ n → ((k : ℕ) → k < n → cell_at cells k ≡ f k) → cells ≡ tabulated n f
is_tabulated cells n f long same = fill_by_all f cells n Hole long same

pub tabulated_same : (n : ℕ) (f g : ℕ → Cell) → ((k : ℕ) → k < n → f k ≡ g k) → tabulated n f ≡ tabulated n g
tabulated_same n f g same = is_tabulated (tabulated n f) n g (length-tabulated n f) (λ k h. cell_at-tabulated n f k h ∙ same k h)

pub replaced_at-inside : (offset count : ℕ) (f : ℕ → Cell) (cells : List Cell) (k : ℕ) → offset ≤ k → k < offset + count → replaced_at offset count f cells k ≡ f (k - offset)
replaced_at-inside offset count f cells k from below = grind (arith, common_steps)

pub replaced_at-before : (offset count : ℕ) (f : ℕ → Cell) (cells : List Cell) (k : ℕ) → k < offset → replaced_at offset count f cells k ≡ cell_at cells k
replaced_at-before offset count f cells k before = grind (arith, common_steps)

pub replaced_at-after : (offset count : ℕ) (f : ℕ → Cell) (cells : List Cell) (k : ℕ) → offset + count ≤ k → replaced_at offset count f cells k ≡ cell_at cells k
replaced_at-after offset count f cells k after = grind (arith, common_steps)

pub length-replaced : (offset count : ℕ) (f : ℕ → Cell) (cells : List Cell) → length (replaced offset count f cells) ≡ max (length cells) (offset + count)
unfolding replaced
length-replaced offset count f cells = length-tabulated _ _

pub past_end : (cells : List Cell) (k : ℕ) → length cells ≤ k → cell_at cells k ≡ Hole
past_end cells k past = grind (arith, common_steps)

-- also past the end, where there is nothing but holes
pub cell_at-replaced : (offset count : ℕ) (f : ℕ → Cell) (cells : List Cell) (k : ℕ) → cell_at (replaced offset count f cells) k ≡ replaced_at offset count f cells k
unfolding replaced
cell_at-replaced offset count f cells k =
    elim (cases_lt k (max (length cells) (offset + count))) [
      | inl within ↦ cell_at-tabulated _ _ k within
      | inr past ↦
          past_end (tabulated (max (length cells) (offset + count)) (replaced_at offset count f cells)) k (rw (length-tabulated (max (length cells) (offset + count)) (replaced_at offset count f cells)) past)
          ∙ sym (replaced_at-after offset count f cells k (omega arith) ∙ past_end cells k (omega arith))
    ]

-- only what the function says of places in the range counts
replaced_at_same : (offset count : ℕ) (f g : ℕ → Cell) (cells : List Cell) (k : ℕ) → ((j : ℕ) → j < count → f j ≡ g j) → replaced_at offset count f cells k ≡ replaced_at offset count g cells k
replaced_at_same offset count f g cells k same =
    elim (cases_lt k offset) [
      | inl before ↦ replaced_at-before offset count f cells k before ∙ sym (replaced_at-before offset count g cells k before)
      | inr from ↦ elim (cases_lt k (offset + count)) [
        | inl inside ↦ replaced_at-inside offset count f cells k from inside ∙ same (k - offset) (omega arith) ∙ sym (replaced_at-inside offset count g cells k from inside)
        | inr after ↦ replaced_at-after offset count f cells k after ∙ sym (replaced_at-after offset count g cells k after)
      ]
    ]

pub replaced_same : (offset count : ℕ) (f g : ℕ → Cell) (cells : List Cell) → ((k : ℕ) → k < count → f k ≡ g k) → replaced offset count f cells ≡ replaced offset count g cells
unfolding replaced
replaced_same offset count f g cells same = tabulated_same _ _ _ (λ k h. replaced_at_same offset count f g cells k same)

-- two lists with as many cells, which agree at each place, are one
pub same_cells : (xs ys : List Cell) → length xs ≡ length ys → ((k : ℕ) → cell_at xs k ≡ cell_at ys k) → xs ≡ ys
same_cells xs ys long same =
    is_tabulated xs (length ys) (cell_at ys) long (λ k h. same k) ∙ sym (is_tabulated ys (length ys) (cell_at ys) refl (λ k h. refl))

-- bytes 0 after others are bytes 0
more_zeroes_at : (offset m k : ℕ) (cells : List Cell) (p : ℕ) →
    replaced_at (offset + m) k (λ i. Byte 0) (replaced offset m (λ i. Byte 0) cells) p ≡ replaced_at offset (m + k) (λ i. Byte 0) cells p
more_zeroes_at offset m k cells p =
    elim (cases_lt p (offset + m)) [
      | inl early ↦
          replaced_at-before (offset + m) k (λ i. Byte 0) (replaced offset m (λ i. Byte 0) cells) p early
          ∙ cell_at-replaced offset m (λ i. Byte 0) cells p
          ∙ elim (cases_lt p offset) [
            | inl before ↦ replaced_at-before offset m (λ i. Byte 0) cells p before ∙ sym (replaced_at-before offset (m + k) (λ i. Byte 0) cells p before)
            | inr from ↦ replaced_at-inside offset m (λ i. Byte 0) cells p from early ∙ sym (replaced_at-inside offset (m + k) (λ i. Byte 0) cells p from (omega arith))
          ]
      | inr late ↦ elim (cases_lt p (offset + m + k)) [
        | inl inside ↦ replaced_at-inside (offset + m) k (λ i. Byte 0) (replaced offset m (λ i. Byte 0) cells) p late inside ∙ sym (replaced_at-inside offset (m + k) (λ i. Byte 0) cells p (omega arith) (omega arith))
        | inr after ↦
            replaced_at-after (offset + m) k (λ i. Byte 0) (replaced offset m (λ i. Byte 0) cells) p after
            ∙ cell_at-replaced offset m (λ i. Byte 0) cells p
            ∙ replaced_at-after offset m (λ i. Byte 0) cells p late
            ∙ sym (replaced_at-after offset (m + k) (λ i. Byte 0) cells p (omega arith))
      ]
    ]

pub covered_some : (offset n : ℕ) (f : ℕ → Cell) (cells : List Cell) → 0 < n → covered offset n f cells ≡ replaced offset n f cells
covered_some offset zero f cells some = absurd (omega arith)
covered_some offset (suc n) f cells some = refl

more_zeroes : (offset m k : ℕ) (cells : List Cell) →
    replaced (offset + m) k (λ i. Byte 0) (replaced offset m (λ i. Byte 0) cells) ≡ replaced offset (m + k) (λ i. Byte 0) cells
more_zeroes offset m k cells =
    same_cells _ _
    (length-replaced (offset + m) k (λ i. Byte 0) (replaced offset m (λ i. Byte 0) cells)
    ∙ (rw (length-replaced offset m (λ i. Byte 0) cells) (omega arith))
    ∙ sym (length-replaced offset (m + k) (λ i. Byte 0) cells))
    (λ p. cell_at-replaced (offset + m) k (λ i. Byte 0) (replaced offset m (λ i. Byte 0) cells) p
    ∙ more_zeroes_at offset m k cells p
    ∙ sym (cell_at-replaced offset (m + k) (λ i. Byte 0) cells p))

pub zeroed_more : (offset m k : ℕ) (cells : List Cell) → zeroed (offset + m) k (zeroed offset m cells) ≡ zeroed offset (m + k) cells
zeroed_more offset zero k cells = simp (add-zero, zero-add)
zeroed_more offset (suc m) zero cells = simp add-zero
zeroed_more offset (suc m) (suc k) cells =
    more_zeroes offset (suc m) (suc k) cells ∙ sym (covered_some offset (suc m + suc k) (λ i. Byte 0) cells (omega arith))

-- bytes 0 that were written
pub written_zeroes : (offset : ℕ) (bytes : List ℕ) (cells : List Cell) → ((k : ℕ) → k < length bytes → get_or bytes k 0 ≡ 0) → written offset bytes cells ≡ zeroed offset (length bytes) cells
written_zeroes offset bytes cells zeroes =
    by_length (length bytes) (λ k h. ap Byte (zeroes k h))
  where
    by_length : (n : ℕ) → ((k : ℕ) → k < n → Byte (get_or bytes k 0) ≡ Byte 0) → covered offset n (λ k. Byte (get_or bytes k 0)) cells ≡ covered offset n (λ k. Byte 0) cells
    by_length zero same = refl
    by_length (suc n) same = replaced_same offset (suc n) (λ k. Byte (get_or bytes k 0)) (λ k. Byte 0) cells same

zeroes_taken : (bytes : List ℕ) (n : ℕ) → ((k : ℕ) → k < length bytes → get_or bytes k 0 ≡ 0) → n ≤ length bytes → (k : ℕ) → k < length (take n bytes) → get_or (take n bytes) k 0 ≡ 0
zeroes_taken bytes n zeroes fits k h =
    let short : length (take n bytes) ≡ n = grind (arith, common_steps) in
    let inside : k < length bytes = omega (arith, short) in
    let same : get_or (take n bytes) k 0 ≡ get_or bytes k 0 = grind (arith, common_steps) in
    same ∙ zeroes k inside

-- what a write of zero bytes leaves
pub piece_written : {E : Type 0} (r : Result ℕ E) (before now : Option (List Cell)) (offset : ℕ) (bytes : List ℕ) → ((k : ℕ) → k < length bytes → get_or bytes k 0 ≡ 0) →
    IfOk r (λ n. n ≤ length bytes) → IfOk r (λ n. Told before now (λ old new. new ≡ written offset (take n bytes) old)) →
    IfOk r (λ n. Told before now (λ old new. new ≡ zeroed offset n old))
piece_written (Err e) before now offset bytes zeroes fits wrote = tt
piece_written (Ok n) before now offset bytes zeroes fits wrote =
    let short : length (take n bytes) ≡ n = grind (arith, common_steps) in
    told_so before now _ _ (λ old new is. is ∙ written_zeroes offset (take n bytes) old (zeroes_taken bytes n zeroes fits) ∙ ap (λ m. zeroed offset m old) short) wrote

-- the first of some zeroes
pub all_zeroes : (m n k : ℕ) → k < n → n ≤ m → get_or (take n (replicate {A = ℕ} m 0)) k 0 ≡ 0
all_zeroes m n k h fits = get_or-take n (replicate {A = ℕ} m 0) k 0 h ∙ get_or-replicate m k 0 0 (omega arith)

-- zero bytes written after others, where the cells are told
pub told_zeroes : (a b c : Option (List Cell)) (offset m k : ℕ) → Told a b (λ old new. new ≡ zeroed offset m old) → Told b c (λ old new. new ≡ zeroed (offset + m) k old) →
    Told a c (λ old new. new ≡ zeroed offset (m + k) old)
told_zeroes a b c offset m k =
    told_then a b c (λ old new. new ≡ zeroed offset m old) (λ old new. new ≡ zeroed (offset + m) k old) (λ old new. new ≡ zeroed offset (m + k) old)
    (λ x y z first second. second ∙ ap (λ cells. zeroed (offset + m) k cells) first ∙ zeroed_more offset m k x)

-- no more than the range is set
pub within_range : (keep_size : Bool) (length offset count : ℕ) → cond keep_size (inside length offset count) count ≤ count
within_range true length offset count = omega arith
within_range false length offset count = omega arith
