-- The cells that bytes and bits stand for, after a change of both.
use Rattle.std.proofs.Common.{◌≡◌, ℕ, ◌+◌, ◌-◌, ◌<◌, ◌≤◌, ◌⊎◌, Bool, true, false, cond, List, length, max, get_or, refl, sym, ap, ap₂, ◌∙◌, arith, inl, inr, nat_le, nat_lt, ◌&&◌, map, take, drop, lt-ltb}
use Rattle.std.proofs.lemmas.List.{get_or-map, get_or-take, length-map, ext_get_or}
use Rattle.std.proofs.lemmas.Grind.{common_steps}
use Rattle.std.proofs.lemmas.Bool.{cases_lt}
use Rattle.vub_sparse.specs.Cells.{Cell, Hole, Byte, cell_at, tabulated, replaced_at, replaced, resized, covered, byte_of, is_hole, bytes_from}
use Rattle.vub_sparse.specs.Holes.{hole_bit, cell_of, cells_of, Marked, Put, Sound}
use Rattle.vub_sparse.proofs.CellLemmas.{length-tabulated, cell_at-tabulated, is_tabulated, tabulated_same, replaced_at-inside, replaced_at-before, replaced_at-after, same_cells, cell_at-replaced, length-replaced, past_end, covered_some}

pub length-cells_of : (bytes words : List ℕ) → length (cells_of bytes words) ≡ length bytes
length-cells_of bytes words = length-tabulated (length bytes) (cell_of bytes words)

-- a cell by its bit and its byte
same_cell : (bit other : Bool) (byte another : ℕ) → bit ≡ other → byte ≡ another → cond bit Hole (Byte byte) ≡ cond other Hole (Byte another)
same_cell bit other byte another bits bytes = ap₂ (λ b n. cond b Hole (Byte n)) bits bytes

-- only the bits of the cells count
pub same_cells_of : (bytes words others : List ℕ) → ((k : ℕ) → k < length bytes → hole_bit others k ≡ hole_bit words k) → cells_of bytes others ≡ cells_of bytes words
same_cells_of bytes words others same =
    tabulated_same (length bytes) (cell_of bytes others) (cell_of bytes words)
    (λ k h. same_cell (hole_bit others k) (hole_bit words k) (get_or bytes k 0) (get_or bytes k 0) (same k h) refl)

-- a file that reaches so far already
pub resized_same : (cells : List Cell) (n : ℕ) → n ≡ length cells → cells ≡ resized n cells
unfolding resized
resized_same cells n long = is_tabulated cells n (cell_at cells) (sym long) (λ k h. refl)

grown_cell : (b b' w w' : List ℕ) (k : ℕ) → (k < length b) ⊎ (length b ≤ k) →
    (k < length b → hole_bit w' k ≡ hole_bit w k) → (k < length b → get_or b' k 0 ≡ get_or b k 0) → (length b ≤ k → hole_bit w' k ≡ true) →
    cell_of b' w' k ≡ cell_at (cells_of b w) k
grown_cell b b' w w' k (inl old) bits bytes holes =
    same_cell (hole_bit w' k) (hole_bit w k) (get_or b' k 0) (get_or b k 0) (bits old) (bytes old) ∙ sym (cell_at-tabulated (length b) (cell_of b w) k old)
grown_cell b b' w w' k (inr past) bits bytes holes =
    ap (λ bit. cond bit Hole (Byte (get_or b' k 0))) (holes past) ∙ sym (past_end (cells_of b w) k (omega (arith, length-cells_of b w)))

-- the old bytes and bits stay, and the new bits are holes
pub grown : (b b' w w' : List ℕ) (end : ℕ) → length b ≤ end → length b' ≡ end →
    ((k : ℕ) → k < length b → hole_bit w' k ≡ hole_bit w k) → ((k : ℕ) → k < length b → get_or b' k 0 ≡ get_or b k 0) → ((k : ℕ) → length b ≤ k → k < end → hole_bit w' k ≡ true) →
    cells_of b' w' ≡ resized (max (length b) end) (cells_of b w)
unfolding resized
grown b b' w w' end order long bits bytes holes =
    let same : max (length b) end ≡ length b' = omega (arith, long) in
    rw same
    (tabulated_same (length b') (cell_of b' w') (cell_at (cells_of b w))
    (λ k h. grown_cell b b' w w' k (cases_lt k (length b)) (bits k) (bytes k) (λ past. holes k past (omega (arith, long)))))

put_cell : (b b' w w' : List ℕ) (offset count : ℕ) (f : ℕ → ℕ) (hole : Bool) (k : ℕ) → Put b b' offset count f → Marked w w' offset (offset + count) hole → k < length b →
    cell_of b' w' k ≡ replaced_at offset count (λ i. cond hole Hole (Byte (f i))) (cells_of b w) k
put_cell b b' w w' offset count f hole k bytes bits within =
    let old = cell_at-tabulated (length b) (cell_of b w) k within in
    elim (cases_lt k offset) [
      | inl before ↦
          same_cell (hole_bit w' k) (hole_bit w k) (get_or b' k 0) (get_or b k 0) (bits.before k before) (bytes.before k before)
          ∙ sym (replaced_at-before offset count (λ i. cond hole Hole (Byte (f i))) (cells_of b w) k before ∙ old)
      | inr from ↦ elim (cases_lt k (offset + count)) [
        | inl to ↦
            same_cell (hole_bit w' k) hole (get_or b' k 0) (f (k - offset)) (bits.inside k from to) (bytes.inside k from to)
            ∙ sym (replaced_at-inside offset count (λ i. cond hole Hole (Byte (f i))) (cells_of b w) k from to)
        | inr after ↦
            same_cell (hole_bit w' k) (hole_bit w k) (get_or b' k 0) (get_or b k 0) (bits.after k after) (bytes.after k after)
            ∙ sym (replaced_at-after offset count (λ i. cond hole Hole (Byte (f i))) (cells_of b w) k after ∙ old)
      ]
    ]

-- the bytes and the bits of a range inside the file were set
pub put_cells : (b b' w w' : List ℕ) (offset count : ℕ) (f : ℕ → ℕ) (hole : Bool) → Put b b' offset count f → Marked w w' offset (offset + count) hole → offset + count ≤ length b →
    cells_of b' w' ≡ replaced offset count (λ i. cond hole Hole (Byte (f i))) (cells_of b w)
unfolding replaced
put_cells b b' w w' offset count f hole bytes bits inside =
    let same : max (length (cells_of b w)) (offset + count) ≡ length b' = omega (arith, length-cells_of b w, bytes.long) in
    rw same
    (tabulated_same (length b') (cell_of b' w') (replaced_at offset count (λ i. cond hole Hole (Byte (f i))) (cells_of b w))
    (λ k h. put_cell b b' w w' offset count f hole k bytes bits (omega (arith, bytes.long))))

pub length-resized : (n : ℕ) (cells : List Cell) → length (resized n cells) ≡ n
unfolding resized
length-resized n cells = length-tabulated n (cell_at cells)

-- what grows has the same cells at each place, also past the end
cell_at-resized : (n : ℕ) (cells : List Cell) (k : ℕ) → length cells ≤ n → cell_at (resized n cells) k ≡ cell_at cells k
unfolding resized
cell_at-resized n cells k grows =
    elim (cases_lt k n) [
      | inl within ↦ cell_at-tabulated n (cell_at cells) k within
      | inr past ↦ past_end (tabulated n (cell_at cells)) k (rw (length-tabulated n (cell_at cells)) past) ∙ sym (past_end cells k (omega arith))
    ]

replaced_at-resized : (offset count : ℕ) (f : ℕ → Cell) (cells : List Cell) (n k : ℕ) → length cells ≤ n → replaced_at offset count f (resized n cells) k ≡ replaced_at offset count f cells k
replaced_at-resized offset count f cells n k grows =
    ap (λ c. cond (nat_le offset k && nat_lt k (offset + count)) (f (k - offset)) c) (cell_at-resized n cells k grows)

-- a file that was let grow to the range's end first is left the same
pub replaced-resized : (offset count : ℕ) (f : ℕ → Cell) (cells : List Cell) (n : ℕ) → n ≡ max (length cells) (offset + count) → replaced offset count f (resized n cells) ≡ replaced offset count f cells
replaced-resized offset count f cells n is =
    same_cells (replaced offset count f (resized n cells)) (replaced offset count f cells)
    (length-replaced offset count f (resized n cells) ∙ (rw (length-resized n cells) (omega (arith, is))) ∙ sym (length-replaced offset count f cells))
    (λ k. cell_at-replaced offset count f (resized n cells) k ∙ replaced_at-resized offset count f cells n k (omega (arith, is)) ∙ sym (cell_at-replaced offset count f cells k))

pub bytes_only : (bytes words : List ℕ) → ((k : ℕ) → k < length bytes → hole_bit words k ≡ false) → cells_of bytes words ≡ map (λ b. Byte b) bytes
bytes_only bytes words none =
    sym (is_tabulated (map (λ b. Byte b) bytes) (length bytes) (cell_of bytes words) (length-map bytes (λ b. Byte b))
    (λ k h. get_or-map (λ b. Byte b) bytes k 0 Hole h ∙ sym (ap (λ bit. cond bit Hole (Byte (get_or bytes k 0))) (none k h))))

-- a hole is read as 0, which is the byte behind it
byte_read : (bytes words : List ℕ) (k : ℕ) (bit : Bool) → hole_bit words k ≡ bit → (bit ≡ true → get_or bytes k 0 ≡ 0) → byte_of (cond bit Hole (Byte (get_or bytes k 0))) ≡ get_or bytes k 0
byte_read bytes words k true is clean = sym (clean refl)
byte_read bytes words k false is clean = refl

pub bytes_read : (bytes words : List ℕ) → Sound bytes words → map byte_of (cells_of bytes words) ≡ bytes
bytes_read bytes words sound =
    let long : length (map byte_of (cells_of bytes words)) ≡ length bytes = length-map (cells_of bytes words) byte_of ∙ length-cells_of bytes words in
    ext_get_or 0 (map byte_of (cells_of bytes words)) bytes long
    (λ k h. get_or-map byte_of (cells_of bytes words) k Hole 0 (omega (arith, long, length-cells_of bytes words))
    ∙ ap byte_of (cell_at-tabulated (length bytes) (cell_of bytes words) k (omega (arith, long)))
    ∙ byte_read bytes words k (hole_bit words k) refl (λ is. sound.clean k is (omega (arith, long))))

pub covered_grown : (offset count : ℕ) (f : ℕ → Cell) (cells grown done : List Cell) (n : ℕ) → 0 < count → n ≡ max (length cells) (offset + count) → grown ≡ resized n cells → done ≡ replaced offset count f grown → done ≡ covered offset count f cells
covered_grown offset count f cells grown done n some is grows puts =
    puts ∙ ap (λ cs. replaced offset count f cs) grows ∙ replaced-resized offset count f cells n is ∙ sym (covered_some offset count f cells some)

-- the first cells of a file
pub cut : (bytes words : List ℕ) (n : ℕ) → n ≤ length bytes → cells_of (take n bytes) words ≡ resized n (cells_of bytes words)
unfolding resized
cut bytes words n fits =
    let short : length (take n bytes) ≡ n = grind (arith, common_steps) in
    rw short (tabulated_same n (cell_of (take n bytes) words) (cell_at (cells_of bytes words))
    (λ k h. same_cell (hole_bit words k) (hole_bit words k) (get_or (take n bytes) k 0) (get_or bytes k 0) refl (get_or-take n bytes k 0 h)
    ∙ sym (cell_at-tabulated (length bytes) (cell_of bytes words) k (omega arith))))

-- what a file in memory answers of its cells
pub length_told : (bytes words : List ℕ) (cells : List Cell) → cells ≡ cells_of bytes words → length cells ≡ length bytes
length_told bytes words cells is = ap length is ∙ length-cells_of bytes words

hole_of_bit : (bit : Bool) (n : ℕ) → is_hole (cond bit Hole (Byte n)) ≡ bit
hole_of_bit true n = refl
hole_of_bit false n = refl

pub hole_told : (bytes words : List ℕ) (cells : List Cell) (k : ℕ) (b : Bool) → cells ≡ cells_of bytes words → k < length cells → b ≡ hole_bit words k → b ≡ (nat_lt k (length cells) && is_hole (cell_at cells k))
hole_told bytes words cells k b is within answer =
    let inside : k < length bytes = omega (arith, length_told bytes words cells is) in
    let cell : cell_at cells k ≡ cell_of bytes words k = ap (λ cs. cell_at cs k) is ∙ cell_at-tabulated (length bytes) (cell_of bytes words) k inside in
    let test : nat_lt k (length cells) ≡ true = lt-ltb k (length cells) within in
    answer ∙ sym (ap₂ (λ a c. a && is_hole c) test cell ∙ hole_of_bit (hole_bit words k) (get_or bytes k 0))

pub read_told : (bytes words : List ℕ) (cells : List Cell) (offset most : ℕ) → cells ≡ cells_of bytes words → Sound bytes words → take most (drop offset bytes) ≡ bytes_from offset most cells
unfolding bytes_from
read_told bytes words cells offset most is sound =
    ap (λ bs. take most (drop offset bs)) (sym (ap (λ cs. map byte_of cs) is ∙ bytes_read bytes words sound))
