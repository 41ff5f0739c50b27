-- What the calls of a file make of a disk's sectors.
use Rattle.std.proofs.Common.{◌≡◌, ℕ, zero, suc, ◌+◌, ◌-◌, ◌*◌, ◌/◌, ◌%◌, ◌<◌, ◌≤◌, Bool, true, false, nat_lt, lt-ltb, ◌&&◌, List, [], ◌++◌, length, map, take, drop, replicate, get_or, sym, ap, ◌∙◌, arith, inl, inr, add-zero, length-append, length-drop, length-take}
use Rattle.std.proofs.lemmas.List.{take-append-drop, length-replicate, drop-map, take-map, get_or-map, get_or-replicate, length-map, length-take-le, append-nil, nil_from_length, get_or-take, get_or-drop, get_or_append_left, get_or-append_right, ext_get_or}
use Rattle.std.proofs.lemmas.List.FromFn.{fill_by_all}
use Rattle.std.proofs.lemmas.Bool.{cases_lt}
use Rattle.std.specs.List.{list_all, flat_map}
use Rattle.std.specs.Simd.{first_chunks}
use Rattle.vub_sparse.specs.Cells.{Cell, Hole, Byte, byte_of, is_hole, cell_at, blank, bytes_from, covered, written, set, inside, resized, replaced as cells_replaced}
use Rattle.vub_sparse.proofs.CellLemmas.{length-replaced, cell_at-replaced, replaced_at-inside, replaced_at-before, replaced_at-after}
use Rattle.vub_block.specs.Disk.{AreWhole, sectors_of, blank_sectors, bytes_of, replaced, is_hole_sector}
use Rattle.vub_block.proofs.Chunks.{length-first_chunks, first_chunks-splice, first_chunks-replicate, flat_map-first_chunks, first_chunks-whole, get_or-first_chunks, take-first_chunks, drop-first_chunks}

-- cells in the place of as many others
splice : ℕ → List Cell → List Cell → List Cell
splice offset new cells = take offset cells ++ new ++ drop (offset + length new) cells

length-splice : (offset : ℕ) (new cells : List Cell) → offset + length new ≤ length cells → length (splice offset new cells) ≡ length cells
unfolding splice
length-splice offset new cells fits =
    omega (arith, length-append (take offset cells ++ new) (drop (offset + length new) cells), length-append (take offset cells) new, length-take offset cells, length-drop (offset + length new) cells)

front_long : (offset : ℕ) (new cells : List Cell) → offset + length new ≤ length cells → length (take offset cells ++ new) ≡ offset + length new
front_long offset new cells fits = length-append (take offset cells) new ∙ ap (λ n. n + length new) (length-take-le offset cells (omega arith))

splice_before : (offset : ℕ) (new cells : List Cell) (k : ℕ) → offset + length new ≤ length cells → k < offset → cell_at (splice offset new cells) k ≡ cell_at cells k
unfolding splice
splice_before offset new cells k fits before =
    let front : length (take offset cells) ≡ offset = length-take-le offset cells (omega arith) in
    get_or_append_left (take offset cells ++ new) (drop (offset + length new) cells) Hole k (omega (arith, front_long offset new cells fits))
    ∙ get_or_append_left (take offset cells) new Hole k (omega (arith, front))
    ∙ get_or-take offset cells k Hole before

splice_inside : (offset : ℕ) (new cells : List Cell) (k : ℕ) → offset + length new ≤ length cells → offset ≤ k → k < offset + length new → cell_at (splice offset new cells) k ≡ cell_at new (k - offset)
unfolding splice
splice_inside offset new cells k fits from below =
    get_or_append_left (take offset cells ++ new) (drop (offset + length new) cells) Hole k (omega (arith, front_long offset new cells fits))
    ∙ get_or-append_right (take offset cells) new offset k Hole (length-take-le offset cells (omega arith)) from

splice_after : (offset : ℕ) (new cells : List Cell) (k : ℕ) → offset + length new ≤ length cells → offset + length new ≤ k → cell_at (splice offset new cells) k ≡ cell_at cells k
unfolding splice
splice_after offset new cells k fits past =
    let here : offset + length new + (k - (offset + length new)) ≡ k = omega arith in
    get_or-append_right (take offset cells ++ new) (drop (offset + length new) cells) (offset + length new) k Hole (front_long offset new cells fits) past
    ∙ get_or-drop (offset + length new) cells (k - (offset + length new)) Hole
    ∙ ap (λ j. get_or cells j Hole) here

-- a range inside the file is replaced
replaced_splice : (offset count : ℕ) (f : ℕ → Cell) (new cells : List Cell) → offset + count ≤ length cells → length new ≡ count → ((k : ℕ) → k < count → f k ≡ cell_at new k) →
    cells_replaced offset count f cells ≡ splice offset new cells
replaced_splice offset count f new cells fits long same =
    let fits_new : offset + length new ≤ length cells = omega (arith, long) in
    ext_get_or Hole (cells_replaced offset count f cells) (splice offset new cells)
    (length-replaced offset count f cells ∙ omega (arith, fits) ∙ sym (length-splice offset new cells fits_new))
    (λ k h. cell_at-replaced offset count f cells k ∙ elim (cases_lt k offset) [
      | inl before ↦ replaced_at-before offset count f cells k before ∙ sym (splice_before offset new cells k fits_new before)
      | inr from ↦ elim (cases_lt k (offset + count)) [
        | inl to ↦ replaced_at-inside offset count f cells k from to ∙ same (k - offset) (omega arith) ∙ sym (splice_inside offset new cells k fits_new from (omega (arith, long)))
        | inr past ↦ replaced_at-after offset count f cells k past ∙ sym (splice_after offset new cells k fits_new (omega (arith, long)))
      ]
    ])

nothing_spliced : (offset : ℕ) (cells : List Cell) → splice offset [] cells ≡ cells
unfolding splice
nothing_spliced offset cells =
    simp add-zero (ap (λ l. l ++ drop offset cells) (append-nil (take offset cells)) ∙ take-append-drop offset cells)

covered_splice : (offset count : ℕ) (f : ℕ → Cell) (new cells : List Cell) → offset + count ≤ length cells → length new ≡ count → ((k : ℕ) → k < count → f k ≡ cell_at new k) →
    covered offset count f cells ≡ splice offset new cells
covered_splice offset zero f new cells fits long same =
    let none : new ≡ [] = nil_from_length new long in
    rw none (sym (nothing_spliced offset cells))
covered_splice offset (suc n) f new cells fits long same = replaced_splice offset (suc n) f new cells fits long same

written_splice : (offset : ℕ) (payload : List ℕ) (cells : List Cell) → offset + length payload ≤ length cells → written offset payload cells ≡ splice offset (map Byte payload) cells
written_splice offset payload cells fits =
    covered_splice offset (length payload) (λ k. Byte (get_or payload k 0)) (map Byte payload) cells fits (length-map payload Byte)
    (λ k h. sym (get_or-map Byte payload k 0 Hole h))

set_splice : (offset count : ℕ) (hole : Bool) (cells : List Cell) → offset + count ≤ length cells → set offset count hole true cells ≡ splice offset (replicate count (blank hole)) cells
set_splice offset count hole cells fits =
    let whole : inside (length cells) offset count ≡ count = omega arith in
    ap (λ n. covered offset n (λ k. blank hole) cells) whole
    ∙ covered_splice offset count (λ k. blank hole) (replicate count (blank hole)) cells fits (length-replicate count (blank hole))
    (λ k h. sym (get_or-replicate count k (blank hole) Hole h))

-- whole sectors
abbrev IsWhole : List Cell → Type 0
IsWhole cells = 512 * (length cells / 512) ≡ length cells

pub count_sectors : (cells : List Cell) → length (sectors_of cells) ≡ length cells / 512
unfolding sectors_of
count_sectors cells = length-first_chunks 512 (length cells / 512) cells

pub sectors_whole : (cells : List Cell) → AreWhole (sectors_of cells)
unfolding sectors_of
sectors_whole cells = first_chunks-whole 512 (length cells / 512) cells (omega arith)

sectors_spliced : (s : ℕ) (new cells : List Cell) → IsWhole cells → IsWhole new → s + length new / 512 ≤ length cells / 512 →
    sectors_of (splice (512 * s) new cells) ≡ replaced s (sectors_of new) (sectors_of cells)
unfolding sectors_of replaced splice
sectors_spliced s new cells whole whole_new fits =
    let long : length (splice (512 * s) new cells) ≡ length cells = length-splice (512 * s) new cells (omega (arith, whole, whole_new, fits)) in
    ap (λ n. first_chunks 512 (n / 512) (splice (512 * s) new cells)) long
    ∙ ap (λ n. first_chunks 512 (length cells / 512) (take (512 * s) cells ++ new ++ drop (512 * s + n) cells)) (sym whole_new)
    ∙ first_chunks-splice 512 (length cells / 512) s (length new / 512) cells new (sym whole) (sym whole_new) fits
    ∙ ap (λ m. take s (first_chunks 512 (length cells / 512) cells) ++ first_chunks 512 (length new / 512) new ++ drop (s + m) (first_chunks 512 (length cells / 512) cells))
    (sym (length-first_chunks 512 (length new / 512) new))

-- whole sectors of payload are written
pub sectors_written : (s : ℕ) (payload : List ℕ) (cells : List Cell) → IsWhole cells → length payload % 512 ≡ 0 → s + length payload / 512 ≤ length (sectors_of cells) →
    sectors_of (written (512 * s) payload cells) ≡ replaced s (sectors_of (map Byte payload)) (sectors_of cells)
sectors_written s payload cells whole whole_data fits =
    let long : length (map Byte payload) ≡ length payload = length-map payload Byte in
    ap sectors_of (written_splice (512 * s) payload cells (omega (arith, whole, whole_data, fits, count_sectors cells)))
    ∙ sectors_spliced s (map Byte payload) cells whole (rw long (omega (arith, whole_data))) (rw long (omega (arith, fits, count_sectors cells)))

pub length-written : (s : ℕ) (payload : List ℕ) (cells : List Cell) → IsWhole cells → length payload % 512 ≡ 0 → s + length payload / 512 ≤ length (sectors_of cells) →
    length (written (512 * s) payload cells) ≡ length cells
length-written s payload cells whole whole_data fits =
    let within : 512 * s + length payload ≤ length cells = omega (arith, whole, whole_data, fits, count_sectors cells) in
    ap length (written_splice (512 * s) payload cells within)
    ∙ length-splice (512 * s) (map Byte payload) cells (rw (length-map payload Byte) within)

-- whole sectors are made holes or bytes 0
pub sectors_blank : (count : ℕ) (hole : Bool) → sectors_of (replicate (512 * count) (blank hole)) ≡ blank_sectors count hole
unfolding sectors_of blank_sectors
sectors_blank count hole =
    let n : length (replicate (512 * count) (blank hole)) / 512 ≡ count = rw (length-replicate (512 * count) (blank hole)) (omega arith) in
    ap (λ k. first_chunks 512 k (replicate (512 * count) (blank hole))) n
    ∙ first_chunks-replicate 512 count (blank hole)

pub sectors_set : (s count : ℕ) (hole : Bool) (cells : List Cell) → IsWhole cells → s + count ≤ length (sectors_of cells) →
    sectors_of (set (512 * s) (512 * count) hole true cells) ≡ replaced s (blank_sectors count hole) (sectors_of cells)
sectors_set s count hole cells whole fits =
    let long : length (replicate (512 * count) (blank hole)) ≡ 512 * count = length-replicate (512 * count) (blank hole) in
    ap sectors_of (set_splice (512 * s) (512 * count) hole cells (omega (arith, whole, fits, count_sectors cells)))
    ∙ sectors_spliced s (replicate (512 * count) (blank hole)) cells whole (rw long (omega arith)) (rw long (omega (arith, fits, count_sectors cells)))
    ∙ ap (λ ss. replaced s ss (sectors_of cells)) (sectors_blank count hole)

pub length-set_sectors : (s count : ℕ) (hole : Bool) (cells : List Cell) → IsWhole cells → s + count ≤ length (sectors_of cells) →
    length (set (512 * s) (512 * count) hole true cells) ≡ length cells
length-set_sectors s count hole cells whole fits =
    let within : 512 * s + 512 * count ≤ length cells = omega (arith, whole, fits, count_sectors cells) in
    ap length (set_splice (512 * s) (512 * count) hole cells within)
    ∙ length-splice (512 * s) (replicate (512 * count) (blank hole)) cells (rw (length-replicate (512 * count) (blank hole)) within)

-- whole sectors are read
pub sectors_read : (s count : ℕ) (cells : List Cell) → s + count ≤ length (sectors_of cells) → bytes_from (512 * s) (512 * count) cells ≡ bytes_of s count (sectors_of cells)
unfolding bytes_from bytes_of sectors_of
sectors_read s count cells fits =
    let n : ℕ = length cells / 512 - s in
    let parts : length cells / 512 ≡ s + n = omega (arith, fits, count_sectors cells) in
    let some : count ≤ n = omega (arith, fits, count_sectors cells) in
    let front : take count (drop s (first_chunks 512 (length cells / 512) cells)) ≡ first_chunks 512 count (drop (512 * s) cells) =
    ap (λ k. take count (drop s (first_chunks 512 k cells))) parts
    ∙ ap (take count) (drop-first_chunks 512 s n cells)
    ∙ take-first_chunks 512 count n (drop (512 * s) cells) some in
    ap (take (512 * count)) (drop-map byte_of (512 * s) cells)
    ∙ take-map byte_of (512 * count) (drop (512 * s) cells)
    ∙ sym (flat_map-first_chunks byte_of 512 count (drop (512 * s) cells))
    ∙ ap (flat_map (map byte_of)) (sym front)

-- a sector's cells
pub sector_at : (s : ℕ) (cells : List Cell) → s < length (sectors_of cells) → get_or (sectors_of cells) s [] ≡ take 512 (drop (512 * s) cells)
unfolding sectors_of
sector_at s cells h = get_or-first_chunks 512 (length cells / 512) s cells [] (omega (arith, h, count_sectors cells)) []

all_holes : (n : ℕ) → resized n [] ≡ replicate n Hole
unfolding resized
all_holes n = sym (fill_by_all (cell_at []) (replicate n Hole) n Hole (length-replicate n Hole) (λ k h. get_or-replicate n k Hole Hole h))

-- a new file has whole sectors of holes
pub sectors_new : (count : ℕ) → sectors_of (resized (512 * count) []) ≡ blank_sectors count true
sectors_new count = ap sectors_of (all_holes (512 * count)) ∙ sectors_blank count true

pub length-new : (n : ℕ) → length (resized n []) ≡ n
length-new n = ap length (all_holes n) ∙ length-replicate n Hole

-- a sector is a hole where all its cells are
pub hole_at : (s : ℕ) (cells : List Cell) (found : Bool) → s < length (sectors_of cells) → found ≡ list_all is_hole (take 512 (drop (512 * s) cells)) → found ≡ is_hole_sector (sectors_of cells) s
unfolding is_hole_sector
hole_at s cells found here is =
    let inside : nat_lt s (length (sectors_of cells)) ≡ true = lt-ltb s (length (sectors_of cells)) here in
    is ∙ ap (list_all is_hole) (sym (sector_at s cells here)) ∙ sym (ap (λ b. b && list_all is_hole (get_or (sectors_of cells) s [])) inside)

pub none_past : (s : ℕ) (cells : List Cell) (b : Bool) → nat_lt s (length (sectors_of cells)) ≡ false → b ≡ false → b ≡ is_hole_sector (sectors_of cells) s
unfolding is_hole_sector
none_past s cells b past is = is ∙ sym (ap (λ c. c && list_all is_hole (get_or (sectors_of cells) s [])) past)
