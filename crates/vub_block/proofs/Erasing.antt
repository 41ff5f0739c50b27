-- Sectors that are erased, piece by piece.
use Rattle.std.proofs.Common.{◌≡◌, ℕ, zero, suc, ◌+◌, ◌-◌, ◌<◌, ◌≤◌, Bool, true, false, not, cond, ◌&&◌, ◌||◌, nat_lt, List, ◌∷◌, ◌++◌, length, take, drop, replicate, get_or, refl, sym, ap, ◌∙◌, arith, length-append, length-drop}
use Rattle.std.specs.List.{list_all, list_any}
use Rattle.std.proofs.lemmas.Bool.{or_parts, ltb-false, lt-ltb}
use Rattle.std.proofs.lemmas.List.{drop_more, length-take-le, length-replicate}
use Rattle.vub_sparse.specs.Cells.{Cell, Hole, blank, cell_at, is_hole}
use Rattle.vub_block.specs.Answer.{are_pieces, erased, greatest_flags, is_past, makes_holes, pieces_status}
use Rattle.vub_block.specs.Disk.{blank_sectors, replaced}
use Rattle.vub_block.specs.Request.{pieces_in}
use Rattle.vub_block.specs.declared.erase.Erase.{Erase}
use Rattle.vub_block.specs.declared.request.Piece.{Piece}
use Rattle.vub_block.specs.declared.status.Status.TheVariants as status

abbrev pub any_past : ℕ → List Piece → Bool
any_past sectors ps = list_any (λ p. is_past sectors p.first p.count) ps

length-blanked : (first count : ℕ) (hole : Bool) (sectors : List (List Cell)) → first + count ≤ length sectors → length (replaced first (blank_sectors count hole) sectors) ≡ length sectors
unfolding replaced blank_sectors
length-blanked first count hole sectors fits =
    let long : length (replicate count (replicate 512 (blank hole))) ≡ count = length-replicate count (replicate 512 (blank hole)) in
    omega (
      arith,
      length-append (take first sectors ++ replicate count (replicate 512 (blank hole))) (drop (first + length (replicate count (replicate 512 (blank hole)))) sectors),
      length-append (take first sectors) (replicate count (replicate 512 (blank hole))),
      length-take-le first sectors (omega arith),
      length-drop (first + length (replicate count (replicate 512 (blank hole)))) sectors,
      long,
    )

-- one more piece was erased
pub one_erased : (erase : Erase) (ps : List Piece) (i : ℕ) (d : Piece) (old now : List (List Cell)) → i < length ps → any_past (length old) (drop i ps) ≡ false →
    now ≡ replaced (get_or ps i d).first (blank_sectors (get_or ps i d).count (makes_holes erase (get_or ps i d))) old →
    (any_past (length now) (drop (i + 1) ps) ≡ false) × (erased erase (drop (i + 1) ps) now ≡ erased erase (drop i ps) old)
one_erased erase ps i d old now here within is =
    let cut : drop i ps ≡ get_or ps i d ∷ drop (i + 1) ps = drop_more ps i d here in
    let parts = or_parts (is_past (length old) (get_or ps i d).first (get_or ps i d).count) (any_past (length old) (drop (i + 1) ps)) (sym (ap (any_past (length old)) cut) ∙ within) in
    let fits : (get_or ps i d).first + (get_or ps i d).count ≤ length old = ltb-false (length old) ((get_or ps i d).first + (get_or ps i d).count) parts.0 in
    let long : length now ≡ length old = ap length is ∙ length-blanked (get_or ps i d).first (get_or ps i d).count (makes_holes erase (get_or ps i d)) old fits in
    (ap (λ n. any_past n (drop (i + 1) ps)) long ∙ parts.1, ap (erased erase (drop (i + 1) ps)) is ∙ sym (ap (λ l. erased erase l old) cut))

status_from : (layout flags : Bool) → cond layout status.IoErr (cond flags status.Unsupported status.Ok) ≡ status.Ok → layout ≡ false
status_from false flags is = refl
status_from true flags is = absurd (let no : ⊥ = cc in no)

-- pieces that may be erased end within the disk
pub all_within : (erase : Erase) (sectors : ℕ) (payload : List ℕ) → pieces_status erase sectors payload ≡ status.Ok → any_past sectors (pieces_in payload) ≡ false
unfolding pieces_status
all_within erase sectors payload is =
    (or_parts (not (are_pieces payload)) (any_past sectors (pieces_in payload))
    (status_from (not (are_pieces payload) || any_past sectors (pieces_in payload)) (list_any (λ p. nat_lt (greatest_flags erase) p.flags) (pieces_in payload)) is)).1

-- the holes from a place on: the first cell, and those behind it
pub holes_from : (n place : ℕ) (cells : List Cell) → place < length cells → 0 < n → list_all is_hole (take n (drop place cells)) ≡ (is_hole (cell_at cells place) && list_all is_hole (take (n - 1) (drop (place + 1) cells)))
holes_from zero place cells here some = absurd (omega arith)
holes_from (suc n) place cells here some =
    let less : suc n - 1 ≡ n = omega arith in
    ap (λ l. list_all is_hole (take (suc n) l)) (drop_more cells place Hole here)
    ∙ ap (λ k. is_hole (cell_at cells place) && list_all is_hole (take k (drop (place + 1) cells))) (sym less)

pub is_inside : (place : ℕ) (cells : List Cell) (b : Bool) → place < length cells → b ≡ (nat_lt place (length cells) && is_hole (cell_at cells place)) → b ≡ is_hole (cell_at cells place)
is_inside place cells b here is = is ∙ ap (λ t. t && is_hole (cell_at cells place)) (lt-ltb place (length cells) here)
