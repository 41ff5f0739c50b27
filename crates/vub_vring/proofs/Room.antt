-- How many regions a change of the table leaves.
use Rattle.std.proofs.Common.{ℕ, ◌+◌, ◌≤◌, List, length, arith, length-append, length-drop}
use Rattle.std.proofs.lemmas.List.{length-map, length-take}
use Rattle.std.specs.List.{insert, remove, position_or_len}
use Rattle.vub_mem.specs.declared.region.Region.{Region}
use Rattle.vub_mem.specs.Table.{unlogged, place_of, is_region}
use Rattle.vub_model.specs.declared.small.TableOp.{TableOp}
use Rattle.vub_model.specs.declared.small.TableOp.TheVariants.{Replace, Insert, Remove}
use Rattle.vub_model.specs.Plans.{regions_after}

abbrev pub room : List Region → TableOp → ℕ
room rs (Replace new) = length new
room rs (Insert r) = length rs + 1
room rs (Remove start len) = length rs

insert-room : {A : Type 0} (xs : List A) (i : ℕ) (x : A) → length (insert xs i x) ≤ length xs + 1
insert-room xs i x = grind (arith, length-append, length-take, length-drop)

remove-room : {A : Type 0} (xs : List A) (i : ℕ) → length (remove xs i) ≤ length xs
remove-room xs i = grind (arith, length-append, length-take, length-drop)

pub room_enough : (rs : List Region) (o : TableOp) → length (regions_after rs o) ≤ room rs o
room_enough rs (Replace new) = omega (arith, length-map new unlogged)
room_enough rs (Insert r) = insert-room rs (place_of rs r) (unlogged r)
room_enough rs (Remove start len) = remove-room rs (position_or_len (λ r. is_region start len r) rs)
