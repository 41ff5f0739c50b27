-- A table whose regions got a log covers what it covered.
use Rattle.std.proofs.Common.{◌≡◌, ℕ, Bool, true, false, cond, List, [], ◌∷◌, Option, Some, None, is_some, refl, ap, map}
use Rattle.std.proofs.Math.Path.{fun_ext}
use Rattle.std.specs.List.{list_all, range_with_len}
use Rattle.vub_mem.specs.declared.errors.LogError.{LogError}
use Rattle.vub_mem.specs.declared.region.Region.{Region}
use Rattle.vub_mem.specs.Place.{holds, region_of, covers}
use Rattle.vub_mem.specs.Track.{with_log}
use Rattle.vub_model.specs.Control.{logged_unless}

-- a region holds the address, or the rest decide
either : (object offset : ℕ) (r : Region) (more less : Option Region) (b : Bool) → is_some more ≡ is_some less → is_some (cond b (Some (with_log object offset r)) more) ≡ is_some (cond b (Some r) less)
either object offset r more less true same = refl
either object offset r more less false same = same

lies-still : (object offset : ℕ) (rs : List Region) (a : ℕ) → is_some (region_of (map (λ r. with_log object offset r) rs) a) ≡ is_some (region_of rs a)
lies-still object offset [] a = refl
lies-still object offset (r ∷ rs) a = either object offset r (region_of (map (λ r. with_log object offset r) rs) a) (region_of rs a) (holds r a) (lies-still object offset rs a)

pub logged-covers : (refusal : Option LogError) (object offset : ℕ) (rs : List Region) (a n : ℕ) → covers (logged_unless refusal object offset rs) a n ≡ covers rs a n
unfolding covers
logged-covers None object offset rs a n = ap (λ p. list_all p (range_with_len a n)) (fun_ext (λ x. lies-still object offset rs x))
logged-covers (Some e) object offset rs a n = refl
