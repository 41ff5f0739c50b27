-- Where the areas of a layout lie in a memory of one region.
use Rattle.std.proofs.Common.{◌≡◌, ℕ, ◌+◌, ◌-◌, ◌*◌, ◌<◌, true, [], ◌∷◌, sym, ap, subst, ◌∙◌, arith}
use Rattle.std.specs.List.{AllByRecursion as Each}
use Rattle.std.specs.Option.{is_some}
use Rattle.vub_mem.specs.declared.region.Region.{Region}
use Rattle.vub_mem.specs.Memory.{Guest}
use Rattle.vub_mem.specs.Place.{covers, region_of}
use Rattle.vub_mem.specs.Sound.{IsBacked}
use Rattle.vub_mem.proofs.Ranges.{covers_at}
use Rattle.vub_driver.specs.Law.{IsCoveredBy}
use Rattle.vub_driver.specs.declared.layout.Layout.{Layout}
use Rattle.vub_driver.proofs.Flat.{IsFlat, Inside, lies_byte}
use Rattle.vub_driver.proofs.Fitting.{IsApart}
use Rattle.vub_driver.proofs.Writes.{Lies}

area : (r : Region) (g : Guest) (a n : ℕ) → g.regions ≡ r ∷ [] → 0 < n → covers g.regions a n ≡ true → Inside r a n
area r g a n one some covered =
    let first = lies_byte r a (ap (λ rs. is_some (region_of rs a)) (sym one) ∙ covers_at g.regions a n a covered (omega arith) (omega arith)) in
    let last = lies_byte r (a + (n - 1)) (ap (λ rs. is_some (region_of rs (a + (n - 1)))) (sym one) ∙ covers_at g.regions a n (a + (n - 1)) covered (omega arith) (omega arith)) in
    (first.0, (let high : a + (n - 1) < r.start + r.len = last.1 in omega arith))

mul_pos : (a b : ℕ) → 0 < a → 0 < b → 0 < a * b
mul_pos a b x y = grind arith

pub lies_in : (l : Layout) (r : Region) (g : Guest) → IsApart l → 0 < l.slot → IsCoveredBy l r g → Lies r l
lies_in l r g apart some covered =
    let size : 0 < l.size = omega (arith, apart.fit.some) in
    record {
      desc = area r g l.desc (16 * l.size) covered.one (omega arith) covered.desc;
      avail = area r g l.avail (6 + 2 * l.size) covered.one (omega arith) covered.avail;
      used = area r g l.used (6 + 8 * l.size) covered.one (omega arith) covered.used;
      buffers = area r g l.buffers (l.slot * l.size) covered.one (mul_pos l.slot l.size some size) covered.buffers;
    }

pub flat_in : (l : Layout) (r : Region) (g : Guest) → IsCoveredBy l r g → IsFlat r g
flat_in l r g covered =
    let backed : Each (λ x. IsBacked g.contents x) (r ∷ []) = subst (λ rs. Each (λ x. IsBacked g.contents x) rs) covered.one covered.sound.backed in
    record { one = covered.one; backed = backed.0 }
