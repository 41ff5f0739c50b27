-- The regions and the mappings of parts, one more at a time.
use Rattle.std.proofs.Common.{◌≡◌, ℕ, zero, suc, ◌+◌, ◌<◌, ◌≤◌, min, List, [], ◌∷◌, ◌++◌, length, take, slice_index_or, refl, ap, ◌∙◌, arith}
use Rattle.vub_mem.specs.declared.mapping.Mapping.{Mapping}
use Rattle.vub_mem.specs.declared.region.Region.{Region}
use Rattle.vub_proto.specs.declared.request.Part.{Part}
use Rattle.vub_model.specs.Plans.{region_for, mapping_for, regions_for, mappings_for}

region-more : (at : ℕ) (ps : List Part) (cs : List ℕ) (p : Part) (c : ℕ) → at < length ps → at < length cs → regions_for (take (suc at) ps) (take (suc at) cs) ≡ regions_for (take at ps) (take at cs) ++ region_for (slice_index_or ps at p) (slice_index_or cs at c) ∷ []
region-more at [] cs p c hp hc = absurd (omega (arith, hp))
region-more at (x ∷ ps) [] p c hp hc = absurd (omega (arith, hc))
region-more zero (x ∷ ps) (y ∷ cs) p c hp hc = refl
region-more (suc at) (x ∷ ps) (y ∷ cs) p c hp hc = ap (λ (rs : List Region). region_for x y ∷ rs) (region-more at ps cs p c (omega (arith, hp)) (omega (arith, hc)))

pub region_next : (at : ℕ) (ps : List Part) (cs : List ℕ) (p : Part) (c : ℕ) → at < length ps → at < length cs → regions_for (take (at + 1) ps) (take (at + 1) cs) ≡ regions_for (take at ps) (take at cs) ++ region_for (slice_index_or ps at p) (slice_index_or cs at c) ∷ []
region_next at ps cs p c hp hc =
    let next : at + 1 ≡ suc at = omega arith in
    ap (λ (n : ℕ). regions_for (take n ps) (take n cs)) next ∙ region-more at ps cs p c hp hc

pub regions_all : (n : ℕ) (ps : List Part) (cs : List ℕ) → min (length ps) (length cs) ≤ n → regions_for (take n ps) (take n cs) ≡ regions_for ps cs
regions_all zero [] cs most = refl
regions_all zero (x ∷ ps) [] most = refl
regions_all zero (x ∷ ps) (y ∷ cs) most = absurd (omega (arith, most))
regions_all (suc n) [] cs most = refl
regions_all (suc n) (x ∷ ps) [] most = refl
regions_all (suc n) (x ∷ ps) (y ∷ cs) most = ap (λ (rs : List Region). region_for x y ∷ rs) (regions_all n ps cs (omega (arith, most)))

mapping-more : (at : ℕ) (ps : List Part) (cs : List ℕ) (p : Part) (c : ℕ) → at < length ps → at < length cs → mappings_for (take (suc at) ps) (take (suc at) cs) ≡ mappings_for (take at ps) (take at cs) ++ mapping_for (slice_index_or ps at p) ∷ []
mapping-more at [] cs p c hp hc = absurd (omega (arith, hp))
mapping-more at (x ∷ ps) [] p c hp hc = absurd (omega (arith, hc))
mapping-more zero (x ∷ ps) (y ∷ cs) p c hp hc = refl
mapping-more (suc at) (x ∷ ps) (y ∷ cs) p c hp hc = ap (λ (rs : List Mapping). mapping_for x ∷ rs) (mapping-more at ps cs p c (omega (arith, hp)) (omega (arith, hc)))

pub mapping_next : (at : ℕ) (ps : List Part) (cs : List ℕ) (p : Part) (c : ℕ) → at < length ps → at < length cs → mappings_for (take (at + 1) ps) (take (at + 1) cs) ≡ mappings_for (take at ps) (take at cs) ++ mapping_for (slice_index_or ps at p) ∷ []
mapping_next at ps cs p c hp hc =
    let next : at + 1 ≡ suc at = omega arith in
    ap (λ (n : ℕ). mappings_for (take n ps) (take n cs)) next ∙ mapping-more at ps cs p c hp hc

pub mappings_all : (n : ℕ) (ps : List Part) (cs : List ℕ) → min (length ps) (length cs) ≤ n → mappings_for (take n ps) (take n cs) ≡ mappings_for ps cs
mappings_all zero [] cs most = refl
mappings_all zero (x ∷ ps) [] most = refl
mappings_all zero (x ∷ ps) (y ∷ cs) most = absurd (omega (arith, most))
mappings_all (suc n) [] cs most = refl
mappings_all (suc n) (x ∷ ps) [] most = refl
mappings_all (suc n) (x ∷ ps) (y ∷ cs) most = ap (λ (ms : List Mapping). mapping_for x ∷ ms) (mappings_all n ps cs (omega (arith, most)))
