-- The table of a set-up, which has no logs.
use Rattle.std.proofs.Common.{◌≡◌, List, [], ◌∷◌, map, refl, ap, ◌∙◌}
use Rattle.vub_mem.specs.declared.content.Content.{Content}
use Rattle.vub_mem.specs.declared.region.Region.{Region}
use Rattle.vub_mem.specs.Memory.{Guest, Memory}
use Rattle.vub_mem.specs.Table.{unlogged}
use Rattle.vub_model.specs.declared.setup.GivenRegion.{GivenRegion}
use Rattle.vub_model.specs.ValidSetup.{given_region}

given_unlogged : (rs : List GivenRegion) → map unlogged (map given_region rs) ≡ map given_region rs
given_unlogged [] = refl
given_unlogged (r ∷ rs) = ap (λ l. given_region r ∷ l) (given_unlogged rs)

-- the guest memory once the table is in its place
pub table_given : {L : Type 0} (old new : Memory L) (table : List Region) (rs : List GivenRegion) (cs : List Content) → old.guest ≡ record { regions = []; contents = cs } → table ≡ map given_region rs → new ≡ record old { guest = record old.guest { regions = map unlogged table } } → new.guest ≡ record { regions = map given_region rs; contents = cs }
table_given old new table rs cs was is now =
    ap (λ m. m.guest) now
    ∙ ap (λ t. record old.guest { regions = map unlogged t }) is
    ∙ ap (λ (g : Guest). record g { regions = map unlogged (map given_region rs) }) was
    ∙ ap (λ l. record { regions = l; contents = cs }) (given_unlogged rs)
