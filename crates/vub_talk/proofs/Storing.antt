-- A store into guest memory is a write, and a write of what stands there changes nothing.
use Rattle.std.proofs.Common.{◌≡◌, ℕ, ◌+◌, ◌-◌, ◌≤◌, inl, inr, true, List, [], ◌∷◌, length, take, drop, get_or, set, Option, Some, None, refl, sym, ap, subst, ◌∙◌, arith, eqb}
use Rattle.std.specs.List.{AllByRecursion}
use Rattle.std.proofs.lemmas.Bool.{cases_Bool, le-leb}
use Rattle.std.proofs.lemmas.List.{take_all, drop_all, set-get_or}
use Rattle.vub_mem.specs.declared.content.Content.{Content}
use Rattle.vub_mem.specs.declared.region.Region.{Region}
use Rattle.vub_mem.specs.Memory.{Guest}
use Rattle.vub_mem.specs.Place.{content_of, region_of, store_at, with_byte, with_bytes, write_at, poke, poke_in, byte_at, byte_in, bytes_at}
use Rattle.vub_mem.specs.Sound.{IsSound, IsBounded, IsApart}
use Rattle.vub_mem.proofs.Contents.{store_none, with_true, with_false, content_true, content_false}
use Rattle.vub_mem.proofs.Ranges.{found}
use Rattle.vub_mem.proofs.Writes.{write_none, write_more, write_all}
use Rattle.vub_driver.proofs.Flat.{IsFlat, Inside, region_in}
use Rattle.vub_model.specs.World.{stored}
use Rattle.vub_talk.specs.Asking.{region}

-- Writing again

byte_again : (cs : List Content) (o i b : ℕ) → get_or (content_of cs o) i 0 ≡ b → with_byte cs o i b ≡ cs
byte_again [] o i b is = refl
byte_again (c ∷ cs) o i b is =
    elim (cases_Bool (eqb c.object o)) [
      | inl t ↦
          let here : b ≡ get_or c.bytes i 0 = sym is ∙ ap (λ l. get_or l i 0) (content_true c cs o t) in
          with_true c cs o i b t ∙ ap (λ xs. record c { bytes = xs } ∷ cs) (ap (set c.bytes i) here ∙ set-get_or c.bytes i 0)
      | inr f ↦ with_false c cs o i b f ∙ ap (λ l. c ∷ l) (byte_again cs o i b (ap (λ l. get_or l i 0) (sym (content_false c cs o f)) ∙ is))
    ]

poke_in_again : (cs : List Content) (a b : ℕ) (r : Option Region) → byte_in cs a r ≡ b → poke_in cs a b r ≡ cs
poke_in_again cs a b None is = refl
poke_in_again cs a b (Some r) is = byte_again cs r.object (r.offset + (a - r.start)) b is

poke_again : (g : Guest) (a b : ℕ) → byte_at g a ≡ b → poke g a b ≡ g
unfolding poke byte_at
poke_again g a b is = ap (λ cs. record g { contents = cs }) (poke_in_again g.contents a b (region_of g.regions a) is)

pub write_again : (g : Guest) (a : ℕ) (bs : List ℕ) → bytes_at g a (length bs) ≡ bs → write_at g a bs ≡ g
unfolding write_at bytes_at
write_again g a [] is = refl
write_again g a (b ∷ bs) is =
    let first : byte_at g a ≡ b = cc in
    let rest : bytes_at g (a + 1) (length bs) ≡ bs = cc in
    ap (λ x. write_at x (a + 1) bs) (poke_again g a b first) ∙ write_again g (a + 1) bs rest

-- Stores

pub sound_in : (g : Guest) → IsFlat region g → IsSound g
sound_in g f = record {
  bounded = subst (λ rs. AllByRecursion IsBounded rs) (sym f.one) (record { some = omega arith; ends = omega arith; offset_ends = omega arith; log_ends = λ x no. absurd cc; aligned = λ x no. absurd cc }, tt);
  backed = subst (λ rs. AllByRecursion (λ r. r.offset + r.len ≤ length (content_of g.contents r.object)) rs) (sym f.one) (f.backed, tt);
  apart = subst IsApart (sym f.one) (tt, tt);
}

write_stores : (g : Guest) (a : ℕ) (bs : List ℕ) → IsFlat region g → Inside region a (length bs) → write_at g a bs ≡ store_at g 0 (0 + (a - 1048576)) bs
unfolding write_at store_at
write_stores g a [] f h = ap (λ cs. record g { contents = cs }) (store_none g.contents 0 (0 + (a - 1048576)) [] (omega arith))
write_stores g a (b ∷ bs) f h =
    let sound : IsSound g = sound_in g f in
    let at : region_of g.regions a ≡ Some region = ap (λ rs. region_of rs a) f.one ∙ region_in region a (h.0, omega (arith, h.1)) in
    let from = found g.regions a region sound.bounded at in
    let rest : drop (length (b ∷ bs)) (b ∷ bs) ≡ [] = drop_all (length (b ∷ bs)) (b ∷ bs) (omega arith) in
    let whole : take (length (b ∷ bs)) (b ∷ bs) ≡ b ∷ bs = take_all (length (b ∷ bs)) (b ∷ bs) (omega arith) in
    sym (write_all g.regions g.contents (with_bytes g.contents 0 (0 + (a - 1048576)) (b ∷ bs)) a (b ∷ bs) (a + length (b ∷ bs)) [] true refl refl
    (write_more g.regions g.contents g.contents (with_bytes g.contents 0 (0 + (a - 1048576)) (b ∷ bs)) a (b ∷ bs) a (length (b ∷ bs)) (b ∷ bs) (b ∷ bs) [] region
    (write_none g.regions g.contents a (b ∷ bs) sound) from (omega (arith, h.0, h.1)) (omega arith) (sym whole) (sym rest) refl refl))

-- the guest's store that makes a write
pub store_writes : (g : Guest) (a : ℕ) (bs : List ℕ) → IsFlat region g → Inside region a (length bs) → stored g 0 (a - 1048576) bs ≡ write_at g a bs
unfolding stored
store_writes g a bs f h =
    let offset : a - 1048576 ≡ 0 + (a - 1048576) = omega arith in
    let within : a - 1048576 + length bs ≤ length (content_of g.contents 0) = omega (arith, f.backed, h.0, h.1) in
    rw (le-leb (a - 1048576 + length bs) (length (content_of g.contents 0)) within) (ap (λ i. store_at g 0 i bs) offset ∙ sym (write_stores g a bs f h))
