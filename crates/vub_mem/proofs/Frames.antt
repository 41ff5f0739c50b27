-- A write changes no byte but those of its range.
use Rattle.std.proofs.Common.{◌≡◌, ℕ, ◌+◌, ◌-◌, inl, inr, List, [], ◌∷◌, length, get_or, slice_set, Option, Some, None, refl, sym, ap, subst, ◌∙◌, arith, eqb, get_or-set_other}
use Rattle.std.proofs.lemmas.Bool.{cases_Bool, eqb-true}
use Rattle.vub_mem.specs.declared.region.Region.{Region}
use Rattle.vub_mem.specs.declared.content.Content.{Content}
use Rattle.vub_mem.specs.Memory.{Guest}
use Rattle.vub_mem.specs.Place.{region_of, content_of, with_byte, poke, poke_in, write_at}
use Rattle.vub_mem.specs.Laws.{LiesIn, LiesAt, byte_of, IsElsewhere}
use Rattle.vub_mem.proofs.Contents.{with_true, with_false, content_true, content_false, length-with_byte}

set_apart : (l : List ℕ) (i j b : ℕ) → (i ≡ j → ⊥) → get_or (slice_set l i b) j 0 ≡ get_or l j 0
set_apart l i j b apart = get_or-set_other l i j b 0 (λ e. apart (sym e))

other_byte : (cs : List Content) (o i b q j : ℕ) → (o ≡ q → i ≡ j → ⊥) → get_or (content_of (with_byte cs o i b) q) j 0 ≡ get_or (content_of cs q) j 0
other_byte [] o i b q j apart = refl
other_byte (c ∷ cs) o i b q j apart =
    elim (cases_Bool (eqb c.object o)) [
      | inl t ↦ ap (λ w. get_or (content_of w q) j 0) (with_true c cs o i b t) ∙
          elim (cases_Bool (eqb c.object q)) [
            | inl s ↦ ap (λ l. get_or l j 0) (content_true (record c { bytes = slice_set c.bytes i b }) cs q s)
                ∙ set_apart c.bytes i j b (apart (sym (eqb-true c.object o t) ∙ eqb-true c.object q s))
                ∙ sym (ap (λ l. get_or l j 0) (content_true c cs q s))
            | inr s ↦ ap (λ l. get_or l j 0) (content_false (record c { bytes = slice_set c.bytes i b }) cs q s ∙ sym (content_false c cs q s))
          ]
      | inr f ↦ ap (λ w. get_or (content_of w q) j 0) (with_false c cs o i b f) ∙
          elim (cases_Bool (eqb c.object q)) [
            | inl s ↦ ap (λ l. get_or l j 0) (content_true c (with_byte cs o i b) q s ∙ sym (content_true c cs q s))
            | inr s ↦ ap (λ l. get_or l j 0) (content_false c (with_byte cs o i b) q s) ∙ other_byte cs o i b q j apart ∙ sym (ap (λ l. get_or l j 0) (content_false c cs q s))
          ]
    ]

poke_apart : (cs : List Content) (a b : ℕ) (r : Option Region) (o i : ℕ) → (LiesIn r a o i → ⊥) → get_or (content_of (poke_in cs a b r) o) i 0 ≡ get_or (content_of cs o) i 0
poke_apart cs a b None o i apart = refl
poke_apart cs a b (Some r) o i apart = other_byte cs r.object (r.offset + (a - r.start)) b o i (λ p q. apart (p, q))

pub regions-write_at : (g : Guest) (a : ℕ) (bs : List ℕ) → (write_at g a bs).regions ≡ g.regions
unfolding write_at poke
regions-write_at g a [] = refl
regions-write_at g a (b ∷ bs) = regions-write_at (poke g a b) (a + 1) bs

-- a byte at a place where no address of the range lies stays
pub write_apart : (g : Guest) (a : ℕ) (bs : List ℕ) (o i : ℕ) → IsElsewhere g.regions a (length bs) o i → byte_of (write_at g a bs) o i ≡ byte_of g o i
unfolding write_at poke
write_apart g a [] o i apart = refl
write_apart g a (b ∷ bs) o i apart =
    write_apart (poke g a b) (a + 1) bs o i (λ k h lies. apart (k + 1) (omega arith) (let up : a + 1 + k ≡ a + (k + 1) = omega arith in subst (λ x. LiesAt g.regions x o i) up lies))
    ∙ poke_apart g.contents a b (region_of g.regions a) o i (λ lies. apart 0 (omega arith) (let same : a ≡ a + 0 = omega arith in subst (λ x. LiesAt g.regions x o i) same lies))

length-poke_in : (cs : List Content) (a b : ℕ) (r : Option Region) (o : ℕ) → length (content_of (poke_in cs a b r) o) ≡ length (content_of cs o)
length-poke_in cs a b None o = refl
length-poke_in cs a b (Some r) o = length-with_byte cs r.object (r.offset + (a - r.start)) b o

pub length-write_at : (g : Guest) (a : ℕ) (bs : List ℕ) (o : ℕ) → length (content_of (write_at g a bs).contents o) ≡ length (content_of g.contents o)
unfolding write_at poke
length-write_at g a [] o = refl
length-write_at g a (b ∷ bs) o = length-write_at (poke g a b) (a + 1) bs o ∙ length-poke_in g.contents a b (region_of g.regions a) o
