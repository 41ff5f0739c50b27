-- Bytes that were written are read back.
use Rattle.std.proofs.Common.{◌≡◌, ℕ, ◌+◌, ◌-◌, ◌<◌, inl, inr, true, List, [], ◌∷◌, length, get_or, slice_set, Option, Some, None, refl, sym, ap, ap₂, subst, ◌∙◌, arith, eqb, true≢false, get_or-set_same}
use Rattle.std.specs.Option.{is_some}
use Rattle.std.proofs.lemmas.Bool.{cases_Bool}
use Rattle.vub_mem.specs.declared.region.Region.{Region}
use Rattle.vub_mem.specs.declared.content.Content.{Content}
use Rattle.vub_mem.specs.Laws.{LiesIn, LiesAt, byte_of}
use Rattle.vub_mem.specs.Memory.{Guest}
use Rattle.vub_mem.specs.Place.{covers, region_of, content_of, with_byte, poke, poke_in, write_at, byte_at, byte_in, bytes_at}
use Rattle.vub_mem.specs.ReadBack.{IsPlacedApart}
use Rattle.vub_mem.specs.Sound.{IsSound}
use Rattle.vub_mem.proofs.Contents.{with_true, with_false, content_true, content_false}
use Rattle.vub_mem.proofs.Frames.{regions-write_at, write_apart, length-write_at}
use Rattle.vub_mem.proofs.Ranges.{covers_at, backed, found}

-- a byte that is set is there
same_byte : (cs : List Content) (o i b : ℕ) → i < length (content_of cs o) → get_or (content_of (with_byte cs o i b) o) i 0 ≡ b
same_byte [] o i b h = absurd (omega arith)
same_byte (c ∷ cs) o i b h =
    elim (cases_Bool (eqb c.object o)) [
      | inl t ↦ ap (λ w. get_or (content_of w o) i 0) (with_true c cs o i b t)
          ∙ ap (λ l. get_or l i 0) (content_true (record c { bytes = slice_set c.bytes i b }) cs o t)
          ∙ get_or-set_same c.bytes i b 0 (subst (λ l. i < length l) (content_true c cs o t) h)
      | inr f ↦ ap (λ w. get_or (content_of w o) i 0) (with_false c cs o i b f)
          ∙ ap (λ l. get_or l i 0) (content_false c (with_byte cs o i b) o f)
          ∙ same_byte cs o i b (subst (λ l. i < length l) (content_false c cs o f) h)
    ]

-- where an address of a region lies in its content
abbrev place : Region → ℕ → ℕ
place r a = r.offset + (a - r.start)

byte_here : (g : Guest) (a : ℕ) (r : Region) → region_of g.regions a ≡ Some r → byte_at g a ≡ byte_of g r.object (place r a)
unfolding byte_at
byte_here g a r e = ap (byte_in g.contents a) e

poked : (g : Guest) (a b : ℕ) (r : Region) → region_of g.regions a ≡ Some r → place r a < length (content_of g.contents r.object) → byte_of (poke g a b) r.object (place r a) ≡ b
unfolding poke
poked g a b r e h = ap (λ o. get_or (content_of (poke_in g.contents a b o) r.object) (place r a) 0) e ∙ same_byte g.contents r.object (place r a) b h

regions-poke : (g : Guest) (a b : ℕ) → (poke g a b).regions ≡ g.regions
unfolding poke
regions-poke g a b = refl

length-poke : (g : Guest) (a b o : ℕ) → length (content_of (poke g a b).contents o) ≡ length (content_of g.contents o)
unfolding write_at
length-poke g a b o = length-write_at g a (b ∷ []) o

lies_there : (rs : List Region) (a : ℕ) (r : Region) → region_of rs a ≡ Some r → LiesAt rs a r.object (place r a)
lies_there rs a r e = subst (λ x. LiesIn x a r.object (place r a)) (sym e) (refl, refl)

-- an address has a region, and its byte there
record HasByte (g : Guest) (a : ℕ) : Type 0 where
  region : Region
  is : region_of g.regions a ≡ Some region
  inside : place region a < length (content_of g.contents region.object)

has_byte : (g : Guest) (a : ℕ) (o : Option Region) → IsSound g → region_of g.regions a ≡ o → is_some o ≡ true → HasByte g a
has_byte g a None sound e h = absurd (true≢false (sym h))
has_byte g a (Some r) sound e h = record { region = r; is = e; inside = backed g.contents g.regions a r sound.backed (found g.regions a r sound.bounded e) }

still_byte : (g : Guest) (a b x : ℕ) → HasByte g x → HasByte (poke g a b) x
still_byte g a b x h = record {
  region = h.region;
  is = ap (λ rs. region_of rs x) (regions-poke g a b) ∙ h.is;
  inside = omega (arith, length-poke g a b h.region.object, h.inside);
}

bytes_back : (g : Guest) (a : ℕ) (bs : List ℕ) → ((k : ℕ) → k < length bs → HasByte g (a + k)) → IsPlacedApart g.regions a (length bs) → bytes_at (write_at g a bs) a (length bs) ≡ bs
unfolding write_at bytes_at
bytes_back g a [] has apart = refl
bytes_back g a (b ∷ bs) has apart =
    let same : a + 0 ≡ a = omega arith in
    let here : HasByte g a = subst (HasByte g) same (has 0 (omega arith)) in
    let rest : (k : ℕ) → k < length bs → HasByte (poke g a b) (a + 1 + k) =
    (λ k h. let up : a + (k + 1) ≡ a + 1 + k = omega arith in still_byte g a b (a + 1 + k) (subst (HasByte g) up (has (k + 1) (omega arith)))) in
    let beside : IsPlacedApart g.regions (a + 1) (length bs) =
    (λ j k o i lt h p q. let first : a + 1 + j ≡ a + (j + 1) = omega arith in let second : a + 1 + k ≡ a + (k + 1) = omega arith in
    apart (j + 1) (k + 1) o i (omega arith) (omega arith) (subst (λ x. LiesAt g.regions x o i) first p) (subst (λ x. LiesAt g.regions x o i) second q)) in
    let tail : bytes_at (write_at (poke g a b) (a + 1) bs) (a + 1) (length bs) ≡ bs =
    bytes_back (poke g a b) (a + 1) bs rest (subst (λ rs. IsPlacedApart rs (a + 1) (length bs)) (sym (regions-poke g a b)) beside) in
    let regions : (write_at (poke g a b) (a + 1) bs).regions ≡ g.regions = regions-write_at (poke g a b) (a + 1) bs ∙ regions-poke g a b in
    let there : LiesAt g.regions (a + 0) here.region.object (place here.region a) = subst (λ x. LiesAt g.regions x here.region.object (place here.region a)) (sym same) (lies_there g.regions a here.region here.is) in
    let kept : byte_of (write_at (poke g a b) (a + 1) bs) here.region.object (place here.region a) ≡ byte_of (poke g a b) here.region.object (place here.region a) =
    write_apart (poke g a b) (a + 1) bs here.region.object (place here.region a)
    (λ k h l. let up : a + 1 + k ≡ a + (k + 1) = omega arith in
    apart 0 (k + 1) here.region.object (place here.region a) (omega arith) (omega arith) there
    (subst (λ x. LiesAt g.regions x here.region.object (place here.region a)) up (subst (λ rs. LiesAt rs (a + 1 + k) here.region.object (place here.region a)) (regions-poke g a b) l))) in
    let head : byte_at (write_at (poke g a b) (a + 1) bs) a ≡ b =
    byte_here (write_at (poke g a b) (a + 1) bs) a here.region (ap (λ rs. region_of rs a) regions ∙ here.is) ∙ kept ∙ poked g a b here.region here.is here.inside in
    ap₂ (λ x xs. x ∷ xs) head tail

pub read_back : (g : Guest) (a : ℕ) (bs : List ℕ) → IsSound g → covers g.regions a (length bs) ≡ true → IsPlacedApart g.regions a (length bs) → bytes_at (write_at g a bs) a (length bs) ≡ bs
read_back g a bs sound covered apart =
    bytes_back g a bs (λ k h. has_byte g (a + k) (region_of g.regions (a + k)) sound refl (covers_at g.regions a (length bs) (a + k) covered (omega arith) (omega arith))) apart
