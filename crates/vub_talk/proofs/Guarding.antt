-- The bytes of guest memory that the device must leave: the descriptors and the available index.
use Rattle.std.proofs.Common.{◌≡◌, ◌⊎◌, ℕ, zero, suc, ◌+◌, ◌-◌, ◌*◌, ◌<◌, ◌≤◌, inl, inr, Bool, true, false, not, cond, ◌||◌, Option, Some, None, List, [], ◌∷◌, ◌++◌, length, take, drop, refl, sym, subst, arith, leb, eqb, ltb}
use Rattle.std.specs.List.{AllByRecursion}
use Rattle.std.proofs.lemmas.Bool.{and_parts, or_cases, leb-true, eqb-true}
use Rattle.std.proofs.lemmas.List.{length-take}
use Rattle.vub_mem.specs.declared.region.Region.{Region}
use Rattle.vub_mem.specs.Laws.{LiesAt, LiesIn}
use Rattle.vub_mem.specs.Place.{holds, region_of}
use Rattle.vub_queue.specs.declared.chain.Chain.{Chain}
use Rattle.vub_queue.specs.declared.segment.Segment.{Segment}
use Rattle.vub_queue.specs.Layout.{used_element_at, used_index_at}
use Rattle.vub_queue.specs.Ring.{Ring}
use Rattle.vub_driver.specs.Layouts.{has_size, is_aligned, is_disjoint, is_apart, new_fault}
use Rattle.vub_driver.specs.View.{IsFit}
use Rattle.vub_driver.specs.declared.error.DriverError.{DriverError}
use Rattle.vub_driver.specs.declared.error.DriverError.TheVariants.{Size, Misaligned, Overlap}
use Rattle.vub_driver.specs.declared.layout.Layout.{Layout}
use Rattle.vub_model.specs.Headline.{IsSpot}
use Rattle.vub_model.specs.Written.{Spot, spot_in, spots_of, reply_spots, put_spots}
use Rattle.vub_talk.specs.Asking.{region}
use Rattle.vub_talk.specs.Ready.{InBuffers, IsGuarded, IsLaid}
use Rattle.vub_talk.proofs.Refusing.{fit_taken}
use Rattle.vub_talk.proofs.Valid.{Within, within}

-- Areas

-- no address lies in both
abbrev pub Never : ℕ → ℕ → ℕ → ℕ → Type 0
Never a n b m = (x : ℕ) → a ≤ x → x < a + n → b ≤ x → x < b + m → ⊥

never : (a n b m : ℕ) → is_apart (record { at = a; len = n }) (record { at = b; len = m }) ≡ true → Never a n b m
never a n b m h x low high from to =
    elim (or_cases ((eqb n 0 || eqb m 0) || leb (a + n) b) (leb (b + m) a) h) [
      | inr above ↦ (let past : b + m ≤ a = leb-true (b + m) a above in omega arith)
      | inl rest ↦ elim (or_cases (eqb n 0 || eqb m 0) (leb (a + n) b) rest) [
        | inr below ↦ (let past : a + n ≤ b = leb-true (a + n) b below in omega arith)
        | inl empty ↦ elim (or_cases (eqb n 0) (eqb m 0) empty) [
          | inl none ↦ (let zero : n ≡ 0 = eqb-true n 0 none in omega arith)
          | inr none ↦ (let zero : m ≡ 0 = eqb-true m 0 none in omega arith)
        ]
      ]
    ]

-- a layout whose areas are apart and lie in guest memory
pub record Sits (l : Layout) : Type 0 where
  pub fit : IsFit l
  pub within : Within l
  pub desc_avail : Never l.desc (16 * l.size) l.avail (6 + 2 * l.size)
  pub desc_used : Never l.desc (16 * l.size) l.used (6 + 8 * l.size)
  pub desc_buffers : Never l.desc (16 * l.size) l.buffers (l.slot * l.size)
  pub avail_used : Never l.avail (6 + 2 * l.size) l.used (6 + 8 * l.size)
  pub avail_buffers : Never l.avail (6 + 2 * l.size) l.buffers (l.slot * l.size)

none_past : (b : Bool) (e : DriverError) (x : Option DriverError) → cond (not b) (Some e) x ≡ None → (b ≡ true) × (x ≡ None)
none_past true e x h = (refl, h)
none_past false e x h = absurd (let no : ⊥ = cc in no)

disjoint_taken : (l : Layout) → new_fault l ≡ None → is_disjoint l ≡ true
unfolding new_fault
disjoint_taken l h =
    let size = none_past (has_size l) Size _ h in
    let aligned = none_past (is_aligned l) Misaligned _ size.1 in
    (none_past (is_disjoint l) Overlap None aligned.1).0

sits_by : (l : Layout) → IsFit l → Within l → is_disjoint l ≡ true → Sits l
unfolding is_disjoint
sits_by l fit lies off =
    let pairs = (and_parts _ _ off).1 in
    let desc = and_parts _ _ pairs in
    let avail = and_parts _ _ desc.1 in
    let desc1 = and_parts _ _ desc.0 in
    let desc2 = and_parts _ _ desc1.1 in
    let desc3 = and_parts _ _ desc2.1 in
    let avail1 = and_parts _ _ avail.0 in
    let avail2 = and_parts _ _ avail1.1 in
    record {
      fit = fit;
      within = lies;
      desc_avail = never l.desc (16 * l.size) l.avail (6 + 2 * l.size) desc1.0;
      desc_used = never l.desc (16 * l.size) l.used (6 + 8 * l.size) desc2.0;
      desc_buffers = never l.desc (16 * l.size) l.buffers (l.slot * l.size) desc3.0;
      avail_used = never l.avail (6 + 2 * l.size) l.used (6 + 8 * l.size) avail1.0;
      avail_buffers = never l.avail (6 + 2 * l.size) l.buffers (l.slot * l.size) avail2.0;
    }

pub sits : (l : Layout) → IsLaid l → Sits l
sits l laid = sits_by l (fit_taken l laid.taken) (within l laid.lies) (disjoint_taken l laid.taken)

-- Spots of the one region

abbrev pub one : List Region
one = region ∷ []

here : (a o i : ℕ) (b : Bool) → holds region a ≡ b → LiesIn (cond b (Some region) None) a o i → (o ≡ 0) × (a ≡ i + 1048576)
here a o i true is lies =
    let p = and_parts (leb 1048576 a) (ltb (a - 1048576) 1048576) is in
    let low : 1048576 ≤ a = leb-true 1048576 a p.0 in
    let at : 0 + (a - 1048576) ≡ i = lies.1 in
    (sym lies.0, omega arith)
here a o i false is lies = absurd lies

-- an address of the region lies at its place
pub lies-here : (a o i : ℕ) → LiesAt one a o i → (o ≡ 0) × (a ≡ i + 1048576)
lies-here a o i lies = here a o i (holds region a) refl lies

spot-split : (xs ys : List Spot) (o i : ℕ) → IsSpot (xs ++ ys) o i → IsSpot xs o i ⊎ IsSpot ys o i
spot-split [] ys o i is = inr is
spot-split (x ∷ xs) ys o i (inl now) = inl (inl now)
spot-split (x ∷ xs) ys o i (inr more) = elim (spot-split xs ys o i more) [ inl first ↦ inl (inr first) | inr second ↦ inr second ]

spot-lies : (found : Option Region) (a o i : ℕ) → IsSpot (spot_in found a) o i → LiesIn found a o i
spot-lies None a o i is = absurd is
spot-lies (Some r) a o i (inl at) = (at.0, at.1)
spot-lies (Some r) a o i (inr more) = absurd more

-- in the addresses from a on, so many
pub record InRange (a n x : ℕ) : Type 0 where
  pub low : a ≤ x
  pub high : x < a + n

-- a spot of a range lies in it
pub spot-back : (n a o i : ℕ) → IsSpot (spots_of one a n) o i → (o ≡ 0) × InRange a n (i + 1048576)
spot-back zero a o i is = absurd is
spot-back (suc n) a o i is =
    elim (spot-split (spot_in (region_of one a) a) (spots_of one (a + 1) n) o i is) [
      | inl first ↦
          (let at = lies-here a o i (spot-lies (region_of one a) a o i first) in
          let same : a ≡ i + 1048576 = at.1 in
          (at.0, record { low = omega arith; high = omega arith }))
      | inr rest ↦
          (let more = spot-back n (a + 1) o i rest in
          (more.0, record { low = omega (arith, more.1.low); high = omega (arith, more.1.high) }))
    ]

-- and where an address of the range lies is a spot of it

spot-left : (xs ys : List Spot) (o i : ℕ) → IsSpot xs o i → IsSpot (xs ++ ys) o i
spot-left [] ys o i is = absurd is
spot-left (x ∷ xs) ys o i (inl first) = inl first
spot-left (x ∷ xs) ys o i (inr rest) = inr (spot-left xs ys o i rest)

spot-right : (xs ys : List Spot) (o i : ℕ) → IsSpot ys o i → IsSpot (xs ++ ys) o i
spot-right [] ys o i is = is
spot-right (x ∷ xs) ys o i is = inr (spot-right xs ys o i is)

spot-in : (found : Option Region) (a o i : ℕ) → LiesIn found a o i → IsSpot (spot_in found a) o i
spot-in None a o i lies = absurd lies
spot-in (Some r) a o i lies = inl (lies.0, lies.1)

pub spot-here : (n a k o i : ℕ) → k < n → LiesAt one (a + k) o i → IsSpot (spots_of one a n) o i
spot-here zero a k o i below lies = absurd (omega (arith, below))
spot-here (suc n) a zero o i below lies =
    let same : a + zero ≡ a = omega arith in
    spot-left (spot_in (region_of one a) a) (spots_of one (a + 1) n) o i (spot-in (region_of one a) a o i (subst (λ x. LiesAt one x o i) same lies))
spot-here (suc n) a (suc k) o i below lies =
    let same : a + suc k ≡ a + 1 + k = omega arith in
    spot-right (spot_in (region_of one a) a) (spots_of one (a + 1) n) o i (spot-here n (a + 1) k o i (omega (arith, below)) (subst (λ x. LiesAt one x o i) same lies))

-- the segments lie in the buffers
abbrev pub AreInBuffers : Layout → List Segment → Type 0
AreInBuffers l ss = AllByRecursion (λ (s : Segment). InBuffers l s.addr s.len) ss

taken-short : (n : ℕ) (xs : List ℕ) → length (take n xs) ≤ n
taken-short n xs = omega (arith, length-take n xs)

reply-back : (l : Layout) (ss : List Segment) (reply : List ℕ) (o i : ℕ) → AreInBuffers l ss → IsSpot (reply_spots one ss reply) o i → InRange l.buffers (l.slot * l.size) (i + 1048576)
reply-back l [] reply o i all is = absurd is
reply-back l (s ∷ ss) reply o i all is =
    elim (spot-split (spots_of one s.addr (length (take s.len reply))) (reply_spots one ss (drop s.len reply)) o i is) [
      | inl first ↦
          (let at = spot-back (length (take s.len reply)) s.addr o i first in
          let own : InBuffers l s.addr s.len = all.0 in
          record { low = omega (arith, at.1.low, own.low); high = omega (arith, at.1.high, own.high, taken-short s.len reply) })
      | inr rest ↦ reply-back l ss (drop s.len reply) o i all.1 rest
    ]

-- the ring has the used area of the layout
pub record HasUsed (l : Layout) (r : Ring) : Type 0 where
  pub element : used_element_at r + 8 ≤ l.used + (6 + 8 * l.size)
  pub behind : l.used ≤ used_element_at r
  pub index : used_index_at r ≡ l.used + 2

-- a byte in the buffers or in the used area is not guarded
off-buffers : (l : Layout) → Sits l → (o i : ℕ) → InRange l.buffers (l.slot * l.size) (i + 1048576) → IsGuarded l (i + 1048576) → ⊥
off-buffers l at o i x guarded =
    elim guarded [
      | inl table ↦ at.desc_buffers (i + 1048576) table.low table.high x.low x.high
      | inr index ↦ at.avail_buffers (i + 1048576) (omega (arith, index.low)) (omega (arith, index.high)) x.low x.high
    ]

off-used : (l : Layout) → Sits l → (o i : ℕ) → InRange l.used (6 + 8 * l.size) (i + 1048576) → IsGuarded l (i + 1048576) → ⊥
off-used l at o i x guarded =
    elim guarded [
      | inl table ↦ at.desc_used (i + 1048576) table.low table.high x.low x.high
      | inr index ↦ at.avail_used (i + 1048576) (omega (arith, index.low)) (omega (arith, index.high)) x.low x.high
    ]

-- a put of such a chain writes no guarded byte
pub put-off : (l : Layout) → Sits l → (r : Ring) (c : Chain) (reply : List ℕ) (o i : ℕ) → HasUsed l r → AreInBuffers l c.segments → IsSpot (put_spots one r c reply) o i → IsGuarded l (i + 1048576) → ⊥
put-off l at r c reply o i used all is =
    elim (spot-split (reply_spots one c.segments reply) (spots_of one (used_element_at r) 8 ++ spots_of one (used_index_at r) 2) o i is) [
      | inl room ↦ off-buffers l at o i (reply-back l c.segments reply o i all room)
      | inr ring ↦ elim (spot-split (spots_of one (used_element_at r) 8) (spots_of one (used_index_at r) 2) o i ring) [
        | inl element ↦
            (let x = spot-back 8 (used_element_at r) o i element in
            off-used l at o i (record { low = omega (arith, x.1.low, used.behind); high = omega (arith, x.1.high, used.element) }))
        | inr index ↦
            (let x = spot-back 2 (used_index_at r) o i index in
            off-used l at o i (record { low = omega (arith, x.1.low, used.index); high = omega (arith, x.1.high, used.index) }))
      ]
    ]
