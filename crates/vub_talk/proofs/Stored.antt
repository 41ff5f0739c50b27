-- What a store of the guest leaves of a memory that is ready.
use Rattle.std.proofs.Common.{◌≡◌, ◌⊎◌, ℕ, zero, suc, ◌+◌, ◌-◌, ◌*◌, ◌^◌, ◌<◌, ◌≤◌, inl, inr, true, false, true≢false, not, List, [], ◌∷◌, ◌++◌, length, get_or, take, drop, Some, refl, sym, ap, ap₂, subst, ◌∙◌, arith, eqb, nat_le, bit_and}
use Rattle.std.specs.Int.{w16, w32, w64, to_le_bytes, from_le_bytes}
use Rattle.std.proofs.lemmas.Bool.{cases_Bool, cases_eq, cases_lt, le-leb}
use Rattle.std.proofs.lemmas.List.{get_or_append_left, get_or-append_right, length-take-le}
use Rattle.std.proofs.lemmas.Nat.{from_le_bytes-to_le_bytes_4, from_le_bytes-to_le_bytes_8}
use Rattle.vub_mem.specs.declared.content.Content.{Content}
use Rattle.vub_mem.specs.Memory as memory
use Rattle.vub_mem.specs.Place.{byte_at, bytes_at, byte_in, content_of, number_at, overwritten, region_of, store_at, with_bytes}
use Rattle.vub_mem.proofs.Contents.{content_true, content_false, stores_true, stores_false}
use Rattle.vub_queue.specs.Chain.{descriptor_at, is_writable}
use Rattle.vub_queue.specs.declared.descriptor.Descriptor.{Descriptor}
use Rattle.vub_driver.specs.Calls.{chain_bytes, index_of}
use Rattle.vub_driver.specs.Places.{half_of, place_of, head_of, reply_at, descriptors_at, avail_index_at}
use Rattle.vub_driver.specs.declared.layout.Layout.{Layout}
use Rattle.vub_driver.proofs.Flat.{bytes_sub, region_in}
use Rattle.vub_driver.proofs.Fitting.{place_below, pair_fits}
use Rattle.vub_driver.proofs.Kept.{index_small, word_is}
use Rattle.vub_driver.proofs.Writes.{length-chain_bytes}
use Rattle.vub_model.specs.declared.setup.Guest.TheVariants.{Store}
use Rattle.vub_model.specs.Headline.{IsSpot, ChangesOnly}
use Rattle.vub_model.specs.World.{World, stored}
use Rattle.vub_laws.specs.Alone.{store_spots}
use Rattle.vub_laws.proofs.Stores.{guest-changes}
use Rattle.vub_talk.specs.Asking.{region}
use Rattle.vub_talk.specs.Ready.{InTable, InIndex, IsHarmless, IsReady}
use Rattle.vub_talk.proofs.Guarding.{InRange, Sits, one}
use Rattle.vub_talk.proofs.Keeping.{Keeps, keeps, kept-number, kept-harmless}

-- Reading what was stored

stored-own : (cs : List Content) (o i : ℕ) (bs : List ℕ) → i + length bs ≤ length (content_of cs o) → content_of (with_bytes cs o i bs) o ≡ overwritten (content_of cs o) i bs
stored-own [] o i (b ∷ bs) fits = absurd (omega (arith, fits))
stored-own [] o zero [] fits = refl
stored-own [] o (suc i) [] fits = absurd (omega (arith, fits))
stored-own (c ∷ cs) o i bs fits =
    elim (cases_Bool (eqb c.object o)) [
      | inl t ↦
          ap (λ w. content_of w o) (stores_true c cs o i bs t) ∙ content_true (record c { bytes = overwritten c.bytes i bs }) cs o t
          ∙ sym (ap (λ xs. overwritten xs i bs) (content_true c cs o t))
      | inr f ↦
          ap (λ w. content_of w o) (stores_false c cs o i bs f) ∙ content_false c (with_bytes cs o i bs) o f
          ∙ stored-own cs o i bs (let same = ap length (content_false c cs o f) in omega (arith, fits, same))
          ∙ sym (ap (λ xs. overwritten xs i bs) (content_false c cs o f))
    ]

within-same : (xs : List ℕ) (i k : ℕ) (bs : List ℕ) → i ≤ length xs → k < length bs → get_or (overwritten xs i bs) (i + k) 0 ≡ get_or bs k 0
within-same xs i k bs fits below =
    let back : i + k - i ≡ k = omega arith in
    get_or-append_right (take i xs) (bs ++ drop (i + length bs) xs) i (i + k) 0 (length-take-le i xs fits) (omega arith)
    ∙ ap (λ j. get_or (bs ++ drop (i + length bs) xs) j 0) back
    ∙ get_or_append_left bs (drop (i + length bs) xs) 0 k below

byte-stored : (g : memory.Guest) (i k : ℕ) (bs : List ℕ) → g.regions ≡ one → length (content_of g.contents 0) ≡ 1048576 → i + length bs ≤ 1048576 → k < length bs → byte_at (store_at g 0 i bs) (i + 1048576 + k) ≡ get_or bs k 0
unfolding byte_at store_at
byte-stored g i k bs flat long fits below =
    let at : region_of g.regions (i + 1048576 + k) ≡ Some region = ap (λ rs. region_of rs (i + 1048576 + k)) flat ∙ region_in region (i + 1048576 + k) (omega arith, omega (arith, fits, below)) in
    let place : 0 + (i + 1048576 + k - 1048576) ≡ i + k = omega arith in
    ap (byte_in (with_bytes g.contents 0 i bs) (i + 1048576 + k)) at
    ∙ ap (λ j. get_or (content_of (with_bytes g.contents 0 i bs) 0) j 0) place
    ∙ ap (λ xs. get_or xs (i + k) 0) (stored-own g.contents 0 i bs (omega (arith, fits, long)))
    ∙ within-same (content_of g.contents 0) i k bs (omega (arith, fits, long)) below

read-list : (g : memory.Guest) (a : ℕ) (bs : List ℕ) → ((k : ℕ) → k < length bs → byte_at g (a + k) ≡ get_or bs k 0) → bytes_at g a (length bs) ≡ bs
unfolding bytes_at
read-list g a [] each = refl
read-list g a (b ∷ bs) each =
    let start : a + 0 ≡ a = omega arith in
    ap₂ (λ x xs. x ∷ xs) (ap (byte_at g) (sym start) ∙ each 0 (omega arith))
    (read-list g (a + 1) bs (λ k below. let up : a + 1 + k ≡ a + suc k = omega arith in ap (byte_at g) up ∙ each (suc k) (omega (arith, below))))

-- the store is made where it fits
stored-is : (g : memory.Guest) (i : ℕ) (bs : List ℕ) → length (content_of g.contents 0) ≡ 1048576 → i + length bs ≤ 1048576 → stored g 0 i bs ≡ store_at g 0 i bs
unfolding stored
stored-is g i bs long fits = (let yes : nat_le (i + length bs) (length (content_of g.contents 0)) ≡ true = le-leb (i + length bs) (length (content_of g.contents 0)) (omega (arith, fits, long)) in rw yes refl)

-- what was stored is read
pub read-stored : (g : memory.Guest) (a : ℕ) (bs : List ℕ) → g.regions ≡ one → length (content_of g.contents 0) ≡ 1048576 → 1048576 ≤ a → a + length bs ≤ 2097152 → bytes_at (stored g 0 (a - 1048576) bs) a (length bs) ≡ bs
read-stored g a bs flat long low high =
    let back : a - 1048576 + 1048576 ≡ a = omega arith in
    ap (λ x. bytes_at x a (length bs)) (stored-is g (a - 1048576) bs long (omega arith))
    ∙ read-list (store_at g 0 (a - 1048576) bs) a bs (λ k below.
    let here : a + k ≡ a - 1048576 + 1048576 + k = omega arith in
    ap (byte_at (store_at g 0 (a - 1048576) bs)) here ∙ byte-stored g (a - 1048576) k bs flat long (omega arith) below)

-- The bytes beside a store

pub spot-stored : (o n i p j : ℕ) → IsSpot (store_spots o i n) p j → (p ≡ o) × InRange i n j
spot-stored o zero i p j is = absurd is
spot-stored o (suc n) i p j (inl at) = (sym at.0, record { low = omega (arith, at.1); high = omega (arith, at.1) })
spot-stored o (suc n) i p j (inr more) = (let rest = spot-stored o n (i + 1) p j more in (rest.0, record { low = omega (arith, rest.1.low); high = omega (arith, rest.1.high) }))

-- the address is none of these
abbrev pub Beside : ℕ → ℕ → ℕ → Type 0
Beside a n x = (x < a) ⊎ (a + n ≤ x)

-- the two descriptors of a request

word_at : (g : memory.Guest) (a x : ℕ) (bs : List ℕ) → x + 2 ≤ 32 → bytes_at g a 32 ≡ bs → number_at w16 g (a + x) ≡ from_le_bytes w16 (take 2 (drop x bs))
unfolding number_at
word_at g a x bs fits is = ap (from_le_bytes w16) (bytes_sub g a 32 x 2 fits ∙ ap (λ b. take 2 (drop x b)) is)

len_at : (g : memory.Guest) (a x : ℕ) (bs : List ℕ) → x + 4 ≤ 32 → bytes_at g a 32 ≡ bs → number_at w32 g (a + x) ≡ from_le_bytes w32 (take 4 (drop x bs))
unfolding number_at
len_at g a x bs fits is = ap (from_le_bytes w32) (bytes_sub g a 32 x 4 fits ∙ ap (λ b. take 4 (drop x b)) is)

addr_at : (g : memory.Guest) (a x : ℕ) (bs : List ℕ) → x + 8 ≤ 32 → bytes_at g a 32 ≡ bs → number_at w64 g (a + x) ≡ from_le_bytes w64 (take 8 (drop x bs))
unfolding number_at
addr_at g a x bs fits is = ap (from_le_bytes w64) (bytes_sub g a 32 x 8 fits ∙ ap (λ b. take 8 (drop x b)) is)

pub record Two (l : Layout) (n most : ℕ) (d e : Descriptor) : Type 0 where
  pub first : d.flags ≡ 1
  pub second : e.flags ≡ 2
  pub space : e.addr ≡ reply_at l n
  pub room : e.len ≡ most

two_at : (g : memory.Guest) (l : Layout) (n size most : ℕ) → reply_at l n < 2 ^ 64 → most < 2 ^ 32 → bytes_at g (descriptors_at l n) 32 ≡ chain_bytes l n size most →
    Two l n most (descriptor_at g (descriptors_at l n)) (descriptor_at g (descriptors_at l n + 16))
unfolding descriptor_at chain_bytes
two_at g l n size most low few is = record {
  first = word_at g (descriptors_at l n) 12 (chain_bytes l n size most) (omega arith) is;
  second = (let here : descriptors_at l n + 16 + 12 ≡ descriptors_at l n + 28 = omega arith in ap (number_at w16 g) here)
      ∙ word_at g (descriptors_at l n) 28 (chain_bytes l n size most) (omega arith) is;
  space = addr_at g (descriptors_at l n) 16 (chain_bytes l n size most) (omega arith) is ∙ from_le_bytes-to_le_bytes_8 (reply_at l n) low;
  room = (let here : descriptors_at l n + 16 + 8 ≡ descriptors_at l n + 24 = omega arith in ap (number_at w32 g) here)
      ∙ len_at g (descriptors_at l n) 24 (chain_bytes l n size most) (omega arith) is ∙ from_le_bytes-to_le_bytes_4 most few;
}

unwritable : (d : Descriptor) → d.flags ≡ 1 → is_writable d ≡ false
unwritable d is = ap (λ f. not (eqb (bit_and f 2) 0)) is

-- Changes of a memory that is ready

module _ (l : Layout) (at : Sits l) (n : ℕ) (g h : memory.Guest) (was : IsReady l n g) (long : length (content_of h.contents 0) ≡ length (content_of g.contents 0)) where
  -- of no guarded byte
  pub other-kept : (a len : ℕ) → Keeps (Beside a len) g h → ((x : ℕ) → a ≤ x → x < a + len → (InTable l x ⊎ InIndex l x) → ⊥) → IsReady l n h
  other-kept a len kept off =
      let beside : (x : ℕ) → InTable l x ⊎ InIndex l x → Beside a len x = λ x guarded.
      elim (cases_lt x a) [
        | inl less ↦ inl less
        | inr high ↦ elim (cases_lt x (a + len)) [
          | inl inside ↦ absurd (off x (omega (arith, high)) inside guarded)
          | inr past ↦ inr (omega (arith, past))
        ]
      ] in
      record {
        one = kept.flat;
        long = long ∙ was.long;
        index = kept-number (Beside a len) g h kept w16 (avail_index_at l) (λ x low high. beside x (inr (record { low = low; high = omega (arith, high) }))) ∙ was.index;
        table = λ i below. kept-harmless (Beside a len) g h kept l (l.desc + 16 * i) (λ x low high. beside x (inl (record { low = omega (arith, low); high = omega (arith, high, below) }))) (was.table i below);
      }

  -- of the available index
  pub index-kept : (m : ℕ) → Keeps (Beside (avail_index_at l) 2) g h → bytes_at h (avail_index_at l) 2 ≡ to_le_bytes w16 (index_of m) → IsReady l m h
  index-kept m kept back = record {
    one = kept.flat;
    long = long ∙ was.long;
    index = word_is h (avail_index_at l) (index_of m) (index_small m) back;
    table = λ i below. kept-harmless (Beside (avail_index_at l) 2) g h kept l (l.desc + 16 * i)
        (λ x from to. elim (cases_lt x (avail_index_at l)) [
          | inl less ↦ inl less
          | inr high ↦ elim (cases_lt x (l.avail + 4)) [
            | inl inside ↦ absurd (at.desc_avail x (omega (arith, from)) (omega (arith, to, below)) (omega (arith, high)) (omega (arith, inside)))
            | inr past ↦ inr (omega (arith, past))
          ]
        ])
        (was.table i below);
  }

  -- of the two descriptors of a request: the second is for its room, which lies in the buffers
  pub chain-kept : (m size room : ℕ) → room ≤ l.slot → room < 2 ^ 32 → Keeps (Beside (descriptors_at l m) 32) g h → bytes_at h (descriptors_at l m) 32 ≡ chain_bytes l m size room → IsReady l n h
  chain-kept m size room short few kept back =
      let place : place_of l m < half_of l = place_below l m at.fit in
      let even : l.size ≡ 2 * half_of l = at.fit.even in
      let high : descriptors_at l m + 32 ≤ l.desc + 16 * l.size = omega (arith, place, even) in
      let pair = pair_fits (place_of l m) (half_of l) l.slot l.size place even in
      let two = two_at h l m size room (omega (arith, pair, at.within.buffers.1)) few back in
      let D : ℕ → Type 0 = λ x. IsHarmless l (descriptor_at h x) in
      record {
        one = kept.flat;
        long = long ∙ was.long;
        index = kept-number (Beside (descriptors_at l m) 32) g h kept w16 (avail_index_at l)
            (λ x from to. elim (cases_lt x (descriptors_at l m)) [
              | inl less ↦ inl less
              | inr past ↦ elim (cases_lt x (descriptors_at l m + 32)) [
                | inl inside ↦ absurd (at.desc_avail x (omega (arith, past)) (omega (arith, inside, high)) (omega (arith, from)) (omega (arith, to, at.fit.some, even)))
                | inr behind ↦ inr (omega (arith, behind))
              ]
            ])
            ∙ was.index;
        table = λ i below. elim (cases_lt i (head_of l m)) [
          | inl less ↦ kept-harmless (Beside (descriptors_at l m) 32) g h kept l (l.desc + 16 * i) (λ x from to. inl (omega (arith, to, less))) (was.table i below)
          | inr past ↦ elim (cases_eq i (head_of l m)) [
            | inl same ↦ (let here : descriptors_at l m ≡ l.desc + 16 * i = omega (arith, same) in subst D here (λ writable. absurd (true≢false (sym writable ∙ unwritable (descriptor_at h (descriptors_at l m)) two.first))))
            | inr other ↦ elim (cases_eq i (head_of l m + 1)) [
              | inl same ↦
                  (let here : descriptors_at l m + 16 ≡ l.desc + 16 * i = omega (arith, same) in
                  subst D here (λ writable. record { low = omega (arith, two.space); high = omega (arith, two.space, two.room, pair, short) }))
              | inr more ↦ kept-harmless (Beside (descriptors_at l m) 32) g h kept l (l.desc + 16 * i) (λ x from to. inr (omega (arith, from, past, other, more))) (was.table i below)
            ]
          ]
        ];
      }

-- Stores of the guest, of a world whose memory is ready

module _ {V : Type 0} (w : World V) (l : Layout) (at : Sits l) (n : ℕ) (was : IsReady l n w.shared.guest) where
  abbrev g : memory.Guest
  g = w.shared.guest

  store-only : (i : ℕ) (bs : List ℕ) → ChangesOnly (store_spots 0 i (length bs)) g (stored g 0 i bs)
  store-only i bs = guest-changes w (Store 0 i bs ∷ [])

  beside : (a : ℕ) (bs : List ℕ) → 1048576 ≤ a → Keeps (Beside a (length bs)) g (stored g 0 (a - 1048576) bs)
  beside a bs low =
      keeps (Beside a (length bs)) g (stored g 0 (a - 1048576) bs) (store_spots 0 (a - 1048576) (length bs)) was.one
      (λ o i is has.
      let range = spot-stored 0 (length bs) (a - 1048576) o i is in
      elim has.1 [
        | inl less ↦ omega (arith, range.1.low, less, low)
        | inr more ↦ omega (arith, range.1.high, more, low)
      ])
      (store-only (a - 1048576) bs)

  long-stored : (i : ℕ) (bs : List ℕ) → length (content_of (stored g 0 i bs).contents 0) ≡ length (content_of g.contents 0)
  long-stored i bs = (store-only i bs).lengths 0

  -- a store of no guarded byte
  pub other-ready : (a : ℕ) (bs : List ℕ) → 1048576 ≤ a → ((x : ℕ) → a ≤ x → x < a + length bs → (InTable l x ⊎ InIndex l x) → ⊥) → IsReady l n (stored g 0 (a - 1048576) bs)
  other-ready a bs low off = other-kept l at n g (stored g 0 (a - 1048576) bs) was (long-stored (a - 1048576) bs) a (length bs) (beside a bs low) off

  -- the store of the next available index
  pub index-ready : (m : ℕ) → IsReady l m (stored g 0 (avail_index_at l - 1048576) (to_le_bytes w16 (index_of m)))
  index-ready m =
      let bs = to_le_bytes w16 (index_of m) in
      let low : 1048576 ≤ avail_index_at l = omega (arith, at.within.avail.0) in
      index-kept l at n g (stored g 0 (avail_index_at l - 1048576) bs) was (long-stored (avail_index_at l - 1048576) bs) m (beside (avail_index_at l) bs low)
      (read-stored g (avail_index_at l) bs was.one was.long low (omega (arith, at.within.avail.1)))

  -- a store of the two descriptors of a request
  pub chain-ready : (m size room : ℕ) → room ≤ l.slot → room < 2 ^ 32 → IsReady l n (stored g 0 (descriptors_at l m - 1048576) (chain_bytes l m size room))
  chain-ready m size room short few =
      let bs = chain_bytes l m size room in
      let long : length (chain_bytes l m size room) ≡ 32 = length-chain_bytes l m size room in
      let place : place_of l m < half_of l = place_below l m at.fit in
      let low : 1048576 ≤ descriptors_at l m = omega (arith, at.within.desc.0) in
      let high : descriptors_at l m + 32 ≤ 2097152 = omega (arith, place, at.fit.even, at.within.desc.1) in
      let h = stored g 0 (descriptors_at l m - 1048576) (chain_bytes l m size room) in
      let B : ℕ → Type 0 = λ k. Keeps (Beside (descriptors_at l m) k) g (stored g 0 (descriptors_at l m - 1048576) (chain_bytes l m size room)) in
      let back : bytes_at h (descriptors_at l m) 32 ≡ chain_bytes l m size room =
      ap (bytes_at h (descriptors_at l m)) (sym long) ∙ read-stored g (descriptors_at l m) bs was.one was.long low (omega (arith, long, high)) in
      chain-kept l at n g h was (long-stored (descriptors_at l m - 1048576) bs) m size room short few (subst B long (beside (descriptors_at l m) bs low)) back
