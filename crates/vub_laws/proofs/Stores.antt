-- What an action of the guest and a small step of control change of guest memory.
use Rattle.std.proofs.Common.{◌≡◌, ℕ, zero, suc, ◌+◌, ◌-◌, ◌<◌, ◌≤◌, false, eqb, nat_le, inl, inr, List, [], ◌∷◌, ◌++◌, length, get_or, take, drop, refl, sym, ap, subst, ◌∙◌, arith}
use Rattle.std.proofs.lemmas.Bool.{cases_Bool, cases_eq, cases_lt, cond_both, eqb-true, ne_eqb, leb-true}
use Rattle.std.proofs.lemmas.List.{get_or_append_left, get_or-append_right, get_or-take, get_or-drop, length-take-le}
use Rattle.vub_mem.specs.declared.content.Content.{Content}
use Rattle.vub_mem.specs.Laws.{byte_of}
use Rattle.vub_mem.specs.Memory as memory
use Rattle.vub_mem.specs.Place.{content_of, with_bytes, overwritten, store_at}
use Rattle.vub_mem.proofs.Contents.{content_true, content_false, stores_true, stores_false, length-overwritten}
use Rattle.vub_model.specs.declared.setup.Guest.{Guest}
use Rattle.vub_model.specs.declared.setup.Guest.TheVariants.{Store, Signal, Harvest}
use Rattle.vub_model.specs.declared.small.Small.{Small}
use Rattle.vub_model.specs.declared.small.Small.TheVariants.{Claim, Release, Add, Delete, Listen, Unlisten, Bell}
use Rattle.vub_model.specs.declared.small.Small.TheVariants.{Remove, Insert, Set, Info, Table, Log, Device}
use Rattle.vub_model.specs.declared.small.Small.TheVariants.{Answer as Answering}
use Rattle.vub_model.specs.Control.{small_after}
use Rattle.vub_model.specs.Headline.{IsSpot, ChangesOnly}
use Rattle.vub_model.specs.Shared.{Shared}
use Rattle.vub_model.specs.Wiring.{Wiring}
use Rattle.vub_model.specs.World.{World, after_guest, stored}
use Rattle.vub_model.specs.Written.{Spot}
use Rattle.vub_laws.specs.Alone.{store_spots, stored_spots}

-- Stores

-- the content that is stored into, where the bytes fit
stored-own : (cs : List Content) (o i : ℕ) (bs : List ℕ) → i + length bs ≤ length (content_of cs o) → content_of (with_bytes cs o i bs) o ≡ overwritten (content_of cs o) i bs
stored-own [] o i (b ∷ bs) fits = absurd (omega (arith, fits))
stored-own [] o zero [] fits = refl
stored-own [] o (suc i) [] fits = absurd (omega (arith, fits))
stored-own (c ∷ cs) o i bs fits =
    elim (cases_Bool (eqb c.object o)) [
      | inl t ↦
          ap (λ w. content_of w o) (stores_true c cs o i bs t) ∙ content_true (record c { bytes = overwritten c.bytes i bs }) cs o t
          ∙ sym (ap (λ xs. overwritten xs i bs) (content_true c cs o t))
      | inr f ↦
          ap (λ w. content_of w o) (stores_false c cs o i bs f) ∙ content_false c (with_bytes cs o i bs) o f
          ∙ stored-own cs o i bs (let same = ap length (content_false c cs o f) in omega (arith, fits, same))
          ∙ sym (ap (λ xs. overwritten xs i bs) (content_false c cs o f))
    ]

-- another
stored-other : (cs : List Content) (o i q : ℕ) (bs : List ℕ) → (o ≡ q → ⊥) → content_of (with_bytes cs o i bs) q ≡ content_of cs q
stored-other [] o i q bs apart = refl
stored-other (c ∷ cs) o i q bs apart =
    elim (cases_Bool (eqb c.object o)) [
      | inl t ↦
          (let other : eqb c.object q ≡ false = ne_eqb c.object q (λ same. apart (sym (eqb-true c.object o t) ∙ same)) in
          ap (λ w. content_of w q) (stores_true c cs o i bs t) ∙ content_false (record c { bytes = overwritten c.bytes i bs }) cs q other ∙ sym (content_false c cs q other))
      | inr f ↦
          ap (λ w. content_of w q) (stores_false c cs o i bs f) ∙
          elim (cases_Bool (eqb c.object q)) [
            | inl s ↦ content_true c (with_bytes cs o i bs) q s ∙ sym (content_true c cs q s)
            | inr s ↦ content_false c (with_bytes cs o i bs) q s ∙ stored-other cs o i q bs apart ∙ sym (content_false c cs q s)
          ]
    ]

-- a byte before or behind those that are stored
before-same : (xs : List ℕ) (i j : ℕ) (bs : List ℕ) → i ≤ length xs → j < i → get_or (overwritten xs i bs) j 0 ≡ get_or xs j 0
before-same xs i j bs fits low =
    let long = length-take-le i xs fits in
    get_or_append_left (take i xs) (bs ++ drop (i + length bs) xs) 0 j (omega (arith, low, long)) ∙ get_or-take i xs j 0 low

behind-same : (xs : List ℕ) (i j : ℕ) (bs : List ℕ) → i ≤ length xs → i + length bs ≤ j → get_or (overwritten xs i bs) j 0 ≡ get_or xs j 0
behind-same xs i j bs fits high =
    let end : i + length bs + (j - i - length bs) ≡ j = omega (arith, high) in
    get_or-append_right (take i xs) (bs ++ drop (i + length bs) xs) i j 0 (length-take-le i xs fits) (omega (arith, high))
    ∙ get_or-append_right bs (drop (i + length bs) xs) (length bs) (j - i) 0 refl (omega (arith, high))
    ∙ get_or-drop (i + length bs) xs (j - i - length bs) 0
    ∙ ap (λ n. get_or xs n 0) end

store-spot : (o i n j : ℕ) → i ≤ j → j < i + n → IsSpot (store_spots o i n) o j
store-spot o i zero j low high = absurd (omega (arith, low, high))
store-spot o i (suc n) j low high =
    elim (cases_eq i j) [
      | inl same ↦ inl (refl, same)
      | inr other ↦ inr (store-spot o (i + 1) n j (omega (arith, low, other)) (omega (arith, high)))
    ]

store-changes : (g : memory.Guest) (o i : ℕ) (bs : List ℕ) → i + length bs ≤ length (content_of g.contents o) → ChangesOnly (store_spots o i (length bs)) g (store_at g o i bs)
unfolding store_at
store-changes g o i bs fits = record { regions = refl; lengths = lengths; bytes = bytes } where
  lengths : (q : ℕ) → length (content_of (with_bytes g.contents o i bs) q) ≡ length (content_of g.contents q)
  lengths q =
      elim (cases_eq o q) [
        | inl same ↦
            (let P : ℕ → Type 0 = λ x. length (content_of (with_bytes g.contents o i bs) x) ≡ length (content_of g.contents x) in
            subst P same (ap length (stored-own g.contents o i bs fits) ∙ length-overwritten (content_of g.contents o) i bs fits))
        | inr other ↦ ap length (stored-other g.contents o i q bs other)
      ]

  own : (j : ℕ) → (IsSpot (store_spots o i (length bs)) o j → ⊥) → get_or (content_of (with_bytes g.contents o i bs) o) j 0 ≡ get_or (content_of g.contents o) j 0
  own j apart =
      ap (λ xs. get_or xs j 0) (stored-own g.contents o i bs fits) ∙
      elim (cases_lt j i) [
        | inl low ↦ before-same (content_of g.contents o) i j bs (omega (arith, fits)) low
        | inr high ↦ elim (cases_lt j (i + length bs)) [
          | inl within ↦ absurd (apart (store-spot o i (length bs) j (omega (arith, high)) within))
          | inr past ↦ behind-same (content_of g.contents o) i j bs (omega (arith, fits)) (omega (arith, past))
        ]
      ]

  bytes : (q j : ℕ) → (IsSpot (store_spots o i (length bs)) q j → ⊥) → byte_of (record g { contents = with_bytes g.contents o i bs }) q j ≡ byte_of g q j
  bytes q j apart =
      elim (cases_eq o q) [
        | inl same ↦
            (let P : ℕ → Type 0 = λ x. (IsSpot (store_spots o i (length bs)) x j → ⊥) → get_or (content_of (with_bytes g.contents o i bs) x) j 0 ≡ get_or (content_of g.contents x) j 0 in
            (subst P same (own j)) apart)
        | inr other ↦ ap (λ xs. get_or xs j 0) (stored-other g.contents o i q bs other)
      ]

pub unchanged : (spots : List Spot) (g : memory.Guest) → ChangesOnly spots g g
unchanged spots g = record { regions = refl; lengths = λ o. refl; bytes = λ o j apart. refl }

stored-changes : (g : memory.Guest) (o i : ℕ) (bs : List ℕ) → ChangesOnly (store_spots o i (length bs)) g (stored g o i bs)
unfolding stored
stored-changes g o i bs =
    cond_both {A = memory.Guest} (nat_le (i + length bs) (length (content_of g.contents o))) (store_at g o i bs) g (λ x. ChangesOnly (store_spots o i (length bs)) g x)
    (λ fits. store-changes g o i bs (leb-true (i + length bs) (length (content_of g.contents o)) fits)) (λ past. unchanged (store_spots o i (length bs)) g)

-- the guest's next action changes what it stores
pub guest-changes : {V : Type 0} (w : World V) (actions : List Guest) → ChangesOnly (stored_spots actions) w.shared.guest (after_guest w actions).shared.guest
guest-changes w [] = unchanged [] w.shared.guest
guest-changes w (Store o i bs ∷ actions) = stored-changes w.shared.guest o i bs
guest-changes w (Signal o ∷ actions) = unchanged [] w.shared.guest
guest-changes w (Harvest o n ∷ actions) = unchanged [] w.shared.guest

-- Control

-- a step of control changes no byte
pub small-contents : {V : Type 0} (g : Wiring) (h : Shared V) (s : Small) → (small_after g h s).guest.contents ≡ h.guest.contents
small-contents g h (Claim o q) = refl
small-contents g h (Release o) = refl
small-contents g h (Add k o n) = refl
small-contents g h (Delete k o) = refl
small-contents g h (Listen k o n) = refl
small-contents g h (Unlisten k o a) = refl
small-contents g h (Bell o) = refl
small-contents g h (Remove k n) = refl
small-contents g h (Insert k n) = refl
small-contents g h (Set q o) = refl
small-contents g h (Info q desc avail used) = refl
small-contents g h (Table change) = refl
small-contents g h (Log o offset size) = refl
small-contents g h (Device call) = refl
small-contents g h Answering = refl
