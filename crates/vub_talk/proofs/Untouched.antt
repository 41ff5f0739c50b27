-- What a run did not write stands as the guest's stores alone made it.
use Rattle.std.proofs.Common.{◌≡◌, ◌≢◌, ℕ, zero, suc, ◌+◌, ◌<◌, ◌≤◌, inl, inr, Bool, true, false, true≢false, cond, List, [], ◌∷◌, ◌++◌, length, take, drop, get_or, set, refl, sym, ap, subst, ◌∙◌, arith, eqb, leb, length-set}
use Rattle.std.proofs.lemmas.Bool.{cases_Bool, cases_eq, cases_lt, eqb-true, leb-true, cond-true, cond-false}
use Rattle.std.proofs.lemmas.List.{get_or-set_same, get_or-set_other, get_or_past}
use Rattle.vub_mem.specs.declared.content.Content.{Content}
use Rattle.vub_mem.specs.Memory.{Guest}
use Rattle.vub_mem.specs.Place.{content_of, overwritten, store_at, with_bytes}
use Rattle.vub_mem.proofs.Contents.{content_true, content_false, stores_true, stores_false, length-overwritten, length-with_bytes}
use Rattle.vub_model.specs.declared.party.Party.{Party}
use Rattle.vub_model.specs.declared.party.Party.TheVariants as party
use Rattle.vub_model.specs.declared.play.Play.{Play}
use Rattle.vub_model.specs.declared.play.Play.TheVariants as play
use Rattle.vub_model.specs.declared.setup.Guest.{Guest as Action}
use Rattle.vub_model.specs.declared.setup.Guest.TheVariants.{Store, Signal, Harvest}
use Rattle.vub_model.specs.Control.{MayControl}
use Rattle.vub_model.specs.Headline.{IsSpot}
use Rattle.vub_model.specs.RunOf.{party_of, Turn, IsRun}
use Rattle.vub_model.specs.Service.{Meaning}
use Rattle.vub_model.specs.Shared.{Shared}
use Rattle.vub_model.specs.World.{World, May, after, acted, stored, phase_at, written_by}
use Rattle.vub_model.specs.Written.{Spot, flagged, with_spots, is_written}
use Rattle.vub_model.proofs.Confined.{confined-work}
use Rattle.vub_model.proofs.Turns.{turn-cases}

-- Stores on the bytes of the content

abbrev pub over_if : List ℕ → ℕ → List ℕ → List ℕ
over_if ys i bs = cond (leb (i + length bs) (length ys)) (overwritten ys i bs) ys

abbrev pub act_on : List ℕ → Action → List ℕ
act_on ys (Store o i bs) = cond (eqb o 0) (over_if ys i bs) ys
act_on ys (Signal o) = ys
act_on ys (Harvest o word) = ys

abbrev pub acts_on : List ℕ → List Action → List ℕ
acts_on ys [] = ys
acts_on ys (action ∷ actions) = acts_on (act_on ys action) actions

over_agrees : (i k : ℕ) (xs ys bs : List ℕ) → length xs ≡ length ys → i + length bs ≤ length xs → get_or xs k 0 ≡ get_or ys k 0 → get_or (overwritten xs i bs) k 0 ≡ get_or (overwritten ys i bs) k 0
over_agrees zero k xs ys [] long fits same = same
over_agrees zero k [] ys (b ∷ bs) long fits same = absurd (omega arith)
over_agrees zero k (x ∷ xs) [] (b ∷ bs) long fits same = absurd (omega arith)
over_agrees zero zero (x ∷ xs) (y ∷ ys) (b ∷ bs) long fits same = refl
over_agrees zero (suc k) (x ∷ xs) (y ∷ ys) (b ∷ bs) long fits same =
    let up : zero + suc (length bs) ≡ suc (zero + length bs) = omega arith in
    ap (λ n. get_or (bs ++ drop n (x ∷ xs)) k 0) up ∙ over_agrees zero k xs ys bs (omega arith) (omega arith) same ∙ sym (ap (λ n. get_or (bs ++ drop n (y ∷ ys)) k 0) up)
over_agrees (suc i) k [] ys bs long fits same = absurd (omega arith)
over_agrees (suc i) k (x ∷ xs) [] bs long fits same = absurd (omega arith)
over_agrees (suc i) zero (x ∷ xs) (y ∷ ys) bs long fits same = same
over_agrees (suc i) (suc k) (x ∷ xs) (y ∷ ys) bs long fits same =
    let up : suc i + length bs ≡ suc (i + length bs) = omega arith in
    ap (λ n. get_or (take i xs ++ (bs ++ drop n (x ∷ xs))) k 0) up ∙ over_agrees i k xs ys bs (omega arith) (omega arith) same ∙ sym (ap (λ n. get_or (take i ys ++ (bs ++ drop n (y ∷ ys))) k 0) up)

pub length-over_if : (ys : List ℕ) (i : ℕ) (bs : List ℕ) → length (over_if ys i bs) ≡ length ys
length-over_if ys i bs = elim (cases_Bool (leb (i + length bs) (length ys))) [
  | inl fits ↦ ap length (cond-true (leb (i + length bs) (length ys)) (overwritten ys i bs) ys fits) ∙ length-overwritten ys i bs (leb-true (i + length bs) (length ys) fits)
  | inr past ↦ ap length (cond-false (leb (i + length bs) (length ys)) (overwritten ys i bs) ys past)
]

over_if_agrees : (xs ys : List ℕ) (i : ℕ) (bs : List ℕ) (k : ℕ) → length xs ≡ length ys → get_or xs k 0 ≡ get_or ys k 0 → get_or (over_if xs i bs) k 0 ≡ get_or (over_if ys i bs) k 0
over_if_agrees xs ys i bs k long same = elim (cases_Bool (leb (i + length bs) (length xs))) [
  | inl fits ↦
      let there : leb (i + length bs) (length ys) ≡ true = ap (leb (i + length bs)) (sym long) ∙ fits in
      ap (λ l. get_or l k 0) (cond-true (leb (i + length bs) (length xs)) (overwritten xs i bs) xs fits)
      ∙ over_agrees i k xs ys bs long (leb-true (i + length bs) (length xs) fits) same
      ∙ sym (ap (λ l. get_or l k 0) (cond-true (leb (i + length bs) (length ys)) (overwritten ys i bs) ys there))
  | inr past ↦
      let there : leb (i + length bs) (length ys) ≡ false = ap (leb (i + length bs)) (sym long) ∙ past in
      ap (λ l. get_or l k 0) (cond-false (leb (i + length bs) (length xs)) (overwritten xs i bs) xs past)
      ∙ same
      ∙ sym (ap (λ l. get_or l k 0) (cond-false (leb (i + length bs) (length ys)) (overwritten ys i bs) ys there))
]

length-act_on : (xs : List ℕ) (action : Action) → length (act_on xs action) ≡ length xs
length-act_on xs (Store o i bs) = elim (eqb o 0) as (λ b. length (cond b (over_if xs i bs) xs) ≡ length xs) [ true ↦ length-over_if xs i bs | false ↦ refl ]
length-act_on xs (Signal o) = refl
length-act_on xs (Harvest o word) = refl

pub length-acts_on : (xs : List ℕ) (actions : List Action) → length (acts_on xs actions) ≡ length xs
length-acts_on xs [] = refl
length-acts_on xs (action ∷ actions) = length-acts_on (act_on xs action) actions ∙ length-act_on xs action

act_agrees : (xs ys : List ℕ) (action : Action) (k : ℕ) → length xs ≡ length ys → get_or xs k 0 ≡ get_or ys k 0 → get_or (act_on xs action) k 0 ≡ get_or (act_on ys action) k 0
act_agrees xs ys (Store o i bs) k long same = elim (eqb o 0) as (λ b. get_or (cond b (over_if xs i bs) xs) k 0 ≡ get_or (cond b (over_if ys i bs) ys) k 0) [ true ↦ over_if_agrees xs ys i bs k long same | false ↦ same ]
act_agrees xs ys (Signal o) k long same = same
act_agrees xs ys (Harvest o word) k long same = same

acts_agree : (actions : List Action) (xs ys : List ℕ) (k : ℕ) → length xs ≡ length ys → get_or xs k 0 ≡ get_or ys k 0 → get_or (acts_on xs actions) k 0 ≡ get_or (acts_on ys actions) k 0
acts_agree [] xs ys k long same = same
acts_agree (action ∷ actions) xs ys k long same =
    acts_agree actions (act_on xs action) (act_on ys action) k (length-act_on xs action ∙ long ∙ sym (length-act_on ys action)) (act_agrees xs ys action k long same)

-- the content after a store
content_stored : (cs : List Content) (i : ℕ) (bs : List ℕ) → 0 < length (content_of cs 0) → content_of (with_bytes cs 0 i bs) 0 ≡ overwritten (content_of cs 0) i bs
content_stored [] i bs some = absurd (omega arith)
content_stored (c ∷ cs) i bs some = elim (cases_Bool (eqb c.object 0)) [
  | inl t ↦ ap (λ w. content_of w 0) (stores_true c cs 0 i bs t) ∙ content_true (record c { bytes = overwritten c.bytes i bs }) cs 0 t ∙ ap (λ xs. overwritten xs i bs) (sym (content_true c cs 0 t))
  | inr f ↦ ap (λ w. content_of w 0) (stores_false c cs 0 i bs f) ∙ content_false c (with_bytes cs 0 i bs) 0 f
      ∙ content_stored cs i bs (subst (λ l. 0 < length l) (content_false c cs 0 f) some) ∙ ap (λ xs. overwritten xs i bs) (sym (content_false c cs 0 f))
]

content_other : (cs : List Content) (o i : ℕ) (bs : List ℕ) → o ≢ 0 → content_of (with_bytes cs o i bs) 0 ≡ content_of cs 0
content_other [] o i bs other = refl
content_other (c ∷ cs) o i bs other = elim (cases_Bool (eqb c.object o)) [
  | inl t ↦ ap (λ w. content_of w 0) (stores_true c cs o i bs t) ∙ elim (cases_Bool (eqb c.object 0)) [
    | inl z ↦ absurd (other (sym (eqb-true c.object o t) ∙ eqb-true c.object 0 z))
    | inr f ↦ content_false (record c { bytes = overwritten c.bytes i bs }) cs 0 f ∙ sym (content_false c cs 0 f)
  ]
  | inr f ↦ ap (λ w. content_of w 0) (stores_false c cs o i bs f) ∙ elim (cases_Bool (eqb c.object 0)) [
    | inl z ↦ content_true c (with_bytes cs o i bs) 0 z ∙ sym (content_true c cs 0 z)
    | inr g ↦ content_false c (with_bytes cs o i bs) 0 g ∙ content_other cs o i bs other ∙ sym (content_false c cs 0 g)
  ]
]

stored_if : (g : Guest) (o i : ℕ) (bs : List ℕ) (fits : Bool) → 0 < length (content_of g.contents 0) → o ≡ 0 →
    content_of (cond {A = Guest} fits (store_at g o i bs) g).contents 0 ≡ cond fits (overwritten (content_of g.contents 0) i bs) (content_of g.contents 0)
unfolding store_at
stored_if g o i bs true some same = ap (λ x. content_of (with_bytes g.contents x i bs) 0) same ∙ content_stored g.contents i bs some
stored_if g o i bs false some same = refl

stored_else : (g : Guest) (o i : ℕ) (bs : List ℕ) (fits : Bool) → o ≢ 0 → content_of (cond {A = Guest} fits (store_at g o i bs) g).contents 0 ≡ content_of g.contents 0
unfolding store_at
stored_else g o i bs true other = content_other g.contents o i bs other
stored_else g o i bs false other = refl

pub content_over : (g : Guest) (i : ℕ) (bs : List ℕ) → 0 < length (content_of g.contents 0) → content_of (stored g 0 i bs).contents 0 ≡ over_if (content_of g.contents 0) i bs
unfolding stored
content_over g i bs some = stored_if g 0 i bs (leb (i + length bs) (length (content_of g.contents 0))) some refl

content_beside : (g : Guest) (o i : ℕ) (bs : List ℕ) → o ≢ 0 → content_of (stored g o i bs).contents 0 ≡ content_of g.contents 0
unfolding stored
content_beside g o i bs other = stored_else g o i bs (leb (i + length bs) (length (content_of g.contents o))) other

pub content_acted : {V : Type 0} (h : Shared V) (action : Action) → 0 < length (content_of h.guest.contents 0) → content_of (acted h action).guest.contents 0 ≡ act_on (content_of h.guest.contents 0) action
content_acted h (Store o i bs) some = elim (cases_eq o 0) [
  | inl same ↦
      let P : ℕ → Type 0 = λ x. content_of (stored h.guest x i bs).contents 0 ≡ cond (eqb x 0) (over_if (content_of h.guest.contents 0) i bs) (content_of h.guest.contents 0) in
      subst P (sym same) (content_over h.guest i bs some)
  | inr other ↦ content_beside h.guest o i bs other ∙ sym (cond-false (eqb o 0) (over_if (content_of h.guest.contents 0) i bs) (content_of h.guest.contents 0) (elim (cases_Bool (eqb o 0)) [ inl t ↦ absurd (other (eqb-true o 0 t)) | inr f ↦ f ]))
]
content_acted h (Signal o) some = refl
content_acted h (Harvest o word) some = refl

stored_length : (g : Guest) (o i : ℕ) (bs : List ℕ) (q : ℕ) (fits : Bool) → leb (i + length bs) (length (content_of g.contents o)) ≡ fits →
    length (content_of (cond {A = Guest} fits (store_at g o i bs) g).contents q) ≡ length (content_of g.contents q)
unfolding store_at
stored_length g o i bs q true is = length-with_bytes g.contents o i bs q (leb-true (i + length bs) (length (content_of g.contents o)) is)
stored_length g o i bs q false is = refl

pub length_stored : (g : Guest) (o i : ℕ) (bs : List ℕ) (q : ℕ) → length (content_of (stored g o i bs).contents q) ≡ length (content_of g.contents q)
unfolding stored
length_stored g o i bs q = stored_length g o i bs q (leb (i + length bs) (length (content_of g.contents o))) refl

pub length_acted : {V : Type 0} (h : Shared V) (action : Action) (q : ℕ) → length (content_of (acted h action).guest.contents q) ≡ length (content_of h.guest.contents q)
length_acted h (Store o i bs) q = length_stored h.guest o i bs q
length_acted h (Signal o) q = refl
length_acted h (Harvest o word) q = refl

regions_if : (g : Guest) (o i : ℕ) (bs : List ℕ) (fits : Bool) → (cond {A = Guest} fits (store_at g o i bs) g).regions ≡ g.regions
unfolding store_at
regions_if g o i bs true = refl
regions_if g o i bs false = refl

pub regions_stored : (g : Guest) (o i : ℕ) (bs : List ℕ) → (stored g o i bs).regions ≡ g.regions
unfolding stored
regions_stored g o i bs = regions_if g o i bs (leb (i + length bs) (length (content_of g.contents o)))

-- Flags

flag_own : (flags : List (List Bool)) (i j : ℕ) → i < length (get_or flags 0 []) → is_written (flagged flags (record { object = 0; offset = j })) 0 i ≡ false → (is_written flags 0 i ≡ false) × (j ≢ i)
flag_own [] i j within is = absurd (omega arith)
flag_own (row ∷ rows) i j within is = elim (cases_eq i j) [
  | inl same ↦ absurd (true≢false (sym (get_or-set_same row j true false (subst (λ k. k < length row) same within)) ∙ ap (λ x. get_or (set row j true) x false) (sym same) ∙ is))
  | inr other ↦ (sym (get_or-set_other row j i true false other) ∙ is, λ same. other (sym same))
]

there_some : (flags : List (List Bool)) (i : ℕ) → i < length (get_or flags 0 []) → 0 < length flags
there_some [] i within = absurd (omega arith)
there_some (row ∷ rows) i within = omega arith

flag_one : (flags : List (List Bool)) (s : Spot) (i : ℕ) → i < length (get_or flags 0 []) → is_written (flagged flags s) 0 i ≡ false → (is_written flags 0 i ≡ false) × ((s.object ≡ 0) × (s.offset ≡ i) → ⊥)
flag_one flags s i within is = elim (cases_eq s.object 0) [
  | inl same ↦
      let P : ℕ → Type 0 = λ o. is_written (flagged flags (record { object = o; offset = s.offset })) 0 i ≡ false in
      let own = flag_own flags i s.offset within (subst P same is) in
      (own.0, λ both. own.1 both.1)
  | inr other ↦
      let row = set (get_or flags s.object []) s.offset true in
      (sym (ap (λ r. get_or r i false) (get_or-set_other flags s.object 0 row [] (λ z. other (sym z)))) ∙ is, λ both. other both.0)
]

length-flagged : (flags : List (List Bool)) (s : Spot) → length (get_or (flagged flags s) 0 []) ≡ length (get_or flags 0 [])
length-flagged flags s = elim (cases_eq 0 s.object) [
  | inl same ↦ elim (cases_lt s.object (length flags)) [
    | inl within ↦
        ap (λ o. length (get_or (flagged flags s) o [])) same ∙ ap length (get_or-set_same flags s.object (set (get_or flags s.object []) s.offset true) [] within)
        ∙ length-set (get_or flags s.object []) s.offset true ∙ ap (λ o. length (get_or flags o [])) (sym same)
    | inr past ↦
        (let long : length flags ≤ 0 = omega (arith, same) in let longer : length (flagged flags s) ≤ 0 = (let l = length-set flags s.object (set (get_or flags s.object []) s.offset true) in omega arith) in
        ap length (get_or_past (flagged flags s) 0 [] longer) ∙ sym (ap length (get_or_past flags 0 [] long)))
  ]
  | inr other ↦ ap length (get_or-set_other flags s.object 0 (set (get_or flags s.object []) s.offset true) [] other)
]

length-with_spots : (flags : List (List Bool)) (spots : List Spot) → length (get_or (with_spots flags spots) 0 []) ≡ length (get_or flags 0 [])
length-with_spots flags [] = refl
length-with_spots flags (s ∷ spots) = length-with_spots (flagged flags s) spots ∙ length-flagged flags s

flags_none : (flags : List (List Bool)) (spots : List Spot) (i : ℕ) → i < length (get_or flags 0 []) → is_written (with_spots flags spots) 0 i ≡ false → (is_written flags 0 i ≡ false) × (IsSpot spots 0 i → ⊥)
flags_none flags [] i within is = (is, λ no. no)
flags_none flags (s ∷ spots) i within is =
    let later = flags_none (flagged flags s) spots i (omega (arith, length-flagged flags s)) is in
    let first = flag_one flags s i within later.0 in
    (first.0, λ spot. elim spot [ inl own ↦ first.1 own | inr more ↦ later.1 more ])

-- Runs

-- where no byte was written the content is, with what the guest has still to store, as the guest's stores alone make it
pub record Untouched {V : Type 0} (end : List ℕ) (w : World V) : Type 0 where
  pub quiet : w.control.plan.steps ≡ []
  pub flags : length (get_or w.written 0 []) ≡ 1048576
  pub long : length (content_of w.shared.guest.contents 0) ≡ 1048576
  pub none : (o : ℕ) → o ≢ 0 → length (content_of w.shared.guest.contents o) ≡ 0
  pub same : (i : ℕ) → i < 1048576 → is_written w.written 0 i ≡ false → get_or (acts_on (content_of w.shared.guest.contents 0) w.guest) i 0 ≡ get_or end i 0

module _ {V : Type 0} (m : Meaning V) (end : List ℕ) where
  untouched_guest : (w : World V) (actions : List Action) → w.guest ≡ actions → Untouched end w → actions ≢ [] → Untouched end (after m (record w { guest = actions }) party.Guest play.Guest)
  untouched_guest w [] is now some = absurd (some refl)
  untouched_guest w (action ∷ actions) is now some =
      let content = content_acted w.shared action (omega (arith, now.long)) in
      record {
        quiet = now.quiet;
        flags = now.flags;
        none = λ o other. length_acted w.shared action o ∙ now.none o other;
        long = ap length content ∙ length-act_on (content_of w.shared.guest.contents 0) action ∙ now.long;
        same = λ i below none. ap (λ xs. get_or (acts_on xs actions) i 0) content ∙ ap (λ list. get_or (acts_on (content_of w.shared.guest.contents 0) list) i 0) (sym is) ∙ now.same i below none;
      }

  untouched_step : (w : World V) (p : Party) (l : Play) → May w p l → Untouched end w → Untouched end (after m w p l)
  untouched_step w party.Guest play.Guest may now = untouched_guest w w.guest refl now may
  untouched_step w party.Control (play.Control s said) may now = absurd (let none : MayControl w.shared [] s said = subst (λ steps. MayControl w.shared steps s said) now.quiet may in none)
  untouched_step w (party.Worker k) l may now =
      let only = confined-work w.shared m w.wiring k (phase_at w.phases k) l in
      record {
        quiet = now.quiet;
        flags = length-with_spots w.written (written_by w.shared l (phase_at w.phases k)) ∙ now.flags;
        long = only.lengths 0 ∙ now.long;
        none = λ o other. only.lengths o ∙ now.none o other;
        same = λ i below none.
            let parts = flags_none w.written (written_by w.shared l (phase_at w.phases k)) i (omega (arith, now.flags)) none in
            acts_agree w.guest _ _ i (only.lengths 0) (only.bytes 0 i parts.1) ∙ now.same i below parts.0;
      }
  untouched_step w p l may now = absurd may

  untouched_turn : (w : World V) (p : Party) (l : Play) (z : World V) → Turn m w p l z → Untouched end w → Untouched end z
  untouched_turn w p l z t now =
      turn-cases m w p z (λ l. Untouched end z)
      (λ same. subst (λ (x : World V). Untouched end x) (sym same) now)
      (λ l may is. subst (λ (x : World V). Untouched end x) (sym is) (untouched_step w p l may now)) l t

  pub run_untouched : (turns : List ℕ) (plays : List Play) (w z : World V) → IsRun m turns plays w z → Untouched end w → Untouched end z
  run_untouched [] [] w z run now = subst (λ (x : World V). Untouched end x) (sym run) now
  run_untouched [] (l ∷ plays) w z run now = absurd run
  run_untouched (t ∷ turns) [] w z run now = absurd run
  run_untouched (t ∷ turns) (l ∷ plays) w z run now = run_untouched turns plays run.0 z run.2 (untouched_turn w (party_of t) l run.0 run.1 now)
