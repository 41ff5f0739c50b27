-- Each kind of step on a shared log's words keeps their rule.
use Rattle.std.proofs.Common.{◌≡◌, ◌≢◌, ◌⊎◌, ℕ, zero, suc, ◌+◌, ◌*◌, ◌/◌, ◌%◌, ◌<◌, ◌≤◌, true, false, true≢false, List, [], ◌∷◌, ◌++◌, length, get_or, set, length-set, get_or-set_same, get_or-set_other, refl, sym, ap, ◌∙◌, subst, inl, inr, ⊎_elim, arith}
use Rattle.std.specs.Prelude.{bit_or}
use Rattle.std.specs.Int.{bit_at}
use Rattle.std.proofs.lemmas.Nat.{mod_below, div-add-mod'}
use native.Mathlib.Decide.{ℕ_discrete}
use mathlib.Core.Logic.{dite}
use mathlib.Core.Option.{some, none, some-injective, some-ne-none}
use lib.ListN.{get_elem?}
use Rattle.atomic_table.specs.Table.{State, Me, step, keeps, stepped, Allows}
use Rattle.atomic_table.proofs.Lists.{at_set, set_else}
use Rattle.vub_mem.specs.Laws.{IsIn}
use Rattle.vub_log.specs.declared.notes.MarkNote.{MarkNote}
use Rattle.vub_log.specs.declared.notes.LoadNote.{LoadNote}
use Rattle.vub_log.specs.declared.notes.HarvestNote.{HarvestNote}
use Rattle.vub_log.specs.declared.notes.Notes.{Notes}
use Rattle.vub_log.specs.Notes.{generation_of, bits_of, harvests_of, mark_note, load_note, harvest_note, with_mark, with_load, with_harvest, Each, HoldsIn, IsShownBy, IsHarvested}
use Rattle.vub_log.specs.Rule.{MarkHolds, LoadHolds, Fits, IsNoted, Kept, next_word, TellsMark, TellsLoad, TellsHarvest}
use Rattle.vub_log.proofs.Words.{mask, mask_generation, page_one, holds_marked, mark_holds, marked_held, next_generation, bits_low, bits_high, in_harvest, holds_harvested, harvested_held, length_snoc, harvests_same, harvests_other}

module _ {A : Type 0} where
  pub each_map : (P Q : A → Type 0) → ((x : A) → P x → Q x) → (xs : List A) → Each P xs → Each Q xs
  each_map P Q f [] h = tt
  each_map P Q f (x ∷ xs) h = (f x h.0, each_map P Q f xs h.1)

  pub each_append : (P : A → Type 0) → (xs ys : List A) → Each P xs → Each P ys → Each P (xs ++ ys)
  each_append P [] ys h k = k
  each_append P (x ∷ xs) ys h k = (h.0, each_append P xs ys h.1 k)

  pub in_left : (m : A) (xs ys : List A) → IsIn m xs → IsIn m (xs ++ ys)
  in_left m [] ys h = absurd h
  in_left m (x ∷ xs) ys (inl e) = inl e
  in_left m (x ∷ xs) ys (inr h) = inr (in_left m xs ys h)

  pub in_right : (m : A) (xs ys : List A) → IsIn m ys → IsIn m (xs ++ ys)
  in_right m [] ys h = h
  in_right m (x ∷ xs) ys h = inr (in_right m xs ys h)

  pub set_at : (l : List A) (i : ℕ) (a b : A) → get_elem? l i ≡ some a → get_elem? (set l i b) i ≡ some b
  set_at [] i a b e = absurd (some-ne-none a (sym e))
  set_at (x ∷ xs) zero a b e = refl
  set_at (x ∷ xs) (suc i) a b e = set_at xs i a b e

-- what some party noted stays noted where one party notes more
pub noted_on : (views : List Notes) (id : ℕ) (v w : Notes) → get_elem? views id ≡ some v → ((m : MarkNote) → IsIn m v.marks → IsIn m w.marks) → (m : MarkNote) → IsNoted views m → IsNoted (set views id w) m
noted_on views id v w at more m x = dite (ℕ_discrete x.0 id)
    (λ same.
    let here : get_elem? views id ≡ some x.1 = subst (λ (j : ℕ). get_elem? views j ≡ some x.1) same x.2 in
    let is : x.1 ≡ v = some-injective x.1 v (sym here ∙ at) in
    (id, w, set_at views id v w at, more m (subst (λ (u : Notes). IsIn m u.marks) is x.3)))
    (λ other. (x.0, x.1, set_else views id x.0 w other ∙ x.2, x.3))

-- a mark holds on where the word i becomes n
marks_on : (words : List ℕ) (i n : ℕ) (hs now : List HarvestNote) → i < length words → ((c g : ℕ) → c < 32 → HoldsIn (get_or words i 0) (harvests_of i hs) c g → HoldsIn n (harvests_of i now) c g)
    → ((w : ℕ) → w ≢ i → harvests_of w now ≡ harvests_of w hs)
    → (w c g : ℕ) → c < 32 → HoldsIn (get_or words w 0) (harvests_of w hs) c g → HoldsIn (get_or (set words i n) w 0) (harvests_of w now) c g
marks_on words i n hs now inside here apart w c g low h = dite (ℕ_discrete w i)
    (λ same.
    let a : HoldsIn (get_or words i 0) (harvests_of i hs) c g = subst (λ (u : ℕ). HoldsIn (get_or words u 0) (harvests_of u hs) c g) same h in
    let d : HoldsIn (get_or (set words i n) i 0) (harvests_of i now) c g = subst (λ (x : ℕ). HoldsIn x (harvests_of i now) c g) (sym (get_or-set_same words i n 0 inside)) (here c g low a) in
    subst (λ (u : ℕ). HoldsIn (get_or (set words i n) u 0) (harvests_of u now) c g) (sym same) d)
    (λ other.
    let a : HoldsIn (get_or words w 0) (harvests_of w now) c g = subst (λ (l : List ℕ). HoldsIn (get_or words w 0) l c g) (sym (apart w other)) h in
    subst (λ (x : ℕ). HoldsIn x (harvests_of w now) c g) (sym (get_or-set_other words i w n 0 other)) a)

generation_on : (words : List ℕ) (i n : ℕ) → i < length words → generation_of (get_or words i 0) ≤ generation_of n → (w : ℕ) → generation_of (get_or words w 0) ≤ generation_of (get_or (set words i n) w 0)
generation_on words i n inside up w = dite (ℕ_discrete w i)
    (λ same. subst (λ (u : ℕ). generation_of (get_or words u 0) ≤ generation_of (get_or (set words i n) u 0)) (sym same)
    (subst (λ (x : ℕ). generation_of (get_or words i 0) ≤ generation_of x) (sym (get_or-set_same words i n 0 inside)) up))
    (λ other. subst (λ (x : ℕ). generation_of (get_or words w 0) ≤ generation_of x) (sym (get_or-set_other words i w n 0 other)) (omega arith))

most : (a b c : ℕ) → a ≤ b → b ≤ c → a ≤ c
most a b c h k = omega arith

-- how the word i becomes n, the harvests and the notes of the party that makes the step
record Change (words : List ℕ) (i n : ℕ) (hs now : List HarvestNote) (v w : Notes) : Type 0 where
  inside : i < length words
  here : (c g : ℕ) → c < 32 → HoldsIn (get_or words i 0) (harvests_of i hs) c g → HoldsIn n (harvests_of i now) c g
  back : (c g : ℕ) → c < 32 → HoldsIn n (harvests_of i now) c g → HoldsIn (get_or words i 0) (harvests_of i hs) c g ⊎ IsIn (mark_note (32 * i + c) g) w.marks
  more : (m : MarkNote) → IsIn m v.marks → IsIn m w.marks
  apart : (w : ℕ) → w ≢ i → harvests_of w now ≡ harvests_of w hs
  up : generation_of (get_or words i 0) ≤ generation_of n
  counts : generation_of (get_or words i 0) ≡ length (harvests_of i hs) → generation_of n ≡ length (harvests_of i now)

module _ (count : ℕ) (s : State ℕ Notes) (k : Kept count s) (i n : ℕ) (now : List HarvestNote) (me w : Notes) (x : Change s.words i n k.harvests now me w) where
  marks_held : (v : Notes) → Each (MarkHolds s.words k.harvests) v.marks → Each (MarkHolds (set s.words i n) now) v.marks
  marks_held v = each_map (MarkHolds s.words k.harvests) (MarkHolds (set s.words i n) now)
      (λ m h. marks_on s.words i n k.harvests now x.inside x.here x.apart (m.page / 32) (m.page % 32) m.generation (mod_below m.page 32 (omega arith)) h) v.marks

  loads_held : (v : Notes) → Each (LoadHolds s.words k.harvests) v.loads → Each (LoadHolds (set s.words i n) now) v.loads
  loads_held v = each_map (LoadHolds s.words k.harvests) (LoadHolds (set s.words i n) now)
      (λ l h. (
        most l.generation (generation_of (get_or s.words l.word 0)) (generation_of (get_or (set s.words i n) l.word 0)) h.0 (generation_on s.words i n x.inside x.up l.word),
        λ c low e. marks_on s.words i n k.harvests now x.inside x.here x.apart l.word c l.generation low (h.1 c low e),
      )) v.loads

  -- what holds afterwards was noted
  made_on : (id : ℕ) → get_elem? s.views id ≡ some me → (u c g : ℕ) → c < 32 → HoldsIn (get_or (set s.words i n) u 0) (harvests_of u now) c g → IsNoted (set s.views id w) (mark_note (32 * u + c) g)
  made_on id at u c g low h = dite (ℕ_discrete u i)
      (λ same.
      let a : HoldsIn (get_or (set s.words i n) i 0) (harvests_of i now) c g = subst (λ (y : ℕ). HoldsIn (get_or (set s.words i n) y 0) (harvests_of y now) c g) same h in
      let b : HoldsIn n (harvests_of i now) c g = subst (λ (y : ℕ). HoldsIn y (harvests_of i now) c g) (get_or-set_same s.words i n 0 x.inside) a in
      subst (λ (y : ℕ). IsNoted (set s.views id w) (mark_note (32 * y + c) g)) (sym same)
      (⊎_elim (λ (t : HoldsIn (get_or s.words i 0) (harvests_of i k.harvests) c g). noted_on s.views id me w at x.more (mark_note (32 * i + c) g) (k.made i c g low t))
      (λ (t : IsIn (mark_note (32 * i + c) g) w.marks). (id, w, set_at s.views id me w at, t)) (x.back c g low b)))
      (λ other.
      let a : HoldsIn (get_or s.words u 0) (harvests_of u now) c g = subst (λ (y : ℕ). HoldsIn y (harvests_of u now) c g) (get_or-set_other s.words i u n 0 other) h in
      let b : HoldsIn (get_or s.words u 0) (harvests_of u k.harvests) c g = subst (λ (l : List ℕ). HoldsIn (get_or s.words u 0) l c g) (x.apart u other) a in
      noted_on s.views id me w at x.more (mark_note (32 * u + c) g) (k.made u c g low b))

  -- the party id has the notes w afterwards, and where it changes the harvests it is the keeper
  moved : (id keeper : ℕ) (c : List (ℕ × ℕ)) → get_elem? s.views id ≡ some me → ((j : ℕ) (v : Notes) → j ≢ id → (j ≡ k.keeper) × (v.harvests ≡ k.harvests) → (j ≡ keeper) × (v.harvests ≡ now))
      → Fits (set s.words i n) now keeper id w → Kept count (stepped s i n id c w keeps)
  moved id keeper c at others mine = record {
    wide = length-set s.words i n ∙ k.wide;
    harvests = now;
    keeper = keeper;
    counts = λ u inside. dite (ℕ_discrete u i)
        (λ same. subst (λ (y : ℕ). generation_of (get_or (set s.words i n) y 0) ≡ length (harvests_of y now)) (sym same)
        (ap generation_of (get_or-set_same s.words i n 0 x.inside) ∙ x.counts (k.counts i x.inside)))
        (λ other. ap generation_of (get_or-set_other s.words i u n 0 other) ∙ (k.counts u (subst (λ (y : ℕ). u < y) (length-set s.words i n) inside) ∙ ap (λ (l : List ℕ). length l) (sym (x.apart u other))));
    fits = λ j v e. ⊎_elim
        (λ (t : (j ≡ id) × (w ≡ v)). subst (λ (y : ℕ × Notes). Fits (set s.words i n) now keeper y.0 y.1) (λ z. (sym t.0 z, t.1 z)) mine)
        (λ (t : (j ≢ id) × (get_elem? s.views j ≡ some v)).
        let f = k.fits j v t.1 in
        record { keeps = λ h. others j v t.0 (f.keeps h); marks = marks_held v f.marks; loads = loads_held v f.loads })
        (at_set s.views id j w v e);
    made = made_on id at;
  }

-- ---- a mark

mark_changes : (count : ℕ) (s : State ℕ Notes) (k : Kept count s) (i b : ℕ) (v : Notes) → i < count → b < 32
    → Change s.words i (bit_or (get_or s.words i 0) (mask b)) k.harvests k.harvests v (with_mark v (mark_note (32 * i + b) (generation_of (get_or s.words i 0))))
mark_changes count s k i b v inside low = let wide = k.wide in
    let n : ℕ = get_or s.words i 0 in
    let same = mask_generation n b low in
    let m : MarkNote = mark_note (32 * i + b) (generation_of n) in record {
      inside = omega arith;
      here = λ c g _ h. holds_marked n b (harvests_of i k.harvests) c g low h;
      back = λ c g _ h. ⊎_elim (λ (t : HoldsIn n (harvests_of i k.harvests) c g). inl t)
          (λ (t : (c ≡ b) × (g ≡ generation_of n)). inr (in_right (mark_note (32 * i + c) g) v.marks (m ∷ []) (inl (λ z. mark_note (32 * i + sym t.0 z) (sym t.1 z)))))
          (marked_held n b (harvests_of i k.harvests) c g low h);
      more = λ q h. in_left q v.marks (m ∷ []) h;
      apart = λ w other. refl;
      up = subst (λ (y : ℕ). generation_of n ≤ y) (sym same) (omega arith);
      counts = λ e. same ∙ e;
    }

pub page_is : (p : ℕ) → 32 * (p / 32) + p % 32 ≡ p
page_is p = let e = div-add-mod' p 32 in omega arith

pub marks_step : (count slots id : ℕ) (me : Me ℕ Notes) (page : ℕ) → page / 32 < count
    → Allows (Kept count) slots id me (page / 32) (λ n. bit_or n (mask (page % 32))) (TellsMark (step slots (page / 32) (mask (page % 32)) 0 none) me)
marks_step count slots id me page inside s k _ at _ =
    let i : ℕ = page / 32 in
    let b : ℕ = page % 32 in
    let low : b < 32 = mod_below page 32 (omega arith) in
    let n : ℕ = get_or s.words i 0 in
    let v : Notes = me.0 in
    let m : MarkNote = mark_note page (generation_of n) in
    let w : Notes = with_mark v m in
    let x : Change s.words i (bit_or n (mask b)) k.harvests k.harvests v w =
    subst (λ (p : ℕ). Change s.words i (bit_or n (mask b)) k.harvests k.harvests v (with_mark v (mark_note p (generation_of n)))) (page_is page) (mark_changes count s k i b v inside low) in
    let f = k.fits id v at in
    let new : MarkHolds (set s.words i (bit_or n (mask b))) k.harvests m =
    subst (λ (y : ℕ). HoldsIn y (harvests_of i k.harvests) b (generation_of n)) (sym (get_or-set_same s.words i (bit_or n (mask b)) 0 x.inside)) (mark_holds n b (harvests_of i k.harvests) low) in (
      w,
      keeps,
      tt,
      moved count s k i (bit_or n (mask b)) k.harvests v w x id k.keeper me.1 at (λ j u _ h. h) record {
        keeps = f.keeps;
        marks = each_append (MarkHolds (set s.words i (bit_or n (mask b))) k.harvests) v.marks (m ∷ []) (marks_held count s k i (bit_or n (mask b)) k.harvests v w x v f.marks) (new, tt);
        loads = loads_held count s k i (bit_or n (mask b)) k.harvests v w x v f.loads;
      },
      ((λ p e q. ap (λ (r : ℕ). with_mark v (mark_note r (generation_of n))) (page_one page p (sym e) (sym q))), refl),
    )

-- ---- a load

load_changes : (count : ℕ) (s : State ℕ Notes) (k : Kept count s) (i : ℕ) (v w : Notes) → i < count → ((m : MarkNote) → IsIn m v.marks → IsIn m w.marks) → Change s.words i (get_or s.words i 0) k.harvests k.harvests v w
load_changes count s k i v w inside more = let wide = k.wide in record {
  inside = omega arith;
  here = λ c g _ h. h;
  back = λ c g _ h. inl h;
  more = more;
  apart = λ w other. refl;
  up = omega arith;
  counts = λ e. e;
}

shown : (words : List ℕ) (hs : List HarvestNote) (i : ℕ) (m : MarkNote) → MarkHolds words hs m → IsShownBy i (bits_of (get_or words i 0)) (generation_of (get_or words i 0)) m
shown words hs i m h is =
    let c : ℕ = m.page % 32 in
    let a : HoldsIn (get_or words i 0) (harvests_of i hs) c m.generation = subst (λ (w : ℕ). HoldsIn (get_or words w 0) (harvests_of w hs) c m.generation) is h in
    ⊎_elim (λ t. inl (t.0, bits_low (get_or words i 0) c (mod_below m.page 32 (omega arith)) t.1)) (λ t. inr t.0) a

pub loads_step : (count slots id : ℕ) (me : Me ℕ Notes) (i : ℕ) → i < count → Allows (Kept count) slots id me i (λ n. n) (TellsLoad (step slots i 0 0 none) me)
loads_step count slots id me i inside s k _ at _ =
    let n : ℕ = get_or s.words i 0 in
    let v : Notes = me.0 in
    let l : LoadNote = load_note i (bits_of n) (generation_of n) in
    let w : Notes = with_load v l in
    let x = load_changes count s k i v w inside (λ m h. h) in
    let f = k.fits id v at in
    let same = get_or-set_same s.words i n 0 x.inside in
    let new : LoadHolds (set s.words i n) k.harvests l = (
      subst (λ (y : ℕ). generation_of n ≤ generation_of y) (sym same) (omega arith),
      λ c low e. subst (λ (y : ℕ). HoldsIn y (harvests_of i k.harvests) c (generation_of n)) (sym same) (inl (refl, bits_high n c low e)),
    ) in (
      w,
      keeps,
      tt,
      moved count s k i n k.harvests v w x id k.keeper me.1 at (λ j u _ h. h) record {
        keeps = f.keeps;
        marks = marks_held count s k i n k.harvests v w x v f.marks;
        loads = each_append (LoadHolds (set s.words i n) k.harvests) v.loads (l ∷ []) (loads_held count s k i n k.harvests v w x v f.loads) (new, tt);
      },
      (refl, each_map (MarkHolds s.words k.harvests) (IsShownBy i (bits_of n) (generation_of n)) (shown s.words k.harvests i) v.marks f.marks, refl),
    )

-- ---- a harvest

harvest_changes : (count : ℕ) (s : State ℕ Notes) (k : Kept count s) (i : ℕ) (v w : Notes) → i < count → ((m : MarkNote) → IsIn m v.marks → IsIn m w.marks)
    → Change s.words i (next_word (generation_of (get_or s.words i 0))) k.harvests (k.harvests ++ harvest_note i (bits_of (get_or s.words i 0)) ∷ []) v w
harvest_changes count s k i v w inside more =
    let wide = k.wide in
    let n : ℕ = get_or s.words i 0 in
    let hs = k.harvests in
    let same = harvests_same hs i (bits_of n) in
    let here : i < length s.words = omega arith in
    let up = next_generation (generation_of n) in record {
      inside = here;
      here = λ c g low h. subst (λ (l : List ℕ). HoldsIn (next_word (generation_of n)) l c g) (sym same) (holds_harvested n (harvests_of i hs) c g low (k.counts i here) h);
      back = λ c g low h. inl (harvested_held n (harvests_of i hs) c g low (k.counts i here) (subst (λ (l : List ℕ). HoldsIn (next_word (generation_of n)) l c g) same h));
      more = more;
      apart = λ w other. harvests_other hs w i (bits_of n) (λ e. other (sym e));
      up = subst (λ (y : ℕ). generation_of n ≤ y) (sym up) (omega arith);
      counts = λ e. up ∙ ap (λ (y : ℕ). y + 1) e ∙ sym (ap (λ (l : List ℕ). length l) same ∙ length_snoc (harvests_of i hs) (bits_of n));
    }

-- a mark that holds in the word is in its harvest
reaped : (words : List ℕ) (hs : List HarvestNote) (i : ℕ) → generation_of (get_or words i 0) ≡ length (harvests_of i hs) → (m : MarkNote) → MarkHolds words hs m → IsHarvested i (harvests_of i (hs ++ harvest_note i (bits_of (get_or words i 0)) ∷ [])) m
reaped words hs i count m h is =
    let n : ℕ = get_or words i 0 in
    let c : ℕ = m.page % 32 in
    let a : HoldsIn n (harvests_of i hs) c m.generation = subst (λ (w : ℕ). HoldsIn (get_or words w 0) (harvests_of w hs) c m.generation) is h in
    let b = in_harvest n (harvests_of i hs) c m.generation (mod_below m.page 32 (omega arith)) count a in
    subst (λ (l : List ℕ). (m.generation < length l) × (bit_at (get_or l m.generation 0) c ≡ 1)) (sym (harvests_same hs i (bits_of n)))
    (subst (λ (k : ℕ). m.generation < k) (sym (length_snoc (harvests_of i hs) (bits_of n))) b.0, b.1)

-- the keeper knows the generation of each word
pub harvests_step : (count slots id : ℕ) (me : Me ℕ Notes) (i g : ℕ) → i < count → me.0.keeps ≡ true → g ≡ length (harvests_of i me.0.harvests)
    → Allows (Kept count) slots id me i (λ _. next_word g) (TellsHarvest (step slots i (next_word g) 0 none) me)
harvests_step count slots id me i g inside keeper is s k _ at _ =
    let wide = k.wide in
    let n : ℕ = get_or s.words i 0 in
    let v : Notes = me.0 in
    let h : HarvestNote = harvest_note i (bits_of n) in
    let w : Notes = with_harvest v h in
    let f = k.fits id v at in
    let mine = f.keeps keeper in
    let here : i < length s.words = omega arith in
    let count_is : generation_of n ≡ length (harvests_of i v.harvests) = k.counts i here ∙ ap (λ (l : List HarvestNote). length (harvests_of i l)) (sym mine.1) in
    let g_is : generation_of n ≡ g = count_is ∙ sym is in
    let now = k.harvests ++ h ∷ [] in
    let x : Change s.words i (next_word g) k.harvests now v w = subst (λ (y : ℕ). Change s.words i (next_word y) k.harvests now v w) g_is (harvest_changes count s k i v w inside (λ m q. q)) in
    let all : v.harvests ++ h ∷ [] ≡ now = ap (λ (l : List HarvestNote). l ++ h ∷ []) mine.1 in (
      w,
      keeps,
      tt,
      moved count s k i (next_word g) now v w x id id me.1 at (λ j u other t. absurd (other (t.0 ∙ sym mine.0))) record {
        keeps = λ _. (refl, all);
        marks = marks_held count s k i (next_word g) now v w x v f.marks;
        loads = loads_held count s k i (next_word g) now v w x v f.loads;
      },
      (
        refl,
        subst (λ (l : List HarvestNote). Each (IsHarvested i (harvests_of i l)) v.marks) (sym all)
            (each_map (MarkHolds s.words k.harvests) (IsHarvested i (harvests_of i now)) (reaped s.words k.harvests i (k.counts i here)) v.marks f.marks),
        refl,
      ),
    )
