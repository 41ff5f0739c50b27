-- Laws of numbered logs and of marks.
use Rattle.std.proofs.Common.{◌≡◌, ℕ, zero, suc, ◌+◌, ◌*◌, ◌/◌, ◌<◌, ◌≤◌, inl, inr, Bool, true, false, cond, List, [], ◌∷◌, ◌++◌, Some, None, Result, Ok, Err, IfOk, ◌↔◌, refl, sym, ap, subst, ◌∙◌, arith, position, ltb, eqb, length, get_or, set, take, drop, MatchBool, max, flat_map, append-nil}
use Rattle.std.specs.List.{position_or_len, AllByRecursion, range_with_len}
use Rattle.std.proofs.lemmas.Bool.{cases_Bool, ltb-true, ltb-false, cond-true, cond-false, cond_both}
use Rattle.std.proofs.lemmas.Grind.{flat_map-append}
use Rattle.vub_mem.specs.declared.dirty.Stored.{Stored}
use Rattle.vub_mem.specs.declared.region.Region.{Region}
use Rattle.vub_mem.specs.declared.region.AtomicBitmapMmap.{AtomicBitmapMmap}
use Rattle.vub_mem.specs.Found.{IsLogPlace, IsFound}
use Rattle.vub_mem.specs.declared.content.Content.{Content}
use Rattle.vub_mem.specs.Memory.{Guest}
use Rattle.vub_mem.specs.Bits.{MarksBits}
use Rattle.vub_mem.specs.Logs.{log_len, ChangesOne, HoldsOf}
use Rattle.vub_mem.specs.Sound.{IsLogged, IsSound, IsSoundMemory, last_bit}
use Rattle.vub_mem.specs.Marks.{Mark, MarksAll, mark_at, marks_of, page_count, page_marks}
use Rattle.vub_mem.proofs.Ranges.{find_all, put_back}

abbrev first : {L : Type 0} → List (Stored L) → ℕ → ℕ
first ss o = position_or_len (λ s. eqb s.object o) ss

first_true : {L : Type 0} → (s : Stored L) (ss : List (Stored L)) (o : ℕ) → eqb s.object o ≡ true → first (s ∷ ss) o ≡ 0
first_true s ss o t = rw t refl

first_false : {L : Type 0} → (s : Stored L) (ss : List (Stored L)) (o : ℕ) → eqb s.object o ≡ false → first (s ∷ ss) o ≡ suc (first ss o)
first_false s ss o f = rw f (omega arith)

pub len_true : {L : Type 0} → (len : L → ℕ) (s : Stored L) (ss : List (Stored L)) (o : ℕ) → eqb s.object o ≡ true → log_len len (s ∷ ss) o ≡ len s.log
len_true len s ss o t = rw t refl

pub len_false : {L : Type 0} → (len : L → ℕ) (s : Stored L) (ss : List (Stored L)) (o : ℕ) → eqb s.object o ≡ false → log_len len (s ∷ ss) o ≡ log_len len ss o
len_false len s ss o f = rw f refl

change_go : {L : Type 0} → (step : L → L → Type 0) (ss : List (Stored L)) (o k : ℕ) (d t : Stored L) → k ≡ first ss o → k < length ss → t.object ≡ (get_or ss k d).object → step (get_or ss k d).log t.log → ChangesOne step ss o (set ss k t)
change_go step [] o k d t e h same goes = absurd (omega arith)
change_go step (s ∷ ss) o zero d t e h same goes =
    elim (cases_Bool (eqb s.object o)) [
      | inl t_is ↦ subst (λ b. MatchBool b ((t.object ≡ s.object) × step s.log t.log × (ss ≡ ss)) ((t ≡ s) × ChangesOne step ss o ss)) (sym t_is) (same, goes, refl)
      | inr f_is ↦ absurd (omega (arith, first_false s ss o f_is))
    ]
change_go step (s ∷ ss) o (suc k) d t e h same goes =
    elim (cases_Bool (eqb s.object o)) [
      | inl t_is ↦ absurd (omega (arith, first_true s ss o t_is))
      | inr f_is ↦ subst (λ b. MatchBool b ((s.object ≡ s.object) × step s.log s.log × (set ss k t ≡ ss)) ((s ≡ s) × ChangesOne step ss o (set ss k t))) (sym f_is)
          (refl, change_go step ss o k d t (omega (arith, first_false s ss o f_is)) (omega arith) same goes)
    ]

len_at : {L : Type 0} → (len : L → ℕ) (ss : List (Stored L)) (o k : ℕ) (d : Stored L) → k ≡ first ss o → k < length ss → len (get_or ss k d).log ≡ log_len len ss o
len_at len [] o k d e h = absurd (omega arith)
len_at len (s ∷ ss) o zero d e h =
    elim (cases_Bool (eqb s.object o)) [ inl t ↦ sym (len_true len s ss o t) | inr f ↦ absurd (omega (arith, first_false s ss o f)) ]
len_at len (s ∷ ss) o (suc k) d e h =
    elim (cases_Bool (eqb s.object o)) [
      | inl t ↦ absurd (omega (arith, first_true s ss o t))
      | inr f ↦ len_at len ss o k d (omega (arith, first_false s ss o f)) (omega arith) ∙ sym (len_false len s ss o f)
    ]

no_len : {L : Type 0} → (len : L → ℕ) (ss : List (Stored L)) (o : ℕ) → length ss ≤ first ss o → log_len len ss o ≡ 0
no_len len [] o h = refl
no_len len (s ∷ ss) o h =
    elim (cases_Bool (eqb s.object o)) [
      | inl t ↦ absurd (omega (arith, first_true s ss o t))
      | inr f ↦ len_false len s ss o f ∙ no_len len ss o (omega (arith, first_false s ss o f))
    ]

pub log_found : {L : Type 0} → (ss : List (Stored L)) (o k : ℕ) → Some k ≡ position (λ s. eqb s.object o) ss → IsLogPlace ss o k
log_found ss o k e =
    elim (cases_Bool (ltb (first ss o) (length ss))) [
      | inl t ↦ (let same : k ≡ first ss o = (let h : Some k ≡ Some (first ss o) = e ∙ cond-true (ltb (first ss o) (length ss)) (Some (first ss o)) None t in cc) in
          let below : first ss o < length ss = ltb-true (first ss o) (length ss) t in
          record {
            within = omega arith;
            len = λ len d. len_at len ss o k d same (omega arith);
            first = same;
          })
      | inr f ↦ (let h : Some k ≡ None = e ∙ cond-false (ltb (first ss o) (length ss)) (Some (first ss o)) None f in cc)
    ]

pub log_none : {L : Type 0} → (len : L → ℕ) (ss : List (Stored L)) (o : ℕ) → None ≡ position (λ s. eqb s.object o) ss → log_len len ss o ≡ 0
log_none len ss o e =
    elim (cases_Bool (ltb (first ss o) (length ss))) [
      | inl t ↦ (let h : None ≡ Some (first ss o) = e ∙ cond-true (ltb (first ss o) (length ss)) (Some (first ss o)) None t in cc)
      | inr f ↦ no_len len ss o (ltb-false (first ss o) (length ss) f)
    ]

pub page_at : {L : Type 0} → (len : L → ℕ) (ss : List (Stored L)) (o k : ℕ) (d : Stored L) (page : ℕ) → IsLogPlace ss o k → page < 8 * log_len len ss o → page < 8 * len (get_or ss k d).log
page_at len ss o k d page at h = let same : len (get_or ss k d).log ≡ log_len len ss o = at.len len d in omega arith

pub byte_at_place : {L : Type 0} → (len : L → ℕ) (ss : List (Stored L)) (o k : ℕ) (d : Stored L) (byte : ℕ) → IsLogPlace ss o k → byte < log_len len ss o → byte < len (get_or ss k d).log
byte_at_place len ss o k d byte at h = let same : len (get_or ss k d).log ≡ log_len len ss o = at.len len d in omega arith

-- a change of the log at its place
pub changed_at : {L : Type 0} → (step : L → L → Type 0) (ss : List (Stored L)) (o k : ℕ) (d t : Stored L) → IsLogPlace ss o k → t.object ≡ (get_or ss k d).object → step (get_or ss k d).log t.log → ChangesOne step ss o (set ss k t)
changed_at step ss o k d t at same goes = change_go step ss o k d t at.first at.within same goes

pub marks_append : {L : Type 0} → (step : L → ℕ → L → Type 0) (a b c : List (Stored L)) (ms ns : List Mark) → MarksAll step a ms b → MarksAll step b ns c → MarksAll step a (ms ++ ns) c
marks_append step a b c [] ns p q = subst (λ s. MarksAll step s ns c) p q
marks_append step a b c (m ∷ ms) ns p q = (p.0, p.1, marks_append step p.0 b c ms ns p.2 q)

-- a change that keeps the length of its log keeps each length
pub change_keeps : {L : Type 0} → (len : L → ℕ) (step : L → L → Type 0) (a b : List (Stored L)) (o q : ℕ) → ((x y : L) → step x y → len y ≡ len x) → ChangesOne step a o b → log_len len b q ≡ log_len len a q
change_keeps len step [] b o q keeps h = absurd h
change_keeps len step (s ∷ ss) [] o q keeps h = absurd h
change_keeps len step (s ∷ ss) (t ∷ ts) o q keeps h =
    elim (cases_Bool (eqb s.object o)) [
      | inl yes_is ↦ (let changed : (t.object ≡ s.object) × step s.log t.log × (ts ≡ ss) = subst (λ b. MatchBool b ((t.object ≡ s.object) × step s.log t.log × (ts ≡ ss)) ((t ≡ s) × ChangesOne step ss o ts)) yes_is h in
          elim (cases_Bool (eqb s.object q)) [
            | inl here ↦ len_true len t ts q (ap (λ k. eqb k q) changed.0 ∙ here) ∙ keeps s.log t.log changed.1 ∙ sym (len_true len s ss q here)
            | inr there ↦ len_false len t ts q (ap (λ k. eqb k q) changed.0 ∙ there) ∙ ap (λ l. log_len len l q) changed.2 ∙ sym (len_false len s ss q there)
          ])
      | inr no_is ↦ (let rest : (t ≡ s) × ChangesOne step ss o ts = subst (λ b. MatchBool b ((t.object ≡ s.object) × step s.log t.log × (ts ≡ ss)) ((t ≡ s) × ChangesOne step ss o ts)) no_is h in
          ap (λ x. log_len len (x ∷ ts) q) rest.0
          ∙ elim (cases_Bool (eqb s.object q)) [
            | inl here ↦ len_true len s ts q here ∙ sym (len_true len s ss q here)
            | inr there ↦ len_false len s ts q there ∙ change_keeps len step ss ts o q keeps rest.1 ∙ sym (len_false len s ss q there)
          ])
    ]

pub marks_keep : {L : Type 0} → (len : L → ℕ) (marks : L → ℕ → L → Type 0) (a b : List (Stored L)) (ms : List Mark) (q : ℕ) → MarksAll (page_marks len marks) a ms b → log_len len b q ≡ log_len len a q
marks_keep len marks a b [] q h = ap (λ l. log_len len l q) h
marks_keep len marks a b (m ∷ ms) q h =
    marks_keep len marks h.0 b ms q h.2 ∙ change_keeps len (λ old new. page_marks len marks old m.page new) a h.0 m.object q (λ x y marked. marked.kept) h.1

-- regions whose logs keep their lengths
pub logged_keep : {L : Type 0} → (len : L → ℕ) (a b : List (Stored L)) (rs : List Region) → ((q : ℕ) → log_len len a q ≤ log_len len b q) → AllByRecursion (λ r. IsLogged len a r) rs → AllByRecursion (λ r. IsLogged len b r) rs
logged_keep len a b [] keeps h = tt
logged_keep len a b (r ∷ rs) keeps h =
    ((λ l is. let below : last_bit r l < 8 * log_len len a l.object = h.0 l is in let more : log_len len a l.object ≤ log_len len b l.object = keeps l.object in omega arith), logged_keep len a b rs keeps h.1)

pub logged_marks : {L : Type 0} → (len : L → ℕ) (marks : L → ℕ → L → Type 0) (a b : List (Stored L)) (ms : List Mark) (rs : List Region) → MarksAll (page_marks len marks) a ms b → AllByRecursion (λ r. IsLogged len a r) rs → AllByRecursion (λ r. IsLogged len b r) rs
logged_marks len marks a b ms rs h all = logged_keep len a b rs (λ q. omega (arith, marks_keep len marks a b ms q h)) all

-- a found region's log has the page of the address
pub page_below : {L : Type 0} → (len : L → ℕ) (ss : List (Stored L)) (rs : List Region) (a : ℕ) (r : Region) (l : AtomicBitmapMmap) → AllByRecursion (λ r. IsLogged len ss r) rs → IsFound rs a r → r.log ≡ Some l → 8 * l.offset + a / 4096 < 8 * log_len len ss l.object
page_below len ss rs a r l all f is =
    let logged : IsLogged len ss r = find_all (λ r. IsLogged len ss r) rs a r all f.is in
    let below : last_bit r l < 8 * log_len len ss l.object = logged l is in
    omega (arith, f.high)

pub page_fits : (rs : List Region) (a : ℕ) (r : Region) (l : AtomicBitmapMmap) → IsFound rs a r → r.log ≡ Some l → 8 * l.offset + a / 4096 ≤ last_bit r l
page_fits rs a r l f is = omega (arith, f.high)

-- the marks of the first i pages of a range
abbrev pub marks_so : List Region → ℕ → ℕ → List Mark
marks_so rs a i = flat_map (λ p. mark_at rs (max a (4096 * p))) (range_with_len (a / 4096) i)

range_more : (a n : ℕ) → range_with_len a (n + 1) ≡ range_with_len a n ++ (a + n) ∷ []
range_more a zero = ap (λ x. x ∷ []) (omega arith)
range_more a (suc n) = ap (λ k. range_with_len a k) (let e : suc n + 1 ≡ suc (n + 1) = omega arith in e) ∙ ap (λ xs. a ∷ xs) (range_more (a + 1) n) ∙ (let up : a + 1 + n ≡ a + suc n = omega arith in ap (λ k. (a ∷ range_with_len (a + 1) n) ++ k ∷ []) up)

pub marks_more : {L : Type 0} → (step : L → ℕ → L → Type 0) (rs : List Region) (old now next : List (Stored L)) (a i at : ℕ) → MarksAll step old (marks_so rs a i) now → at ≡ max a (4096 * (a / 4096 + i)) → MarksAll step now (mark_at rs at) next → MarksAll step old (marks_so rs a (i + 1)) next
marks_more step rs old now next a i at so e more =
    let split : marks_so rs a (i + 1) ≡ marks_so rs a i ++ mark_at rs at =
    ap (λ r. flat_map (λ p. mark_at rs (max a (4096 * p))) r) (range_more (a / 4096) i)
    ∙ flat_map-append (λ p. mark_at rs (max a (4096 * p))) (range_with_len (a / 4096) i) ((a / 4096 + i) ∷ [])
    ∙ ap (λ l. marks_so rs a i ++ l) (append-nil (mark_at rs (max a (4096 * (a / 4096 + i)))) ∙ ap (λ x. mark_at rs x) (sym e)) in
    subst (λ ms. MarksAll step old ms next) (sym split) (marks_append step old now next (marks_so rs a i) (mark_at rs at) so more)

pub marks_whole : {L : Type 0} → (step : L → ℕ → L → Type 0) (rs : List Region) (old now : List (Stored L)) (a n i : ℕ) → i ≡ page_count a n → MarksAll step old (marks_so rs a i) now → MarksAll step old (marks_of rs a n) now
unfolding marks_of
marks_whole step rs old now a n i e so = subst (λ k. MarksAll step old (marks_so rs a k) now) e so

len_push : {L : Type 0} → (len : L → ℕ) (ss : List (Stored L)) (s : Stored L) (q : ℕ) → log_len len ss q ≤ log_len len (ss ++ s ∷ []) q
len_push len [] s q = omega arith
len_push len (t ∷ ts) s q =
    elim (cases_Bool (eqb t.object q)) [
      | inl here ↦ omega (arith, len_true len t ts q here, len_true len t (ts ++ s ∷ []) q here)
      | inr there ↦ omega (arith, len_false len t ts q there, len_false len t (ts ++ s ∷ []) q there, len_push len ts s q)
    ]

-- a log more, or none
pub logged_push : {L : Type 0} → (len : L → ℕ) (b : Bool) (ss ts : List (Stored L)) (s : Stored L) (rs : List Region) → AllByRecursion (λ r. IsLogged len ss r) rs → ts ≡ cond b (ss ++ s ∷ []) ss → AllByRecursion (λ r. IsLogged len ts r) rs
logged_push len b ss ts s rs all e =
    let Logged : List (Stored _) → Type 0 = λ l. AllByRecursion (λ r. IsLogged len l r) rs in
    subst Logged (sym e) (cond_both b (ss ++ s ∷ []) ss Logged (λ t. logged_keep len ss (ss ++ s ∷ []) rs (λ q. len_push len ss s q) all) (λ f. all))

-- what two writes into vectors leave
pub sound_written : {L : Type 0} → (len : L → ℕ) (rs qs ps : List Region) (new : List Content) (m : ℕ) (olds news : List (Stored L)) → qs ≡ rs → ps ≡ rs → length news ≡ length olds → m ≡ length olds → IsSound (record { regions = qs; contents = new }) → AllByRecursion (λ r. IsLogged len news r) ps →
    IsSoundMemory len (record { guest = record { regions = rs; contents = new }; logs = take m (news ++ drop (length news) olds) })
sound_written len rs qs ps new m olds news qs_is ps_is f j sound logged =
    rw (put_back m news olds f j) (record {
      guest = subst (λ l. IsSound (record { regions = l; contents = new })) qs_is sound;
      logged = subst (λ l. AllByRecursion (λ r. IsLogged len news r) l) ps_is logged;
    })

-- what a change of the logs leaves
pub sound_logs : {L : Type 0} → (len : L → ℕ) (g : Guest) (m : ℕ) (olds news : List (Stored L)) → length news ≡ length olds → m ≡ length olds → IsSoundMemory len (record { guest = g; logs = olds }) → ((q : ℕ) → log_len len news q ≡ log_len len olds q) →
    IsSoundMemory len (record { guest = g; logs = take m (news ++ drop (length news) olds) })
sound_logs len g m olds news f j sound keeps =
    rw (put_back m news olds f j) (record { guest = sound.guest; logged = logged_keep len olds news g.regions (λ q. omega (arith, keeps q)) sound.logged })

-- a fact of the log at its place
holds_go : {L : Type 0} → (P : L → Type 0) (ss : List (Stored L)) (o k : ℕ) (d : Stored L) → k ≡ first ss o → k < length ss → (P (get_or ss k d).log → HoldsOf P ss o) × (HoldsOf P ss o → P (get_or ss k d).log)
holds_go P [] o k d e h = absurd (omega arith)
holds_go P (s ∷ ss) o zero d e h =
    elim (cases_Bool (eqb s.object o)) [
      | inl yes_is ↦ ((λ p. subst (λ b. MatchBool b (P s.log) (HoldsOf P ss o)) (sym yes_is) p), (λ p. subst (λ b. MatchBool b (P s.log) (HoldsOf P ss o)) yes_is p))
      | inr no_is ↦ absurd (omega (arith, first_false s ss o no_is))
    ]
holds_go P (s ∷ ss) o (suc k) d e h =
    elim (cases_Bool (eqb s.object o)) [
      | inl yes_is ↦ absurd (omega (arith, first_true s ss o yes_is))
      | inr no_is ↦ (let rest = holds_go P ss o k d (omega (arith, first_false s ss o no_is)) (omega arith) in
          ((λ p. subst (λ b. MatchBool b (P s.log) (HoldsOf P ss o)) (sym no_is) (rest.0 p)), (λ p. rest.1 (subst (λ b. MatchBool b (P s.log) (HoldsOf P ss o)) no_is p))))
    ]

pub holds_at : {L : Type 0} → (P : L → Type 0) (ss : List (Stored L)) (o k : ℕ) (d : Stored L) → IsLogPlace ss o k → (P (get_or ss k d).log → HoldsOf P ss o) × (HoldsOf P ss o → P (get_or ss k d).log)
holds_at P ss o k d at = holds_go P ss o k d at.first at.within

-- a change at a place that keeps the length of the log keeps each length
pub len_set : {L : Type 0} → (len : L → ℕ) (ss : List (Stored L)) (o k : ℕ) (d t : Stored L) (q : ℕ) → IsLogPlace ss o k → t.object ≡ (get_or ss k d).object → len t.log ≡ len (get_or ss k d).log → log_len len (set ss k t) q ≡ log_len len ss q
len_set len ss o k d t q at same kept = change_keeps len (λ x y. len y ≡ len x) ss (set ss k t) o q (λ x y h. h) (changed_at (λ x y. len y ≡ len x) ss o k d t at same kept)

pub harvested_at : {L E : Type 0} → (gives : L → ℕ → L → Type 0) (r : Result ℕ E) (ss : List (Stored L)) (o k : ℕ) (d t : Stored L) → IsLogPlace ss o k → t.object ≡ (get_or ss k d).object → IfOk r (λ bits. gives (get_or ss k d).log bits t.log) → IfOk r (λ bits. ChangesOne (λ old new. gives old bits new) ss o (set ss k t))
harvested_at gives (Ok bits) ss o k d t at same goes = changed_at (λ old new. gives old bits new) ss o k d t at same goes
harvested_at gives (Err e) ss o k d t at same goes = tt

pub spent_at : {L : Type 0} → (A : Type 0) (P : L → Type 0) (ss : List (Stored L)) (o k : ℕ) (d : Stored L) → IsLogPlace ss o k → (A ↔ P (get_or ss k d).log) → (A ↔ HoldsOf P ss o)
spent_at A P ss o k d at both = let there = holds_at P ss o k d at in ((λ a. there.0 (both.0 a)), (λ h. both.1 (there.1 h)))

-- the first i bits are marked, and the log keeps its length
pub record BitsSo {L : Type 0} (len : L → ℕ) (marks : L → ℕ → L → Type 0) (old now : L) (first i : ℕ) : Type 0 where
  pub marked : MarksBits (page_marks len marks) old (range_with_len first i) now
  pub kept : len now ≡ len old

bits_append : {L : Type 0} → (step : L → ℕ → L → Type 0) (a b c : L) (bs ds : List ℕ) → MarksBits step a bs b → MarksBits step b ds c → MarksBits step a (bs ++ ds) c
bits_append step a b c [] ds p q = subst (λ s. MarksBits step s ds c) p q
bits_append step a b c (x ∷ bs) ds p q = (p.0, p.1, bits_append step p.0 b c bs ds p.2 q)

pub bits_more : {L : Type 0} → (len : L → ℕ) (marks : L → ℕ → L → Type 0) (old now next : L) (first i : ℕ) → BitsSo len marks old now first i → page_marks len marks now (first + i) next → BitsSo len marks old next first (i + 1)
bits_more len marks old now next first i so more = record {
  marked = subst (λ l. MarksBits (page_marks len marks) old l next) (sym (range_more first i)) (bits_append (page_marks len marks) old now next (range_with_len first i) ((first + i) ∷ []) so.marked (next, more, refl));
  kept = more.kept ∙ so.kept;
}
