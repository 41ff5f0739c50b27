-- What a mark and a harvest make of the bits of the logs.
use Rattle.std.proofs.Common.{◌≡◌, ◌⊎◌, inl, inr, ℕ, ◌+◌, ◌*◌, ◌/◌, ◌%◌, ◌^◌, ◌<◌, ◌≤◌, Bool, true, false, cond, eqb, List, [], ◌∷◌, length, refl, sym, ap, ap₂, ◌∙◌, subst, arith}
use Rattle.std.specs.Int.{bit_at}
use Rattle.std.specs.Prelude.{bit_or}
use Rattle.std.proofs.lemmas.Bool.{cases_Bool, cases_lt, cond-true, cond-false, eqb-true, eqb-false, eq-eqb, ne_eqb}
use Rattle.std.proofs.lemmas.List.{length-set, get_or_past, get_or-set_same, get_or-set_other}
use Rattle.std.proofs.lemmas.Nat.Bits.{bit_at-zero}
use Rattle.vub_mem.specs.declared.dirty.Stored.{Stored}
use Rattle.vub_mem.specs.Laws.{IsIn}
use Rattle.vub_mem.specs.Logs.{log_len}
use Rattle.vub_mem.specs.Marks.{Mark}
use Rattle.vub_mem.proofs.MarkLaws.{len_true, len_false}
use Rattle.vub_log.specs.declared.laws.LogOp.TheVariants.{Mark as Marking, Harvest as Harvesting}
use Rattle.vub_log.specs.PageBits.{stands_since}
use Rattle.vub_log.specs.Plain.{Plain, fresh, word_of, page_bit, marked, harvested, harvest_count}
use Rattle.vub_model.specs.Logs.{log_at, with_log_at, with_mark, with_marks, without_word, bit_in}

-- One log

-- a page that the log does not have has no bit
no-bit : (log : Plain) (page : ℕ) → 32 * length log.words ≤ page → page_bit log page ≡ 0
no-bit log page past = ap (λ w. bit_at w (page % 32)) (get_or_past log.words (page / 32) 0 (omega arith)) ∙ bit_at-zero (page % 32)

words-marked : (log : Plain) (page : ℕ) → length (marked log page).words ≡ length log.words
words-marked log page = length-set log.words (page / 32) (bit_or (word_of log (page / 32)) (2 ^ (page % 32)))

words-harvested : (log : Plain) (word : ℕ) → length (harvested log word).words ≡ length log.words
words-harvested log word = length-set log.words word 0

counts-harvested : (log : Plain) (word : ℕ) → length (harvested log word).counts ≡ length log.counts
counts-harvested log word = length-set log.counts word (harvest_count log word + 1)

-- 1 or the bit is 1 where the bit is
one-or : (b : Bool) (x y : ℕ) → y ≡ cond b 1 x → x ≡ 1 → y ≡ 1
one-or true x y is one = is
one-or false x y is one = is ∙ one

marked-keeps : (log : Plain) (p q : ℕ) → page_bit log q ≡ 1 → page_bit (marked log p) q ≡ 1
marked-keeps log p q one =
    elim (cases_lt q (32 * length log.words)) [
      | inl within ↦ one-or (eqb p q) (page_bit log q) (page_bit (marked log p) q) (stands_since log (Marking p ∷ []) q within) one
      | inr past ↦ absurd (let none = no-bit log q past in omega arith)
    ]

marked-sets : (log : Plain) (p : ℕ) → p < 32 * length log.words → page_bit (marked log p) p ≡ 1
marked-sets log p within = stands_since log (Marking p ∷ []) p within ∙ cond-true (eqb p p) 1 (page_bit log p) (eq-eqb p p refl)

marked-only : (log : Plain) (p q : ℕ) → page_bit (marked log p) q ≡ 1 → (p ≡ q) ⊎ (page_bit log q ≡ 1)
marked-only log p q one =
    elim (cases_lt q (32 * length log.words)) [
      | inl within ↦ elim (cases_Bool (eqb p q)) [
        | inl same ↦ inl (eqb-true p q same)
        | inr other ↦ inr (sym (stands_since log (Marking p ∷ []) q within ∙ cond-false (eqb p q) 1 (page_bit log q) other) ∙ one)
      ]
      | inr past ↦ absurd (let none = no-bit (marked log p) q (omega (arith, past, words-marked log p)) in omega arith)
    ]

harvested-own : (log : Plain) (word q : ℕ) → word ≡ q / 32 → page_bit (harvested log word) q ≡ 1 → ⊥
harvested-own log word q same one =
    elim (cases_lt q (32 * length log.words)) [
      | inl within ↦ (let none = stands_since log (Harvesting word ∷ []) q within ∙ cond-true (eqb word (q / 32)) 0 (page_bit log q) (eq-eqb word (q / 32) same) in omega arith)
      | inr past ↦ (let none = no-bit (harvested log word) q (omega (arith, past, words-harvested log word)) in omega arith)
    ]

harvested-other : (log : Plain) (word q : ℕ) → (word ≡ q / 32 → ⊥) → page_bit (harvested log word) q ≡ page_bit log q
harvested-other log word q other =
    elim (cases_lt q (32 * length log.words)) [
      | inl within ↦ stands_since log (Harvesting word ∷ []) q within ∙ cond-false (eqb word (q / 32)) 0 (page_bit log q) (ne_eqb word (q / 32) other)
      | inr past ↦ no-bit (harvested log word) q (omega (arith, past, words-harvested log word)) ∙ sym (no-bit log q past)
    ]

-- The logs by their numbers

module _ (change : Plain → Plain) where
  -- a log with another number stays
  pub at-other : (logs : List (Stored Plain)) (o p : ℕ) → (o ≡ p → ⊥) → log_at (with_log_at change logs o) p ≡ log_at logs p
  at-other [] o p apart = refl
  at-other (s ∷ logs) o p apart = by (eqb s.object o) refl (at-other logs o p apart) where
    by : (b : Bool) → eqb s.object o ≡ b → log_at (with_log_at change logs o) p ≡ log_at logs p → log_at (cond b (record s { log = change s.log } ∷ logs) (s ∷ with_log_at change logs o)) p ≡ log_at (s ∷ logs) p
    by true is rest =
        let other : eqb s.object p ≡ false = ne_eqb s.object p (λ same. apart (sym (eqb-true s.object o is) ∙ same)) in
        cond-false (eqb s.object p) (change s.log) (log_at logs p) other ∙ sym (cond-false (eqb s.object p) s.log (log_at logs p) other)
    by false is rest = ap (λ (log : Plain). cond (eqb s.object p) s.log log) rest

  -- the log with this number is changed, if it is there
  at-same : (logs : List (Stored Plain)) (o : ℕ) → (log_at (with_log_at change logs o) o ≡ change (log_at logs o)) ⊎ ((log_at logs o ≡ fresh 0) × (log_at (with_log_at change logs o) o ≡ fresh 0))
  at-same [] o = inr (refl, refl)
  at-same (s ∷ logs) o = by (eqb s.object o) refl (at-same logs o) where
    by : (b : Bool) → eqb s.object o ≡ b → (log_at (with_log_at change logs o) o ≡ change (log_at logs o)) ⊎ ((log_at logs o ≡ fresh 0) × (log_at (with_log_at change logs o) o ≡ fresh 0))
        → (log_at (cond b (record s { log = change s.log } ∷ logs) (s ∷ with_log_at change logs o)) o ≡ change (cond b s.log (log_at logs o))) ⊎ ((cond b s.log (log_at logs o) ≡ fresh 0) × (log_at (cond b (record s { log = change s.log } ∷ logs) (s ∷ with_log_at change logs o)) o ≡ fresh 0))
    by true is rest = inl (cond-true (eqb s.object o) (change s.log) (log_at logs o) is)
    by false is rest =
        let same : log_at (s ∷ with_log_at change logs o) o ≡ log_at (with_log_at change logs o) o = cond-false (eqb s.object o) s.log (log_at (with_log_at change logs o) o) is in
        elim rest [ inl changed ↦ inl (same ∙ changed) | inr none ↦ inr (none.0, same ∙ none.1) ]

  -- each log stays, or has the number and is changed
  pub at-either : (logs : List (Stored Plain)) (o p : ℕ) → (log_at (with_log_at change logs o) p ≡ log_at logs p) ⊎ ((o ≡ p) × (log_at (with_log_at change logs o) p ≡ change (log_at logs p)))
  at-either logs o p =
      elim (cases_Bool (eqb o p)) [
        | inl is ↦ (let same : o ≡ p = eqb-true o p is in
            let P : ℕ → Type 0 = λ x. (log_at (with_log_at change logs o) x ≡ log_at logs x) ⊎ ((o ≡ x) × (log_at (with_log_at change logs o) x ≡ change (log_at logs x))) in
            subst P same (elim (at-same logs o) [ inl changed ↦ inr (refl, changed) | inr none ↦ inl (none.1 ∙ sym none.0) ]))
        | inr is ↦ inl (at-other logs o p (eqb-false o p is))
      ]

  -- what a change keeps of a log it keeps of each
  pub at-kept : (f : Plain → ℕ) → ((log : Plain) → f (change log) ≡ f log) → (logs : List (Stored Plain)) (o p : ℕ) → f (log_at (with_log_at change logs o) p) ≡ f (log_at logs p)
  at-kept f keeps logs o p = elim (at-either logs o p) [ inl same ↦ ap f same | inr changed ↦ ap f changed.1 ∙ keeps (log_at logs p) ]

-- a log has as many bytes as the test of a part counts
pub len-at : (logs : List (Stored Plain)) (o : ℕ) → log_len (λ (log : Plain). log.len) logs o ≡ (log_at logs o).len
len-at [] o = refl
len-at (s ∷ logs) o =
    elim (cases_Bool (eqb s.object o)) [
      | inl here ↦ len_true (λ (log : Plain). log.len) s logs o here ∙ sym (ap (λ (log : Plain). log.len) (cond-true (eqb s.object o) s.log (log_at logs o) here))
      | inr there ↦ len_false (λ (log : Plain). log.len) s logs o there ∙ (len-at logs o ∙ sym (ap (λ (log : Plain). log.len) (cond-false (eqb s.object o) s.log (log_at logs o) there)))
    ]

-- Marks

same-mark : (x m : Mark) → x.object ≡ m.object → x.page ≡ m.page → x ≡ m
same-mark x m objects pages = ap₂ (λ o p. record { object = o; page = p }) objects pages

mark-keeps : (logs : List (Stored Plain)) (x m : Mark) → bit_in logs m ≡ 1 → bit_in (with_mark logs x) m ≡ 1
mark-keeps logs x m one =
    elim (at-either (λ log. marked log x.page) logs x.object m.object) [
      | inl same ↦ ap (λ (log : Plain). page_bit log m.page) same ∙ one
      | inr changed ↦ ap (λ (log : Plain). page_bit log m.page) changed.1 ∙ marked-keeps (log_at logs m.object) x.page m.page one
    ]

mark-sets : (logs : List (Stored Plain)) (x : Mark) → x.page < 32 * length (log_at logs x.object).words → bit_in (with_mark logs x) x ≡ 1
mark-sets logs x within =
    elim (at-same (λ log. marked log x.page) logs x.object) [
      | inl changed ↦ ap (λ (log : Plain). page_bit log x.page) changed ∙ marked-sets (log_at logs x.object) x.page within
      | inr none ↦ absurd (let empty : length (log_at logs x.object).words ≡ 0 = ap (λ (log : Plain). length log.words) none.0 in omega arith)
    ]

mark-only : (logs : List (Stored Plain)) (x m : Mark) → bit_in (with_mark logs x) m ≡ 1 → (x ≡ m) ⊎ (bit_in logs m ≡ 1)
mark-only logs x m one =
    elim (at-either (λ log. marked log x.page) logs x.object m.object) [
      | inl same ↦ inr (sym (ap (λ (log : Plain). page_bit log m.page) same) ∙ one)
      | inr changed ↦ elim (marked-only (log_at logs m.object) x.page m.page (sym (ap (λ (log : Plain). page_bit log m.page) changed.1) ∙ one)) [
        | inl pages ↦ inl (same-mark x m changed.0 pages)
        | inr was ↦ inr was
      ]
    ]

-- what a mark keeps of a log, marks keep of each
pub marks-keep : (f : Plain → ℕ) → ((log : Plain) (page : ℕ) → f (marked log page) ≡ f log) → (marks : List Mark) (logs : List (Stored Plain)) (o : ℕ) → f (log_at (with_marks logs marks) o) ≡ f (log_at logs o)
marks-keep f keeps [] logs o = refl
marks-keep f keeps (x ∷ marks) logs o = marks-keep f keeps marks (with_mark logs x) o ∙ at-kept (λ log. marked log x.page) f (λ log. keeps log x.page) logs x.object o

pub marks-words : (marks : List Mark) (logs : List (Stored Plain)) (o : ℕ) → length (log_at (with_marks logs marks) o).words ≡ length (log_at logs o).words
marks-words = marks-keep (λ log. length log.words) words-marked

-- marks take no mark away
pub marks-stand : (marks : List Mark) (logs : List (Stored Plain)) (m : Mark) → bit_in logs m ≡ 1 → bit_in (with_marks logs marks) m ≡ 1
marks-stand [] logs m one = one
marks-stand (x ∷ marks) logs m one = marks-stand marks (with_mark logs x) m (mark-keeps logs x m one)

-- each of them stands that its log has
pub marks-set : (marks : List Mark) (logs : List (Stored Plain)) (m : Mark) → IsIn m marks → m.page < 32 * length (log_at logs m.object).words → bit_in (with_marks logs marks) m ≡ 1
marks-set [] logs m is within = absurd is
marks-set (x ∷ marks) logs m (inl same) within =
    let P : Mark → Type 0 = λ y. bit_in (with_mark logs y) m ≡ 1 in
    marks-stand marks (with_mark logs x) m (subst P (sym same) (mark-sets logs m within))
marks-set (x ∷ marks) logs m (inr later) within =
    let words : length (log_at (with_mark logs x) m.object).words ≡ length (log_at logs m.object).words = marks-words (x ∷ []) logs m.object in
    marks-set marks (with_mark logs x) m later (omega (arith, within, words))

-- and no other page is marked
pub marks-only : (marks : List Mark) (logs : List (Stored Plain)) (m : Mark) → bit_in (with_marks logs marks) m ≡ 1 → IsIn m marks ⊎ (bit_in logs m ≡ 1)
marks-only [] logs m one = inr one
marks-only (x ∷ marks) logs m one =
    elim (marks-only marks (with_mark logs x) m one) [
      | inl later ↦ inl (inr later)
      | inr now ↦ elim (mark-only logs x m now) [ inl same ↦ inl (inl same) | inr was ↦ inr was ]
    ]

-- Harvests

pub harvest-keeps : (f : Plain → ℕ) → ((log : Plain) (word : ℕ) → f (harvested log word) ≡ f log) → (logs : List (Stored Plain)) (object word o : ℕ) → f (log_at (without_word logs object word) o) ≡ f (log_at logs o)
harvest-keeps f keeps logs object word o = at-kept (λ log. harvested log word) f (λ log. keeps log word) logs object o

pub harvest-words : (logs : List (Stored Plain)) (object word o : ℕ) → length (log_at (without_word logs object word) o).words ≡ length (log_at logs o).words
harvest-words = harvest-keeps (λ log. length log.words) words-harvested

-- no page of the word stands after a harvest
pub harvest-own : (logs : List (Stored Plain)) (object word : ℕ) (m : Mark) → object ≡ m.object → word ≡ m.page / 32 → bit_in (without_word logs object word) m ≡ 1 → ⊥
harvest-own logs object word m own same one =
    let P : ℕ → Type 0 = λ o. bit_in (without_word logs o word) m ≡ 1 in
    elim (at-same (λ log. harvested log word) logs m.object) [
      | inl changed ↦ harvested-own (log_at logs m.object) word m.page same (sym (ap (λ (log : Plain). page_bit log m.page) changed) ∙ subst P own one)
      | inr none ↦ (let zero : bit_in (without_word logs m.object word) m ≡ 0 = ap (λ (log : Plain). page_bit log m.page) none.1 ∙ no-bit (fresh 0) m.page (omega arith) in
          let is : bit_in (without_word logs m.object word) m ≡ 1 = subst P own one in
          omega arith)
    ]

-- every other page stands as it did
pub harvest-other : (logs : List (Stored Plain)) (object word : ℕ) (m : Mark) → (object ≡ m.object → word ≡ m.page / 32 → ⊥) → bit_in (without_word logs object word) m ≡ bit_in logs m
harvest-other logs object word m apart =
    elim (at-either (λ log. harvested log word) logs object m.object) [
      | inl same ↦ ap (λ (log : Plain). page_bit log m.page) same
      | inr changed ↦ ap (λ (log : Plain). page_bit log m.page) changed.1 ∙ harvested-other (log_at logs m.object) word m.page (apart changed.0)
    ]

-- How often words were harvested

count-once : (log : Plain) (word n : ℕ) → harvest_count (harvested log word) n ≤ harvest_count log n + 1
count-once log word n =
    elim (cases_Bool (eqb n word)) [
      | inl is ↦ (let same : n ≡ word = eqb-true n word is in
          elim (cases_lt word (length log.counts)) [
            | inl within ↦ (let set = get_or-set_same log.counts word (harvest_count log word + 1) 0 within in
                let P : ℕ → Type 0 = λ k. harvest_count (harvested log word) k ≤ harvest_count log k + 1 in
                subst P (sym same) (omega (arith, set)))
            | inr past ↦ (let none = get_or_past (harvested log word).counts n 0 (omega (arith, past, same, counts-harvested log word)) in omega (arith, none))
          ])
      | inr is ↦ (let other = get_or-set_other log.counts word n (harvest_count log word + 1) 0 (eqb-false n word is) in omega (arith, other))
    ]

-- a harvest counts once at most
pub harvest-counts : (logs : List (Stored Plain)) (object word o n : ℕ) → harvest_count (log_at (without_word logs object word) o) n ≤ harvest_count (log_at logs o) n + 1
harvest-counts logs object word o n =
    elim (at-either (λ log. harvested log word) logs object o) [
      | inl same ↦ (let e = ap (λ (log : Plain). harvest_count log n) same in omega (arith, e))
      | inr changed ↦ (let e = ap (λ (log : Plain). harvest_count log n) changed.1 in let once = count-once (log_at logs o) word n in omega (arith, e, once))
    ]
