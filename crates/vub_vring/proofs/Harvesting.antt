-- A harvest of a word of a plain log, as the machine makes it.
use Rattle.std.proofs.Common.{◌≡◌, ℕ, ◌+◌, ◌*◌, ◌<◌, Bool, true, false, cond, MatchBool, eqb, List, [], ◌∷◌, length, Option, Some, None, find, refl, sym, ap, subst, ◌∙◌, arith}
use Rattle.std.specs.Option.{option_map_or}
use Rattle.std.proofs.lemmas.Grind.{get_or_default_zero}
use Rattle.vub_log.specs.Plain.{Plain, IsHarvest, harvested, harvest_count, fresh}
use Rattle.vub_mem.specs.declared.dirty.Stored.{Stored}
use Rattle.vub_mem.specs.Logs.{log_len, ChangesOne, HoldsOf}
use Rattle.vub_model.specs.Logs.{log_at, with_log_at, word_at, without_word}
use Rattle.vub_vring.specs.Store.{MayHarvest}

len-at : (logs : List (Stored Plain)) (object : ℕ) → log_len (λ (log : Plain). log.len) logs object ≡ (log_at logs object).len
len-at [] object = refl
len-at (s ∷ logs) object = by (eqb s.object object) (len-at logs object) where
  by : (own : Bool) → log_len (λ (log : Plain). log.len) logs object ≡ (log_at logs object).len → option_map_or (λ (s : Stored Plain). s.log.len) (cond own (Some s) (find (λ (s : Stored Plain). eqb s.object object) logs)) 0 ≡ (cond own s.log (log_at logs object)).len
  by true rest = refl
  by false rest = rest

pub has_the_word : (logs : List (Stored Plain)) (object word : ℕ) → MayHarvest logs object word → 4 * word < log_len (λ (log : Plain). log.len) logs object
has_the_word logs object word may = subst (λ n. 4 * word < n) (sym (len-at logs object)) may.has

spent-at : (logs : List (Stored Plain)) (object word : ℕ) → HoldsOf (λ (log : Plain). harvest_count log word ≡ 4294967295) logs object → harvest_count (log_at logs object) word ≡ 4294967295
spent-at [] object word holds = absurd holds
spent-at (s ∷ logs) object word holds = by (eqb s.object object) holds (spent-at logs object word) where
  by : (own : Bool) → MatchBool own (harvest_count s.log word ≡ 4294967295) (HoldsOf (λ (log : Plain). harvest_count log word ≡ 4294967295) logs object) → (HoldsOf (λ (log : Plain). harvest_count log word ≡ 4294967295) logs object → harvest_count (log_at logs object) word ≡ 4294967295) → harvest_count (cond own s.log (log_at logs object)) word ≡ 4294967295
  by true is rest = is
  by false is rest = rest is

pub not_spent : (logs : List (Stored Plain)) (object word : ℕ) → MayHarvest logs object word → HoldsOf (λ (log : Plain). harvest_count log word ≡ 4294967295) logs object → ⊥
not_spent logs object word may holds = let spent = spent-at logs object word holds in let left = may.left in omega (arith, spent, left)

harvest-made : (old : List (Stored Plain)) (object word bits : ℕ) (new : List (Stored Plain)) → ChangesOne (λ a b. IsHarvest a word bits b) old object new → (bits ≡ word_at (log_at old object) word) × (new ≡ without_word old object word)
harvest-made [] object word bits new changes = absurd changes
harvest-made (s ∷ old) object word bits [] changes = absurd changes
harvest-made (s ∷ old) object word bits (t ∷ new) changes = by (eqb s.object object) changes (harvest-made old object word bits new) where
  by : (own : Bool) → MatchBool own ((t.object ≡ s.object) × IsHarvest s.log word bits t.log × (new ≡ old)) ((t ≡ s) × ChangesOne (λ a b. IsHarvest a word bits b) old object new) → (ChangesOne (λ a b. IsHarvest a word bits b) old object new → (bits ≡ word_at (log_at old object) word) × (new ≡ without_word old object word))
      → (bits ≡ word_at (cond own s.log (log_at old object)) word) × (t ∷ new ≡ cond own (record s { log = harvested s.log word } ∷ old) (s ∷ without_word old object word))
  by true is rest = (
    is.1.gives ∙ sym (get_or_default_zero s.log.words word 0 is.1.within),
    ap (λ o. record { object = o; log = t.log } ∷ new) is.0 ∙ (ap (λ l. record { object = s.object; log = l } ∷ new) is.1.after ∙ ap (λ ls. record s { log = harvested s.log word } ∷ ls) is.2),
  )
  by false is rest = let r = rest is.1 in (r.0, ap (λ x. x ∷ new) is.0 ∙ ap (λ ls. s ∷ ls) r.1)

pub harvest_bits : (old : List (Stored Plain)) (object word bits : ℕ) (new : List (Stored Plain)) → ChangesOne (λ a b. IsHarvest a word bits b) old object new → bits ≡ word_at (log_at old object) word
harvest_bits old object word bits new changes = (harvest-made old object word bits new changes).0

pub harvest_logs : (old : List (Stored Plain)) (object word bits : ℕ) (new : List (Stored Plain)) → ChangesOne (λ a b. IsHarvest a word bits b) old object new → new ≡ without_word old object word
harvest_logs old object word bits new changes = (harvest-made old object word bits new changes).1
