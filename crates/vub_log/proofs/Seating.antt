-- A seat that is split off and one whose notes are taken in keep the rule of a shared log's words, and it holds at the
-- start.
use Rattle.std.proofs.Common.{◌≡◌, ◌≢◌, ◌⊎◌, ℕ, zero, suc, ◌+◌, ◌*◌, ◌<◌, true, false, true≢false, List, [], ◌∷◌, ◌++◌, length, get_or, set, length-set, get_or-set_same, get_or-set_other, replicate, refl, sym, ap, ◌∙◌, subst, inl, inr, ⊎_elim, arith}
use native.Mathlib.Decide.{ℕ_discrete}
use mathlib.Core.Logic.{dite}
use mathlib.Core.Option.{some, some-injective, some-ne-none}
use lib.ListN.{get_elem?}
use Rattle.atomic_table.specs.Table.{State, Splits, Joins, opening}
use Rattle.atomic_table.proofs.Lists.{at_set, at_snoc, at_longer, set_again, set_else}
use Rattle.vub_mem.specs.Laws.{IsIn}
use Rattle.vub_log.specs.declared.notes.MarkNote.{MarkNote}
use Rattle.vub_log.specs.declared.notes.HarvestNote.{HarvestNote}
use Rattle.vub_log.specs.declared.notes.Notes.{Notes}
use Rattle.vub_log.specs.Notes.{generation_of, harvests_of, mark_note, harvest_note, without_harvests, with_notes, Each}
use Rattle.vub_log.specs.Rule.{MarkHolds, LoadHolds, Fits, IsNoted, Kept, keeper_notes, spent_notes, HasCounts}
use Rattle.vub_log.proofs.Words.{none_holds, harvests_same, harvests_other, length_snoc}
use Rattle.vub_log.proofs.Steps.{each_append, in_left, in_right, set_at, noted_on}

off : false ≡ true → ⊥
off e = true≢false (sym e)

pub splits_step : (count id : ℕ) (v : Notes) → Splits (Kept count) id v v (without_harvests v)
splits_step count id v s k at = let f = k.fits id v at in
    let same : set s.views id v ≡ s.views = set_again s.views id v at in record {
      wide = k.wide;
      harvests = k.harvests;
      keeper = k.keeper;
      counts = k.counts;
      fits = λ j u e. ⊎_elim
          (λ (was : get_elem? (set s.views id v) j ≡ some u). k.fits j u (subst (λ (l : List Notes). get_elem? l j ≡ some u) same was))
          (λ (is : without_harvests v ≡ u). subst (λ (y : Notes). Fits s.words k.harvests k.keeper j y) is record { keeps = λ h. absurd (off h); marks = f.marks; loads = f.loads })
          (at_snoc (set s.views id v) (without_harvests v) u j e);
      made = λ w c g low h.
          let x = k.made w c g low h in
          (x.0, x.1, at_longer (set s.views id v) (without_harvests v ∷ []) x.0 x.1 (subst (λ (l : List Notes). get_elem? l x.0 ≡ some x.1) (sym same) x.2), x.3);
    }

-- what the spent party noted is noted by the other
noted_joined : (views : List Notes) (id other : ℕ) (v w : Notes) → get_elem? views id ≡ some v → other ≢ id → get_elem? views other ≡ some w → (m : MarkNote) → IsNoted views m
    → IsNoted (set (set views id (with_notes v w)) other spent_notes) m
noted_joined views id other v w at apart there m x =
    let both : Notes = with_notes v w in
    let one = set views id both in
    let here : get_elem? (set one other spent_notes) id ≡ some both = set_else one other id spent_notes (λ e. apart (sym e)) ∙ set_at views id v both at in
    dite (ℕ_discrete x.0 other)
    (λ same.
    let e : get_elem? views other ≡ some x.1 = subst (λ (j : ℕ). get_elem? views j ≡ some x.1) same x.2 in
    let is : x.1 ≡ w = some-injective x.1 w (sym e ∙ there) in
    (id, both, here, in_right m v.marks w.marks (subst (λ (u : Notes). IsIn m u.marks) is x.3)))
    (λ not_it.
    let y = noted_on views id v both at (λ q h. in_left q v.marks w.marks h) m x in
    dite (ℕ_discrete x.0 id)
    (λ same.
    let e : get_elem? views id ≡ some x.1 = subst (λ (j : ℕ). get_elem? views j ≡ some x.1) same x.2 in
    let is : x.1 ≡ v = some-injective x.1 v (sym e ∙ at) in
    (id, both, here, in_left m v.marks w.marks (subst (λ (u : Notes). IsIn m u.marks) is x.3)))
    (λ else. (x.0, x.1, set_else one other x.0 spent_notes not_it ∙ (set_else views id x.0 both else ∙ x.2), x.3)))

pub joins_step : (count id : ℕ) (v : Notes) (other : ℕ) (w : Notes) → Joins (Kept count) id v other w (with_notes v w) spent_notes
joins_step count id v other w s k at apart there =
    let f = k.fits id v at in
    let was : get_elem? s.views other ≡ some w = sym (set_else s.views id other (with_notes v w) apart) ∙ there in
    let o = k.fits other w was in
    record {
      wide = k.wide;
      harvests = k.harvests;
      keeper = k.keeper;
      counts = k.counts;
      fits = λ j u e. ⊎_elim
          (λ (t : (j ≡ other) × (spent_notes ≡ u)). subst (λ (y : Notes). Fits s.words k.harvests k.keeper j y) t.1 record { keeps = λ h. absurd (off h); marks = tt; loads = tt })
          (λ (t : (j ≢ other) × (get_elem? (set s.views id (with_notes v w)) j ≡ some u)). ⊎_elim
          (λ (r : (j ≡ id) × (with_notes v w ≡ u)). subst (λ (y : ℕ × Notes). Fits s.words k.harvests k.keeper y.0 y.1) (λ z. (sym r.0 z, r.1 z)) record {
            keeps = f.keeps;
            marks = each_append (MarkHolds s.words k.harvests) v.marks w.marks f.marks o.marks;
            loads = each_append (LoadHolds s.words k.harvests) v.loads w.loads f.loads o.loads;
          })
          (λ (r : (j ≢ id) × (get_elem? s.views j ≡ some u)). k.fits j u r.1)
          (at_set s.views id j (with_notes v w) u t.1))
          (at_set (set s.views id (with_notes v w)) other j spent_notes u e);
      made = λ n c g low h. noted_joined s.views id other v w at apart was (mark_note (32 * n + c) g) (k.made n c g low h);
    }

-- ---- the start

zero_at : (words : List ℕ) → Each (λ (n : ℕ). n ≡ 0) words → (w : ℕ) → get_or words w 0 ≡ 0
zero_at [] z w = refl
zero_at (x ∷ xs) z zero = z.0
zero_at (x ∷ xs) z (suc w) = zero_at xs z.1 w

begins : (words : List ℕ) → Each (λ (n : ℕ). n ≡ 0) words → Kept (length words) (opening words [] keeper_notes)
begins words zeros = record {
  wide = refl;
  harvests = [];
  keeper = 0;
  counts = λ w _. ap generation_of (zero_at words zeros w);
  fits = one;
  made = λ w c g low h. absurd (none_holds (get_or words w 0) c g (zero_at words zeros w) h);
}
  where
    one : (j : ℕ) (v : Notes) → get_elem? (keeper_notes ∷ []) j ≡ some v → Fits words [] 0 j v
    one zero v e = subst (λ (y : Notes). Fits words [] 0 0 y) (some-injective keeper_notes v e) record { keeps = λ _. (refl, refl); marks = tt; loads = tt }
    one (suc j) v e = absurd (some-ne-none v (sym e))

each_replicate : (n : ℕ) → Each (λ (k : ℕ). k ≡ 0) (replicate n 0)
each_replicate zero = tt
each_replicate (suc n) = (refl, each_replicate n)

length_replicate : (n : ℕ) → length {A = ℕ} (replicate n 0) ≡ n
length_replicate zero = refl
length_replicate (suc n) = ap suc (length_replicate n)

pub begins_at : (n : ℕ) → Kept n (opening (replicate n 0) [] keeper_notes)
begins_at n = subst (λ (k : ℕ). Kept k (opening (replicate n 0) [] keeper_notes)) (length_replicate n) (begins (replicate n 0) (each_replicate n))

-- ---- the harvester's numbers

pub counts_begin : (n : ℕ) → HasCounts (replicate n 0) []
counts_begin n w h = zero_at (replicate n 0) (each_replicate n) w

pub counts_step : (counts : List ℕ) (hs : List HarvestNote) (w g bits : ℕ) → w < length counts → g ≡ get_or counts w 0 → HasCounts counts hs → HasCounts (set counts w (g + 1)) (hs ++ harvest_note w bits ∷ [])
counts_step counts hs w g bits inside is h u below = dite (ℕ_discrete u w)
    (λ same. subst (λ (y : ℕ). get_or (set counts w (g + 1)) y 0 ≡ length (harvests_of y (hs ++ harvest_note w bits ∷ []))) (sym same)
    (get_or-set_same counts w (g + 1) 0 inside ∙ (ap (λ (y : ℕ). y + 1) (is ∙ h w inside) ∙ sym (ap (λ (l : List ℕ). length l) (harvests_same hs w bits) ∙ length_snoc (harvests_of w hs) bits))))
    (λ other. get_or-set_other counts w u (g + 1) 0 other ∙ (h u (subst (λ (y : ℕ). u < y) (length-set counts w (g + 1)) below) ∙ ap (λ (l : List ℕ). length l) (sym (harvests_other hs u w bits (λ e. other (sym e))))))

pub index_is : (l : List ℕ) (i n : ℕ) → i < length l → n ≡ get_or l i n → n ≡ get_or l i 0
index_is [] i n h e = absurd (omega arith)
index_is (x ∷ xs) zero n h e = e
index_is (x ∷ xs) (suc i) n h e = index_is xs i n (omega arith) e
