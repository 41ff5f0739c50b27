-- What the rule of a shared log's words says of its parties' notes.
use Rattle.std.proofs.Common.{◌≡◌, ◌↔◌, ℕ, ◌/◌, ◌%◌, ◌<◌, List, [], ◌∷◌, length, get_or, inl, inr, sym, subst, arith}
use Rattle.std.proofs.lemmas.Nat.{mod_below}
use mathlib.Core.Option.{some}
use lib.ListN.{get_elem?}
use Rattle.atomic_table.specs.Table.{State}
use Rattle.vub_mem.specs.Laws.{IsIn}
use Rattle.vub_log.specs.declared.notes.MarkNote.{MarkNote}
use Rattle.vub_log.specs.declared.notes.LoadNote.{LoadNote}
use Rattle.vub_log.specs.declared.notes.Notes.{Notes}
use Rattle.vub_log.specs.Notes.{generation_of, harvests_of, mark_note, Each}
use Rattle.vub_log.specs.Rule.{MarkHolds, LoadHolds, IsNoted, Kept}
use Rattle.vub_log.proofs.Steps.{page_is}

each_in : {A : Type 0} (P : A → Type 0) (xs : List A) (x : A) → Each P xs → IsIn x xs → P x
each_in P [] x h i = absurd i
each_in P (y ∷ ys) x h (inl e) = subst P e h.0
each_in P (y ∷ ys) x h (inr i) = each_in P ys x h.1 i

pub hold_where_noted : (count : ℕ) (s : State ℕ Notes) (k : Kept count s) (m : MarkNote) → IsNoted s.views m ↔ MarkHolds s.words k.harvests m
hold_where_noted count s k m = (
  (λ x. each_in (MarkHolds s.words k.harvests) x.1.marks m (k.fits x.0 x.1 x.2).marks x.3),
  (λ h. subst (λ (p : ℕ). IsNoted s.views (mark_note p m.generation)) (page_is m.page) (k.made (m.page / 32) (m.page % 32) m.generation (mod_below m.page 32 (omega arith)) h)),
)

pub loads_hold : (count : ℕ) (s : State ℕ Notes) (k : Kept count s) (j : ℕ) (v : Notes) (l : LoadNote) → get_elem? s.views j ≡ some v → IsIn l v.loads → LoadHolds s.words k.harvests l
loads_hold count s k j v l at has = each_in (LoadHolds s.words k.harvests) v.loads l (k.fits j v at).loads has

pub count_harvests : (count : ℕ) (s : State ℕ Notes) (k : Kept count s) (w : ℕ) → w < count → generation_of (get_or s.words w 0) ≡ length (harvests_of w k.harvests)
count_harvests count s k w below = k.counts w (subst (λ (n : ℕ). w < n) (sym k.wide) below)
