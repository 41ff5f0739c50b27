-- Each page that a worker writes in a region with a log is marked at the end of a run or was handed out since, and no
-- page is marked for nothing.
use Rattle.std.proofs.Common.{◌≡◌, ◌⊎◌, inl, inr, ℕ, List, [], ◌∷◌, ◌++◌, length, drop, sym, ap, ◌∙◌, subst, append-nil}
use Rattle.std.proofs.lemmas.List.{append_assoc}
use Rattle.std.proofs.Math.Seq.{drop-append_seam, drop-length}
use Rattle.vub_mem.specs.Marks.{Mark}
use Rattle.vub_model.specs.declared.party.Party.{Party}
use Rattle.vub_model.specs.declared.play.Play.{Play}
use Rattle.vub_model.specs.declared.records.Harvested.{Harvested}
use Rattle.vub_model.specs.Logging.{Stands, IsHandedOut, IsUnharvested, harvests_since, KeepsPages, MarksSince, SomeTurn, KeepsLogs}
use Rattle.vub_model.specs.RunOf.{party_of, next, IsRun, EachTurn}
use Rattle.vub_model.specs.Service.{Meaning}
use Rattle.vub_model.specs.World.{World}
use Rattle.vub_model.proofs.LogSound.{LogsSound, logs-turn}
use Rattle.vub_model.proofs.LogTurns.{Logs, turn-logs}
use Rattle.vub_model.proofs.Turns.{turn-next}

-- Lists of harvests

handed-first : (m : Mark) (xs ys : List Harvested) → IsHandedOut m xs → IsHandedOut m (xs ++ ys)
handed-first m [] ys out = absurd out
handed-first m (x ∷ xs) ys (inl here) = inl here
handed-first m (x ∷ xs) ys (inr later) = inr (handed-first m xs ys later)

handed-later : (m : Mark) (xs ys : List Harvested) → IsHandedOut m ys → IsHandedOut m (xs ++ ys)
handed-later m [] ys out = out
handed-later m (x ∷ xs) ys out = inr (handed-later m xs ys out)

unharvested-both : (m : Mark) (xs ys : List Harvested) → IsUnharvested m xs → IsUnharvested m ys → IsUnharvested m (xs ++ ys)
unharvested-both m [] ys none more = more
unharvested-both m (x ∷ xs) ys none more = (none.0, unharvested-both m xs ys none.1 more)

-- Runs

-- what a run makes of the marks
pub record RunLogs {V : Type 0} (m : Meaning V) (turns : List ℕ) (plays : List Play) (w z : World V) : Type 0 where
  pub harvests : z.harvests ≡ w.harvests ++ harvests_since w z
  pub stays : (page : Mark) → Stands w page → Stands z page ⊎ IsHandedOut page (harvests_since w z)
  pub kept : EachTurn (KeepsPages z) m turns plays w
  pub only : (page : Mark) → Stands z page → (Stands w page × IsUnharvested page (harvests_since w z)) ⊎ SomeTurn (MarksSince z page) m turns plays w

module _ {V : Type 0} (m : Meaning V) where
  nothing-since : (w : World V) → harvests_since w w ≡ []
  nothing-since w = drop-length w.harvests

  no-turns : (w : World V) → RunLogs m [] [] w w
  no-turns w = record {
    harvests = sym (append-nil w.harvests) ∙ ap (λ l. w.harvests ++ l) (sym (nothing-since w));
    stays = λ page stands. inl stands;
    kept = tt;
    only = λ page stands. inl (stands, (let P : List Harvested → Type 0 = λ l. IsUnharvested page l in subst P (sym (nothing-since w)) tt));
  }

  -- the harvests of the first turn come before the others
  module _ (w : World V) (p : Party) (l : Play) (mid z : World V) (first : Logs w p l mid) (rest : z.harvests ≡ mid.harvests ++ harvests_since mid z) where
    all-harvests : z.harvests ≡ w.harvests ++ (first.more ++ harvests_since mid z)
    all-harvests = rest ∙ (ap (λ l. l ++ harvests_since mid z) first.harvests ∙ append_assoc w.harvests first.more (harvests_since mid z))

    since : harvests_since w z ≡ first.more ++ harvests_since mid z
    since = ap (λ l. drop (length w.harvests) l) all-harvests ∙ drop-append_seam w.harvests (first.more ++ harvests_since mid z)

    since-none : first.more ≡ [] → harvests_since w z ≡ harvests_since mid z
    since-none none = since ∙ ap (λ l. l ++ harvests_since mid z) none

  one-more : (turn : ℕ) (turns : List ℕ) (l : Play) (plays : List Play) (w mid z : World V) → Logs w (party_of turn) l mid → mid ≡ next m w (party_of turn) l → RunLogs m turns plays mid z → RunLogs m (turn ∷ turns) (l ∷ plays) w z
  one-more turn turns l plays w mid z first is rest =
      let p : Party = party_of turn in
      let all : harvests_since w z ≡ first.more ++ harvests_since mid z = since w p l mid z first rest.harvests in
      let Kept : World V → Type 0 = λ x. KeepsPages z w p l x × EachTurn (KeepsPages z) m turns plays x in
      record {
        harvests = all-harvests w p l mid z first rest.harvests ∙ ap (λ l. w.harvests ++ l) (sym all);
        stays = λ page stands.
            let Out : List Harvested → Type 0 = λ l. IsHandedOut page l in
            elim (first.stays page stands) [
              | inl still ↦ elim (rest.stays page still) [
                | inl end ↦ inl end
                | inr out ↦ inr (subst Out (sym all) (handed-later page first.more (harvests_since mid z) out))
              ]
              | inr out ↦ inr (subst Out (sym all) (handed-first page first.more (harvests_since mid z) out))
            ];
        kept = subst Kept is (
          (λ page dirty.
              let marked = first.marks page dirty in
              let Out : List Harvested → Type 0 = λ l. Stands z page ⊎ IsHandedOut page l in
              subst Out (sym (since-none w p l mid z first rest.harvests marked.1)) (rest.stays page marked.0)),
          rest.kept,
        );
        only = λ page stands.
            let None : List Harvested → Type 0 = λ l. IsUnharvested page l in
            let Some : World V → Type 0 = λ x. MarksSince z page w p l x ⊎ SomeTurn (MarksSince z page) m turns plays x in
            elim (rest.only page stands) [
              | inl was ↦ elim (first.only page was.0) [
                | inl before ↦ inl (before.0, subst None (sym all) (unharvested-both page first.more (harvests_since mid z) before.1 was.1))
                | inr dirty ↦ inr (inl (dirty.0, subst None (sym (since-none w p l mid z first rest.harvests dirty.1)) was.1))
              ]
              | inr some ↦ inr (subst Some is (inr some))
            ];
      }

  -- what a run makes of the marks
  pub run-logs : (turns : List ℕ) (plays : List Play) (w z : World V) → LogsSound w → IsRun m turns plays w z → RunLogs m turns plays w z
  run-logs [] [] w z s run = let P : World V → Type 0 = λ x. RunLogs m [] [] w x in subst P (sym run) (no-turns w)
  run-logs [] (l ∷ plays) w z s run = absurd run
  run-logs (turn ∷ turns) [] w z s run = absurd run
  run-logs (turn ∷ turns) (l ∷ plays) w z s run =
      one-more turn turns l plays w run.0 z (turn-logs w m s (party_of turn) run.0 l run.1) (turn-next m w (party_of turn) l run.0 run.1)
      (run-logs turns plays run.0 z (logs-turn m w (party_of turn) run.0 s l run.1) run.2)

  -- from a world in which no page is marked
  pub logs-kept : (turns : List ℕ) (plays : List Play) (w z : World V) → LogsSound w → ((page : Mark) → Stands w page → ⊥) → IsRun m turns plays w z → KeepsLogs m turns plays w z
  logs-kept turns plays w z s clean run =
      let all = run-logs turns plays w z s run in
      record {
        kept = all.kept;
        only = λ page stands. elim (all.only page stands) [ inl was ↦ absurd (clean page was.0) | inr some ↦ some ];
      }
