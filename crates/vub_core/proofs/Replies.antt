-- Replies that fit: from the worker's hand after a Serve to the uses that a run hands back.
use Rattle.std.proofs.Common.{◌≡◌, ℕ, Bool, true, false, cond, List, [], ◌∷◌, ◌++◌, map, filter, refl, sym, ap, subst, ◌∙◌, append-nil, append_assoc, eqb}
use Rattle.std.specs.List.{AllByRecursion}
use Rattle.vub_mem.proofs.Finds.{all_append}
use Rattle.vub_proto.specs.declared.used.Used.{Used}
use Rattle.vub_model.specs.declared.party.Party.TheVariants as party
use Rattle.vub_model.specs.declared.phase.Phase.{Phase}
use Rattle.vub_model.specs.declared.phase.Phase.TheVariants.{Taken}
use Rattle.vub_model.specs.declared.play.Play.{Play}
use Rattle.vub_model.specs.declared.play.Play.TheVariants as play
use Rattle.vub_model.specs.declared.records.Take.{Take}
use Rattle.vub_model.specs.declared.run.Run.{Run}
use Rattle.vub_model.specs.Headline.{Asked, asked, asked_at, asked_in, asked_of, asked_take, asked_used, takes_of, uses_of, IsServed, OnceInOrder}
use Rattle.vub_model.specs.RunOf.{IsRun, party_of, next}
use Rattle.vub_model.specs.Service.{Meaning}
use Rattle.vub_model.specs.Shared.{Shared}
use Rattle.vub_model.specs.Wiring.{Wiring}
use Rattle.vub_model.specs.Work.{Local}
use Rattle.vub_model.specs.World.{World, phase_at}
use Rattle.vub_model.proofs.Turns.{turn-next}
use Rattle.vub_loop.specs.Plays.{IsStep}
use Rattle.vub_loop.specs.Sound.{IsSound}
use Rattle.vub_core.specs.Replies.{FitsItsRoom, CallsFit, FitsTake, UsesFit, RepliesFit}
use Rattle.vub_core.specs.Stepped.{IsTurn}

-- A turn

serve-fits : {V : Type 0} (m : Meaning V) (g : Wiring) (k : ℕ) (before now : Phase) (old new : Shared V) → IsStep m g k play.Serve before now old new → IsSound now → AllByRecursion FitsItsRoom (asked_in m old.service before)
serve-fits {V} m g k (Taken e queues) now old new row sound = ((subst IsSound (ap (λ (x : Local V). x.phase) row.1) sound).1, tt)
serve-fits m g k before now old new row sound = tt

-- what a worker has in hand is sound, and so the reply that it was given in this turn fits
pub turn-fits : {V : Type 0} (m : Meaning V) (w : World V) (k : ℕ) (l : Play) (now : Phase) (new : Shared V) → IsTurn m w.wiring k l (phase_at w.phases k) now w.shared new → IsSound now → AllByRecursion FitsItsRoom (asked_at m w (party.Worker k) l)
turn-fits m w k play.Serve now new row sound = serve-fits m w.wiring k (phase_at w.phases k) now w.shared new row sound
turn-fits m w k l now new row sound = tt

-- A run with one turn more

asked-more : {V : Type 0} (m : Meaning V) (turns : List ℕ) (plays : List Play) (w z : World V) (turn : ℕ) (l : Play) → IsRun m turns plays w z → asked m (turns ++ turn ∷ []) (plays ++ l ∷ []) w ≡ asked m turns plays w ++ asked_at m z (party_of turn) l
asked-more m [] [] w z turn l run = append-nil (asked_at m w (party_of turn) l) ∙ ap (λ x. asked_at m x (party_of turn) l) (sym run)
asked-more m [] (l' ∷ plays) w z turn l run = absurd run
asked-more m (turn' ∷ turns) [] w z turn l run = absurd run
asked-more {V} m (turn' ∷ turns) (l' ∷ plays) w z turn l run =
    let is = turn-next m w (party_of turn') l' run.0 run.1 in
    let R : World V → Type 0 = λ x. IsRun m turns plays x z in
    let first = asked_at m w (party_of turn') l' in
    ap (λ cs. first ++ cs) (asked-more m turns plays (next m w (party_of turn') l') z turn l (subst R is run.2))
    ∙ sym (append_assoc first (asked m turns plays (next m w (party_of turn') l')) (asked_at m z (party_of turn) l))

pub fits-more : {V : Type 0} (m : Meaning V) (turns : List ℕ) (plays : List Play) (w z : World V) (turn : ℕ) (l : Play) → IsRun m turns plays w z → CallsFit m turns plays w → AllByRecursion FitsItsRoom (asked_at m z (party_of turn) l) → CallsFit m (turns ++ turn ∷ []) (plays ++ l ∷ []) w
fits-more m turns plays w z turn l run front last =
    subst (AllByRecursion FitsItsRoom) (sym (asked-more m turns plays w z turn l run)) (all_append FitsItsRoom (asked m turns plays w) (asked_at m z (party_of turn) l) front last)

-- The uses

all-kept : {X : Type 0} (test : X → Bool) (P : X → Type 0) (xs : List X) → AllByRecursion P xs → AllByRecursion P (filter test xs)
all-kept test P [] all = tt
all-kept {X} test P (x ∷ xs) all =
    elim (test x) as (λ b. AllByRecursion P (cond {A = List X} b (x ∷ filter test xs) (filter test xs))) [
      | true ↦ (all.0, all-kept test P xs all.1)
      | false ↦ all-kept test P xs all.1
    ]

-- the use of an entry with the reply to its call
fits-take : (a : Asked) (u : Used) → asked_used a ≡ u → FitsItsRoom a → FitsTake (asked_take a) u
fits-take a u is fits = subst (FitsTake (asked_take a)) is (record { queue = refl; epoch = refl; number = refl; head = refl; reply = fits })

uses-fit : (calls : List Asked) (uses unused : List Used) (unasked : List Take) → map asked_used calls ≡ uses ++ unused → AllByRecursion FitsItsRoom calls → UsesFit (map asked_take calls ++ unasked) uses
uses-fit calls [] unused unasked used all = tt
uses-fit [] (u ∷ uses) unused unasked used all = absurd cc
uses-fit (a ∷ calls) (u ∷ uses) unused unasked used all =
    let first : asked_used a ≡ u = cc in
    let rest : map asked_used calls ≡ uses ++ unused = cc in
    (fits-take a u first all.0, uses-fit calls uses unused unasked rest all.1)

queue-fits : (takes : List Take) (calls : List Asked) (uses : List Used) → OnceInOrder takes calls uses → AllByRecursion FitsItsRoom calls → UsesFit takes uses
queue-fits takes calls uses once all =
    subst (λ ts. UsesFit ts uses) (sym once.served) (uses-fit calls uses once.unused once.unasked once.used all)

-- each queue's uses are those of its calls, as far as they go
pub replies-fit : {V : Type 0} (m : Meaning V) (schedule : List ℕ) (plays : List Play) (opening closing : World V) (run : Run) → IsServed m schedule plays opening closing → run.takes ≡ closing.takes → run.uses ≡ closing.uses → CallsFit m schedule plays opening → RepliesFit m schedule plays opening run
replies-fit m schedule plays opening closing run served takes uses fits = record {
  calls = fits;
  uses = λ queue.
      subst (λ ts. UsesFit (takes_of queue ts) (uses_of queue run.uses)) (sym takes)
      (subst (λ us. UsesFit (takes_of queue closing.takes) (uses_of queue us)) (sym uses)
      (queue-fits (takes_of queue closing.takes) (asked_of queue (asked m schedule plays opening)) (uses_of queue closing.uses)
      (served.in_order queue)
      (all-kept (λ (a : Asked). eqb a.queue queue) FitsItsRoom (asked m schedule plays opening) fits)));
}
