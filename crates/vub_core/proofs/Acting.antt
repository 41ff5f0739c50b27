-- An action of the guest is a turn of the guest.
use Rattle.std.proofs.Common.{◌≡◌, ℕ, ◌+◌, ◌-◌, ◌<◌, ◌==◌, List, [], ◌∷◌, ◌++◌, length, drop, get_or, sym, ap, subst, ◌∙◌}
use Rattle.std.proofs.lemmas.Bool.{cond-false, ne_eqb}
use Rattle.std.proofs.lemmas.List.{drop_more}
use Rattle.vub_model.specs.declared.play.Play.TheVariants as play
use Rattle.vub_model.specs.declared.party.Party.TheVariants as party
use Rattle.vub_model.specs.declared.records.Harvested.{Harvested}
use Rattle.vub_model.specs.declared.setup.Guest.{Guest}
use Rattle.vub_model.specs.Shared.{Shared}
use Rattle.vub_model.specs.Service.{Meaning}
use Rattle.vub_model.specs.World.{World, acted, after_guest, harvests_by}
use Rattle.vub_model.specs.RunOf.{Turn, party_of}
use Rattle.vub_model.proofs.Shapes.{acted-shape}
use Rattle.vub_log.specs.Plain.{Plain}
use Rattle.vub_mem.specs.declared.dirty.Stored.{Stored}
use Rattle.vub_vring.specs.Store.{MayAct}
use Rattle.vub_core.specs.Ready.{NextMayAct}
use Rattle.vub_core.proofs.Framed.{Framed}

pub guest-turned : {V : Type 0} (m : Meaning V) (w : World V) (guest : List Guest) (done : ℕ) (action : Guest) (new : Shared V) (harvests : List Harvested) → w.guest ≡ drop done guest → done < length guest → action ≡ get_or guest done action → new ≡ acted w.shared action → harvests ≡ w.harvests ++ harvests_by w.shared action
    → Turn m w party.Guest play.Guest (record w { shared = new; guest = drop (done + 1) guest; harvests = harvests })
guest-turned m w guest done action new harvests left within here is kept =
    let next : w.guest ≡ action ∷ drop (done + 1) guest = left ∙ drop_more guest done action within ∙ ap (λ a. a ∷ drop (done + 1) guest) (sym here) in (
      (λ none. let bad : action ∷ drop (done + 1) guest ≡ [] = sym next ∙ none in absurd cc),
      ap (λ h. record w { shared = h; guest = drop (done + 1) guest; harvests = harvests }) is ∙ ap (λ hs. record w { shared = acted w.shared action; guest = drop (done + 1) guest; harvests = hs }) kept ∙ ap (λ gs. after_guest w gs) (sym next),
    )

-- the guest's next action is the first that is left
pub next-may : (logs : List (Stored Plain)) (guest : List Guest) (done : ℕ) (action : Guest) → done < length guest → action ≡ get_or guest done action → NextMayAct logs (drop done guest) → MayAct logs action
next-may logs guest done action within here may =
    let N : List Guest → Type 0 = λ l. NextMayAct logs l in
    let A : Guest → Type 0 = λ a. MayAct logs a in
    subst A (sym here) (subst N (drop_more guest done action within) may)

-- it leaves what a plan is fixed by
pub guest-framed : {V : Type 0} (h new : Shared V) (action : Guest) → new ≡ acted h action → Framed h new
guest-framed {V} h new action is = let F : Shared V → Type 0 = λ x. Framed h x in subst F (sym is) (record { frame = (acted-shape h action).frame; regions = (acted-shape h action).regions })

-- a party with a greater number is a worker
pub party-worker : (p : ℕ) → (p ≡ 0 → ⊥) → (p ≡ 1 → ⊥) → party_of p ≡ party.Worker (p - 2)
party-worker p not-guest not-control = cond-false (p == 0) party.Guest _ (ne_eqb p 0 not-guest) ∙ cond-false (p == 1) party.Control _ (ne_eqb p 1 not-control)
