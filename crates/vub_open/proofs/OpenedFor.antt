-- The opening of a store is the same for every service.
use Rattle.std.proofs.Common.{◌≡◌, ℕ, ◌&&◌, Bool, true, false, List, [], ◌∷◌, fold, length, Option, Some, None, refl, ap, ◌∙◌, cond}
use Rattle.vub_model.specs.declared.constants.Constants.{Constants}
use Rattle.vub_model.specs.declared.setup.GivenRing.{GivenRing}
use Rattle.vub_model.specs.declared.setup.Setup.{Setup}
use Rattle.vub_model.specs.declared.wiring.Place.{Place}
use Rattle.vub_model.specs.Shared.{Shared}
use Rattle.vub_model.specs.Opening.{opening, before_rings, placed, claimed, registered, registered_kick, wiring_of}
use Rattle.vub_model.specs.Wiring.{Wiring, place_of}
use Rattle.vub_vring.specs.declared.store.Store.{Store}
use Rattle.vub_vring.specs.Store.{shared_of}
use Rattle.vub_open.specs.Opened.{unserved}

-- what is held, with this service in place of the other
abbrev with_service : {U V : Type 0} → V → Shared U → Shared V
with_service v h = record { guest = h.guest; rings = h.rings; logs = h.logs; table = h.table; pending = h.pending; service = v }

module _ {U V : Type 0} (v : V) (g : Wiring) where
  placed_with : (h : Shared U) (kick : ℕ) (found : Option Place) → with_service v (placed g h kick found) ≡ placed g (with_service v h) kick found
  placed_with h kick None = refl
  placed_with h kick (Some p) = refl

  chosen_with : (b : Bool) (h : Shared U) (r : GivenRing) (kick : ℕ) → with_service v (cond {A = Shared U} b (placed g (claimed h kick r.queue) kick (place_of g r.queue)) (claimed h kick r.queue)) ≡ cond {A = Shared V} b (placed g (claimed (with_service v h) kick r.queue) kick (place_of g r.queue)) (claimed (with_service v h) kick r.queue)
  chosen_with true h r kick = placed_with (claimed h kick r.queue) kick (place_of g r.queue)
  chosen_with false h r kick = refl

  registered_with : (h : Shared U) (r : GivenRing) (kick : Option ℕ) → with_service v (registered_kick g h r kick) ≡ registered_kick g (with_service v h) r kick
  registered_with h r None = refl
  registered_with h r (Some kick) = chosen_with (r.ready && r.enabled) h r kick

  all_with : (rs : List GivenRing) (h : Shared U) → with_service v (fold (λ h r. registered g h r) h rs) ≡ fold (λ h r. registered g h r) (with_service v h) rs
  all_with [] h = refl
  all_with (r ∷ rs) h = all_with rs (registered g h r) ∙ ap (λ h. fold (λ h r. registered g h r) h rs) (registered_with h r r.kick)

-- a store that opens a set-up opens it for every service
pub opened_for : {V : Type 0} (k : Constants) (s : Setup) (v : V) (store : Store) → unserved store ≡ (opening k s (tt {0})).shared → shared_of store v ≡ (opening k s v).shared
unfolding opening
opened_for k s v store opens =
    ap (λ h. with_service v h) opens
    ∙ all_with v (wiring_of k (length s.objects)) s.rings (before_rings k s (tt {0}))
