-- The kick of a given ring is placed.
use Rattle.std.proofs.Common.{◌≡◌, ℕ, ◌+◌, ◌<◌, List, [], length, slice_index_or, slice_set, Option, Some, true, ◌&&◌, position, sym, ap, ◌∙◌, arith}
use Rattle.std.proofs.lemmas.List.FromFn.{get_or-map-range_with_len}
use Rattle.std.proofs.lemmas.Bool.{cond-true}
use Rattle.vub_event.specs.HostTable.{HostTable, event_at, with_event, members_at, with_members}
use Rattle.vub_event.specs.InterestList.{with_member}
use Rattle.vub_model.specs.declared.constants.Constants.{Constants}
use Rattle.vub_model.specs.declared.setup.GivenRing.{GivenRing}
use Rattle.vub_model.specs.declared.wiring.Opened.{Opened}
use Rattle.vub_model.specs.declared.wiring.Place.{Place}
use Rattle.vub_model.specs.Shared.{Shared, raised, raised_option, inserted, with_number}
use Rattle.vub_model.specs.Opening.{listed, joined, placed, claimed_event, claimed, registered_kick, registered, opened_worker, wiring_of}
use Rattle.vub_model.specs.Wiring.{Wiring, opened_at, no_worker, has_bit, place_with, place_of}

-- a worker of an opening
pub opened_is : (k : Constants) (count w : ℕ) → w < length k.masks → opened_at (wiring_of k count) w ≡ opened_worker count k.exits w
opened_is k count w there = get_or-map-range_with_len (λ w. opened_worker count k.exits w) 0 (length k.masks) w w no_worker there (omega arith)

module _ {V : Type 0} (k : Constants) (count : ℕ) (old : Shared V) (kick : ℕ) (p : Place) where
  -- the kick joins the list of its worker, its number is pending, and the bell is rung
  pub kick_placed : (t u : HostTable) (sets : List (List ℕ)) → p.worker < length k.masks → t ≡ with_members old.table p.worker (with_member (members_at old.table p.worker) (listed kick p.number)) → sets ≡ slice_set old.pending p.worker (with_number (slice_index_or old.pending p.worker []) p.number) → u ≡ with_event t (count + p.worker) (raised_option (event_at t (count + p.worker))) → record old { table = u; pending = sets } ≡ placed (wiring_of k count) old kick (Some p)
  kick_placed t u sets there joins pends rings =
      let bell : ℕ = count + p.worker in
      ap (λ x. record old { table = x; pending = sets }) rings
      ∙ ap (λ x. record old { table = with_event x bell (raised_option (event_at x bell)); pending = sets }) joins
      ∙ ap (λ x. raised (record (joined old p.worker kick p.number) { pending = x }) bell) pends
      ∙ sym (ap (λ (o : Opened). raised (inserted (joined old o.list kick p.number) p.worker p.number) o.bell) (opened_is k count p.worker there))

-- the place of a queue, found by the masks
pub place_there : (k : Constants) (count q : ℕ) (masks : List ℕ) (found : Option Place) → masks ≡ k.masks → found ≡ place_with masks q (position (λ mask. has_bit mask q) masks) → place_of (wiring_of k count) q ≡ found
unfolding place_of
place_there k count q masks found same is = sym (is ∙ ap (λ ms. place_with ms q (position (λ mask. has_bit mask q) ms)) same)

-- a ring that is ready and enabled is registered once its kick is claimed and placed
pub ring_registered : {V : Type 0} (g : Wiring) (old : Shared V) (r : GivenRing) (kick : ℕ) (t : HostTable) (found : Option Place) → r.kick ≡ Some kick → t ≡ with_event old.table kick (claimed_event r.queue (event_at old.table kick)) → r.ready ≡ true → r.enabled ≡ true → place_of g r.queue ≡ found → placed g (record old { table = t }) kick found ≡ registered g old r
ring_registered {V} g old r kick t found is claims ready enabled place =
    let on : (r.ready && r.enabled) ≡ true = ap (λ b. b && r.enabled) ready ∙ enabled in
    let h : Shared V = claimed old kick r.queue in
    ap (λ x. placed g (record old { table = x }) kick found) claims
    ∙ sym (ap (λ p. placed g h kick p) place)
    ∙ sym (cond-true {A = Shared V} (r.ready && r.enabled) (placed g h kick (place_of g r.queue)) h on)
    ∙ sym (ap (λ o. registered_kick g old r o) is)
