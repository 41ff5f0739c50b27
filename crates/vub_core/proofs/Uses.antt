-- What the use of an entry writes is flagged.
use Rattle.std.proofs.Common.{◌≡◌, ℕ, ◌+◌, ◌*◌, Bool, true, inl, inr, List, ◌++◌, Ok, Err, sym, ap, ◌∙◌}
use Rattle.std.proofs.lemmas.Bool.{and_parts, cases_Bool}
use Rattle.std.proofs.lemmas.List.Sums.{fold-append}
use Rattle.vub_mem.specs.declared.region.Region.{Region}
use Rattle.vub_mem.specs.Place.{covers}
use Rattle.vub_queue.specs.declared.chain.Chain.{Chain}
use Rattle.vub_queue.specs.declared.putting.PutFault.TheVariants.{RoomOutside, RingOutside}
use Rattle.vub_queue.specs.Layout.{at_of, used_element_at, used_index_at}
use Rattle.vub_queue.specs.Put.{room_covers, used_covers, put_answer}
use Rattle.vub_queue.specs.Ring.{Ring}
use Rattle.vub_model.specs.Written.{spots_of, reply_spots, put_spots, flagged, with_spots}
use Rattle.vub_core.specs.declared.footprint.UsePlace.{UsePlace}
use Rattle.vub_core.specs.Places.{IsUsePlace}

-- a put that is not refused has its room and its words in guest memory
pub put_covers : (rs : List Region) (r : Ring) (c : Chain) (reply : List ℕ) (wanted answer : Bool) → put_answer rs r c reply wanted ≡ Ok answer → (room_covers rs c.segments reply ≡ true) × (covers rs (used_element_at r) 8 ≡ true) × (covers rs (used_index_at r) 2 ≡ true)
unfolding put_answer used_covers
put_covers rs r c reply wanted answer ok =
    elim (cases_Bool (room_covers rs c.segments reply)) [
      | inl room ↦ elim (cases_Bool (used_covers rs r)) [
        | inl used ↦ (let parts = and_parts (covers rs (used_element_at r) 8) (covers rs (used_index_at r) 2) used in (room, parts.0, parts.1))
        | inr none ↦ (let bad : Err RingOutside ≡ Ok answer = rw (room, none) at ok in absurd cc)
      ]
      | inr none ↦ (let bad : Err RoomOutside ≡ Ok answer = rw none at ok in absurd cc)
    ]

pub use_flagged : (rs : List Region) (r : Ring) (c : Chain) (reply : List ℕ) (wanted answer : Bool) (place : UsePlace) (before room element after : List (List Bool)) → IsUsePlace r place → put_answer rs r c reply wanted ≡ Ok answer →
    (room_covers rs c.segments reply ≡ true → room ≡ with_spots before (reply_spots rs c.segments reply)) →
    (covers rs (place.used + (4 + 8 * place.slot)) 8 ≡ true → element ≡ with_spots room (spots_of rs (place.used + (4 + 8 * place.slot)) 8)) →
    (covers rs (place.used + 2) 2 ≡ true → after ≡ with_spots element (spots_of rs (place.used + 2) 2)) →
    after ≡ with_spots before (put_spots rs r c reply)
use_flagged rs r c reply wanted answer place before room element after is ok first second third =
    let there = put_covers rs r c reply wanted answer ok in
    let at : place.used + (4 + 8 * place.slot) ≡ used_element_at r = ap (λ u. u + (4 + 8 * place.slot)) is.used ∙ ap (λ n. (at_of r).used + (4 + 8 * n)) is.slot in
    let index : place.used + 2 ≡ used_index_at r = ap (λ u. u + 2) is.used in
    let a = first there.0 in
    let b = second (ap (λ k. covers rs k 8) at ∙ there.1) in
    let d = third (ap (λ k. covers rs k 2) index ∙ there.2) in
    d ∙ ap (λ k. with_spots element (spots_of rs k 2)) index
    ∙ ap (λ f. with_spots f (spots_of rs (used_index_at r) 2)) (b ∙ ap (λ k. with_spots room (spots_of rs k 8)) at ∙ ap (λ f. with_spots f (spots_of rs (used_element_at r) 8)) a)
    ∙ sym (fold-append flagged before (reply_spots rs c.segments reply) (spots_of rs (used_element_at r) 8 ++ spots_of rs (used_index_at r) 2)
    ∙ fold-append flagged (with_spots before (reply_spots rs c.segments reply)) (spots_of rs (used_element_at r) 8) (spots_of rs (used_index_at r) 2))
