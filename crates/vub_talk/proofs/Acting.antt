-- What the guest of a batch has to do.
use Rattle.std.proofs.Common.{◌≡◌, ◌⊎◌, ℕ, suc, ◌+◌, ◌-◌, ◌*◌, ◌%◌, ◌^◌, ◌<◌, ◌≤◌, inl, inr, false, ◌||◌, List, [], ◌∷◌, ◌++◌, length, refl, subst, arith, ltb}
use Rattle.std.specs.Int.{w16, to_le_bytes}
use Rattle.std.specs.List.{list_any}
use Rattle.std.proofs.lemmas.Bool.{or_parts, ltb-false}
use Rattle.vub_driver.specs.Calls.{chain_bytes, index_of, is_too_large}
use Rattle.vub_driver.specs.Places.{half_of, place_of, head_of, request_at, descriptors_at, avail_slot_at, avail_index_at}
use Rattle.vub_driver.specs.declared.layout.Layout.{Layout}
use Rattle.vub_driver.proofs.Fitting.{place_below, pair_fits}
use Rattle.vub_model.specs.declared.setup.Guest.{Guest}
use Rattle.vub_model.specs.declared.setup.Guest.TheVariants.{Signal}
use Rattle.vub_talk.specs.Asking.{AreSmall, is_large}
use Rattle.vub_talk.specs.Batches.{asks_stored}
use Rattle.vub_talk.specs.Ready.{InTable, InIndex}
use Rattle.vub_talk.specs.declared.ask.Ask.{Ask}
use Rattle.vub_talk.proofs.Accepting.{request_fits}
use Rattle.vub_talk.proofs.Guarding.{Sits}
use Rattle.vub_talk.proofs.Standing.{Acts, IsOther, IsChainStore, IsIndexStore}

pub record RoomFits (l : Layout) (room : ℕ) : Type 0 where
  pub short : room ≤ l.slot
  pub few : room < 2 ^ 32

pub room_fits : (l : Layout) (len room : ℕ) → is_too_large l len room ≡ false → RoomFits l room
room_fits l len room small =
    let both = or_parts (ltb l.slot len || ltb l.slot room) (ltb (2 ^ 32 - 1) (len + room)) small in
    let slots = or_parts (ltb l.slot len) (ltb l.slot room) both.0 in
    record { short = ltb-false l.slot room slots.1; few = omega (arith, ltb-false (2 ^ 32 - 1) (len + room) both.1) }

module _ (l : Layout) (at : Sits l) where
  -- the request lies in the buffers
  pub request-off : (n len : ℕ) → len ≤ l.slot → (x : ℕ) → request_at l n ≤ x → x < request_at l n + len → (InTable l x ⊎ InIndex l x) → ⊥
  request-off n len short x from to guarded =
      let pair = pair_fits (place_of l n) (half_of l) l.slot l.size (place_below l n at.fit) at.fit.even in
      let low : l.buffers ≤ x = omega (arith, from) in
      let high : x < l.buffers + l.slot * l.size = omega (arith, to, short, pair) in
      elim guarded [
        | inl table ↦ at.desc_buffers x table.low table.high low high
        | inr index ↦ at.avail_buffers x (omega (arith, index.low)) (omega (arith, index.high)) low high
      ]

  -- the slot lies behind the index
  pub slot-off : (n x : ℕ) → avail_slot_at l n ≤ x → x < avail_slot_at l n + 2 → (InTable l x ⊎ InIndex l x) → ⊥
  slot-off n x from to guarded =
      let some : 0 < l.size = omega (arith, at.fit.some, at.fit.even) in
      let below : n % l.size < l.size = omega (arith, some) in
      elim guarded [
        | inl table ↦ at.desc_avail x table.low table.high (omega (arith, from)) (omega (arith, to, below))
        | inr index ↦ omega (arith, from, index.high)
      ]

  request-other : (n : ℕ) (request : List ℕ) → length request ≤ l.slot → IsOther l (request_at l n - 1048576) request
  request-other n request short = record { at = request_at l n; is = refl; low = omega (arith, at.within.buffers.0); off = request-off n (length request) short }

  slot-other : (n : ℕ) → IsOther l (avail_slot_at l n - 1048576) (to_le_bytes w16 (head_of l n))
  slot-other n = record { at = avail_slot_at l n; is = refl; low = omega (arith, at.within.avail.0); off = slot-off n }

  chain-store : (n len room : ℕ) → RoomFits l room → IsChainStore l (descriptors_at l n - 1048576) (chain_bytes l n len room)
  chain-store n len room fits = record { number = n; size = len; room = room; is = refl; bytes = refl; short = fits.short; few = fits.few }

  index-store : (n : ℕ) → IsIndexStore l n (avail_index_at l - 1048576) (to_le_bytes w16 (index_of (n + 1)))
  index-store n = record { is = refl; bytes = refl }

  -- thirteen for each ask: four steps, and nine for the entry
  pub asks-act : (n : ℕ) (asks : List Ask) (rest : List Guest) (k : ℕ) → AreSmall l asks → Acts l (n + length asks) rest k → Acts l n (asks_stored l n asks ++ rest) (13 * length asks + k)
  asks-act n [] rest k small acts =
      let here : n + 0 ≡ n = omega arith in
      let none : k ≡ 13 * 0 + k = omega arith in
      let A : ℕ → Type 0 = λ x. Acts l x rest k in
      let K : ℕ → Type 0 = λ x. Acts l n rest x in
      subst K none (subst A here acts)
  asks-act n (a ∷ asks) rest k small acts =
      let parts = or_parts (is_large l a) (list_any (λ (x : Ask). is_large l x) asks) small in
      let short = request_fits l (length a.request) a.room parts.0 in
      let up : n + suc (length asks) ≡ n + 1 + length asks = omega arith in
      let A : ℕ → Type 0 = λ x. Acts l x rest k in
      let more = asks-act (n + 1) asks rest k parts.1 (subst A up acts) in
      let left : 13 * length asks + k ≡ 13 * suc (length asks) + k - 1 - 1 - 1 - 10 = omega arith in
      let K : ℕ → Type 0 = λ x. Acts l (n + 1) (asks_stored l (n + 1) asks ++ rest) x in
      inl (
        refl,
        inl (request-other n a.request short),
        omega arith,
        inl (
          refl,
          inr (chain-store n (length a.request) a.room (room_fits l (length a.request) a.room parts.0)),
          omega arith,
          inl (refl, inl (slot-other n), omega arith, inr (refl, index-store n, omega arith, subst K left more)),
        ),
      )

  pub batch-acts : (n : ℕ) (asks : List Ask) → AreSmall l asks → Acts l n (asks_stored l n asks ++ Signal 1 ∷ []) (13 * length asks + 7)
  batch-acts n asks small = asks-act n asks (Signal 1 ∷ []) 7 small (omega arith, tt)
