-- Where the bytes that different queues touch are disjoint, no take reads a byte that another wrote.
use Rattle.std.proofs.Common.{◌≡◌, ◌≢◌, ℕ, Bool, true, false, cond, inl, inr, ◌⊎◌, List, [], ◌∷◌, ◌++◌, refl, sym, subst}
use Rattle.std.proofs.lemmas.Bool.{eq-eqb}
use Rattle.vub_model.specs.declared.party.Party.{Party}
use Rattle.vub_model.specs.declared.party.Party.TheVariants as party
use Rattle.vub_model.specs.declared.phase.Phase.{Phase}
use Rattle.vub_model.specs.declared.phase.Phase.TheVariants.{Serving, Served}
use Rattle.vub_model.specs.declared.play.Play.{Play}
use Rattle.vub_model.specs.declared.play.Play.TheVariants as play
use Rattle.vub_model.specs.Headline.{IsSpot}
use Rattle.vub_model.specs.RunOf.{party_of, next}
use Rattle.vub_model.specs.Service.{Meaning}
use Rattle.vub_model.specs.Shared.{Shared}
use Rattle.vub_model.specs.World.{World, phase_at, written_by}
use Rattle.vub_model.specs.Written.{Spot}
use Rattle.vub_laws.specs.Alone.{read_by, is_of, read_at, wrote_at, taken_bytes, others_bytes}
use Rattle.vub_laws.specs.Touched.{tested_by, touched_at, touched, guest_wrote, guest_bytes, ApartQueuesAreUndisturbed}
use Rattle.vub_laws.proofs.Agreeing.{spot-left, spot-right}

spot-cases : (xs ys : List Spot) (o i : ℕ) → IsSpot (xs ++ ys) o i → IsSpot xs o i ⊎ IsSpot ys o i
spot-cases [] ys o i is = inr is
spot-cases (x ∷ xs) ys o i (inl here) = inl (inl here)
spot-cases (x ∷ xs) ys o i (inr more) = elim (spot-cases xs ys o i more) [ inl a ↦ inl (inr a) | inr b ↦ inr b ]

-- a byte that a step writes it writes for one queue
writer : {V : Type 0} (h : Shared V) (o i : ℕ) (l : Play) (phase : Phase) → IsSpot (written_by h l phase) o i → (p : ℕ) × (is_of l phase p ≡ true)
writer h o i play.Take (Serving (p ∷ rest)) is = (p, eq-eqb p p refl)
writer h o i play.Put (Served e reply queues) is = (e.queue, eq-eqb e.queue e.queue refl)
writer h o i l phase is = absurd is

module _ {V : Type 0} (m : Meaning V) (q o i : ℕ) where
  -- the guest's, or another queue's
  abbrev Other : List ℕ → List Play → World V → Type 0
  Other turns plays w = IsSpot (guest_bytes m turns plays w) o i ⊎ ((p : ℕ) × (p ≢ q) × IsSpot (touched m p turns plays w) o i)

  abbrev OtherAt : World V → Party → Play → Type 0
  OtherAt w p l = IsSpot (guest_wrote w p l) o i ⊎ ((x : ℕ) × (x ≢ q) × IsSpot (touched_at w x p l) o i)

  wrote-worker : (w : World V) (k : ℕ) (l : Play) (b : Bool) → is_of l (phase_at w.phases k) q ≡ b → IsSpot (cond b [] (written_by w.shared l (phase_at w.phases k))) o i → (p : ℕ) × (p ≢ q) × IsSpot (touched_at w p (party.Worker k) l) o i
  wrote-worker w k l true of is = absurd is
  wrote-worker w k l false of is =
      let phase = phase_at w.phases k in
      let who = writer w.shared o i l phase is in
      let T : Bool → Type 0 = λ b. IsSpot (cond b (read_by w.shared l phase ++ (written_by w.shared l phase ++ tested_by w.shared l phase)) []) o i in (
        who.0,
        (λ same. let here : is_of l phase q ≡ true = (let P : ℕ → Type 0 = λ x. is_of l phase x ≡ true in subst P same who.1) in absurd cc),
        subst T (sym who.1) (spot-right (read_by w.shared l phase) _ o i (spot-left (written_by w.shared l phase) (tested_by w.shared l phase) o i is)),
      )

  wrote-one : (w : World V) (p : Party) (l : Play) → IsSpot (wrote_at w q p l) o i → OtherAt w p l
  wrote-one w (party.Worker k) l is = inr (wrote-worker w k l (is_of l (phase_at w.phases k) q) refl is)
  wrote-one w party.Guest play.Guest is = inl is
  wrote-one w party.Guest l is = absurd is
  wrote-one w party.Control l is = absurd is

  wrote-touched : (turns : List ℕ) (plays : List Play) (w : World V) → IsSpot (others_bytes m q turns plays w) o i → Other turns plays w
  wrote-touched [] plays w is = absurd is
  wrote-touched (turn ∷ turns) [] w is = absurd is
  wrote-touched (turn ∷ turns) (l ∷ plays) w is =
      let p = party_of turn in
      let z = next m w p l in
      elim (spot-cases (wrote_at w q p l) (others_bytes m q turns plays z) o i is) [
        | inl here ↦ elim (wrote-one w p l here) [
          | inl guest ↦ inl (spot-left (guest_wrote w p l) (guest_bytes m turns plays z) o i guest)
          | inr x ↦ inr (x.0, x.1, spot-left (touched_at w x.0 p l) (touched m x.0 turns plays z) o i x.2)
        ]
        | inr more ↦ elim (wrote-touched turns plays z more) [
          | inl guest ↦ inl (spot-right (guest_wrote w p l) (guest_bytes m turns plays z) o i guest)
          | inr x ↦ inr (x.0, x.1, spot-right (touched_at w x.0 p l) (touched m x.0 turns plays z) o i x.2)
        ]
      ]

  read-worker : (w : World V) (k : ℕ) (l : Play) (b : Bool) → IsSpot (cond b (read_by w.shared l (phase_at w.phases k)) []) o i → IsSpot (cond b (read_by w.shared l (phase_at w.phases k) ++ (written_by w.shared l (phase_at w.phases k) ++ tested_by w.shared l (phase_at w.phases k))) []) o i
  read-worker w k l true is = spot-left (read_by w.shared l (phase_at w.phases k)) _ o i is
  read-worker w k l false is = absurd is

  read-one : (w : World V) (p : Party) (l : Play) → IsSpot (read_at w q p l) o i → IsSpot (touched_at w q p l) o i
  read-one w (party.Worker k) l is = read-worker w k l (is_of l (phase_at w.phases k) q) is
  read-one w party.Guest l is = absurd is
  read-one w party.Control l is = absurd is

  read-touched : (turns : List ℕ) (plays : List Play) (w : World V) → IsSpot (taken_bytes m q turns plays w) o i → IsSpot (touched m q turns plays w) o i
  read-touched [] plays w is = absurd is
  read-touched (turn ∷ turns) [] w is = absurd is
  read-touched (turn ∷ turns) (l ∷ plays) w is =
      let p = party_of turn in
      elim (spot-cases (read_at w q p l) (taken_bytes m q turns plays (next m w p l)) o i is) [
        | inl here ↦ spot-left (touched_at w q p l) (touched m q turns plays (next m w p l)) o i (read-one w p l here)
        | inr more ↦ spot-right (touched_at w q p l) (touched m q turns plays (next m w p l)) o i (read-touched turns plays (next m w p l) more)
      ]

pub apart-undisturbed : (V : Type 0) → ApartQueuesAreUndisturbed V
apart-undisturbed V m turns plays w q apart o i wrote read =
    let reads = read-touched m q o i turns plays w read in
    elim (wrote-touched m q o i turns plays w wrote) [
      | inl guest ↦ apart.guest q o i guest reads
      | inr x ↦ apart.queues x.0 q x.1 o i x.2 reads
    ]
