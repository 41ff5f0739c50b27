-- In a run of a batch, of however many workers, memory stays ready, and no guarded byte is written by the device.
use Rattle.std.proofs.Common.{◌≡◌, ◌≢◌, ◌⊎◌, ℕ, ◌+◌, ◌-◌, inl, inr, Bool, true, false, List, [], ◌∷◌, length, get_or, set, cond, refl, sym, ap, subst, ◌∙◌, arith, eqb}
use Rattle.std.specs.Int.{w16, to_le_bytes}
use Rattle.std.proofs.lemmas.Bool.{cases_eq, cases_lt, eqb-true}
use Rattle.std.proofs.lemmas.List.{get_or-set_same, get_or-set_other, set_past}
use Rattle.vub_driver.specs.Calls.{chain_bytes, index_of}
use Rattle.vub_driver.specs.declared.layout.Layout.{Layout}
use Rattle.vub_proto.specs.declared.device_said.DeviceSaid.{DeviceSaid}
use Rattle.vub_model.specs.declared.cause.StopCause.TheVariants.{Exit}
use Rattle.vub_model.specs.declared.party.Party.{Party}
use Rattle.vub_model.specs.declared.party.Party.TheVariants as party
use Rattle.vub_model.specs.declared.phase.Phase.{Phase}
use Rattle.vub_model.specs.declared.phase.Phase.TheVariants.{Stopped}
use Rattle.vub_model.specs.declared.play.Play.{Play}
use Rattle.vub_model.specs.declared.play.Play.TheVariants as play
use Rattle.vub_model.specs.declared.records.Span.{Span}
use Rattle.vub_model.specs.declared.setup.Guest.{Guest}
use Rattle.vub_model.specs.declared.setup.Guest.TheVariants.{Store, Signal, Harvest}
use Rattle.vub_model.specs.declared.small.Small.{Small}
use Rattle.vub_model.specs.Control.{MayControl}
use Rattle.vub_model.specs.Headline.{IsSpot}
use Rattle.vub_model.specs.RunOf.{IsRun, Turn, party_of}
use Rattle.vub_model.specs.RunRecords.{spans_in, with_byte}
use Rattle.vub_model.specs.Service.{Meaning}
use Rattle.vub_model.specs.Work.{MayWork, after_work}
use Rattle.vub_model.specs.World.{World, May, after, after_guest, phase_at, stored, written_by}
use Rattle.vub_model.specs.Written.{Spot, flagged, is_written, with_spots}
use Rattle.vub_model.proofs.Owners.{within-phases}
use Rattle.vub_talk.specs.Ready.{IsGuarded, IsOff, AreOff, IsReady}
use Rattle.vub_talk.proofs.Guarding.{Sits}
use Rattle.vub_talk.proofs.Standing.{Acts}
use Rattle.vub_talk.proofs.Stored.{other-ready, index-ready, chain-ready}
use Rattle.vub_talk.proofs.Leaving.{RingsFit, Held, rings-work, held-work, ready-work, written-off}

-- Flags

one-flag : (flags : List (List Bool)) (s : Spot) (o i : ℕ) → is_written (flagged flags s) o i ≡ true → (is_written flags o i ≡ true) ⊎ ((s.object ≡ o) × (s.offset ≡ i))
one-flag flags s o i is =
    elim (cases_eq o s.object) [
      | inr other ↦ inl (sym (ap (λ row. get_or row i false) (get_or-set_other flags s.object o (set (get_or flags s.object []) s.offset true) [] other)) ∙ is)
      | inl same ↦ elim (cases_lt s.object (length flags)) [
        | inr past ↦ inl (sym (ap (λ fs. get_or (get_or fs o []) i false) (set_past flags s.object (set (get_or flags s.object []) s.offset true) past)) ∙ is)
        | inl within ↦ elim (cases_eq i s.offset) [
          | inl here ↦ inr (sym same, sym here)
          | inr beside ↦
              (let row : get_or (set flags s.object (set (get_or flags s.object []) s.offset true)) o [] ≡ set (get_or flags s.object []) s.offset true =
              ap (λ x. get_or (set flags s.object (set (get_or flags s.object []) s.offset true)) x []) same ∙ get_or-set_same flags s.object (set (get_or flags s.object []) s.offset true) [] within in
              let old : get_or (get_or flags s.object []) i false ≡ is_written flags o i = ap (λ x. get_or (get_or flags x []) i false) (sym same) in
              inl (sym old ∙ sym (get_or-set_other (get_or flags s.object []) s.offset i true false beside) ∙ sym (ap (λ r. get_or r i false) row) ∙ is))
        ]
      ]
    ]

flags-spots : (spots : List Spot) (flags : List (List Bool)) (o i : ℕ) → is_written (with_spots flags spots) o i ≡ true → (is_written flags o i ≡ true) ⊎ IsSpot spots o i
flags-spots [] flags o i is = inl is
flags-spots (s ∷ spots) flags o i is =
    elim (flags-spots spots (flagged flags s) o i is) [
      | inr more ↦ inr (inr more)
      | inl first ↦ elim (one-flag flags s o i first) [ inl old ↦ inl old | inr at ↦ inr (inl (at.0, at.1)) ]
    ]

-- Spans

with-byte-off : (l : Layout) (number offset byte : ℕ) (ss : List Span) → (IsGuarded l (offset + 1048576) → ⊥) → AreOff l ss → AreOff l (with_byte number offset byte ss)
with-byte-off l number offset byte [] own all =
    ((λ x low high guarded. let here : x ≡ offset = omega (arith, low, high) in let G : ℕ → Type 0 = λ y. IsGuarded l (y + 1048576) in own (subst G here guarded)), tt)
with-byte-off l number offset byte (s ∷ ss) own all = by (eqb s.offset (offset + 1)) refl where
  single : IsOff l (record { object = number; offset = offset; bytes = byte ∷ [] })
  single x low high guarded = (let here : x ≡ offset = omega (arith, low, high) in let G : ℕ → Type 0 = λ y. IsGuarded l (y + 1048576) in own (subst G here guarded))

  joined : s.offset ≡ offset + 1 → IsOff l (record { object = number; offset = offset; bytes = byte ∷ s.bytes })
  joined next x low high guarded =
      elim (cases_eq x offset) [
        | inl here ↦ (let G : ℕ → Type 0 = λ y. IsGuarded l (y + 1048576) in own (subst G here guarded))
        | inr other ↦ all.0 x (omega (arith, low, other, next)) (omega (arith, high, next)) guarded
      ]

  by : (b : Bool) → eqb s.offset (offset + 1) ≡ b → AreOff l (cond b (record { object = number; offset = offset; bytes = byte ∷ s.bytes } ∷ ss) (record { object = number; offset = offset; bytes = byte ∷ [] } ∷ s ∷ ss))
  by true is = (joined (eqb-true s.offset (offset + 1) is), all.1)
  by false is = (single, all)

-- the spans of what was written off the guarded bytes
pub spans-off : (l : Layout) (flags : List (List Bool)) (number : ℕ) → ((o i : ℕ) → is_written flags o i ≡ true → IsGuarded l (i + 1048576) → ⊥) → (offset : ℕ) (bytes : List ℕ) → AreOff l (spans_in flags number offset bytes)
spans-off l flags number off offset [] = tt
spans-off l flags number off offset (byte ∷ bytes) = by (is_written flags number offset) refl (spans-off l flags number off (offset + 1) bytes) where
  by : (b : Bool) → is_written flags number offset ≡ b → AreOff l (spans_in flags number (offset + 1) bytes) → AreOff l (cond b (with_byte number offset byte (spans_in flags number (offset + 1) bytes)) (spans_in flags number (offset + 1) bytes))
  by true is rest = with-byte-off l number offset byte (spans_in flags number (offset + 1) bytes) (off number offset is) rest
  by false is rest = rest

-- The run

pub record Safe {V : Type 0} (l : Layout) (n k : ℕ) (w : World V) : Type 0 where
  pub ready : IsReady l n w.shared.guest
  pub rings : RingsFit l w.shared
  pub held : (j : ℕ) → Held l (phase_at w.phases j)
  pub acts : Acts l n w.guest k
  pub idle : w.control.plan.steps ≡ []
  pub off : (o i : ℕ) → is_written w.written o i ≡ true → IsGuarded l (i + 1048576) → ⊥

pub record IsSafe {V : Type 0} (l : Layout) (w : World V) : Type 0 where
  pub n : ℕ
  pub k : ℕ
  pub safe : Safe l n k w

module _ {V : Type 0} (l : Layout) (at : Sits l) (w : World V) (n k : ℕ) (s : Safe l n k w) where
  stored-safe : (offset : ℕ) (bs : List ℕ) (rest : List Guest) (m j : ℕ) → IsReady l m (stored w.shared.guest 0 offset bs) → Acts l m rest j → IsSafe l (after_guest w (Store 0 offset bs ∷ rest))
  stored-safe offset bs rest m j ready acts = record {
    n = m;
    k = j;
    safe = record {
      ready = ready;
      rings = record { addresses = s.rings.addresses; size = s.rings.size; others = s.rings.others; plain = s.rings.plain };
      held = s.held;
      acts = acts;
      idle = s.idle;
      off = s.off;
    };
  }

  acts-safe : (actions : List Guest) → actions ≢ [] → Acts l n actions k → IsSafe l (after_guest w actions)
  acts-safe [] some acts = absurd (some refl)
  acts-safe (Harvest o word ∷ rest) some acts = absurd acts
  acts-safe (Signal o ∷ rest) some acts = record {
    n = n;
    k = k - 7;
    safe = record {
      ready = s.ready;
      rings = record { addresses = s.rings.addresses; size = s.rings.size; others = s.rings.others; plain = s.rings.plain };
      held = s.held;
      acts = acts.1;
      idle = s.idle;
      off = s.off;
    };
  }
  acts-safe (Store o offset bs ∷ rest) some (inl quiet) =
      let F : ℕ → Type 0 = λ x. IsSafe l (after_guest w (Store x offset bs ∷ rest)) in
      let R : ℕ → Type 0 = λ x. IsReady l n (stored w.shared.guest 0 x bs) in
      let ready : IsReady l n (stored w.shared.guest 0 offset bs) = elim quiet.1 [
        | inl other ↦ subst R (sym other.is) (other-ready w l at n s.ready other.at bs other.low other.off)
        | inr chain ↦
            (let C : List ℕ → Type 0 = λ xs. IsReady l n (stored w.shared.guest 0 offset xs) in
            let D : ℕ → Type 0 = λ x. IsReady l n (stored w.shared.guest 0 x (chain_bytes l chain.number chain.size chain.room)) in
            subst C (sym chain.bytes) (subst D (sym chain.is) (chain-ready w l at n s.ready chain.number chain.size chain.room chain.short chain.few)))
      ] in
      subst F (sym quiet.0) (stored-safe offset bs rest n (k - 1) ready quiet.3)
  acts-safe (Store o offset bs ∷ rest) some (inr index) =
      let F : ℕ → Type 0 = λ x. IsSafe l (after_guest w (Store x offset bs ∷ rest)) in
      let C : List ℕ → Type 0 = λ xs. IsReady l (n + 1) (stored w.shared.guest 0 offset xs) in
      let D : ℕ → Type 0 = λ x. IsReady l (n + 1) (stored w.shared.guest 0 x (to_le_bytes w16 (index_of (n + 1)))) in
      let ready : IsReady l (n + 1) (stored w.shared.guest 0 offset bs) = subst C (sym index.1.bytes) (subst D (sym index.1.is) (index-ready w l at n s.ready (n + 1))) in
      subst F (sym index.0) (stored-safe offset bs rest (n + 1) (k - 10) ready index.3)

  worker-safe : (m : Meaning V) (j : ℕ) (p : Play) → MayWork w.wiring j w.shared (phase_at w.phases j) p → IsSafe l (after m w (party.Worker j) p)
  worker-safe m j p may =
      let within = within-phases w.wiring w.shared w.phases j p may in
      let held = s.held j in
      let z = after m w (party.Worker j) p in
      let local = after_work m w.wiring j w.shared (phase_at w.phases j) p in
      let H : Phase → Type 0 = λ x. Held l x in
      record {
        n = n;
        k = k;
        safe = record {
          ready = ready-work m w.wiring j w.shared l at s.rings n s.ready (phase_at w.phases j) p may held;
          rings = rings-work m w.wiring j w.shared l at s.rings (phase_at w.phases j) p may;
          held = λ i. elim (cases_eq i j) [
            | inl same ↦
                (let I : ℕ → Type 0 = λ x. Held l (phase_at z.phases x) in
                subst I (sym same) (subst H (sym (get_or-set_same w.phases j local.phase (Stopped Exit) within)) (held-work m w.wiring j w.shared l at s.rings n s.ready (phase_at w.phases j) p may held)))
            | inr other ↦ subst H (sym (get_or-set_other w.phases j i local.phase (Stopped Exit) other)) (s.held i)
          ];
          acts = s.acts;
          idle = s.idle;
          off = λ o i is guarded. elim (flags-spots (written_by w.shared p (phase_at w.phases j)) w.written o i is) [
            | inl old ↦ s.off o i old guarded
            | inr new ↦ written-off m w.wiring j w.shared l at s.rings n s.ready (phase_at w.phases j) p may held o i new guarded
          ];
        };
      }

  control-never : (t : Small) (said : DeviceSaid) → MayControl w.shared w.control.plan.steps t said → ⊥
  control-never t said may = let M : List Small → Type 0 = λ steps. MayControl w.shared steps t said in subst M s.idle may

  step-safe : (m : Meaning V) (p : Party) (a : Play) → May w p a → IsSafe l (after m w p a)
  step-safe m party.Guest play.Guest may = acts-safe w.guest may s.acts
  step-safe m party.Guest a may = absurd may
  step-safe m party.Control (play.Control t said) may = absurd (control-never t said may)
  step-safe m party.Control a may = absurd may
  step-safe m (party.Worker j) a may = worker-safe m j a may

module _ {V : Type 0} (m : Meaning V) (l : Layout) (at : Sits l) where
  turn-safe : (w : World V) (p : Party) (a : Play) (z : World V) → IsSafe l w → Turn m w p a z → IsSafe l z
  turn-safe w p play.Pass z s turn = let S : World V → Type 0 = λ x. IsSafe l x in subst S (sym turn.1) s
  turn-safe w p a z s turn = let S : World V → Type 0 = λ x. IsSafe l x in subst S (sym turn.1) (step-safe l at w s.n s.k s.safe m p a turn.0)

  pub run-safe : (turns : List ℕ) (plays : List Play) (w z : World V) → IsSafe l w → IsRun m turns plays w z → IsSafe l z
  run-safe [] [] w z s run = let S : World V → Type 0 = λ x. IsSafe l x in subst S (sym run) s
  run-safe [] (a ∷ plays) w z s run = absurd run
  run-safe (turn ∷ turns) [] w z s run = absurd run
  run-safe (turn ∷ turns) (a ∷ plays) w z s run = run-safe turns plays run.0 z (turn-safe w (party_of turn) a run.0 s run.1) run.2
