-- What holds of the world of a batch between two turns, and what each turn makes of the work that is left.
use Rattle.std.proofs.Common.{◌≡◌, ◌≢◌, ◌⊎◌, ℕ, ◌+◌, ◌-◌, ◌*◌, ◌^◌, ◌<◌, ◌≤◌, inl, inr, Bool, true, false, cond, Option, Some, is_some, unwrap_or, List, [], ◌∷◌, length, refl, sym, ap, ap₂, subst, ◌∙◌, arith}
use Rattle.std.specs.Int.{w16, to_le_bytes}
use Rattle.std.specs.Prelude.{sum_by}
use Rattle.std.specs.List.{range_with_len}
use Rattle.std.proofs.lemmas.Bool.{cases_eq}
use Rattle.std.proofs.lemmas.List.{get_or-set_same}
use Rattle.std.proofs.lemmas.List.Sums.{sum_by-cons}
use Rattle.vub_mem.specs.Memory as memory
use Rattle.vub_mem.specs.Place.{covers, number_at}
use Rattle.vub_queue.specs.EntryNumber.{minus}
use Rattle.vub_queue.specs.Layout.{avail_index_at as ring_index_at}
use Rattle.vub_queue.specs.declared.addresses.Addresses.{Addresses}
use Rattle.vub_driver.specs.Calls.{chain_bytes, index_of}
use Rattle.vub_driver.specs.Places.{descriptors_at, avail_index_at}
use Rattle.vub_driver.specs.declared.layout.Layout.{Layout}
use Rattle.vub_event.specs.HostTable.{members_at}
use Rattle.vub_model.specs.declared.cause.StopCause.TheVariants.{Exit}
use Rattle.vub_model.specs.declared.party.Party.TheVariants as party
use Rattle.vub_model.specs.declared.phase.Phase.{Phase}
use Rattle.vub_model.specs.declared.phase.Phase.TheVariants.{Stopped}
use Rattle.vub_model.specs.declared.play.Play.{Play}
use Rattle.vub_model.specs.declared.setup.Guest.{Guest}
use Rattle.vub_model.specs.declared.setup.Guest.TheVariants.{Store, Signal, Harvest}
use Rattle.vub_model.specs.RingRecord.{Vring, has_addresses}
use Rattle.vub_model.specs.Running.{index_word}
use Rattle.vub_model.specs.Service.{Meaning}
use Rattle.vub_model.specs.Shared.{Shared, ring_at, pending_at}
use Rattle.vub_model.specs.Wiring.{Wiring, opened_at, place_of}
use Rattle.vub_model.specs.Work.{MayWork, after_work}
use Rattle.vub_model.specs.World.{World, after, after_guest, phase_at, stored}
use Rattle.vub_model.proofs.Owners.{within-phases}
use Rattle.vub_laws.specs.Draining.{measure, work_left, events_left, all_entries_left, is_place_of, SameWords}
use Rattle.vub_laws.specs.EntriesLeft.{entries_left}
use Rattle.vub_laws.proofs.DrainRuns.{Goes}
use Rattle.vub_laws.proofs.Drains.{drains}
use Rattle.vub_laws.proofs.EventsLeft.{raised-events}
use Rattle.vub_laws.proofs.Sums.{sum-le, sum-raised}
use Rattle.vub_talk.specs.Ready.{InTable, InIndex, IsReady}
use Rattle.vub_talk.proofs.Guarding.{Sits}
use Rattle.vub_talk.proofs.Stored.{other-ready, index-ready, chain-ready}
use Rattle.vub_talk.proofs.Leaving.{RingsFit, Held, addresses_in, rings-work, held-work, ready-work, zero-queue}

-- The guest's actions that are left

-- a store of no guarded byte
pub record IsOther (l : Layout) (offset : ℕ) (bs : List ℕ) : Type 0 where
  pub at : ℕ
  pub is : offset ≡ at - 1048576
  pub low : 1048576 ≤ at
  pub off : (x : ℕ) → at ≤ x → x < at + length bs → (InTable l x ⊎ InIndex l x) → ⊥

-- a store of the two descriptors of a request
pub record IsChainStore (l : Layout) (offset : ℕ) (bs : List ℕ) : Type 0 where
  pub number : ℕ
  pub size : ℕ
  pub room : ℕ
  pub is : offset ≡ descriptors_at l number - 1048576
  pub bytes : bs ≡ chain_bytes l number size room
  pub short : room ≤ l.slot
  pub few : room < 2 ^ 32

-- the store of the index behind the n-th request
pub record IsIndexStore (l : Layout) (n offset : ℕ) (bs : List ℕ) : Type 0 where
  pub is : offset ≡ avail_index_at l - 1048576
  pub bytes : bs ≡ to_le_bytes w16 (index_of (n + 1))

-- The stores of requests from number n on, and signals: their own steps and what they give the worker to do are at most
-- the last number.
abbrev pub Acts : Layout → ℕ → List Guest → ℕ → Type 0
Acts l n [] k = Unit {0}
Acts l n (Store o offset bs ∷ rest) k =
    ((o ≡ 0) × (IsOther l offset bs ⊎ IsChainStore l offset bs) × (1 ≤ k) × Acts l n rest (k - 1))
    ⊎ ((o ≡ 0) × IsIndexStore l n offset bs × (10 ≤ k) × Acts l (n + 1) rest (k - 10))
Acts l n (Signal o ∷ rest) k = (7 ≤ k) × Acts l n rest (k - 7)
Acts l n (Harvest o word ∷ rest) k = ⊥

-- The world of a batch: one worker, memory ready for n requests, and this much left by the guest.
pub record Stands {V : Type 0} (l : Layout) (n k : ℕ) (w : World V) : Type 0 where
  pub one : length w.wiring.opened ≡ 1
  pub ready : IsReady l n w.shared.guest
  pub rings : RingsFit l w.shared
  pub held : Held l (phase_at w.phases 0)
  pub acts : Acts l n w.guest k
  pub idle : w.control.plan.steps ≡ []

-- less is left after a turn
pub record Falls {V : Type 0} (l : Layout) (total : ℕ) (z : World V) : Type 0 where
  pub n : ℕ
  pub k : ℕ
  pub stands : Stands l n k z
  pub less : measure z + k + 1 ≤ total

-- The measure of one worker

pub measure-one : {V : Type 0} (w : World V) → length w.wiring.opened ≡ 1 → measure w ≡ work_left w.wiring w.shared 0 (phase_at w.phases 0)
measure-one w one =
    let f : ℕ → ℕ = λ k. work_left w.wiring w.shared k (phase_at w.phases k) in
    ap (λ n. sum_by f (range_with_len 0 n)) one ∙ omega (arith, sum_by-cons f 0 [])

work-rises : {V : Type 0} (g : Wiring) (h z : Shared V) (a b : ℕ) → length g.opened ≡ 1 → ((p : Phase) → events_left g z 0 p ≤ events_left g h 0 p + a) → pending_at z 0 ≡ pending_at h 0 → all_entries_left g z 0 ≤ all_entries_left g h 0 + b → (phase : Phase) → work_left g z 0 phase ≤ work_left g h 0 phase + (6 * a + 9 * b)
work-rises g h z a b one events pending entries (Stopped cause) = omega arith
work-rises g h z a b one events pending entries phase =
    let new : (6 * length g.opened + 3) * all_entries_left g z 0 ≡ 9 * all_entries_left g z 0 = ap (λ x. (6 * x + 3) * all_entries_left g z 0) one in
    let old : (6 * length g.opened + 3) * all_entries_left g h 0 ≡ 9 * all_entries_left g h 0 = ap (λ x. (6 * x + 3) * all_entries_left g h 0) one in
    omega (arith, events phase, ap (λ (l : List ℕ). length l) pending, entries, new, old)

-- Entries left

-- by the index word
pub entries-word : (g : memory.Guest) (r : Vring) (a : Addresses) → r.queue.addresses ≡ Some a → entries_left g r ≡ cond (covers g.regions (a.avail + 2) 2) (minus (number_at w16 g (a.avail + 2)) r.queue.next_avail) 0
entries-word g r a is = ap (λ (x : Option Addresses). cond (is_some x) (cond (covers g.regions ((unwrap_or x (record { desc = 0; avail = 0; used = 0 })).avail + 2) 2) (minus (number_at w16 g ((unwrap_or x (record { desc = 0; avail = 0; used = 0 })).avail + 2)) r.queue.next_avail) 0) 0) is

pub entries-none : (g : memory.Guest) (r : Vring) → has_addresses r ≡ false → entries_left g r ≡ 0
entries-none g r none = rw none refl

one-more : (n x : ℕ) → minus (index_of (n + 1)) x ≤ minus (index_of n) x + 1
one-more n x = omega arith

cond-more : (b : Bool) (x y c : ℕ) → x ≤ y + c → cond b x 0 ≤ cond b y 0 + c
cond-more true x y c le = le
cond-more false x y c le = omega arith

module _ {V : Type 0} (l : Layout) (g : Wiring) (h z : Shared V) (same : (q : ℕ) → ring_at z q ≡ ring_at h q) (rings : RingsFit l h) (n m : ℕ) (old : IsReady l n h.guest) (new : IsReady l m z.guest) where
  entries-other : (q : ℕ) → q ≢ 0 → entries_left z.guest (ring_at z q) ≤ entries_left h.guest (ring_at h q)
  entries-other q other = omega (arith, entries-none z.guest (ring_at z q) (ap (λ (r : Vring). has_addresses r) (same q) ∙ rings.others q other))

  entries-zero : (c : ℕ) → ((x : ℕ) → minus (index_of m) x ≤ minus (index_of n) x + c) → entries_left z.guest (ring_at z 0) ≤ entries_left h.guest (ring_at h 0) + c
  entries-zero c rises =
      let next : ℕ = (ring_at h 0).queue.next_avail in
      let before : entries_left h.guest (ring_at h 0) ≡ cond (covers h.guest.regions (l.avail + 2) 2) (minus (index_of n) (ring_at h 0).queue.next_avail) 0 =
      entries-word h.guest (ring_at h 0) (addresses_in l) rings.addresses ∙ ap (λ x. cond (covers h.guest.regions (l.avail + 2) 2) (minus x (ring_at h 0).queue.next_avail) 0) old.index in
      let behind : entries_left z.guest (ring_at z 0) ≡ cond (covers h.guest.regions (l.avail + 2) 2) (minus (index_of m) (ring_at h 0).queue.next_avail) 0 =
      ap (λ (r : Vring). entries_left z.guest r) (same 0) ∙ entries-word z.guest (ring_at h 0) (addresses_in l) rings.addresses
      ∙ ap₂ (λ x rs. cond (covers rs (l.avail + 2) 2) (minus x (ring_at h 0).queue.next_avail) 0) new.index (new.one ∙ sym old.one) in
      omega (arith, before, behind, cond-more (covers h.guest.regions (l.avail + 2) 2) (minus (index_of m) next) (minus (index_of n) next) c (rises next))

  term : (q : ℕ) (c : ℕ) → entries_left z.guest (ring_at z q) ≤ entries_left h.guest (ring_at h q) + c → cond (is_place_of (place_of g q) 0) (entries_left z.guest (ring_at z q)) 0 ≤ cond (is_place_of (place_of g q) 0) (entries_left h.guest (ring_at h q)) 0 + c
  term q c le = cond-more (is_place_of (place_of g q) 0) (entries_left z.guest (ring_at z q)) (entries_left h.guest (ring_at h q)) c le

  term-other : (q : ℕ) → q ≢ 0 → cond (is_place_of (place_of g q) 0) (entries_left z.guest (ring_at z q)) 0 ≤ cond (is_place_of (place_of g q) 0) (entries_left h.guest (ring_at h q)) 0
  term-other q other = omega (arith, term q 0 (omega (arith, entries-other q other)))

  -- one entry more where the index is one more
  entries-raised : m ≡ n + 1 → all_entries_left g z 0 ≤ all_entries_left g h 0 + 1
  entries-raised next =
      sum-raised (λ q. cond (is_place_of (place_of g q) 0) (entries_left z.guest (ring_at z q)) 0) (λ q. cond (is_place_of (place_of g q) 0) (entries_left h.guest (ring_at h q)) 0) g.queues 0 0 term-other
      (term 0 1 (entries-zero 1 (λ x. omega (arith, one-more n x, ap (λ i. minus (index_of i) x) next))))

  -- and as many where it stays
  entries-kept : m ≡ n → all_entries_left g z 0 ≤ all_entries_left g h 0
  entries-kept stays =
      sum-le (λ q. cond (is_place_of (place_of g q) 0) (entries_left z.guest (ring_at z q)) 0) (λ q. cond (is_place_of (place_of g q) 0) (entries_left h.guest (ring_at h q)) 0) g.queues 0
      (λ q above. elim (cases_eq q 0) [
        | inl first ↦
            (let T : ℕ → Type 0 = λ x. cond (is_place_of (place_of g x) 0) (entries_left z.guest (ring_at z x)) 0 ≤ cond (is_place_of (place_of g x) 0) (entries_left h.guest (ring_at h x)) 0 in
            subst T (sym first) (omega (arith, term 0 0 (entries-zero 0 (λ x. omega (arith, ap (λ i. minus (index_of i) x) stays))))))
        | inr other ↦ term-other q other
      ])

-- A turn of the guest

module _ {V : Type 0} (l : Layout) (at : Sits l) (w : World V) (n k : ℕ) (stands : Stands l n k w) where
  stored-falls : (offset : ℕ) (bs : List ℕ) (rest : List Guest) (m j c : ℕ) → IsReady l m (stored w.shared.guest 0 offset bs) → Acts l m rest j → ((m ≡ n) × (c ≡ 0)) ⊎ ((m ≡ n + 1) × (c ≡ 1)) → j + (9 * c + 1) ≤ k → Falls l (measure w + k) (after_guest w (Store 0 offset bs ∷ rest))
  stored-falls offset bs rest m j c ready acts which enough =
      let z = after_guest w (Store 0 offset bs ∷ rest) in
      let rings : RingsFit l z.shared = record { addresses = stands.rings.addresses; size = stands.rings.size; others = stands.rings.others; plain = stands.rings.plain } in
      let entries : all_entries_left w.wiring z.shared 0 ≤ all_entries_left w.wiring w.shared 0 + c = elim which [
        | inl stays ↦ omega (arith, stays.1, entries-kept l w.wiring w.shared z.shared (λ q. refl) stands.rings n m stands.ready ready stays.0)
        | inr next ↦ omega (arith, next.1, entries-raised l w.wiring w.shared z.shared (λ q. refl) stands.rings n m stands.ready ready next.0)
      ] in
      let rises = work-rises w.wiring w.shared z.shared 0 c stands.one (λ p. omega arith) refl entries (phase_at w.phases 0) in
      record {
        n = m;
        k = j;
        stands = record { one = stands.one; ready = ready; rings = rings; held = stands.held; acts = acts; idle = stands.idle };
        less = omega (arith, rises, enough, measure-one z stands.one, measure-one w stands.one);
      }

  signal-falls : (o : ℕ) (rest : List Guest) → 7 ≤ k → Acts l n rest (k - 7) → Falls l (measure w + k) (after_guest w (Signal o ∷ rest))
  signal-falls o rest enough acts =
      let z = after_guest w (Signal o ∷ rest) in
      let ready : IsReady l n z.shared.guest = stands.ready in
      let rings : RingsFit l z.shared = record { addresses = stands.rings.addresses; size = stands.rings.size; others = stands.rings.others; plain = stands.rings.plain } in
      let rises = work-rises w.wiring w.shared z.shared 1 0 stands.one (λ p. raised-events w.wiring.queues (members_at w.shared.table (opened_at w.wiring 0).list) w.shared.table o p) refl (omega arith) (phase_at w.phases 0) in
      record {
        n = n;
        k = k - 7;
        stands = record { one = stands.one; ready = ready; rings = rings; held = stands.held; acts = acts; idle = stands.idle };
        less = omega (arith, rises, enough, measure-one z stands.one, measure-one w stands.one);
      }

  acts-fall : (actions : List Guest) → actions ≢ [] → Acts l n actions k → Falls l (measure w + k) (after_guest w actions)
  acts-fall [] some acts = absurd (some refl)
  acts-fall (Harvest o word ∷ rest) some acts = absurd acts
  acts-fall (Signal o ∷ rest) some acts = signal-falls o rest acts.0 acts.1
  acts-fall (Store o offset bs ∷ rest) some (inl quiet) =
      let F : ℕ → Type 0 = λ x. Falls l (measure w + k) (after_guest w (Store x offset bs ∷ rest)) in
      let R : ℕ → Type 0 = λ x. IsReady l n (stored w.shared.guest 0 x bs) in
      let ready : IsReady l n (stored w.shared.guest 0 offset bs) = elim quiet.1 [
        | inl other ↦ subst R (sym other.is) (other-ready w l at n stands.ready other.at bs other.low other.off)
        | inr chain ↦
            (let C : List ℕ → Type 0 = λ xs. IsReady l n (stored w.shared.guest 0 offset xs) in
            let D : ℕ → Type 0 = λ x. IsReady l n (stored w.shared.guest 0 x (chain_bytes l chain.number chain.size chain.room)) in
            subst C (sym chain.bytes) (subst D (sym chain.is) (chain-ready w l at n stands.ready chain.number chain.size chain.room chain.short chain.few)))
      ] in
      subst F (sym quiet.0) (stored-falls offset bs rest n (k - 1) 0 ready quiet.3 (inl (refl, refl)) (omega (arith, quiet.2)))
  acts-fall (Store o offset bs ∷ rest) some (inr index) =
      let F : ℕ → Type 0 = λ x. Falls l (measure w + k) (after_guest w (Store x offset bs ∷ rest)) in
      let C : List ℕ → Type 0 = λ xs. IsReady l (n + 1) (stored w.shared.guest 0 offset xs) in
      let D : ℕ → Type 0 = λ x. IsReady l (n + 1) (stored w.shared.guest 0 x (to_le_bytes w16 (index_of (n + 1)))) in
      let ready : IsReady l (n + 1) (stored w.shared.guest 0 offset bs) = subst C (sym index.1.bytes) (subst D (sym index.1.is) (index-ready w l at n stands.ready (n + 1))) in
      subst F (sym index.0) (stored-falls offset bs rest (n + 1) (k - 10) 1 ready index.3 (inr (refl, refl)) (omega (arith, index.2)))

  pub guest-falls : w.guest ≢ [] → Falls l (measure w + k) (after_guest w w.guest)
  guest-falls some = acts-fall w.guest some stands.acts

-- A turn of a worker

module _ {V : Type 0} (m : Meaning V) (l : Layout) (at : Sits l) (w : World V) (n k more : ℕ) (stands : Stands l n k w) (goes : Goes more w) where
  pub worker-falls : (j : ℕ) (p : Play) → MayWork w.wiring j w.shared (phase_at w.phases j) p → Falls l (measure w + k) (after m w (party.Worker j) p)
  worker-falls j p may =
      let i = goes.sound.invariant in
      let within = within-phases w.wiring w.shared w.phases j p may in
      let first : j ≡ 0 = (let sized = i.phases_size in let single = stands.one in omega (arith, within, sized, single)) in
      let M : ℕ → Type 0 = λ x. MayWork w.wiring x w.shared (phase_at w.phases x) p in
      let F : ℕ → Type 0 = λ x. Falls l (measure w + k) (after m w (party.Worker x) p) in
      subst F (sym first) (by (subst M first may)) where
        by : MayWork w.wiring 0 w.shared (phase_at w.phases 0) p → Falls l (measure w + k) (after m w (party.Worker 0) p)
        by may =
            let i = goes.sound.invariant in
            let within = within-phases w.wiring w.shared w.phases 0 p may in
            let z = after m w (party.Worker 0) p in
            let ready = ready-work m w.wiring 0 w.shared l at stands.rings n stands.ready (phase_at w.phases 0) p may stands.held in
            let rings = rings-work m w.wiring 0 w.shared l at stands.rings (phase_at w.phases 0) p may in
            let held = held-work m w.wiring 0 w.shared l at stands.rings n stands.ready (phase_at w.phases 0) p may stands.held in
            let H : Phase → Type 0 = λ x. Held l x in
            let local = after_work m w.wiring 0 w.shared (phase_at w.phases 0) p in
            let index : (h : Shared V) → RingsFit l h → ring_index_at (ring_at h 0).queue ≡ avail_index_at l = λ h fit. ap (λ (x : Option Addresses). (unwrap_or x (record { desc = 0; avail = 0; used = 0 })).avail + 2) fit.addresses in
            let word : (h : Shared V) → RingsFit l h → IsReady l n h.guest → index_word h 0 ≡ index_of n = λ h fit is. ap (number_at w16 h.guest) (index h fit) ∙ is.index in
            let words : SameWords w z = λ q has.
            let same : q ≡ 0 = zero-queue m w.wiring 0 w.shared l at stands.rings q has in
            let W : ℕ → Type 0 = λ x. index_word z.shared x ≡ index_word w.shared x in
            subst W (sym same) (word z.shared rings ready ∙ sym (word w.shared stands.rings stands.ready)) in
            let less = drains m w goes.sound.calm i goes.plain 0 (let single = stands.one in omega (arith, single)) p may words in
            record {
              n = n;
              k = k;
              stands = record {
                one = stands.one;
                ready = ready;
                rings = rings;
                held = subst H (sym (get_or-set_same w.phases 0 local.phase (Stopped Exit) within)) held;
                acts = stands.acts;
                idle = stands.idle;
              };
              less = omega (arith, less);
            }
