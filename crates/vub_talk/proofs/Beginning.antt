-- Where the set-up of a batch is opened, the machine is at the dialog of the batches before.
use Rattle.std.proofs.Common.{◌≡◌, ◌≢◌, ℕ, zero, suc, ◌+◌, ◌%◌, ◌^◌, ◌<◌, ◌≤◌, true, false, cond, List, [], ◌∷◌, ◌++◌, length, map, get_or, Option, Some, None, refl, sym, ap, subst, ◌∙◌, arith, slice_index_or, replicate, ◌==◌}
use Rattle.std.specs.List.{range_with_len, find}
use Rattle.std.proofs.lemmas.Bool.{ne_eqb}
use Rattle.std.proofs.lemmas.List.{length-replicate}
use Rattle.vub_mem.specs.Memory.{Guest}
use Rattle.vub_mem.specs.Place.{content_of}
use Rattle.vub_model.specs.declared.constants.Constants.{Constants}
use Rattle.vub_model.specs.declared.phase.Phase.TheVariants.{Idle}
use Rattle.vub_model.specs.declared.setup.GivenRing.{GivenRing}
use Rattle.vub_model.specs.declared.setup.Guest.{Guest as Action}
use Rattle.vub_model.specs.declared.setup.Guest.TheVariants.{Signal}
use Rattle.vub_model.specs.declared.wiring.Place.{Place}
use Rattle.vub_model.specs.Opening.{before_rings, claimed, claimed_event, exit_member, given_queue, given_vring, joined, listed, opened_worker, opening, opening_members, placed, ring_from, wiring_of}
use Rattle.vub_model.specs.RingRecord.{Vring, closed_ring, is_on}
use Rattle.vub_model.specs.Service.{Meaning}
use Rattle.vub_model.specs.Shared.{Shared, ring_at, inserted, raised_option}
use Rattle.vub_model.specs.Wiring.{Wiring, no_worker, opened_at, place_of}
use Rattle.vub_model.specs.World.{World, phase_at}
use Rattle.vub_driver.specs.Calls.{index_of}
use Rattle.vub_driver.specs.Machine.{Asked, World as Dialog}
use Rattle.vub_driver.specs.Places.{half_of}
use Rattle.vub_driver.specs.declared.layout.Layout.{Layout}
use Rattle.vub_driver.proofs.Kept.{Keeps}
use Rattle.vub_talk.specs.declared.ask.Ask.{Ask}
use Rattle.vub_talk.specs.Asking.{AreSmall, region}
use Rattle.vub_talk.specs.Batches.{asks_stored, batch_setup}
use Rattle.vub_talk.specs.Machine.{setup_for}
use Rattle.vub_talk.specs.Replies.{asked_by, replies_to, value_after}
use Rattle.vub_talk.specs.Talking.{state_asked}
use Rattle.vub_talk.proofs.Ahead.{keeps_ring}
use Rattle.vub_talk.proofs.Gathering.{Gathers, Goal, Hand}
use Rattle.vub_talk.proofs.Gathering.Stage.{between}
use Rattle.vub_talk.proofs.Opened.{IsSame, keeps_same}
use Rattle.vub_talk.proofs.Playing.{GathersIn}
use Rattle.vub_event.specs.declared.member.Member.{Member}
use Rattle.vub_event.specs.HostTable.{event_at, members_at}
use Rattle.vub_event.specs.InterestList.{with_member}
use Rattle.vub_model.specs.Frame.{is_member}
use Rattle.vub_model.specs.Work.{is_object}
use Rattle.vub_model.proofs.Members.{with-other}
use Rattle.vub_talk.proofs.Telling.{Tells, tells_joined, tells_same, tells_other, same_rings}
use Rattle.vub_talk.proofs.Untouched.{acts_on, Untouched}

-- Nothing is outstanding: all that was asked was taken and put, by a service that began with v and has this value now.
pub record IsBetween {V : Type 0} (m : Meaning V) (v : V) (d : Dialog) (service : V) : Type 0 where
  pub off : d.ring.event_idx ≡ false
  pub held : d.held ≡ None
  pub taken : length d.taken ≡ d.driver.submitted
  pub put : length d.replies ≡ d.driver.submitted
  pub value : service ≡ value_after m v d.taken
  pub replies : d.replies ≡ replies_to m v d.taken
  pub long : length (content_of d.guest.contents 0) ≡ 1048576

module _ {V : Type 0} (m : Meaning V) (v : V) (d : Dialog) (k : Keeps region d) (service : V) (b : IsBetween m v d service) (c : Constants) (some : 0 < c.queues) (exits : (w : ℕ) → slice_index_or c.exits w None ≡ None) (asks : List Ask)
    (room : d.driver.submitted + length asks ≤ d.driver.collected + half_of d.driver.layout) (counted : d.driver.submitted + length asks < 2 ^ 64) (small : AreSmall d.driver.layout asks) where
  abbrev l : Layout
  l = d.driver.layout

  abbrev n : ℕ
  n = d.driver.submitted

  abbrev content : List ℕ
  content = content_of d.guest.contents 0

  abbrev actions : List Action
  actions = asks_stored d.driver.layout d.driver.submitted asks ++ Signal 1 ∷ []

  abbrev guest : Guest
  guest = record { regions = region ∷ []; contents = record { object = 0; bytes = content } ∷ [] }

  abbrev ring : GivenRing
  ring = record {
    queue = 0;
    size = l.size;
    info = Some (record { desc = l.desc; avail = l.avail; used = l.used });
    base = index_of n;
    next_used = index_of n;
    kick = Some 1;
    call = Some 2;
    ready = true;
    enabled = true;
  }

  abbrev ring_of : ℕ → Vring
  ring_of q = ring_from c.max (find (λ (r : GivenRing). r.queue == q) (ring ∷ []))

  first_ring : (count : ℕ) → 0 < count → slice_index_or (map ring_of (range_with_len 0 count)) 0 closed_ring ≡ given_vring c.max ring
  first_ring zero above = absurd (omega arith)
  first_ring (suc count) above = refl

  some_rings : (count : ℕ) → 0 < count → 0 < length (map ring_of (range_with_len 0 count))
  some_rings zero above = absurd (omega arith)
  some_rings (suc count) above = omega arith

  ring_off : (q : ℕ) → q ≢ 0 → is_on (ring_of q) ≡ false
  ring_off q other = rw (ne_eqb 0 q (λ same. other (sym same))) refl

  rings_off : (a count q : ℕ) → a + q ≢ 0 → is_on (slice_index_or (map ring_of (range_with_len a count)) q closed_ring) ≡ false
  rings_off a zero q other = refl
  rings_off a (suc count) zero other = ring_off a (λ same. other (omega arith))
  rings_off a (suc count) (suc q) other = rings_off (a + 1) count q (λ same. absurd (omega arith))

  no_hands : (e : Dialog) (holder : ℕ) (masks : List ℕ) (w : ℕ) → Hand m v e holder service w (phase_at (map (λ (mask : ℕ). Idle) masks) w)
  no_hands e holder [] w = tt
  no_hands e holder (mask ∷ masks) zero = tt
  no_hands e holder (mask ∷ masks) (suc w) = idle_hand masks w where
    idle_hand : (masks : List ℕ) (x : ℕ) → Hand m v e holder service (suc w) (phase_at (map (λ (mask : ℕ). Idle) masks) x)
    idle_hand [] x = tt
    idle_hand (mask ∷ masks) zero = tt
    idle_hand (mask ∷ masks) (suc x) = idle_hand masks x

  abbrev all : List Asked
  all = d.asked ++ map (λ a. asked_by a) asks

  abbrev pub goal : Goal
  goal = record { state = state_asked d.driver asks; answers = d.answers; before = d.driver.submitted }

  same_content : IsSame d.guest guest
  same_content = record { one = k.reads.flat.one; other = refl; content = refl }

  abbrev dialog : Dialog
  dialog = record d { guest = guest; ring = given_queue c.max ring }

  keeps : Keeps region dialog
  keeps =
      keeps_ring (record d { guest = guest }) (given_queue c.max ring) (keeps_same d guest k b.off same_content) b.off (sym k.size) (sym k.addresses)
      (let same : index_of n % 2 ^ 16 ≡ index_of n = omega arith in same ∙ ap index_of (sym b.taken) ∙ sym k.next_avail)
      (ap index_of (sym b.put) ∙ sym k.next_used) refl

  abbrev held : Shared V
  held = before_rings c (batch_setup l n content actions) service

  -- what the call tells

  bell_at : (a count i : ℕ) → (slice_index_or (map (λ w. opened_worker 3 c.exits w) (range_with_len a count)) i no_worker).bell ≢ 2
  bell_at a zero i = λ is. absurd (omega (arith, is))
  bell_at a (suc count) zero = λ is. absurd (omega (arith, is))
  bell_at a (suc count) (suc i) = bell_at (a + 1) count i

  bells : (w : ℕ) → (opened_at (wiring_of c 3) w).bell ≢ 2
  bells w = bell_at 0 (length c.masks) w

  members_off : (x : Option ℕ) (bell : ℕ) → x ≡ None → bell ≢ 2 → is_member (with_member (exit_member x c.queues) (listed bell c.queues)) 2 ≡ false
  members_off x bell none other = ap (λ e. is_member (with_member (exit_member e c.queues) (listed bell c.queues)) 2) none ∙ with-other [] (listed bell c.queues) 2 other

  lists_off : (a count i : ℕ) → is_member (slice_index_or (map (λ w. opening_members c.queues w) (map (λ w. opened_worker 3 c.exits w) (range_with_len a count))) i []) 2 ≡ false
  lists_off a zero i = refl
  lists_off a (suc count) zero = members_off (slice_index_or c.exits a None) (3 + a) (exits a) (λ is. absurd (omega (arith, is)))
  lists_off a (suc count) (suc i) = lists_off (a + 1) count i

  kick_off : (q : ℕ) → is_object (ring_of q).kick 2 ≡ false
  kick_off q = elim (0 == q) as (λ t. is_object (ring_from c.max (cond {A = Option GivenRing} t (Some ring) None)).kick 2 ≡ false) [ true ↦ refl | false ↦ refl ]

  kicks_off : (a count q : ℕ) → is_object (slice_index_or (map ring_of (range_with_len a count)) q closed_ring).kick 2 ≡ false
  kicks_off a zero q = refl
  kicks_off a (suc count) zero = kick_off a
  kicks_off a (suc count) (suc q) = kicks_off (a + 1) count q

  tells_held : Tells n (length d.replies) held
  unfolding batch_setup
  tells_held = record {
    there = omega arith;
    event = refl;
    count = b.put ∙ omega arith;
    unlisted = λ list. lists_off 0 (length c.masks) list;
    call = ap (λ (r : Vring). r.call) (first_ring c.queues some);
    kicks = λ q. kicks_off 0 c.queues q;
  }

  tells_claimed : Tells n (length d.replies) (claimed held 1 0)
  tells_claimed = tells_other n (length d.replies) held (claimed held 1 0) (same_rings held (claimed held 1 0) refl) tells_held 1 (claimed_event 0 (event_at held.table 1)) (λ is. absurd (omega (arith, is))) refl

  begins_same : (z : Shared V) → z.guest ≡ guest → z.rings ≡ map ring_of (range_with_len 0 c.queues) → z.service ≡ service → Tells n (length d.replies) z →
      Gathers m v all goal z (map (λ (mask : ℕ). Idle) c.masks) actions []
  begins_same z memory rings value told =
      let own : ring_at z 0 ≡ given_vring c.max ring = ap (λ rs. slice_index_or rs 0 closed_ring) rings ∙ first_ring c.queues some in
      record {
        dialog = dialog;
        rest = asks;
        holder = 0;
        keeps = keeps;
        guest = memory;
        ring = ap (λ (r : Vring). r.queue) own;
        off = refl;
        there = subst (λ rs. 0 < length rs) (sym rings) (some_rings c.queues some);
        others = λ q other. ap (λ rs. is_on (slice_index_or rs q closed_ring)) rings ∙ rings_off 0 c.queues q (λ same. other (omega arith));
        quiet = refl;
        free = λ is. b.held;
        hands = λ w. subst (λ s. Hand m v dialog 0 s w (phase_at (map (λ (mask : ℕ). Idle) c.masks) w)) (sym value) (no_hands dialog 0 c.masks w);
        served = λ none. (value ∙ b.value, b.replies);
        asked = refl;
        room = room;
        counted = counted;
        small = small;
        state = refl;
        answered = refl;
        low = omega (arith, k.put, b.put);
        tells = told;
        stage = between refl;
      }

  abbrev placed_at : Option Place → Shared V
  placed_at o = placed (wiring_of c 3) (claimed held 1 0) 1 o

  tells_placed : (p : Place) → Tells n (length d.replies) (placed_at (Some p))
  tells_placed p =
      let h : Shared V = claimed held 1 0 in
      let w : Wiring = wiring_of c 3 in
      let list : ℕ = (opened_at (wiring_of c 3) p.worker).list in
      let members : List Member = with_member (members_at (claimed held 1 0).table list) (listed 1 p.number) in
      let z : Shared V = joined (claimed held 1 0) list 1 p.number in
      let off : is_member members 2 ≡ false = with-other (members_at (claimed held 1 0).table list) (listed 1 p.number) 2 (λ is. absurd (omega (arith, is))) ∙ tells_claimed.unlisted list in
      let told : Tells n (length d.replies) z = tells_joined n (length d.replies) h z (same_rings h z refl) tells_claimed list members off refl in
      let y : Shared V = inserted z p.worker p.number in
      let still : Tells n (length d.replies) y = tells_same n (length d.replies) z y (same_rings z y refl) told refl in
      tells_other n (length d.replies) y (placed_at (Some p)) (same_rings y (placed_at (Some p)) refl) still (opened_at w p.worker).bell (raised_option (event_at y.table (opened_at w p.worker).bell)) (bells p.worker) refl

  begins_at : (o : Option Place) → Gathers m v all goal (placed_at o) (map (λ (mask : ℕ). Idle) c.masks) actions []
  unfolding batch_setup
  begins_at None = begins_same (placed_at None) refl refl refl tells_claimed
  begins_at (Some p) = begins_same (placed_at (Some p)) refl refl refl (tells_placed p)

  pub begins : GathersIn m v all goal (opening c (setup_for d.driver d.guest asks) service)
  unfolding opening batch_setup
  begins = (begins_at (place_of (wiring_of c 3) 0), bells)

  untouched_same : (w : World V) → w.control.plan.steps ≡ [] → w.shared.guest ≡ guest → w.guest ≡ actions → get_or w.written 0 [] ≡ replicate (length content) false → Untouched (acts_on content actions) w
  untouched_same w quiet memory left flags = record {
    quiet = quiet;
    flags = ap length flags ∙ length-replicate (length content) false ∙ b.long;
    long = ap (λ (g : Guest). length (content_of g.contents 0)) memory ∙ b.long;
    none = λ o other. ap (λ (g : Guest). length (content_of g.contents o)) memory ∙ rw (ne_eqb 0 o (λ same. other (sym same))) refl;
    same = λ i below none. ap (λ (g : Guest). get_or (acts_on (content_of g.contents 0) w.guest) i 0) memory ∙ ap (λ list. get_or (acts_on content list) i 0) left;
  }

  opened_guest : (o : Option Place) → (placed_at o).guest ≡ guest
  unfolding batch_setup
  opened_guest None = refl
  opened_guest (Some p) = refl

  pub untouched : Untouched (acts_on content actions) (opening c (setup_for d.driver d.guest asks) service)
  unfolding opening batch_setup
  untouched = untouched_same (opening c (setup_for d.driver d.guest asks) service) refl (opened_guest (place_of (wiring_of c 3) 0)) refl refl
