-- Control steps that leave rings, memory and pending sets keep the schedule invariant; and what is asked of any other.
use Rattle.std.proofs.Common.{◌≡◌, ◌≢◌, ℕ, ◌<◌, Bool, true, false, cond, not, ◌&&◌, ◌||◌, ◌⊎◌, inl, inr, List, [], ◌∷◌, length, Option, Some, None, is_some, refl, sym, ap, ◌∙◌, subst, eqb, slice_index_or}
use Rattle.std.specs.List.{AllByRecursion}
use Rattle.std.proofs.Math.ListN.{get_or-map}
use Rattle.std.proofs.lemmas.Bool.{cases_eq, eq-eqb}
use Rattle.vub_event.specs.declared.member.Member.{Member}
use Rattle.vub_event.specs.InterestList.{member_of, with_member, without_member}
use Rattle.vub_model.specs.Work.{is_object}
use Rattle.vub_event.specs.HostTable.{event_at}
use Rattle.vub_event.specs.HostCalls.{has_token_above, listener}
use Rattle.vub_proto.specs.declared.device_said.DeviceSaid.{DeviceSaid}
use Rattle.vub_model.specs.declared.flight.Flight.TheVariants as flight
use Rattle.vub_model.specs.declared.party.Party.TheVariants as party
use Rattle.vub_model.specs.declared.play.Play.TheVariants as play
use Rattle.vub_model.specs.declared.small.Small.{Small}
use Rattle.vub_model.specs.declared.small.Small.TheVariants.{Add, Delete, Listen, Unlisten, Bell, Insert}
use Rattle.vub_model.specs.RingRecord.{Vring, closed_ring, is_on, has_addresses}
use Rattle.vub_model.specs.EntryNumber.{has_left}
use Rattle.vub_model.specs.Shared.{Shared, ring_at, count_at, raised, pending_at, has_number}
use Rattle.vub_model.specs.Plans.{Plan}
use Rattle.vub_model.specs.Control.{small_after, waits_now, rest_after, tail_of, played, drop_two}
use Rattle.vub_model.specs.Frame.{Frame, frame_of, claim_at, list_at, is_member}
use Rattle.vub_model.specs.FrameSteps.{passes, with_new, without_above, with_list, frame_step}
use Rattle.vub_model.specs.Wiring.{Wiring, opened_at, IsPlaced}
use Rattle.vub_model.specs.World.{World, phase_at, after_control}
use Rattle.vub_model.specs.Running.{HasStopped, index_word, calm_after}
use Rattle.vub_model.specs.Schedule.{IsNumber, Linked, Wired, Safe, IsKickAt, First, IsHandled, RequestFits, Rung, ringing, Woken, Awake, Invariant}
use Rattle.vub_model.proofs.Places.{one-place}
use Rattle.vub_model.proofs.Waking.{woken-by}
use Rattle.vub_model.proofs.SchedWork.{object-is, kick-ring, rung-moved}
use Rattle.vub_model.proofs.Linking.{kick_at, list-own, list-other, one-kick}
use Rattle.vub_model.proofs.Members.{without-own, without-other, new-other}
use Rattle.vub_model.proofs.Stepping.{frame_after, SafePlan, begun-all}
use Rattle.vub_model.proofs.FrameSmall.{frame-small}
use Rattle.vub_model.proofs.SmallSteps.{counts-kept, first-begun, names, rung-there, calm-of, left-safe}

module _ {V : Type 0} (w : World V) (calm : ℕ → Bool) (i : Invariant w calm) (said : DeviceSaid) where
  abbrev g : Wiring
  g = w.wiring

  abbrev h : Shared V
  h = w.shared

  abbrev fr : Frame
  fr = frame_of h

  abbrev left : Plan
  left = record w.control.plan { steps = tail_of w.control.plan.steps }

  -- what is known of the step
  module _ (s : Small) (is : w.control.plan.steps ≡ s ∷ left.steps) (ready : waits_now h s ≡ false) where
    abbrev z : Shared V
    z = small_after g h s

    abbrev after : World V
    after = after_control w s said

    pub safe : Safe g fr w.control.plan.reply (s ∷ left.steps)
    safe = let P : List Small → Type 0 = λ l. Safe g fr w.control.plan.reply l in subst P is i.safe

    frame-is : frame_of z ≡ frame_after g fr s
    frame-is = frame-small g h s (names g h w.control.plan.reply s left.steps safe.0).0 ready

    next : Wired g (frame_of z) × Linked g (frame_of z) × SafePlan g (frame_of z) (rest_after g h s said left)
    next = let P : Frame → Type 0 = λ f. Wired g f × Linked g f × SafePlan g f (rest_after g h s said left) in subst P (sym frame-is) (left-safe g h said i.wired i.linked s left safe)

    requests-fit : AllByRecursion (RequestFits g (frame_of z).events) w.control.requests
    requests-fit = let P : List Bool → Type 0 = λ e. AllByRecursion (RequestFits g e) w.control.requests in subst P (sym (ap (λ (f : Frame). f.events) frame-is ∙ (names g h w.control.plan.reply s left.steps safe.0).1)) i.requests

    begun-is : Safe g (frame_of z) after.control.plan.reply after.control.plan.steps × AllByRecursion (RequestFits g (frame_of z).events) after.control.requests
    begun-is = begun-all g (frame_of z) next.0 next.1 z.guest.regions (played g h w.control s said) next.2 requests-fit

    -- what stands first in what is left of the plan still does
    pub first-now : (t : Small) → First (rest_after g h s said left).steps t → First after.control.plan.steps t
    first-now t first = first-begun g (frame_of z) z.guest.regions (played g h w.control s said) (rest_after g h s said left).steps w.control.requests t refl first

    -- what is asked of the rings, pending sets and events
    module _ (rings : length z.rings ≡ length h.rings) (pending : length z.pending ≡ length h.pending)
        (flights : (q : ℕ) → (ring_at z q).flight ≡ (ring_at h q).flight) (addressed : (q : ℕ) → has_addresses (ring_at h q) ≡ true → has_addresses (ring_at z q) ≡ true) (readies : (q : ℕ) → (ring_at h q).flight ≡ flight.InFlight → (ring_at h q).queue.ready ≡ true → (ring_at z q).queue.ready ≡ true)
        (numbers : (k n : ℕ) → has_number n (pending_at z k) ≡ true → (has_number n (pending_at h k) ≡ true) ⊎ IsNumber g k n)
        (rung : (k : ℕ) → k < length g.opened → pending_at z k ≢ [] → (pending_at h k ≢ [] → Rung (count_at h.table (opened_at g k).bell) (phase_at w.phases k) ⊎ First (s ∷ left.steps) (Bell (opened_at g k).bell)) → Rung (count_at z.table (opened_at g k).bell) (phase_at w.phases k) ⊎ First after.control.plan.steps (Bell (opened_at g k).bell))
        (awake : Awake after (calm_after w party.Control (play.Control s said) after calm)) where
      pub close : Invariant after (calm_after w party.Control (play.Control s said) after calm)
      close = record {
        rings_size = rings ∙ i.rings_size;
        phases_size = i.phases_size;
        pending_size = pending ∙ i.pending_size;
        linked = next.1;
        wired = next.0;
        safe = begun-is.0;
        requests = begun-is.1;
        numbers = λ k n has. elim (numbers k n has) [ inl old ↦ i.numbers k n old | inr new ↦ new ];
        phases = i.phases;
        flies = λ q flies. i.flies q (sym (flights q) ∙ flies);
        hands = λ k q hand. let old = i.hands k q hand in (old.0, record { flight = flights q ∙ old.1.flight; addresses = addressed q old.1.addresses; ready = readies q old.1.flight old.1.ready });
        rung = λ k below some. rung k below some (λ was. let P : List Small → Type 0 = λ l. Rung (count_at h.table (opened_at g k).bell) (phase_at w.phases k) ⊎ First l (Bell (opened_at g k).bell) in subst P is (i.rung k below was));
        awake = awake;
      }

    -- Bells, where the step is no Bell and makes nothing pending
    abbrev pub OldRung : ℕ → Type 0
    OldRung k = Rung (count_at h.table (opened_at g k).bell) (phase_at w.phases k) ⊎ First (s ∷ left.steps) (Bell (opened_at g k).bell)

    abbrev pub NewRung : ℕ → Type 0
    NewRung k = Rung (count_at z.table (opened_at g k).bell) (phase_at w.phases k) ⊎ First after.control.plan.steps (Bell (opened_at g k).bell)

    pub quiet-rung : (k : ℕ) → (s ≡ Bell (opened_at g k).bell → ⊥) → OldRung k → NewRung k
    quiet-rung k other (inl rung) = inl (rung-moved _ _ (phase_at w.phases k) (phase_at w.phases k) refl (counts-kept g h s (opened_at g k).bell) rung)
    quiet-rung k other (inr first) = absurd (other first)

    -- Kicks
    abbrev pub OldWoken : (q k n o : ℕ) → Type 0
    OldWoken q k n o = Woken (count_at h.table o) (pending_at h k) (phase_at w.phases k) q n ⊎ IsHandled (s ∷ left.steps) k n o

    abbrev pub NewWoken : (q k n o : ℕ) → Type 0
    NewWoken q k n o = Woken (count_at z.table o) (pending_at z k) (phase_at w.phases k) q n ⊎ IsHandled after.control.plan.steps k n o

    pub old-woken : (q k n o : ℕ) → IsPlaced g q k n → (HasStopped (phase_at w.phases k) → ⊥) → (ring_at h q).kick ≡ Some o → is_member (list_at g fr k) o ≡ true → is_on (ring_at h q) ≡ true → has_addresses (ring_at h q) ≡ true → calm q ≡ true → has_left h.guest (ring_at h q) ≡ true → OldWoken q k n o
    old-woken q k n o at goes kick member on addresses calms left_one = let P : List Small → Type 0 = λ l. Woken (count_at h.table o) (pending_at h k) (phase_at w.phases k) q n ⊎ IsHandled l k n o in subst P is (i.awake q k n o at goes kick member on addresses calms left_one)

    -- the step is neither its Insert nor its Delete, and leaves its number pending
    pub quiet-woken : (q k n o : ℕ) → (s ≡ Insert k n → ⊥) → (s ≡ Delete k o → ⊥) → (has_number n (pending_at h k) ≡ true → has_number n (pending_at z k) ≡ true) → OldWoken q k n o → NewWoken q k n o
    quiet-woken q k n o ins del pend (inl woken) = inl (woken-by _ _ (pending_at h k) (pending_at z k) (phase_at w.phases k) (phase_at w.phases k) q n (counts-kept g h s o) pend (λ has. has) woken)
    quiet-woken q k n o ins del pend (inr (inl first)) = absurd (ins first)
    quiet-woken q k n o ins del pend (inr (inr first)) = absurd (del first)

    -- a step that leaves rings, memory and pending sets; what it registers it handles
    module _ (rings : z.rings ≡ h.rings) (pending : z.pending ≡ h.pending) (guest : z.guest ≡ h.guest)
        (sooner : (q k n o : ℕ) → k < length g.opened → IsPlaced g q k n → (ring_at h q).kick ≡ Some o → is_member (list_at g (frame_of z) k) o ≡ true → calm_after w party.Control (play.Control s said) after calm q ≡ true → NewWoken q k n o ⊎ ((calm q ≡ true) × (is_member (list_at g fr k) o ≡ true)))
        (no_insert : (k n : ℕ) → s ≡ Insert k n → ⊥)
        (no_delete : (k o : ℕ) → k < length g.opened → s ≡ Delete k o → is_member (list_at g (frame_of z) k) o ≡ true → ⊥) where
      quiet-awake : Awake after (calm_after w party.Control (play.Control s said) after calm)
      quiet-awake q k n o at goes kick member on addresses calm_now left_one =
          let same : ring_at z q ≡ ring_at h q = ap (λ l. slice_index_or l q closed_ring) rings in
          let was_kick : (ring_at h q).kick ≡ Some o = ap (λ (r : Vring). r.kick) (sym same) ∙ kick in
          let below = i.wired.placed q k n at in
          elim (sooner q k n o below at was_kick member calm_now) [
            | inl now ↦ now
            | inr was ↦
                quiet-woken q k n o (no_insert k n) (λ e. no_delete k o below e member)
                (λ has. ap (λ l. has_number n (slice_index_or l k [])) pending ∙ has)
                (old-woken q k n o at goes was_kick was.1 (ap is_on (sym same) ∙ on) (ap has_addresses (sym same) ∙ addresses) was.0
                (sym (ap (λ m. has_left m (ring_at z q)) guest ∙ ap (has_left h.guest) same) ∙ left_one))
          ]

      closing : ((k : ℕ) → k < length g.opened → OldRung k → NewRung k) → Invariant after (calm_after w party.Control (play.Control s said) after calm)
      closing bells =
          close (ap length rings) (ap length pending)
          (λ q. ap (λ l. (slice_index_or l q closed_ring).flight) rings)
          (λ q has. ap (λ l. has_addresses (slice_index_or l q closed_ring)) rings ∙ has)
          (λ q flies on. ap (λ l. (slice_index_or l q closed_ring).queue.ready) rings ∙ on)
          (λ k n has. inl (ap (λ l. has_number n (slice_index_or l k [])) (sym pending) ∙ has))
          (λ k below some old. bells k below (old (λ none. some (ap (λ l. slice_index_or l k []) pending ∙ none))))
          quiet-awake

      pub quiet-close : ((o : ℕ) → s ≡ Bell o → ⊥) → Invariant after (calm_after w party.Control (play.Control s said) after calm)
      quiet-close no_bell = closing (λ k below old. quiet-rung k (λ e. no_bell (opened_at g k).bell e) old)

    -- the lists are what the frame says
    list-is : (k : ℕ) → list_at g (frame_of z) k ≡ list_at g (frame_after g fr s) k
    list-is k = ap (λ f. list_at g f k) frame-is

  kick-claim : (q o : ℕ) → (ring_at h q).kick ≡ Some o → claim_at fr o ≡ Some q
  kick-claim q o kick = i.linked.claimed q o (kick-ring h q ∙ kick)

  -- a list that is written has this object only if it had it
  fewer : (k : ℕ) (ms : List Member) → k < length g.opened → (j x : ℕ) → j < length g.opened → (is_member ms x ≡ true → is_member (list_at g fr k) x ≡ true) → is_member (list_at g (with_list g fr k ms) j) x ≡ true → is_member (list_at g fr j) x ≡ true
  fewer k ms below j x low sub =
      elim (cases_eq j k) [
        | inl same ↦ (let P : ℕ → Type 0 = λ j. is_member (list_at g (with_list g fr k ms) j) x ≡ true → is_member (list_at g fr j) x ≡ true in subst P (sym same) (λ is. sub (ap (λ l. is_member l x) (sym (list-own g fr i.wired i.linked k ms below)) ∙ is)))
        | inr other ↦ (λ is. ap (λ l. is_member l x) (sym (list-other g fr i.wired i.linked k ms below j low other)) ∙ is)
      ]

  -- the same lists
  pub same-lists : (s : Small) (is : w.control.plan.steps ≡ s ∷ left.steps) (ready : waits_now h s ≡ false) → (frame_after g fr s).lists ≡ fr.lists → (k o : ℕ) → is_member (list_at g (frame_of (small_after g h s)) k) o ≡ true → is_member (list_at g fr k) o ≡ true
  same-lists s is ready same k o member = sym (ap (λ l. is_member l o) (list-is s is ready k ∙ ap (λ lists. slice_index_or lists (opened_at g k).list []) same)) ∙ member

  pub still : (s : Small) (is : w.control.plan.steps ≡ s ∷ left.steps) (ready : waits_now h s ≡ false) → (frame_after g fr s).lists ≡ fr.lists → (q k n o : ℕ) → is_member (list_at g (frame_of (small_after g h s)) k) o ≡ true → calm q ≡ true → NewWoken s is ready q k n o ⊎ ((calm q ≡ true) × (is_member (list_at g fr k) o ≡ true))
  still s is ready same q k n o member calms = inr (calms, same-lists s is ready same k o member)

  pub by-add : (k o n : ℕ) → w.control.plan.steps ≡ Add k o n ∷ left.steps → Invariant (after_control w (Add k o n) said) (calm_after w party.Control (play.Control (Add k o n) said) (after_control w (Add k o n) said) calm)
  by-add k o n is =
      quiet-close (Add k o n) is refl refl refl refl
      (λ q j m x low at kick member calms. by q j m x low at kick member (is_member (list_at g fr k) o) refl (is_object (ring_at h q).kick o) refl calms)
      (λ j m e. absurd cc) (λ j x low e member. absurd cc) (λ x e. absurd cc) where
        its : IsKickAt g fr k n o
        its = (safe (Add k o n) is refl).0.0

        below : k < length g.opened
        below = i.wired.placed its.queue k n its.placed

        by : (q j m x : ℕ) → j < length g.opened → IsPlaced g q j m → (ring_at h q).kick ≡ Some x → is_member (list_at g (frame_of (small_after g h (Add k o n))) j) x ≡ true
            → (b : Bool) → is_member (list_at g fr k) o ≡ b → (c : Bool) → is_object (ring_at h q).kick o ≡ c → cond (not b && c) true (not false && calm q && eqb (index_word (small_after g h (Add k o n)) q) (index_word h q)) ≡ true
            → NewWoken (Add k o n) is refl q j m x ⊎ ((calm q ≡ true) × (is_member (list_at g fr j) x ≡ true))
        by q j m x low at kick member true has c own calms = inr (calm-of false (calm q) _ calms, fewer k (with_new (list_at g fr k) (listener o n)) below j x low (λ new. ap (λ b. is_member (cond b (list_at g fr k) (with_member (list_at g fr k) (listener o n))) x) (sym has) ∙ new) (ap (λ l. is_member l x) (sym (list-is (Add k o n) is refl j)) ∙ member))
        by q j m x low at kick member false has false own calms =
            let apart : o ≡ x → ⊥ = (λ same. let e = eq-eqb x o (sym same) in let f = ap (λ c. is_object c o) kick in absurd cc) in
            inr (calm-of false (calm q) _ calms, fewer k (with_new (list_at g fr k) (listener o n)) below j x low (λ new. sym (new-other (list_at g fr k) (listener o n) x apart) ∙ new) (ap (λ l. is_member l x) (sym (list-is (Add k o n) is refl j)) ∙ member))
        by q j m x low at kick member false has true own calms =
            let mine : kick_at fr q ≡ Some o = kick-ring h q ∙ object-is (ring_at h q).kick o own in
            let queue : its.queue ≡ q = one-kick g fr i.wired i.linked its.queue q o its.kick mine in
            let P : ℕ → Type 0 = λ p. IsPlaced g p k n in
            let place = one-place g q k n j m (subst P queue its.placed) at in
            let first : First (rest_after g h (Add k o n) said left).steps (Insert k n) = (let S : Bool → Type 0 = λ b. First (cond (not b) left (record left { steps = drop_two left.steps })).steps (Insert k n) in subst S (sym has) (safe (Add k o n) is refl).0.1) in
            let F : ℕ → ℕ → Type 0 = λ a b. First (after_control w (Add k o n) said).control.plan.steps (Insert a b) in
            let moved : F j m = subst (λ b. F j b) place.1 (subst (λ a. F a n) place.0 (first-now (Add k o n) is refl (Insert k n) first)) in
            inl (inr (inl moved))

  pub by-delete : (k o : ℕ) → w.control.plan.steps ≡ Delete k o ∷ left.steps → Invariant (after_control w (Delete k o) said) (calm_after w party.Control (play.Control (Delete k o) said) (after_control w (Delete k o) said) calm)
  by-delete k o is =
      quiet-close (Delete k o) is refl refl refl refl
      (λ q j m x low at kick member calms. inr (calm-of false (calm q) _ calms, fewer k (without_member (list_at g fr k) o) below j x low (less x) (ap (λ l. is_member l x) (sym (list-is (Delete k o) is refl j)) ∙ member)))
      (λ j m e. absurd cc)
      (λ j x low e member. gone j x e member)
      (λ x e. absurd cc) where
        its : IsKickAt g fr k (safe (Delete k o) is refl).0.0 o
        its = (safe (Delete k o) is refl).0.1

        below : k < length g.opened
        below = i.wired.placed its.queue k (safe (Delete k o) is refl).0.0 its.placed

        less : (y : ℕ) → is_member (without_member (list_at g fr k) o) y ≡ true → is_member (list_at g fr k) y ≡ true
        less y has = elim (cases_eq y o) [
          | inl same ↦ (let none = without-own (list_at g fr k) o in let here = ap (is_member (without_member (list_at g fr k) o)) (sym same) ∙ has in absurd cc)
          | inr other ↦ sym (without-other (list_at g fr k) o y other) ∙ has
        ]

        gone : (j x : ℕ) → Delete k o ≡ Delete j x → is_member (list_at g (frame_of (small_after g h (Delete k o))) j) x ≡ true → ⊥
        gone j x e member =
            let a : k ≡ j = cc in
            let b : o ≡ x = cc in
            let P : ℕ → Type 0 = λ j. is_member (list_at g (frame_of (small_after g h (Delete k o))) j) x ≡ true in
            let here : is_member (list_at g (frame_of (small_after g h (Delete k o))) k) x ≡ true = subst P (sym a) member in
            let list : list_at g (frame_of (small_after g h (Delete k o))) k ≡ without_member (list_at g fr k) o = list-is (Delete k o) is refl k ∙ list-own g fr i.wired i.linked k (without_member (list_at g fr k) o) below in
            let none = without-own (list_at g fr k) o in
            let here_too : is_member (without_member (list_at g fr k) o) o ≡ true = ap (is_member (without_member (list_at g fr k) o)) b ∙ (ap (λ l. is_member l x) (sym list) ∙ here) in
            absurd cc

  pub by-bell : (o : ℕ) → w.control.plan.steps ≡ Bell o ∷ left.steps → Invariant (after_control w (Bell o) said) (calm_after w party.Control (play.Control (Bell o) said) (after_control w (Bell o) said) calm)
  by-bell o is =
      closing (Bell o) is refl refl refl refl
      (λ q j m x low at kick member calms. still (Bell o) is refl refl q j m x member (calm-of false (calm q) _ calms))
      (λ j m e. absurd cc) (λ j x low e member. absurd cc)
      (λ k below old. by k below old) where
        by : (k : ℕ) → k < length g.opened → OldRung (Bell o) is refl k → NewRung (Bell o) is refl k
        by k below (inl rung) = inl (rung-moved _ _ (phase_at w.phases k) (phase_at w.phases k) refl (counts-kept g h (Bell o) (opened_at g k).bell) rung)
        by k below (inr first) =
            let same : o ≡ (opened_at g k).bell = cc in
            let there : is_some (event_at h.table (opened_at g k).bell) ≡ true = sym (get_or-map is_some h.table.objects (opened_at g k).bell None) ∙ i.wired.bells k below in
            let P : ℕ → Type 0 = λ x. 0 < count_at (raised h x).table (opened_at g k).bell in
            inl (ringing (subst P (sym same) (rung-there h.table (opened_at g k).bell there)))

  pub by-listen : (k o n : ℕ) → w.control.plan.steps ≡ Listen k o n ∷ left.steps → Invariant (after_control w (Listen k o n) said) (calm_after w party.Control (play.Control (Listen k o n) said) (after_control w (Listen k o n) said) calm)
  by-listen k o n is =
      quiet-close (Listen k o n) is refl refl refl refl
      (λ q j m x low at kick member calms. inr (calm-of false (calm q) _ calms, by j x low q (kick-claim q x kick) (passes g fr (Listen k o n)) refl (ap (λ l. is_member l x) (sym (list-is (Listen k o n) is refl j)) ∙ member)))
      (λ j m e. absurd cc) (λ j x low e member. absurd cc) (λ x e. absurd cc) where
        below : k < length g.opened
        below = (safe (Listen k o n) is refl).0.1

        free : (b c : Bool) → not (b || c) ≡ true → c ≡ false
        free false false h = refl
        free false true h = absurd cc
        free true c h = absurd cc

        by : (j x : ℕ) → j < length g.opened → (q : ℕ) → claim_at fr x ≡ Some q → (b : Bool) → passes g fr (Listen k o n) ≡ b → is_member (list_at g (record fr { lists = cond b (frame_step g fr (Listen k o n)).lists fr.lists }) j) x ≡ true → is_member (list_at g fr j) x ≡ true
        by j x low q claim false may member = member
        by j x low q claim true may member =
            let none = free (is_member (list_at g fr k) o) (is_some (claim_at fr o)) may in
            fewer k (with_new (list_at g fr k) (listener o n)) below j x low (λ new. sym (new-other (list_at g fr k) (listener o n) x (λ same. let some : is_some (claim_at fr o) ≡ true = ap (λ c. is_some (claim_at fr c)) same ∙ ap (λ (c : Option ℕ). is_some c) claim in absurd cc)) ∙ new) member

  pub by-unlisten : (k o above : ℕ) → w.control.plan.steps ≡ Unlisten k o above ∷ left.steps → Invariant (after_control w (Unlisten k o above) said) (calm_after w party.Control (play.Control (Unlisten k o above) said) (after_control w (Unlisten k o above) said) calm)
  by-unlisten k o above is =
      quiet-close (Unlisten k o above) is refl refl refl refl
      (λ q j m x low at kick member calms. inr (calm-of false (calm q) _ calms, fewer k (without_above (list_at g fr k) o above) (safe (Unlisten k o above) is refl).0.1 j x low (less x (has_token_above above (member_of (list_at g fr k) o))) (ap (λ l. is_member l x) (sym (list-is (Unlisten k o above) is refl j)) ∙ member)))
      (λ j m e. absurd cc) (λ j x low e member. absurd cc) (λ x e. absurd cc) where
        less : (y : ℕ) (b : Bool) → is_member (cond b (without_member (list_at g fr k) o) (list_at g fr k)) y ≡ true → is_member (list_at g fr k) y ≡ true
        less y false has = has
        less y true has = elim (cases_eq y o) [
          | inl same ↦ (let none = without-own (list_at g fr k) o in let here = ap (is_member (without_member (list_at g fr k) o)) (sym same) ∙ has in absurd cc)
          | inr other ↦ sym (without-other (list_at g fr k) o y other) ∙ has
        ]
