-- The guest's stores are the dialog's submits, and so a whole run keeps the dialog.
use Rattle.std.proofs.Common.{◌≡◌, ◌≢◌, ℕ, suc, ◌+◌, ◌-◌, ◌*◌, ◌<◌, false, List, [], ◌∷◌, ◌++◌, length, map, None, refl, sym, ap, subst, ◌∙◌, arith, append_assoc}
use Rattle.std.specs.Int.{w16, to_le_bytes}
use Rattle.std.specs.List.{AllByRecursion}
use Rattle.vub_mem.specs.Place.{write_at}
use Rattle.vub_model.specs.declared.party.Party.{Party}
use Rattle.vub_model.specs.declared.party.Party.TheVariants as party
use Rattle.vub_model.specs.declared.phase.Phase.{Phase}
use Rattle.vub_model.specs.declared.phase.Phase.TheVariants.{Idle, Polled, Sweep, Heard, Serving, Taken, Served, Stopped}
use Rattle.vub_model.specs.declared.play.Play.{Play}
use Rattle.vub_model.specs.declared.play.Play.TheVariants as play
use Rattle.vub_model.specs.declared.setup.Guest.{Guest as Action}
use Rattle.vub_model.specs.declared.setup.Guest.TheVariants.{Store, Signal}
use Rattle.vub_model.specs.declared.small.Small.{Small}
use Rattle.vub_model.specs.Control.{MayControl}
use Rattle.vub_model.specs.Headline.{Asked as Call, asked_at, asked as calls_of}
use Rattle.vub_model.specs.RunOf.{party_of, Turn, IsRun, next}
use Rattle.vub_model.specs.Service.{Meaning}
use Rattle.vub_model.specs.Shared.{Shared}
use Rattle.vub_model.specs.World.{World, May, after, acted, stored, phase_at}
use Rattle.vub_model.proofs.Owners.{within-phases}
use Rattle.vub_model.proofs.Turns.{turn-cases, turn-next}
use Rattle.vub_core.specs.Replies.{FitsItsRoom, CallsFit}
use Rattle.vub_driver.specs.Calls.{chain_bytes, index_of, submit_fault, submit_guest, state_submitted}
use Rattle.vub_driver.specs.Machine.{Asked, World as Dialog}
use Rattle.vub_driver.specs.Places.{half_of, head_of, request_at, descriptors_at, avail_index_at, avail_slot_at}
use Rattle.vub_driver.specs.declared.layout.Layout.{Layout}
use Rattle.vub_driver.proofs.Cells.{in_chain, in_index, in_request, in_slot}
use Rattle.vub_driver.proofs.Flat.{Inside, covers_inside}
use Rattle.vub_driver.proofs.Kept.{Keeps, IsSmall}
use Rattle.vub_driver.proofs.Submitting.{keeps_submitted}
use Rattle.vub_driver.proofs.Writes.{inside, length-chain_bytes}
use Rattle.vub_talk.specs.declared.ask.Ask.{Ask}
use Rattle.vub_talk.specs.Asking.{AreSmall, is_large, region}
use Rattle.vub_talk.specs.Replies.{asked_by, replies_to, value_after}
use Rattle.vub_talk.specs.Talking.{state_asked}
use Rattle.vub_talk.proofs.Accepting.{accepted, each_small}
use Rattle.vub_talk.proofs.Ahead.{Ahead, nothing_ahead, request_stored, chain_stored, slot_stored, index_submits}
use Rattle.vub_talk.proofs.Gathering.{Gathers, Goal, Hand, Stage, actions_from}
use Rattle.vub_talk.proofs.Gathering.Stage.{between, requested, chained, slotted, ended}
use Rattle.vub_talk.proofs.Storing.{store_writes}
use Rattle.vub_event.specs.HostTable.{event_at}
use Rattle.vub_model.specs.Shared.{raised_option, Shared}
use Rattle.vub_model.specs.Wiring.{opened_at}
use Rattle.vub_talk.proofs.Telling.{tells_same, tells_other, same_rings}
use Rattle.vub_talk.proofs.Turning.{small_parts, space_left}
use Rattle.vub_talk.proofs.Working.{works, FitsNow}

-- hands by what they see of a dialog
hand_like : {V : Type 0} (m : Meaning V) (v : V) (d e : Dialog) → e.held ≡ d.held → e.taken ≡ d.taken → e.replies ≡ d.replies → (i : ℕ) (s : V) (k : ℕ) (phase : Phase) → Hand m v d i s k phase → Hand m v e i s k phase
hand_like m v d e held taken replies i s k (Taken x queues) hand = (hand.0, held ∙ hand.1, hand.2, (hand.3.0, taken ∙ hand.3.1, hand.3.2, replies ∙ hand.3.3))
hand_like m v d e held taken replies i s k (Served x reply queues) hand =
    (hand.0, held ∙ hand.1, hand.2, hand.3, hand.4 ∙ ap (value_after m v) (sym taken), ap (λ rs. rs ++ reply ∷ []) replies ∙ hand.5 ∙ ap (replies_to m v) (sym taken))
hand_like m v d e held taken replies i s k Idle hand = tt
hand_like m v d e held taken replies i s k (Polled object token) hand = tt
hand_like m v d e held taken replies i s k Sweep hand = tt
hand_like m v d e held taken replies i s k (Heard token) hand = tt
hand_like m v d e held taken replies i s k (Serving queues) hand = tt
hand_like m v d e held taken replies i s k (Stopped cause) hand = tt

first_is : (x y : Action) (xs ys zs : List Action) → zs ≡ x ∷ xs → zs ≡ y ∷ ys → x ≡ y
first_is x y xs ys zs one two = (let both : x ∷ xs ≡ y ∷ ys = sym one ∙ two in cc)

rest_is : (x y : Action) (xs ys zs : List Action) → zs ≡ x ∷ xs → zs ≡ y ∷ ys → xs ≡ ys
rest_is x y xs ys zs one two = (let both : x ∷ xs ≡ y ∷ ys = sym one ∙ two in cc)

module _ {V : Type 0} (m : Meaning V) (v : V) (all : List Asked) (end : Goal) (h : Shared V) (phases : List Phase) (actions : List Action) (steps : List Small) (now : Gathers m v all end h phases actions steps) where
  abbrev d : Dialog
  d = now.dialog

  abbrev l : Layout
  l = now.dialog.driver.layout

  abbrev n : ℕ
  n = now.dialog.driver.submitted

  abbrev Then : Action → List Action → Type 0
  Then action left = Gathers m v all end (acted h action) phases left steps

  -- a part of the next ask is stored
  part_stored : (at : ℕ) (bs : List ℕ) (left : List Action) → Inside region at (length bs) → Keeps region (record d { guest = write_at d.guest at bs }) → Stage (record d { guest = write_at d.guest at bs }) now.rest left →
      Then (Store 0 (at - 1048576) bs) left
  part_stored at bs left lies keeps stage = record {
    dialog = record d { guest = write_at d.guest at bs };
    rest = now.rest;
    holder = now.holder;
    keeps = keeps;
    guest = ap (λ g. stored g 0 (at - 1048576) bs) now.guest ∙ store_writes d.guest at bs now.keeps.reads.flat lies;
    ring = now.ring;
    off = now.off;
    there = now.there;
    others = now.others;
    quiet = now.quiet;
    free = now.free;
    hands = λ k. hand_like m v d (record d { guest = write_at d.guest at bs }) refl refl refl now.holder h.service k (phase_at phases k) (now.hands k);
    served = now.served;
    asked = now.asked;
    room = now.room;
    counted = now.counted;
    small = now.small;
    state = now.state;
    answered = now.answered;
    low = now.low;
    tells = tells_same end.before (length d.replies) h (acted h (Store 0 (at - 1048576) bs)) (same_rings h (acted h (Store 0 (at - 1048576) bs)) refl) now.tells refl;
    stage = stage;
  }

  module _ (a : Ask) (more : List Ask) (is : now.rest ≡ a ∷ more) where
    abbrev q : Asked
    q = asked_by a

    space : n < d.driver.collected + half_of l
    space = space_left n d.driver.collected (half_of l) now.rest a more now.room is

    small : IsSmall l q
    small = (small_parts l now.rest a more now.small is).0

    long : length (chain_bytes l n (length a.request) a.room) ≡ 32
    long = length-chain_bytes l n (length a.request) a.room

    request_lies : Inside region (request_at l n) (length a.request)
    request_lies = inside region now.keeps.lies.buffers (in_request l n (length a.request) now.keeps.apart small.bytes)

    chain_lies : Inside region (descriptors_at l n) (length (chain_bytes l n (length a.request) a.room))
    chain_lies = subst (λ k. Inside region (descriptors_at l n) k) (sym long) (inside region now.keeps.lies.desc (in_chain l n now.keeps.apart))

    slot_lies : Inside region (avail_slot_at l n) 2
    slot_lies = inside region now.keeps.lies.avail (in_slot l n now.keeps.apart)

    index_lies : Inside region (avail_index_at l) 2
    index_lies = inside region now.keeps.lies.avail (in_index l)

    abbrev chain_store : Action
    chain_store = Store 0 (descriptors_at l n - 1048576) (chain_bytes l n (length a.request) a.room)

    abbrev slot_store : Action
    slot_store = Store 0 (avail_slot_at l n - 1048576) (to_le_bytes w16 (head_of l n))

    abbrev index_store : Action
    index_store = Store 0 (avail_index_at l - 1048576) (to_le_bytes w16 (index_of (n + 1)))

    abbrev later : List Action
    later = actions_from d.driver (n + 1) more

    stores_request : Then (Store 0 (request_at l n - 1048576) a.request) (chain_store ∷ slot_store ∷ index_store ∷ later)
    stores_request =
        let new = request_stored d q now.keeps now.off space small (nothing_ahead d q now.keeps now.off space small) in
        part_stored (request_at l n) a.request (chain_store ∷ slot_store ∷ index_store ∷ later) request_lies new.0 (requested a more is refl new.1)

    stores_chain : Ahead d q (n + 1) n n → Then chain_store (slot_store ∷ index_store ∷ later)
    stores_chain ahead =
        let new = chain_stored d q now.keeps now.off space small ahead in
        part_stored (descriptors_at l n) (chain_bytes l n (length a.request) a.room) (slot_store ∷ index_store ∷ later) chain_lies new.0 (chained a more is refl new.1)

    stores_slot : Ahead d q (n + 1) (n + 1) n → Then slot_store (index_store ∷ later)
    stores_slot ahead =
        let new = slot_stored d q now.keeps now.off space small ahead in
        part_stored (avail_slot_at l n) (to_le_bytes w16 (head_of l n)) (index_store ∷ later) slot_lies new.0 (slotted a more is refl new.1)

    accepts : submit_fault d.guest.regions d.driver (length a.request) a.room ≡ None
    accepts =
        let rest_small : AreSmall l (a ∷ more) = subst (AreSmall l) is now.small in
        let ask_small : is_large l a ≡ false = each_small l (a ∷ more) 0 a rest_small (omega arith) in
        let count : length now.rest ≡ suc (length more) = ap length is in
        accepted d.driver d.guest.regions 1 (length a.request) a.room (record {
          fit = now.keeps.apart.fit;
          plain = now.keeps.event_idx ∙ now.off;
          free = omega (arith, space);
          counted = omega (arith, now.counted, count);
          covered = record {
            desc = covers_inside region d.guest l.desc (16 * l.size) now.keeps.reads.flat now.keeps.lies.desc;
            avail = covers_inside region d.guest l.avail (6 + 2 * l.size) now.keeps.reads.flat now.keeps.lies.avail;
            buffers = covers_inside region d.guest l.buffers (l.slot * l.size) now.keeps.reads.flat now.keeps.lies.buffers;
          };
        }) (omega arith) ask_small

    -- with its index the ask is submitted
    stores_index : Ahead d q (n + 1) (n + 1) (n + 1) → Then index_store later
    stores_index ahead =
        let e : Dialog = record d { driver = state_submitted d.driver a.room; guest = submit_guest l d.guest n a.request a.room; asked = d.asked ++ q ∷ []; waits = false } in
        let count : length now.rest ≡ suc (length more) = ap length is in
        record {
          dialog = e;
          rest = more;
          holder = now.holder;
          keeps = keeps_submitted region d q now.keeps accepts;
          guest = ap (λ g. stored g 0 (avail_index_at l - 1048576) (to_le_bytes w16 (index_of (n + 1)))) now.guest
              ∙ store_writes d.guest (avail_index_at l) (to_le_bytes w16 (index_of (n + 1))) now.keeps.reads.flat index_lies ∙ index_submits d q now.keeps now.off space small ahead;
          ring = now.ring;
          off = now.off;
          there = now.there;
          others = now.others;
          quiet = now.quiet;
          free = now.free;
          hands = λ k. hand_like m v d e refl refl refl now.holder h.service k (phase_at phases k) (now.hands k);
          served = now.served;
          asked = append_assoc d.asked (q ∷ []) (map (λ x. asked_by x) more) ∙ ap (λ xs. d.asked ++ map (λ x. asked_by x) xs) (sym is) ∙ now.asked;
          room = omega (arith, now.room, count);
          counted = omega (arith, now.counted, count);
          small = (small_parts l now.rest a more now.small is).1;
          answered = now.answered;
          state = ap (state_asked d.driver) (sym is) ∙ now.state;
          low = now.low;
          tells = tells_same end.before (length d.replies) h (acted h index_store) (same_rings h (acted h index_store) refl) now.tells refl;
          stage = between refl;
        }

  -- behind the last ask the kick is signalled
  signals : now.rest ≡ [] → Then (Signal 1) []
  signals is = record {
    dialog = d;
    rest = now.rest;
    holder = now.holder;
    keeps = now.keeps;
    guest = now.guest;
    ring = now.ring;
    off = now.off;
    there = now.there;
    others = now.others;
    quiet = now.quiet;
    free = now.free;
    hands = now.hands;
    served = now.served;
    asked = now.asked;
    room = now.room;
    counted = now.counted;
    small = now.small;
    state = now.state;
    answered = now.answered;
    low = now.low;
    tells = tells_other end.before (length d.replies) h (acted h (Signal 1)) (same_rings h (acted h (Signal 1)) refl) now.tells 1 (raised_option (event_at h.table 1)) (λ no. absurd (omega arith)) refl;
    stage = ended is refl;
  }

  same_action : (x y : Action) (xs ys : List Action) → actions ≡ x ∷ xs → actions ≡ y ∷ ys → Then y ys → Then x xs
  same_action x y xs ys one two then = subst (λ z. Then z xs) (first_is y x ys xs actions two one) (subst (λ zs. Then y zs) (rest_is y x ys xs actions two one) then)

  begins : (action : Action) (left : List Action) → actions ≡ action ∷ left → actions ≡ actions_from d.driver n now.rest → (rest : List Ask) → now.rest ≡ rest → Then action left
  begins action left is from [] rest = same_action action (Signal 1) left [] is (from ∙ ap (actions_from d.driver n) rest) (signals rest)
  begins action left is from (a ∷ more) rest = same_action action (Store 0 (request_at l n - 1048576) a.request) left _ is (from ∙ ap (actions_from d.driver n) rest) (stores_request a more rest)

  acts_at : (action : Action) (left : List Action) → actions ≡ action ∷ left → Stage d now.rest actions → Then action left
  acts_at action left is (between from) = begins action left is from now.rest refl
  acts_at action left is (requested a more rest from ahead) = same_action action _ left _ is from (stores_chain a more rest ahead)
  acts_at action left is (chained a more rest from ahead) = same_action action _ left _ is from (stores_slot a more rest ahead)
  acts_at action left is (slotted a more rest from ahead) = same_action action _ left _ is from (stores_index a more rest ahead)
  acts_at action left is (ended none from) = absurd (let no : [] ≡ action ∷ left = sym from ∙ is in cc)

  pub acts : (action : Action) (left : List Action) → actions ≡ action ∷ left → Then action left
  acts action left is = acts_at action left is now.stage

-- Runs

abbrev pub GathersIn : {V : Type 0} → Meaning V → V → List Asked → Goal → World V → Type 0
GathersIn m v all end w = Gathers m v all end w.shared w.phases w.guest w.control.plan.steps × ((k : ℕ) → (opened_at w.wiring k).bell ≢ 2)

module _ {V : Type 0} (m : Meaning V) (v : V) (all : List Asked) (end : Goal) where
  fits_now : (w : World V) (k : ℕ) (l : Play) → (now : Gathers m v all end w.shared w.phases w.guest w.control.plan.steps) → (there : k < length w.phases) → AllByRecursion FitsItsRoom (asked_at m w (party.Worker k) l) →
      FitsNow m v all end w.shared w.phases w.guest w.control.plan.steps now k there (phase_at w.phases k) l
  fits_now w k play.Serve now there fits = fits
  fits_now w k label now there fits = tt

  guest_acts : (w : World V) (actions : List Action) → w.guest ≡ actions → GathersIn m v all end w → actions ≢ [] → GathersIn m v all end (after m (record w { guest = actions }) party.Guest play.Guest)
  guest_acts w [] is now some = absurd (some refl)
  guest_acts w (action ∷ actions) is now some = (acts m v all end w.shared w.phases w.guest w.control.plan.steps now.0 action actions is, now.1)

  step : (w : World V) (p : Party) (l : Play) → May w p l → GathersIn m v all end w → AllByRecursion FitsItsRoom (asked_at m w p l) → GathersIn m v all end (after m w p l)
  step w party.Guest play.Guest may now fits = guest_acts w w.guest refl now may
  step w party.Control (play.Control s said) may now fits = absurd (let none : MayControl w.shared [] s said = subst (λ steps. MayControl w.shared steps s said) now.0.quiet may in none)
  step w (party.Worker k) l may now fits = (
    works m v all end w.shared w.phases w.guest w.control.plan.steps now.0 k (within-phases w.wiring w.shared w.phases k l may) w.wiring (now.1 k) (phase_at w.phases k) l may refl
        (fits_now w k l now.0 (within-phases w.wiring w.shared w.phases k l may) fits),
    now.1,
  )
  step w p l may now fits = absurd may

  turn : (w : World V) (p : Party) (l : Play) (z : World V) → Turn m w p l z → GathersIn m v all end w → AllByRecursion FitsItsRoom (asked_at m w p l) → GathersIn m v all end z
  turn w p l z t now =
      turn-cases m w p z (λ l. AllByRecursion FitsItsRoom (asked_at m w p l) → GathersIn m v all end z)
      (λ same fits. subst (λ (x : World V). GathersIn m v all end x) (sym same) now)
      (λ l may is fits. subst (λ (x : World V). GathersIn m v all end x) (sym is) (step w p l may now fits)) l t

  all_left : (xs ys : List Call) → AllByRecursion FitsItsRoom (xs ++ ys) → AllByRecursion FitsItsRoom xs
  all_left [] ys h = tt
  all_left (x ∷ xs) ys h = (h.0, all_left xs ys h.1)

  all_right : (xs ys : List Call) → AllByRecursion FitsItsRoom (xs ++ ys) → AllByRecursion FitsItsRoom ys
  all_right [] ys h = h
  all_right (x ∷ xs) ys h = all_right xs ys h.1

  -- a run ends in a dialog
  pub run_gathers : (turns : List ℕ) (plays : List Play) (w z : World V) → IsRun m turns plays w z → CallsFit m turns plays w → GathersIn m v all end w → GathersIn m v all end z
  run_gathers [] [] w z run fits now = subst (λ (x : World V). GathersIn m v all end x) (sym run) now
  run_gathers [] (l ∷ plays) w z run fits now = absurd run
  run_gathers (t ∷ turns) [] w z run fits now = absurd run
  run_gathers (t ∷ turns) (l ∷ plays) w z run fits now =
      let p = party_of t in
      let first : List Call = asked_at m w p l in
      let later : List Call = calls_of m turns plays (next m w p l) in
      let Rest : World V → Type 0 = λ x. CallsFit m turns plays x in
      run_gathers turns plays run.0 z run.2 (subst Rest (sym (turn-next m w p l run.0 run.1)) (all_right first later fits)) (turn w p l run.0 run.1 now (all_left first later fits))
