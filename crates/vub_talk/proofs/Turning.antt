-- A worker's step keeps the dialog: a Take of an entry is its take, a Put its put, and any other step leaves it.
use Rattle.std.proofs.Common.{◌≡◌, ℕ, suc, ◌+◌, ◌-◌, ◌*◌, ◌^◌, ◌<◌, ◌≤◌, true, false, ◌||◌, List, [], ◌∷◌, ◌++◌, length, take, Option, Some, Ok, refl, ap, ap₂, subst, ◌∙◌, arith, ltb}
use Rattle.std.specs.List.{list_any}
use Rattle.std.proofs.lemmas.Bool.{or_parts, ltb-false}
use Rattle.std.proofs.lemmas.List.{take_all}
use Rattle.vub_mem.specs.Memory.{Guest}
use Rattle.vub_mem.specs.Place.{covers}
use Rattle.vub_queue.specs.Layout.{used_element_at as ring_element_at, used_index_at as ring_used_at}
use Rattle.vub_queue.specs.Notification.{wants_notification, used_event_covers}
use Rattle.vub_queue.specs.Put.{put_answer, room_covers, used_covers}
use Rattle.vub_queue.specs.Ring.{Ring}
use Rattle.vub_queue.specs.declared.chain.Chain.{Chain}
use Rattle.vub_model.specs.declared.setup.Guest.{Guest as Action}
use Rattle.vub_model.specs.Service.{Meaning}
use Rattle.vub_model.specs.Work.{answer_put, is_wanted}
use Rattle.vub_driver.specs.Machine.{Asked, World as Dialog}
use Rattle.vub_driver.specs.Places.{reply_at, used_index_at, used_element_at}
use Rattle.vub_driver.specs.declared.layout.Layout.{Layout}
use Rattle.vub_driver.proofs.Cells.{in_used, in_element, in_reply}
use Rattle.vub_driver.proofs.Flat.{covers_inside}
use Rattle.vub_driver.proofs.Kept.{Keeps, HeldIs, IsSmall, ask_in, taken_by}
use Rattle.vub_driver.proofs.Taking.{at_is, slot_number}
use Rattle.vub_driver.proofs.Writes.{inside}
use Rattle.vub_talk.specs.declared.ask.Ask.{Ask}
use Rattle.vub_talk.specs.Asking.{AreSmall, is_large, region}
use Rattle.vub_talk.specs.Replies.{asked_by, replies_to, value_after}
use Rattle.vub_talk.proofs.Ahead.{Ahead}
use Rattle.vub_talk.proofs.Gathering.{Stage}
use Rattle.vub_talk.proofs.Gathering.Stage.{between, requested, chained, slotted, ended}

-- Asks

pub small_ask : (l : Layout) (a : Ask) → is_large l a ≡ false → IsSmall l (asked_by a)
small_ask l a small =
    let both = or_parts (ltb l.slot (length a.request) || ltb l.slot a.room) (ltb (2 ^ 32 - 1) (length a.request + a.room)) small in
    let each = or_parts (ltb l.slot (length a.request)) (ltb l.slot a.room) both.0 in
    record {
      bytes = ltb-false l.slot (length a.request) each.0;
      space = ltb-false l.slot a.room each.1;
      both = (let sum : length a.request + a.room ≤ 2 ^ 32 - 1 = ltb-false (2 ^ 32 - 1) (length a.request + a.room) both.1 in omega arith);
    }

pub small_parts : (l : Layout) (rest : List Ask) (a : Ask) (more : List Ask) → AreSmall l rest → rest ≡ a ∷ more → IsSmall l (asked_by a) × AreSmall l more
small_parts l rest a more small is =
    let parts = or_parts (is_large l a) (list_any (λ (x : Ask). is_large l x) more) (subst (AreSmall l) is small) in
    (small_ask l a parts.0, parts.1)

pub space_left : (n c h : ℕ) (rest : List Ask) (a : Ask) (more : List Ask) → n + length rest ≤ c + h → rest ≡ a ∷ more → n < c + h
space_left n c h rest a more room is = (let long : length rest ≡ suc (length more) = ap length is in omega arith)

-- Replies

pub value_more : {V : Type 0} (m : Meaning V) (v : V) (before : List Asked) (a : Asked) → value_after m v (before ++ a ∷ []) ≡ m.after (value_after m v before) a.request a.room
value_more m v [] a = refl
value_more m v (b ∷ before) a = value_more m (m.after v b.request b.room) before a

pub replies_more : {V : Type 0} (m : Meaning V) (v : V) (before : List Asked) (a : Asked) → replies_to m v (before ++ a ∷ []) ≡ replies_to m v before ++ m.reply_of (value_after m v before) a.request a.room ∷ []
replies_more m v [] a = refl
replies_more m v (b ∷ before) a = ap (λ rs. m.reply_of v b.request b.room ∷ rs) (replies_more m (m.after v b.request b.room) before a)

-- Stages

-- what leaves all that is ahead leaves the stage
pub stage_kept : (d : Dialog) (g : Guest) (q : Ring) (ts : List Asked) (x : Option Chain) (rs : List (List ℕ)) (rest : List Ask) (actions : List Action) →
    ((a : Ask) (more : List Ask) → rest ≡ a ∷ more → (i j k : ℕ) → i ≤ d.driver.submitted + 1 → Ahead d (asked_by a) i j k → Ahead (record d { guest = g; ring = q; taken = ts; held = x; replies = rs }) (asked_by a) i j k) →
    Stage d rest actions → Stage (record d { guest = g; ring = q; taken = ts; held = x; replies = rs }) rest actions
stage_kept d g q ts x rs rest actions moved (between is) = between is
stage_kept d g q ts x rs rest actions moved (requested a more is left ahead) = requested a more is left (moved a more is (d.driver.submitted + 1) d.driver.submitted d.driver.submitted (omega arith) ahead)
stage_kept d g q ts x rs rest actions moved (chained a more is left ahead) = chained a more is left (moved a more is (d.driver.submitted + 1) (d.driver.submitted + 1) d.driver.submitted (omega arith) ahead)
stage_kept d g q ts x rs rest actions moved (slotted a more is left ahead) = slotted a more is left (moved a more is (d.driver.submitted + 1) (d.driver.submitted + 1) (d.driver.submitted + 1) (omega arith) ahead)
stage_kept d g q ts x rs rest actions moved (ended none left) = ended none left

-- Puts

-- what is put is never refused, and the driver is told of it
module _ (d : Dialog) (k : Keeps region d) (off : d.ring.event_idx ≡ false) (c : Chain) (bs : List ℕ) (held : d.held ≡ Some c) (fit : length bs ≤ c.room) where
  is_held : HeldIs d.driver.layout (length d.replies) (ask_in d.asked (length d.replies)) (Some c)
  is_held = subst (HeldIs d.driver.layout (length d.replies) (ask_in d.asked (length d.replies))) held k.holding

  below : length d.replies < d.driver.submitted
  below = (let count : length d.taken ≡ length d.replies + 1 = k.held ∙ ap (λ h. taken_by h (length d.replies)) held in omega (arith, k.behind))

  short : length bs ≤ d.driver.layout.slot
  short = (let same : c.room ≡ (ask_in d.asked (length d.replies)).room = is_held.2 in omega (arith, (k.small (length d.replies) below).space))

  room_covered : room_covers d.guest.regions c.segments bs ≡ true
  unfolding room_covers
  room_covered =
      let whole : take (ask_in d.asked (length d.replies)).room bs ≡ bs = take_all (ask_in d.asked (length d.replies)).room bs (let same : c.room ≡ (ask_in d.asked (length d.replies)).room = is_held.2 in omega arith) in
      let here : covers d.guest.regions (reply_at d.driver.layout (length d.replies)) (length (take (ask_in d.asked (length d.replies)).room bs)) ≡ true =
      ap (λ x. covers d.guest.regions (reply_at d.driver.layout (length d.replies)) (length x)) whole
      ∙ covers_inside region d.guest (reply_at d.driver.layout (length d.replies)) (length bs) k.reads.flat (inside region k.lies.buffers (in_reply d.driver.layout (length d.replies) (length bs) k.apart short)) in
      ap (λ ss. room_covers d.guest.regions ss bs) is_held.1 ∙ rw here refl

  ring_covered : used_covers d.guest.regions d.ring ≡ true
  unfolding used_covers
  ring_covered =
      let element : ring_element_at d.ring ≡ used_element_at d.driver.layout (length d.replies) =
      ap₂ (λ x i. x.used + (4 + 8 * i)) (at_is d.ring d.driver.layout k.addresses) (slot_number d.driver.layout (length d.replies) d.ring.next_used d.ring.size k.apart k.next_used k.size) in
      let index : ring_used_at d.ring ≡ used_index_at d.driver.layout = ap (λ x. x.used + 2) (at_is d.ring d.driver.layout k.addresses) in
      let first : covers d.guest.regions (ring_element_at d.ring) 8 ≡ true =
      ap (λ a. covers d.guest.regions a 8) element ∙ covers_inside region d.guest (used_element_at d.driver.layout (length d.replies)) 8 k.reads.flat (inside region k.lies.used (in_element d.driver.layout (length d.replies) k.apart)) in
      let second : covers d.guest.regions (ring_used_at d.ring) 2 ≡ true =
      ap (λ a. covers d.guest.regions a 2) index ∙ covers_inside region d.guest (used_index_at d.driver.layout) 2 k.reads.flat (inside region k.lies.used (in_used d.driver.layout)) in
      rw (first, second) refl

  event_covered : used_event_covers d.guest.regions d.ring ≡ true
  unfolding used_event_covers
  event_covered = rw off refl

  wanted : is_wanted d.guest d.ring c bs ≡ true
  unfolding wants_notification
  wanted = rw off refl

  pub put_fine : answer_put d.guest d.ring c bs ≡ Ok true
  unfolding put_answer
  put_fine = rw (room_covered, ring_covered, event_covered, wanted) refl
