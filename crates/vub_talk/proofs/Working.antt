-- A worker's step keeps the dialog: a Take of an entry is its take, a Put its put, and any other step leaves it.
use Rattle.std.proofs.Common.{◌+◌, ◌≡◌, ◌≢◌, ℕ, ◌<◌, ◌≤◌, inl, inr, Bool, true, false, true≢false, cond, List, [], ◌∷◌, ◌++◌, length, Option, Some, None, Result, Ok, refl, sym, ap, ap₂, subst, ◌∙◌, arith, set, is_some, slice_index, slice_index_or}
use Rattle.std.specs.List.{AllByRecursion}
use Rattle.std.proofs.lemmas.Bool.{cases_eq}
use Rattle.std.proofs.lemmas.List.{get_or-set_same, get_or-set_other, length-set}
use Rattle.vub_mem.specs.Memory.{Guest}
use Rattle.vub_queue.specs.EntryNumber.{after}
use Rattle.vub_queue.specs.Function.{took_of}
use Rattle.vub_queue.specs.Notification.{ring_told}
use Rattle.vub_queue.specs.Put.{put_guest, ring_used}
use Rattle.vub_queue.specs.Ring.{Ring}
use Rattle.vub_queue.specs.Take.{IsEntry, Taken as Takes}
use Rattle.vub_queue.specs.declared.chain.Chain.{Chain}
use Rattle.vub_queue.specs.declared.putting.PutFault.{PutFault}
use Rattle.vub_queue.specs.declared.took.Took.{Took}
use Rattle.vub_queue.specs.declared.took.Took.TheVariants as took
use Rattle.vub_queue.proofs.Walks.{takes_some}
use Rattle.vub_model.specs.declared.cause.StopCause.TheVariants.{Exit}
use Rattle.vub_model.specs.declared.entry.Entry.{Entry}
use Rattle.vub_model.specs.declared.phase.Phase.{Phase}
use Rattle.vub_model.specs.declared.phase.Phase.TheVariants.{Idle, Polled, Sweep, Heard, Serving, Taken, Served, Stopped}
use Rattle.vub_model.specs.declared.play.Play.{Play}
use Rattle.vub_model.specs.declared.play.Play.TheVariants as play
use Rattle.vub_model.specs.declared.ring_op.RingOp.TheVariants as op
use Rattle.vub_model.specs.declared.setup.Guest.{Guest as Action}
use Rattle.vub_model.specs.declared.small.Small.{Small}
use Rattle.vub_model.specs.RingRecord.{Vring, closed_ring, is_on, is_in_flight, has_addresses, changed, ring_after}
use Rattle.vub_model.specs.Service.{Meaning}
use Rattle.vub_model.specs.Shared.{Shared, ring_at, with_ring, raised_or_none, pending_at, swept, counter_read}
use Rattle.vub_model.specs.Wiring.{Wiring, opened_at, queues_of}
use Rattle.vub_model.specs.Work.{Local, MayWork, after_work, after_serve, after_event, after_take, after_took, after_put, after_said, answer_put, put_said, looked, may_take, entry_of, serving, queues_numbered, published, stopped, called, used}
use Rattle.vub_model.specs.World.{phase_at}
use Rattle.vub_model.proofs.Cases.{work-cases, heard-leaf, take-leaf, token-leaf, kick-leaf, bell-leaf, listener-leaf}
use Rattle.vub_model.proofs.Counting.{ring-own, ring-other}
use Rattle.vub_model.proofs.Live.{looked-live, live-parts, live-taken}
use Rattle.vub_driver.specs.Machine.{Asked, World as Dialog}
use Rattle.vub_driver.specs.Places.{half_of}
use Rattle.vub_driver.proofs.Kept.{taken_by}
use Rattle.vub_driver.proofs.Putting.{keeps_put}
use Rattle.vub_driver.proofs.Taking.{keeps_entry}
use Rattle.vub_talk.specs.Asking.{region}
use Rattle.vub_talk.specs.Replies.{asked_by, replies_to, value_after}
use Rattle.vub_talk.proofs.Ahead.{ahead_taken, ahead_put}
use Rattle.vub_talk.proofs.Gathering.{Gathers, Goal, Hand, asked_in}
use Rattle.std.proofs.lemmas.List.{length_push, get_or-set_same, get_or-set_other, length-set}
use Rattle.vub_event.specs.HostTable.{event_at, members_at}
use Rattle.vub_event.specs.InterestList.{member_of}
use Rattle.vub_model.specs.Shared.{read_option, Shared, ring_at, with_ring, raised_or_none, pending_at, swept, counter_read}
use Rattle.vub_model.specs.Work.{has_token, is_object, Local, MayWork, after_work, after_serve, after_event, after_take, after_took, after_put, after_said, answer_put, put_said, looked, may_take, entry_of, serving, queues_numbered, published, stopped, called, used}
use Rattle.vub_model.proofs.Counting.{field-kept, ring-own, ring-other}
use Rattle.vub_talk.proofs.Telling.{Tells, tells_same, tells_other, tells_raised, same_rings, no_token}
use Rattle.vub_talk.proofs.Turning.{put_fine, small_parts, space_left, stage_kept, value_more, replies_more}
use Rattle.vub_core.specs.Replies.{FitsItsRoom}
use Rattle.vub_model.specs.Headline.{asked_in as calls_in}

took-if : (b : Bool) (t : Took) (c : Chain) → cond b t took.None ≡ took.Entry c → t ≡ took.Entry c
took-if true t c is = is
took-if false t c is = absurd cc

looked-entry : {V : Type 0} (h : Shared V) (q : ℕ) (c : Chain) → looked h q ≡ took.Entry c → IsEntry h.guest (ring_at h q).queue c
unfolding looked
looked-entry h q c is =
    let took-is = took-if (may_take (ring_at h q)) (took_of h.guest (ring_at h q).queue) c is in
    let P : Took → Type 0 = λ t. Takes h.guest (ring_at h q).queue t in
    subst P took-is (takes_some h.guest (ring_at h q).queue)

not_held : {c : Chain} {x : Option Chain} → x ≡ None → x ≡ Some c → ⊥
not_held none some = (let no : None ≡ Some _ = sym none ∙ some in absurd cc)

module _ {V : Type 0} (m : Meaning V) (v : V) where
  -- where nothing is held no worker has anything in hand
  empty_hand : (d e : Dialog) (i j : ℕ) (s t : V) (k : ℕ) (phase : Phase) → d.held ≡ None → Hand m v d i s k phase → Hand m v e j t k phase
  empty_hand d e i j s t k Idle none hand = tt
  empty_hand d e i j s t k (Polled object token) none hand = tt
  empty_hand d e i j s t k Sweep none hand = tt
  empty_hand d e i j s t k (Heard token) none hand = tt
  empty_hand d e i j s t k (Serving queues) none hand = tt
  empty_hand d e i j s t k (Stopped cause) none hand = tt
  empty_hand d e i j s t k (Taken x queues) none hand = absurd (not_held none hand.1)
  empty_hand d e i j s t k (Served x reply queues) none hand = absurd (not_held none hand.1)

  -- nor has one that is not the holder
  other_hand : (d e : Dialog) (i j : ℕ) (s t : V) (k : ℕ) (phase : Phase) → k ≢ i → Hand m v d i s k phase → Hand m v e j t k phase
  other_hand d e i j s t k Idle other hand = tt
  other_hand d e i j s t k (Polled object token) other hand = tt
  other_hand d e i j s t k Sweep other hand = tt
  other_hand d e i j s t k (Heard token) other hand = tt
  other_hand d e i j s t k (Serving queues) other hand = tt
  other_hand d e i j s t k (Stopped cause) other hand = tt
  other_hand d e i j s t k (Taken x queues) other hand = absurd (other hand.2)
  other_hand d e i j s t k (Served x reply queues) other hand = absurd (other hand.2)

  serving_hand : (d : Dialog) (i : ℕ) (s : V) (k : ℕ) (queues : List ℕ) → Hand m v d i s k (serving queues)
  serving_hand d i s k [] = tt
  serving_hand d i s k (q ∷ queues) = tt

-- the ring after an entry of it is put
put_ring : (r : Vring) → ring_after r op.Put ≡ changed r op.Put
put_ring r = refl

module _ {V : Type 0} (m : Meaning V) (v : V) (all : List Asked) (end : Goal) (h : Shared V) (phases : List Phase) (actions : List Action) (steps : List Small) (now : Gathers m v all end h phases actions steps) (k : ℕ) (there : k < length phases) where
  abbrev d : Dialog
  d = now.dialog

  -- what is known after the step of a worker
  abbrev pub Next : Local V → Type 0
  Next z = Gathers m v all end z.shared (set phases k z.phase) actions steps

  hands_set : (e : Dialog) (i : ℕ) (s : V) (phase : Phase) → Hand m v e i s k phase → ((j : ℕ) → j ≢ k → Hand m v e i s j (phase_at phases j)) → (j : ℕ) → Hand m v e i s j (phase_at (set phases k phase) j)
  hands_set e i s phase own others j = elim (cases_eq j k) [
    | inl same ↦
        let P : ℕ → Type 0 = λ x. Hand m v e i s x (phase_at (set phases k phase) x) in
        subst P (sym same) (subst (Hand m v e i s k) (sym (get_or-set_same phases k phase (Stopped Exit) there)) own)
    | inr other ↦ subst (Hand m v e i s j) (sym (get_or-set_other phases k j phase (Stopped Exit) other)) (others j other)
  ]

  -- memory, rings and service stay
  stays : (z : Shared V) (phase : Phase) → z.guest ≡ h.guest → z.rings ≡ h.rings → z.service ≡ h.service → Hand m v d now.holder z.service k phase → Tells end.before (length d.replies) z → Next (record { shared = z; phase = phase })
  stays z phase guest rings service own told = record {
    dialog = d;
    rest = now.rest;
    holder = now.holder;
    keeps = now.keeps;
    guest = guest ∙ now.guest;
    ring = ap (λ rs. (slice_index_or rs 0 closed_ring).queue) rings ∙ now.ring;
    off = now.off;
    there = subst (λ rs. 0 < length rs) (sym rings) now.there;
    others = λ q other. ap (λ rs. is_on (slice_index_or rs q closed_ring)) rings ∙ now.others q other;
    quiet = now.quiet;
    free = λ is. now.free (ap (λ rs. is_in_flight (slice_index_or rs 0 closed_ring).flight) (sym rings) ∙ is);
    hands = hands_set d now.holder z.service phase own (λ j other. subst (λ s. Hand m v d now.holder s j (phase_at phases j)) (sym service) (now.hands j));
    served = λ none. (service ∙ (now.served none).0, (now.served none).1);
    asked = now.asked;
    room = now.room;
    counted = now.counted;
    small = now.small;
    state = now.state;
    answered = now.answered;
    low = now.low;
    tells = told;
    stage = now.stage;
  }

  same_shared : (phase : Phase) → Hand m v d now.holder h.service k phase → Next (record { shared = h; phase = phase })
  same_shared phase own = stays h phase refl refl refl own now.tells

  -- an entry is taken
  takes_entry : (c : Chain) (rest : List ℕ) → looked h 0 ≡ took.Entry c → Next (after_took h 0 rest (took.Entry c))
  takes_entry c rest is =
      let live = looked-live h 0 c is in
      let free : d.held ≡ None = now.free (live-parts (ring_at h 0) live).free in
      let entry : IsEntry d.guest d.ring c = subst (λ r. IsEntry d.guest r c) now.ring (subst (λ g. IsEntry g (ring_at h 0).queue c) now.guest (looked-entry h 0 c is)) in
      let own : ring_at (with_ring h 0 (ring_after (ring_at h 0) op.Taken)) 0 ≡ changed (ring_at h 0) op.Taken = ring-own h 0 (ring_after (ring_at h 0) op.Taken) now.there ∙ live-taken (ring_at h 0) live in
      let e : Dialog = record d { ring = record d.ring { next_avail = after d.ring.next_avail }; taken = d.taken ++ asked_in c ∷ []; held = Some c } in
      record {
        dialog = record d { ring = record d.ring { next_avail = after d.ring.next_avail }; taken = d.taken ++ asked_in c ∷ []; held = Some c };
        rest = now.rest;
        holder = k;
        keeps = keeps_entry region d now.keeps c free entry;
        guest = now.guest;
        ring = ap (λ (x : Vring). x.queue) own ∙ ap (λ (q : Ring). record q { next_avail = after q.next_avail }) now.ring;
        off = now.off;
        there = (let long = length-set h.rings 0 (ring_after (ring_at h 0) op.Taken) in omega (arith, now.there));
        others = λ q other. ap is_on (ring-other h 0 (ring_after (ring_at h 0) op.Taken) q other) ∙ now.others q other;
        quiet = now.quiet;
        free = λ no. absurd (true≢false (sym (ap (λ (x : Vring). is_in_flight x.flight) own) ∙ no));
        hands = hands_set e k h.service (Taken (entry_of 0 (ring_at h 0) c) (0 ∷ rest)) (refl, refl, refl, (d.taken, refl, (now.served free).0, (now.served free).1))
            (λ j other. empty_hand m v d e now.holder k h.service h.service j (phase_at phases j) free (now.hands j));
        served = λ none. absurd (not_held none refl);
        asked = now.asked;
        room = now.room;
        counted = now.counted;
        small = now.small;
        state = now.state;
        answered = now.answered;
        low = now.low;
        tells = tells_same end.before (length d.replies) h (with_ring h 0 (ring_after (ring_at h 0) op.Taken))
            (record {
              call = ap (λ (x : Vring). x.call) own;
              kicks = λ q. field-kept (λ (x : Vring). x.kick) h 0 (ring_after (ring_at h 0) op.Taken) (ap (λ (x : Vring). x.kick) (live-taken (ring_at h 0) live)) q;
            })
            now.tells refl;
        stage = stage_kept d d.guest (record d.ring { next_avail = after d.ring.next_avail }) (d.taken ++ asked_in c ∷ []) (Some c) d.replies now.rest actions
            (λ a more is x y z few ahead. ahead_taken d (asked_by a) now.keeps now.off (space_left d.driver.submitted d.driver.collected (half_of d.driver.layout) now.rest a more now.room is) (small_parts d.driver.layout now.rest a more now.small is).0
            (record d.ring { next_avail = after d.ring.next_avail }) c (asked_in c) x y z ahead)
            now.stage;
      }

  live_is_first : (q : ℕ) (c : Chain) → looked h q ≡ took.Entry c → q ≡ 0
  live_is_first q c is = elim (cases_eq q 0) [
    | inl same ↦ same
    | inr other ↦ absurd (true≢false (sym (live-parts (ring_at h q) (looked-live h q c is)).on ∙ now.others q other))
  ]

  -- a look at a ring that may be taken of is one without EVENT_IDX
  looks_plain : (q : ℕ) → may_take (ring_at h q) ≡ true → (ring_at h q).queue.event_idx ≡ false
  looks_plain q live = elim (cases_eq q 0) [
    | inl same ↦ subst (λ i. (ring_at h i).queue.event_idx ≡ false) (sym same) (ap (λ (r : Ring). r.event_idx) now.ring ∙ now.off)
    | inr other ↦ absurd (true≢false (sym (live-parts (ring_at h q) live).on ∙ now.others q other))
  ]

  finds_none : (q : ℕ) (rest : List ℕ) (live : Bool) → may_take (ring_at h q) ≡ live → Next (record { shared = cond {A = Shared V} live (published h (ring_at h q).queue) h; phase = serving rest })
  finds_none q rest false is = same_shared (serving rest) (serving_hand m v d now.holder h.service k rest)
  finds_none q rest true is = stays (published h (ring_at h q).queue) (serving rest) (rw (looks_plain q is) refl) refl refl (serving_hand m v d now.holder h.service k rest)
      (tells_same end.before (length d.replies) h (published h (ring_at h q).queue) (same_rings h (published h (ring_at h q).queue) refl) now.tells refl)

  takes : (queues : List ℕ) → Next (after_take h queues)
  takes [] = same_shared Idle tt
  takes (q ∷ rest) = take-leaf h Next q rest
      (λ c is.
      let P : ℕ → Type 0 = λ i. looked h i ≡ took.Entry c → Next (after_took h i rest (took.Entry c)) in
      subst P (sym (live_is_first q c is)) (takes_entry c rest) is)
      (λ is. finds_none q rest (may_take (ring_at h q)) refl)
      (λ x is. same_shared (stopped _) tt)

  -- the service is asked
  serves : (e : Entry) (queues : List ℕ) → phase_at phases k ≡ Taken e queues → length (m.reply_of h.service e.chain.request e.chain.room) ≤ e.chain.room → Next (after_serve m h e queues)
  serves e queues is fits =
      let hand = subst (Hand m v d now.holder h.service k) is (now.hands k) in
      let before : List Asked = hand.3.0 in
      let a : Asked = asked_in e.chain in
      let reply : List ℕ = m.reply_of h.service e.chain.request e.chain.room in
      let value : m.after h.service e.chain.request e.chain.room ≡ value_after m v d.taken =
      ap (λ s. m.after s e.chain.request e.chain.room) hand.3.2 ∙ sym (value_more m v before a) ∙ ap (value_after m v) (sym hand.3.1) in
      let replies : d.replies ++ reply ∷ [] ≡ replies_to m v d.taken =
      ap₂ (λ rs s. rs ++ m.reply_of s e.chain.request e.chain.room ∷ []) hand.3.3 hand.3.2 ∙ sym (replies_more m v before a) ∙ ap (replies_to m v) (sym hand.3.1) in
      record {
        dialog = d;
        rest = now.rest;
        holder = now.holder;
        keeps = now.keeps;
        guest = now.guest;
        ring = now.ring;
        off = now.off;
        there = now.there;
        others = now.others;
        quiet = now.quiet;
        free = now.free;
        hands = hands_set d now.holder (m.after h.service e.chain.request e.chain.room) (Served e reply queues) (hand.0, hand.1, hand.2, fits, value, replies)
            (λ j other. other_hand m v d d now.holder now.holder h.service (m.after h.service e.chain.request e.chain.room) j (phase_at phases j) (λ same. other (same ∙ sym hand.2)) (now.hands j));
        served = λ none. absurd (not_held none hand.1);
        asked = now.asked;
        room = now.room;
        counted = now.counted;
        small = now.small;
        state = now.state;
        answered = now.answered;
        low = now.low;
        tells = tells_same end.before (length d.replies) h (after_serve m h e queues).shared (same_rings h (after_serve m h e queues).shared refl) now.tells refl;
        stage = now.stage;
      }

  -- the reply is put
  module _ (e : Entry) (reply queues : List ℕ) (held : d.held ≡ Some e.chain) (mine : k ≡ now.holder) (fit : length reply ≤ e.chain.room) (value : h.service ≡ value_after m v d.taken) (replies : d.replies ++ reply ∷ [] ≡ replies_to m v d.taken) where
    abbrev first : Entry
    first = record e { queue = 0 }

    abbrev filled : Guest
    filled = put_guest d.guest d.ring e.chain reply

    abbrev put : Dialog
    put = record d { guest = filled; ring = ring_told (ring_used d.ring); held = None; replies = d.replies ++ reply ∷ [] }

    own : ring_at (used h first reply) 0 ≡ changed (ring_at h 0) op.Put
    own = ring-own h 0 (ring_after (ring_at h 0) op.Put) now.there

    stands : put_guest h.guest (ring_at h 0).queue e.chain reply ≡ filled
    stands = ap₂ (λ g r. put_guest g r e.chain reply) now.guest now.ring

    raised_puts : (z : Shared V) → z.guest ≡ (used h first reply).guest → z.rings ≡ (used h first reply).rings → z.service ≡ h.service → Tells end.before (length d.replies + 1) z → Next (record { shared = z; phase = serving queues })
    raised_puts z guest rings service told = record {
      dialog = put;
      rest = now.rest;
      holder = now.holder;
      keeps = keeps_put region d e.chain reply now.keeps held fit;
      guest = guest ∙ stands;
      ring = ap (λ rs. (slice_index_or rs 0 closed_ring).queue) rings ∙ ap (λ (x : Vring). x.queue) own ∙ ap (λ (q : Ring). record q { next_used = after q.next_used; told = after q.next_used }) now.ring;
      off = now.off;
      there = subst (λ rs. 0 < length rs) (sym rings) (let long = length-set h.rings 0 (ring_after (ring_at h 0) op.Put) in omega (arith, now.there));
      others = λ q other. ap (λ rs. is_on (slice_index_or rs q closed_ring)) rings ∙ ap is_on (ring-other h 0 (ring_after (ring_at h 0) op.Put) q other) ∙ now.others q other;
      quiet = now.quiet;
      free = λ is. refl;
      hands = hands_set put now.holder z.service (serving queues) (serving_hand m v put now.holder z.service k queues)
          (λ j other. other_hand m v d put now.holder now.holder h.service z.service j (phase_at phases j) (λ same. other (same ∙ sym mine)) (now.hands j));
      served = λ none. (service ∙ value, replies);
      asked = now.asked;
      room = now.room;
      counted = now.counted;
      small = now.small;
      state = now.state;
      answered = now.answered;
      low = now.low;
      tells = subst (λ i. Tells end.before i z) (sym (length_push d.replies reply)) told;
      stage = stage_kept d filled (ring_told (ring_used d.ring)) d.taken None (d.replies ++ reply ∷ []) now.rest actions
          (λ a more is x y z few ahead. ahead_put d (asked_by a) now.keeps now.off (space_left d.driver.submitted d.driver.collected (half_of d.driver.layout) now.rest a more now.room is) (small_parts d.driver.layout now.rest a more now.small is).0
          e.chain reply held fit x y z few ahead)
          now.stage;
    }

    -- the call is signalled
    calls : Next (record { shared = called (used h first reply) (ring_at h 0).call true; phase = serving queues })
    calls =
        let z : Shared V = raised_or_none (used h first reply) (Some 2) in
        let P : Option ℕ → Type 0 = λ x. Next (record { shared = called (used h first reply) x true; phase = serving queues }) in
        let count : length d.taken ≡ length d.replies + 1 = now.keeps.held ∙ ap (λ x. taken_by x (length d.replies)) held in
        subst P (sym now.tells.call)
        (raised_puts (raised_or_none (used h first reply) (Some 2)) refl refl refl
        (tells_raised end.before (length d.replies) h z
        (record { call = ap (λ (x : Vring). x.call) own; kicks = λ q. field-kept (λ (x : Vring). x.kick) h 0 (ring_after (ring_at h 0) op.Put) refl q })
        now.tells (omega (arith, count, now.keeps.behind, now.keeps.near, now.low, now.keeps.apart.fit.small, now.keeps.apart.fit.even)) refl))

    pub said : put_said h first reply ≡ Ok true
    unfolding put_said
    said =
        let addresses : has_addresses (ring_at h 0) ≡ true = ap (λ (r : Ring). is_some r.addresses) now.ring ∙ ap is_some now.keeps.addresses in
        rw addresses (ap₂ (λ g r. answer_put g r e.chain reply) now.guest now.ring ∙ put_fine d now.keeps now.off e.chain reply held fit)

    puts_first : Next (after_put h first reply queues)
    puts_first = (let P : Result Bool PutFault → Type 0 = λ x. Next (after_said h first reply queues x) in subst P (sym said) calls)

  puts : (e : Entry) (reply queues : List ℕ) → phase_at phases k ≡ Served e reply queues → Next (after_put h e reply queues)
  puts e reply queues is =
      let hand = subst (Hand m v d now.holder h.service k) is (now.hands k) in
      let same : record e { queue = 0 } ≡ e = ap (λ q. record e { queue = q }) (sym hand.0) in
      subst (λ x. Next (after_put h x reply queues)) same (puts_first e reply queues hand.1 hand.2 hand.3 hand.4 hand.5)

  hand_if : (s : V) (b : Bool) (x y : Phase) → Hand m v d now.holder s k x → Hand m v d now.holder s k y → Hand m v d now.holder s k (cond b x y)
  hand_if s true x y on off = on
  hand_if s false x y on off = off

  read : (object : ℕ) → object ≢ 2 → Tells end.before (length d.replies) (counter_read h object)
  read object other = tells_other end.before (length d.replies) h (counter_read h object) (same_rings h (counter_read h object) refl) now.tells object (read_option (event_at h.table object)) other refl

  -- an event is told of
  hears : (g : Wiring) (object token : ℕ) → (opened_at g k).bell ≢ 2 → Next (after_event g k h object token)
  hears g object token bell = token-leaf h Next g k object token
      (λ below.
      let queue = slice_index (queues_of g k) token in
      kick-leaf h Next queue object
      (λ own. stays (counter_read h object) (cond (is_on (ring_at h queue)) (Serving (queue ∷ [])) Idle) refl refl refl (hand_if h.service (is_on (ring_at h queue)) (Serving (queue ∷ [])) Idle tt tt)
      (read object (λ two. true≢false (sym own ∙ ap (is_object (ring_at h queue).kick) two ∙ now.tells.kicks queue))))
      (same_shared Idle tt))
      (λ past same. bell-leaf h Next (opened_at g k).bell (opened_at g k).exit (stays (counter_read h (opened_at g k).bell) Sweep refl refl refl tt (read (opened_at g k).bell bell))
      (λ zero. same_shared (cond (is_some (opened_at g k).exit) (Stopped Exit) Idle) (hand_if h.service (is_some (opened_at g k).exit) (Stopped Exit) Idle tt tt)))
      (λ past other. listener-leaf h Next (opened_at g k).list object token
      (λ own. stays (counter_read h object) (Heard token) refl refl refl tt
      (read object (λ two.
      let members = members_at h.table (opened_at g k).list in
      true≢false (sym own ∙ ap (λ o. has_token (member_of members o) token) two ∙ no_token members token (now.tells.unlisted (opened_at g k).list)))))
      (same_shared Idle tt))

  abbrev pub FitsNow : Phase → Play → Type 0
  FitsNow phase play.Serve = AllByRecursion FitsItsRoom (calls_in m h.service phase)
  FitsNow phase l = Unit {0}

  pub works : (g : Wiring) → (opened_at g k).bell ≢ 2 → (phase : Phase) (l : Play) → MayWork g k h phase l → phase_at phases k ≡ phase → FitsNow phase l → Next (after_work m g k h phase l)
  works g bell = work-cases g k h (λ phase l. phase_at phases k ≡ phase → FitsNow phase l → Next (after_work m g k h phase l))
      (λ object may is fits. same_shared (Polled object _) tt)
      (λ object token is fits. hears g object token bell)
      (λ is fits. stays (swept h k) (serving (queues_numbered (queues_of g k) (pending_at h k))) refl refl refl (serving_hand m v d now.holder h.service k (queues_numbered (queues_of g k) (pending_at h k)))
      (tells_same end.before (length d.replies) h (swept h k) (same_rings h (swept h k) refl) now.tells refl))
      (λ token said is fits. heard-leaf (λ phase. Next (record { shared = h; phase = phase })) (same_shared Idle tt) (λ why. same_shared (stopped why) tt) said)
      (λ queues is fits. takes queues)
      (λ e queues is fits. serves e queues is fits.0)
      (λ e reply queues is fits. puts e reply queues is)
