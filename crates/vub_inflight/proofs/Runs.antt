-- Each beginning has what is kept, and every step keeps it.
use Rattle.std.proofs.Common.{◌≡◌, ◌≢◌, ℕ, zero, suc, ◌+◌, ◌*◌, ◌%◌, ◌^◌, ◌<◌, ◌≤◌, inl, inr, Bool, true, false, true≢false, not, ◌||◌, cond, List, [], ◌∷◌, ◌++◌, Result, Ok, Err, refl, sym, ap, subst, ◌∙◌, arith, ltb, eqb, length, get_or, set, drop, append-nil, replicate, length-set}
use Rattle.std.specs.List.{AllByRecursion as Each}
use Rattle.std.proofs.lemmas.Bool.{eqb-false, ltb-true, or_parts}
use Rattle.std.proofs.lemmas.List.{length-replicate}
use Rattle.vub_mem.specs.Memory.{Guest}
use Rattle.vub_queue.specs.EntryNumber.{after}
use Rattle.vub_queue.specs.Ring.{Ring}
use Rattle.vub_inflight.specs.Bytes.{word_in, slots_in, flags_fit}
use Rattle.vub_inflight.specs.Law.{GoesOn, IsFresh, IsResumed, Begins}
use Rattle.vub_inflight.specs.Machine.{World, Entry, Call, IsLike, Step, Runs, open_of, entry_heads, numbered}
use Rattle.vub_inflight.specs.Machine.Call.{takes, marks, publishes, clears, settles, stores, restarts}
use Rattle.vub_inflight.specs.declared.mark.Mark.{Mark}
use Rattle.vub_inflight.specs.Order.{marks_of, heads_of, has_twins, is_spent, next_after}
use Rattle.vub_inflight.specs.Recover.{index_in, index_covered, live_slots, recover_from, recovered, resumed_of}
use Rattle.vub_inflight.specs.State.{State, idle}
use Rattle.vub_inflight.specs.Steps.{new_state, state_took, state_marked, state_published, state_cleared, state_settled}
use Rattle.vub_inflight.specs.declared.error.RecoverError.{RecoverError}
use Rattle.vub_inflight.specs.declared.error.RecoverError.TheVariants.{Length, Version, Size, Flag, Head, Counter, Outside, UsedMoved, CounterSpent}
use Rattle.vub_inflight.specs.declared.next_entry.NextEntry.TheVariants as entry
use Rattle.vub_inflight.specs.declared.resumed.Resumed.{Resumed}
use Rattle.vub_inflight.specs.declared.slot.Slot.{Slot}
use Rattle.vub_inflight.proofs.MarkLaws.{marks_from, without, weaker, Sorted, marks_sorted, marks_cleared}
use Rattle.vub_inflight.proofs.Entries.{Apart, numbers_of}
use Rattle.vub_inflight.proofs.Round.{clear_in}
use Rattle.vub_inflight.proofs.Heads.{entry_below}
use Rattle.vub_inflight.proofs.Keeps.{Ascends, ascends_kept, Keeps, live_of, live_whole, found_open, keeps_took, keeps_marked, keeps_published, keeps_cleared, keeps_settled, keeps_memory}
use Rattle.vub_queue.proofs.IndexBack.{index_back, regions-put_guest}
use Rattle.vub_inflight.proofs.Cut.{Onward, goes_on, recovers, live_marks, live_each, length_heads, length_entries}
use Rattle.std.specs.Int.{w16}
use Rattle.vub_mem.specs.Place.{covers, number_at}
use Rattle.vub_queue.specs.Layout.{used_index_at, at_of}

move : (n : ℕ) (s t : State) (g h : Guest) (ts us : List Entry) (ps qs : List ℕ) → t ≡ s → h ≡ g → us ≡ ts → qs ≡ ps → Keeps n s g ts ps → Keeps n t h us qs
move n s t g h ts us ps qs a b c d k = subst (λ x. Keeps n x h us qs) (sym a) (subst (λ x. Keeps n s x us qs) (sym b) (subst (λ x. Keeps n s g x qs) (sym c) (subst (λ x. Keeps n s g ts x) (sym d) k)))

flies_below : (ss : List Slot) (h : ℕ) → (get_or ss h idle).in_flight ≡ true → h < length ss
flies_below [] h e = absurd (true≢false (sym e))
flies_below (s ∷ ss) zero e = omega arith
flies_below (s ∷ ss) (suc h) e = omega (arith, flies_below ss h e)

abbrev KeepsAll : ℕ → World → Type 0
KeepsAll n w = Keeps n w.state w.guest w.taken w.published

kept : (n : ℕ) (w v : World) → KeepsAll n w → v.state ≡ w.state → v.taken ≡ w.taken → v.published ≡ w.published → v.guest.regions ≡ w.guest.regions → index_in v.guest w.state.ring ≡ index_in w.guest w.state.ring → KeepsAll n v
kept n w v k s t p regions reads = move n w.state v.state v.guest v.guest w.taken v.taken w.published v.published s refl t p (keeps_memory n w.state w.guest v.guest w.taken w.published k regions reads)

same_taken : (ts us : List Entry) → us ≡ ts ++ [] → us ≡ ts
same_taken ts us e = e ∙ append-nil ts

no_marks : (i n : ℕ) → marks_from i (replicate n idle) ≡ []
no_marks i zero = refl
no_marks i (suc n) = no_marks (i + 1) n

fresh : (w : World) (q : Ring) → IsFresh w q → KeepsAll q.next_used w
unfolding marks_of
fresh w q f =
    let none : marks_from 0 (replicate q.size idle) ≡ [] = no_marks 0 q.size in
    move q.next_used (new_state q) w.state w.guest w.guest [] w.taken [] w.published f.state refl f.taken f.published (record {
      covered = f.covered;
      index = f.index;
      slots = length-replicate q.size idle;
      small = f.small;
      last = f.some;
      word = f.word;
      used = f.word;
      next = omega arith;
      ascends = subst Ascends (sym none) tt;
      below = subst (λ l. Each (λ m. m.counter < 0) l) (sym none) tt;
      stage = refl;
      same = sym (ap heads_of (live_whole (marks_of (replicate q.size idle)) 0 q.next_used q.next_used refl ∙ none));
      many = f.equal ∙ (let m : q.next_used ≡ (q.next_used + 0) % 2 ^ 16 = omega (arith, f.word) in m);
      count = f.equal ∙ (let m : q.next_used ≡ (q.next_used + 0) % 2 ^ 16 = omega (arith, f.word) in m);
      apart = tt;
      known = tt;
      passed = tt;
      once = tt;
    })

-- a test that was passed
ok_past : {A : Type 0} (b : Bool) (e : RecoverError) (x : Result A RecoverError) (r : A) → cond (not b) (Err e) x ≡ Ok r → (b ≡ true) × (x ≡ Ok r)
ok_past true e x r h = (refl, h)
ok_past false e x r h = absurd (let f : ⊥ = cc in f)

ok_off : {A : Type 0} (b : Bool) (e : RecoverError) (x : Result A RecoverError) (r : A) → cond b (Err e) x ≡ Ok r → (b ≡ false) × (x ≡ Ok r)
ok_off false e x r h = (refl, h)
ok_off true e x r h = absurd (let f : ⊥ = cc in f)

ascends_from : (ms : List Mark) → Sorted ms → has_twins ms ≡ false → Ascends ms
ascends_from [] s t = tt
ascends_from (m ∷ []) s t = (tt, tt)
ascends_from (m ∷ n ∷ ns) s t =
    let parts = or_parts (eqb m.counter n.counter) (has_twins (n ∷ ns)) t in
    let lt : m.counter < n.counter = (let le : m.counter ≤ n.counter = s.0.0 in let ne : m.counter ≡ n.counter → ⊥ = eqb-false m.counter n.counter parts.0 in grind arith) in
    ((lt, weaker (λ x. n.counter ≤ x.counter) (λ x. m.counter < x.counter) (λ x le. omega arith) ns s.1.0), ascends_from (n ∷ ns) s.1 parts.1)

next_above : (ms : List Mark) → Ascends ms → Each (λ m. m.counter < next_after ms) ms
next_above [] a = tt
next_above (m ∷ []) a = (omega arith, tt)
next_above (m ∷ n ∷ ns) a =
    let rest : Each (λ x. x.counter < next_after (n ∷ ns)) (n ∷ ns) = next_above (n ∷ ns) a.1 in
    ((let lt : m.counter < n.counter = a.0.0 in let le : n.counter < next_after (n ∷ ns) = rest.0 in omega arith), rest)

pub length_slots_in : (n : ℕ) (bs : List ℕ) → length (slots_in n bs) ≡ n
length_slots_in zero bs = refl
length_slots_in (suc n) bs = ap suc (length_slots_in n (drop 16 bs))

length-clear_in : (ss : List Slot) → length (clear_in ss) ≡ length ss
length-clear_in [] = refl
length-clear_in (s ∷ ss) = ap suc (length-clear_in ss)

length-live : (ss : List Slot) (last used index : ℕ) → length (live_slots ss last used index) ≡ length ss
length-live ss last used index = elim (eqb index used) as (λ b. length (cond b ss (set ss last idle)) ≡ length ss) [ true ↦ refl | false ↦ length-set ss last idle ]

ascends-live : (ss : List Slot) (last used index : ℕ) → Ascends (marks_of ss) → Ascends (marks_of (live_slots ss last used index))
unfolding marks_of
ascends-live ss last used index a =
    elim (eqb index used) as (λ b. Ascends (marks_from 0 (cond b ss (set ss last idle)))) [
      | true ↦ a
      | false ↦ subst Ascends (sym (marks_cleared 0 last ss)) (ascends_kept (λ m. not (eqb m.head (0 + last))) (marks_from 0 ss) a)
    ]

all_open : (es : List Entry) → open_of es [] ≡ es
all_open [] = refl
all_open (e ∷ es) = ap (λ l. e ∷ l) (all_open es)

numbered_heads : (n : ℕ) (hs : List ℕ) → entry_heads (numbered n hs) ≡ hs
numbered_heads n [] = refl
numbered_heads n (h ∷ hs) = ap (λ l. h ∷ l) (numbered_heads (n + 1) hs)

numbered_high : (n : ℕ) (hs : List ℕ) → Each (λ k. n ≤ k) (numbers_of (numbered n hs))
numbered_high n [] = tt
numbered_high n (h ∷ hs) = (omega arith, weaker (λ k. n + 1 ≤ k) (λ k. n ≤ k) (λ k le. omega arith) (numbers_of (numbered (n + 1) hs)) (numbered_high (n + 1) hs))

numbered_apart : (n : ℕ) (hs : List ℕ) → Apart (numbers_of (numbered n hs))
numbered_apart n [] = tt
numbered_apart n (h ∷ hs) = (weaker (λ k. n + 1 ≤ k) (λ k. k ≢ n) (λ k le e. absurd (let e2 : k ≡ n = e in omega arith)) (numbers_of (numbered (n + 1) hs)) (numbered_high (n + 1) hs), numbered_apart (n + 1) hs)

numbered_low : (n : ℕ) (hs : List ℕ) → Each (λ e. e.number < n + length hs) (numbered n hs)
numbered_low n [] = tt
numbered_low n (h ∷ hs) = (omega arith, weaker (λ e. e.number < n + 1 + length hs) (λ e. e.number < n + suc (length hs)) (λ e lt. omega arith) (numbered (n + 1) hs) (numbered_low (n + 1) hs))

length-numbered : (n : ℕ) (hs : List ℕ) → length (numbered n hs) ≡ length hs
length-numbered n [] = refl
length-numbered n (h ∷ hs) = ap suc (length-numbered (n + 1) hs)

length-heads : (ms : List Mark) → length (heads_of ms) ≡ length ms
length-heads [] = refl
length-heads (m ∷ ms) = ap suc (length-heads ms)

-- what went on from a record keeps what is kept
keeps_resumed : (q : Ring) (g : Guest) (last index : ℕ) (live : List Slot) → q.size < 2 ^ 16 → last < q.size → index < 2 ^ 16 → index_in g q ≡ index → index_covered g q ≡ true → length live ≡ q.size → next_after (marks_of live) < 2 ^ 64 → Ascends (marks_of live) →
    Keeps index (resumed_of q last index live).ring g (numbered 0 (resumed_of q last index live).again) []
unfolding marks_of
keeps_resumed q g last index live small low word is covered size next ascends =
    let opens : open_of (numbered 0 (heads_of (marks_of live))) [] ≡ numbered 0 (heads_of (marks_of live)) = all_open (numbered 0 (heads_of (marks_of live))) in
    let count : length (numbered 0 (heads_of (marks_of live))) ≡ length (marks_of live) = length-numbered 0 (heads_of (marks_of live)) ∙ length-heads (marks_of live) in
    record {
      covered = covered;
      index = is;
      slots = size;
      small = small;
      last = low;
      word = word;
      used = word;
      next = next;
      ascends = ascends;
      below = next_above (marks_of live) ascends;
      stage = refl;
      same = ap entry_heads opens ∙ numbered_heads 0 (heads_of (marks_of live)) ∙ ap heads_of (sym (live_whole (marks_of live) last index index refl));
      many = ap (λ n. (index + n) % 2 ^ 16) (sym (ap length opens ∙ count));
      count = ap (λ n. (index + n) % 2 ^ 16) (sym count);
      apart = numbered_apart 0 (heads_of (marks_of live));
      known = weaker (λ e. e.number < 0 + length (heads_of (marks_of live))) (λ e. e.number < length (numbered 0 (heads_of (marks_of live)))) (λ e lt. omega (arith, length-numbered 0 (heads_of (marks_of live)))) (numbered 0 (heads_of (marks_of live))) (numbered_low 0 (heads_of (marks_of live)));
      passed = tt;
      once = tt;
    }

ok_value : Resumed → Result Resumed RecoverError → Resumed
ok_value d (Ok r) = r
ok_value d (Err e) = d

ok_same : (a b : Resumed) (h : ◌≡◌ {A = Result Resumed RecoverError} (Ok a) (Ok b)) → a ≡ b
unfolding ok_value
ok_same a b h = ap (ok_value a) h

ascends_all : (slots : List Slot) → has_twins (marks_of slots) ≡ false → Ascends (marks_of slots)
unfolding marks_of
ascends_all slots t = ascends_from (marks_from 0 slots) (marks_sorted 0 slots) t

resumed_from : (w : World) (q : Ring) (f : IsResumed w q) (last used : ℕ) (slots : List Slot) → length slots ≡ q.size → recover_from q w.guest last used slots ≡ Ok f.resumed → KeepsAll f.resumed.ring.ring.next_used w
resumed_from w q f last used slots size is =
    let index : ℕ = index_in w.guest q in
    let a = ok_past (ltb last q.size) Head _ f.resumed is in
    let b = ok_off (has_twins (marks_of slots)) Counter _ f.resumed a.1 in
    let c = ok_past (index_covered w.guest q) Outside _ f.resumed b.1 in
    let d = ok_past (eqb (index_in w.guest q) used || eqb (index_in w.guest q) (after used)) UsedMoved _ f.resumed c.1 in
    let e = ok_off (is_spent (marks_of (live_slots slots last used (index_in w.guest q)))) CounterSpent _ f.resumed d.1 in
    let same : resumed_of q last (index_in w.guest q) (live_slots slots last used (index_in w.guest q)) ≡ f.resumed = ok_same (resumed_of q last (index_in w.guest q) (live_slots slots last used (index_in w.guest q))) f.resumed e.1 in
    let word : index_in w.guest q < 2 ^ 16 = (let i : index_in w.guest q ≡ f.resumed.ring.used = ap (λ r. r.ring.used) same in omega (arith, f.word)) in
    let next : next_after (marks_of (live_slots slots last used (index_in w.guest q))) < 2 ^ 64 = (let i : next_after (marks_of (live_slots slots last used (index_in w.guest q))) ≡ f.resumed.ring.next = ap (λ r. r.ring.next) same in omega (arith, f.next)) in
    let k = keeps_resumed q w.guest last (index_in w.guest q) (live_slots slots last used (index_in w.guest q)) f.small (ltb-true last q.size a.0) word refl c.0 (length-live slots last used (index_in w.guest q) ∙ size) next
    (ascends-live slots last used (index_in w.guest q) (ascends_all slots b.0)) in
    move f.resumed.ring.ring.next_used f.resumed.ring w.state w.guest w.guest (numbered 0 f.resumed.again) w.taken [] w.published f.state refl f.taken f.published (subst (λ r. Keeps r.ring.ring.next_used r.ring w.guest (numbered 0 r.again) []) same k)

resumed : (w : World) (q : Ring) (f : IsResumed w q) → KeepsAll f.resumed.ring.ring.next_used w
unfolding recovered
resumed w q f =
    let bs : List ℕ = f.bytes in
    let r : Resumed = f.resumed in
    let a = ok_past (eqb (length f.bytes) (16 + 16 * q.size)) Length _ f.resumed f.is in
    let b = ok_past (eqb (word_in f.bytes 8) 1) Version _ f.resumed a.1 in
    let c = ok_past (eqb (word_in f.bytes 10) q.size) Size _ f.resumed b.1 in
    let d = ok_past (flags_fit q.size (drop 16 f.bytes)) Flag _ f.resumed c.1 in
    resumed_from w q f (word_in f.bytes 12) (word_in f.bytes 14) (slots_in q.size (drop 16 f.bytes)) (length_slots_in q.size (drop 16 f.bytes)) d.1

next_low : (ms : List Mark) (n : ℕ) → Each (λ m. m.counter < n) ms → next_after ms ≤ n
next_low [] n h = omega arith
next_low (m ∷ []) n h = (let lt : m.counter < n = h.0 in omega arith)
next_low (m ∷ x ∷ ms) n h = next_low (x ∷ ms) n h.1

ascends_live_of : (ms : List Mark) (last used index : ℕ) → Ascends ms → Ascends (live_of ms last used index)
unfolding live_of
ascends_live_of ms last used index a = elim (eqb index used) as (λ b. Ascends (cond b ms (without last ms))) [ true ↦ a | false ↦ ascends_kept (λ m. not (eqb m.head last)) ms a ]

-- what goes on keeps what was kept
keeps_restarted : (first : ℕ) (s : State) (g : Guest) (taken : List Entry) (published : List ℕ) (q : Ring) → Keeps first s g taken published → IsLike q s.ring →
    Keeps first (resumed_of q s.last s.ring.next_used (live_slots (clear_in s.slots) s.last s.used s.ring.next_used)).ring g taken published
unfolding marks_of
keeps_restarted first s g taken published q k like =
    let live : List Slot = live_slots (clear_in s.slots) s.last s.used s.ring.next_used in
    let word : used_index_at q ≡ used_index_at s.ring = ap (λ x. x.used + 2) (ap (λ a. at_of (record s.ring { addresses = a })) like.addresses) in
    let marks : marks_of (live_slots (clear_in s.slots) s.last s.used s.ring.next_used) ≡ live_of (marks_of s.slots) s.last s.used s.ring.next_used = live_marks s.slots s.last s.used s.ring.next_used in
    let ascends : Ascends (marks_of (live_slots (clear_in s.slots) s.last s.used s.ring.next_used)) = subst Ascends (sym marks) (ascends_live_of (marks_of s.slots) s.last s.used s.ring.next_used k.ascends) in
    let below : Each (λ m. m.counter < s.next) (marks_of (live_slots (clear_in s.slots) s.last s.used s.ring.next_used)) = subst (λ l. Each (λ m. m.counter < s.next) l) (sym marks) (live_each (λ m. m.counter < s.next) (marks_of s.slots) s.last s.used s.ring.next_used k.below) in
    let again : heads_of (marks_of (live_slots (clear_in s.slots) s.last s.used s.ring.next_used)) ≡ entry_heads (open_of taken published) = ap heads_of marks ∙ sym k.same in
    record {
      covered = ap (λ a. covers g.regions a 2) word ∙ k.covered;
      index = ap (λ a. number_at w16 g a) word ∙ k.index;
      slots = length-live (clear_in s.slots) s.last s.used s.ring.next_used ∙ length-clear_in s.slots ∙ k.slots ∙ sym like.size;
      small = (let e : q.size ≡ s.ring.size = like.size in omega (arith, k.small));
      last = (let e : q.size ≡ s.ring.size = like.size in omega (arith, k.last));
      word = k.word;
      used = k.word;
      next = omega (arith, next_low (marks_of (live_slots (clear_in s.slots) s.last s.used s.ring.next_used)) s.next below, k.next);
      ascends = ascends;
      below = next_above (marks_of (live_slots (clear_in s.slots) s.last s.used s.ring.next_used)) ascends;
      stage = refl;
      same = sym again ∙ ap heads_of (sym (live_whole (marks_of (live_slots (clear_in s.slots) s.last s.used s.ring.next_used)) s.last s.ring.next_used s.ring.next_used refl));
      many = ap (λ n. (s.ring.next_used + n) % 2 ^ 16) (sym (length_heads (marks_of (live_slots (clear_in s.slots) s.last s.used s.ring.next_used))) ∙ ap length again ∙ length_entries (open_of taken published));
      count = ap (λ n. (s.ring.next_used + n) % 2 ^ 16) (sym (length_heads (marks_of (live_slots (clear_in s.slots) s.last s.used s.ring.next_used))) ∙ ap length again ∙ length_entries (open_of taken published)) ∙ sym k.many ∙ k.count;
      apart = k.apart;
      known = k.known;
      passed = k.passed;
      once = k.once;
    }

step : (n : ℕ) (w : World) (c : Call) (v : World) → Step w c v → KeepsAll n w → KeepsAll n v
step n w (takes (entry.Entry c)) v h k =
    move n (state_took w.state c) v.state w.guest v.guest (w.taken ++ record { number = length w.taken; head = c.head } ∷ []) v.taken w.published v.published h.1.2 h.1.3 h.2 h.3
    (keeps_took n w.state w.guest c w.taken w.published k h.0.settled h.0.left (entry_below w.guest w.state.ring c h.1.0) h.1.1)
step n w (takes entry.None) v h k = kept n w v k h.1.1 (same_taken w.taken v.taken h.2) h.3 h.4.0 h.4.1
step n w (takes (entry.Damaged d)) v h k = kept n w v k h.1.1 (same_taken w.taken v.taken h.2) h.3 h.4.0 h.4.1
step n w (takes (entry.Doubled d)) v h k = kept n w v k h.1.2 (same_taken w.taken v.taken h.2) h.3 h.4.0 h.4.1
step n w (marks o) v h k =
    move n (state_marked w.state o) v.state w.guest v.guest w.taken v.taken w.published v.published h.1 h.2.0 h.2.1 h.2.2
    (keeps_marked n w.state w.guest o w.taken w.published k h.0.whole h.0.flies (let low : o < length w.state.slots = flies_below w.state.slots o h.0.flies in omega (arith, k.slots)))
step n w (publishes c reply (Ok b)) v h k =
    let e : Entry = h.3.0 in
    let regions : v.guest.regions ≡ w.guest.regions = ap (λ g. g.regions) h.1.ends.0 ∙ regions-put_guest w.guest w.state.ring c reply in
    let reads : index_in v.guest (state_published w.state c.head).ring ≡ after w.state.ring.next_used = ap (λ g. index_in g w.state.ring) h.1.ends.0 ∙ index_back w.guest w.state.ring c reply h.4.sound k.covered h.4.apart in
    move n (state_published w.state c.head) v.state v.guest v.guest w.taken v.taken (w.published ++ h.3.0.number ∷ []) v.published h.1.ends.1 refl h.2 h.3.3
    (keeps_published n w.state w.guest v.guest c h.3.0 w.taken w.published k h.0.marked h.3.1 h.3.2 regions reads)
step n w (publishes c reply (Err e)) v h k = move n w.state v.state w.guest v.guest w.taken v.taken w.published v.published h.1.ends.0 h.1.ends.1 h.2 h.3 k
step n w (clears o) v h k = move n (state_cleared w.state o) v.state w.guest v.guest w.taken v.taken w.published v.published h.1 h.2.0 h.2.1 h.2.2 (keeps_cleared n w.state w.guest o w.taken w.published k h.0)
step n w settles v h k = move n (state_settled w.state) v.state w.guest v.guest w.taken v.taken w.published v.published h.1 h.2.0 h.2.1 h.2.2 (keeps_settled n w.state w.guest w.taken w.published k h.0)
step n w stores v h k = kept n w v k h.0 h.1 h.2 h.3.0 h.3.1
step n w (restarts q) v h k =
    move n h.1.0.ring v.state w.guest v.guest w.taken v.taken w.published v.published h.1.2 h.2.0 h.2.1 h.2.2
    (subst (λ r. Keeps n r.ring w.guest w.taken w.published) (ok_same (resumed_of q w.state.last w.state.ring.next_used (live_slots (clear_in w.state.slots) w.state.last w.state.used w.state.ring.next_used)) h.1.0 (sym (recovers n w.state w.guest w.taken w.published q k h.0) ∙ h.1.1))
    (keeps_restarted n w.state w.guest w.taken w.published q k h.0))

runs : (n : ℕ) (w : World) (cs : List Call) (v : World) → Runs w cs v → KeepsAll n w → KeepsAll n v
runs n w [] v h k = subst (KeepsAll n) (sym h) k
runs n w (c ∷ cs) v h k = runs n h.0 cs v h.2 (step n w c h.0 h.1 k)

begins : (w : World) → Begins w → KeepsAll w.state.ring.next_used w
begins w (q, inl f) = subst (λ n. KeepsAll n w) (sym (ap (λ s. s.ring.next_used) f.state)) (fresh w q f)
begins w (q, inr f) = subst (λ n. KeepsAll n w) (sym (ap (λ s. s.ring.next_used) f.state)) (resumed w q f)

pub goes_on_after : (w v : World) (calls : List Call) (q : Ring) → Begins w → Runs w calls v → IsLike q v.state.ring → GoesOn w v q
goes_on_after w v calls q b h like =
    let k : KeepsAll w.state.ring.next_used v = runs w.state.ring.next_used w calls v h (begins w b) in
    let on : Onward v.state v.guest v.taken v.published q = goes_on w.state.ring.next_used v.state v.guest v.taken v.published q k like in
    record {
      resumed = on.resumed;
      is = on.is;
      again = on.again;
      next = on.next ∙ k.count;
      uncut = on.next;
      once = k.once;
      found = λ c reply may. found_open w.state.ring.next_used v.state v.guest c.head v.taken v.published k may.marked;
    }
