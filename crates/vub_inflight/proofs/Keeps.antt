-- What every call keeps.
use Rattle.std.proofs.Common.{◌≡◌, ◌≢◌, ◌⊎◌, ℕ, ◌+◌, ◌-◌, ◌%◌, ◌^◌, ◌<◌, inl, inr, Bool, true, false, not, cond, true≢false, List, [], ◌∷◌, ◌++◌, refl, sym, ap, subst, ◌∙◌, arith, eqb, length, get_or, set, length-set, length-append, get_or-set_same, get_or-set_other}
use Rattle.std.specs.List.{filter, list_any, AllByRecursion as Each}
use Rattle.std.proofs.lemmas.Bool.{eq-eqb, ne_eqb, cond-true, cond-false}
use Rattle.vub_mem.specs.Laws.{IsIn}
use Rattle.vub_mem.specs.Memory.{Guest}
use Rattle.vub_queue.specs.EntryNumber.{after}
use Rattle.vub_queue.specs.Layout.{used_index_at}
use Rattle.vub_queue.specs.declared.chain.Chain.{Chain}
use Rattle.vub_mem.specs.Place.{covers}
use Rattle.vub_inflight.specs.Machine.{Entry, open_of, entry_heads}
use Rattle.vub_inflight.specs.declared.mark.Mark.{Mark}
use Rattle.vub_inflight.specs.Order.{marks_of, heads_of}
use Rattle.vub_inflight.specs.Recover.{index_in, index_covered}
use Rattle.vub_inflight.specs.State.{State, idle, in_flight}
use Rattle.vub_inflight.specs.Steps.{IsWhole, state_took, state_marked, state_published, state_cleared, state_settled}
use Rattle.vub_inflight.specs.declared.slot.Slot.{Slot}
use Rattle.vub_inflight.specs.declared.stage.Stage.{Stage}
use Rattle.vub_inflight.specs.declared.stage.Stage.TheVariants.{Settled, Marked, Published, Cleared}
use Rattle.vub_inflight.proofs.MarkLaws.{marks_from, without, weaker, kept_each, each_append, marks_taken, marks_cleared, mark_there, no_mark, without_none, without_push}
use Rattle.vub_inflight.proofs.Entries.{Apart, numbers_of, others, but, goes, heads-without, marks_apart, apart_kept, apart_push, apart_open, open_taken, open_published, map_each, in_each, not_published, once_push, entry_with}

-- each counter is below all that follow
abbrev pub Ascends : List Mark → Type 0
Ascends [] = Unit {0}
Ascends (m ∷ ns) = Each (λ n. m.counter < n.counter) ns × Ascends ns

ascends_push : (ms : List Mark) (m : Mark) → Ascends ms → Each (λ n. n.counter < m.counter) ms → Ascends (ms ++ m ∷ [])
ascends_push [] m a h = (tt, tt)
ascends_push (n ∷ ns) m a h = (each_append (λ x. n.counter < x.counter) ns m a.0 h.0, ascends_push ns m a.1 h.1)

pub ascends_kept : (p : Mark → Bool) (ms : List Mark) → Ascends ms → Ascends (filter p ms)
ascends_kept p [] a = tt
ascends_kept p (m ∷ ms) a =
    elim (p m) as (λ b. Ascends (cond b (m ∷ filter p ms) (filter p ms))) [ true ↦ (kept_each (λ x. m.counter < x.counter) p ms a.0, ascends_kept p ms a.1) | false ↦ ascends_kept p ms a.1 ]

-- the marks of the entries that are open: where a use was published and not settled, its head is not
unfoldable pub live_of : List Mark → ℕ → ℕ → ℕ → List Mark
live_of ms last used index = cond (eqb index used) ms (without last ms)

pub live_whole : (ms : List Mark) (last used index : ℕ) → used ≡ index → live_of ms last used index ≡ ms
unfolding live_of
live_whole ms last used index e = cond-true (eqb index used) ms (without last ms) (eq-eqb index used (sym e))

pub live_half : (ms : List Mark) (last used index : ℕ) → (index ≡ used → ⊥) → live_of ms last used index ≡ without last ms
unfolding live_of
live_half ms last used index ne = cond-false (eqb index used) ms (without last ms) (ne_eqb index used ne)

-- how the record stands at each stage
abbrev pub StageIs : Stage → State → Type 0
StageIs Settled s = s.used ≡ s.ring.next_used
StageIs (Marked h) s = (s.used ≡ s.ring.next_used) × (s.last ≡ h) × (in_flight s h ≡ true)
StageIs (Published h) s = (s.ring.next_used ≡ after s.used) × (s.last ≡ h) × (in_flight s h ≡ true)
StageIs Cleared s = (s.ring.next_used ≡ after s.used) × (in_flight s s.last ≡ false)

-- What every call keeps, in a ring whose first entry has this number: the record, memory and the lists agree.
pub record Keeps (first : ℕ) (s : State) (g : Guest) (taken : List Entry) (published : List ℕ) : Type 0 where
  pub covered : index_covered g s.ring ≡ true
  pub index : index_in g s.ring ≡ s.ring.next_used
  pub slots : length s.slots ≡ s.ring.size
  pub small : s.ring.size < 2 ^ 16
  pub last : s.last < s.ring.size
  pub word : s.ring.next_used < 2 ^ 16
  pub used : s.used < 2 ^ 16
  pub next : s.next < 2 ^ 64
  pub ascends : Ascends (marks_of s.slots)
  pub below : Each (λ m. m.counter < s.next) (marks_of s.slots)
  pub stage : StageIs s.stage s
  pub same : entry_heads (open_of taken published) ≡ heads_of (live_of (marks_of s.slots) s.last s.used s.ring.next_used)
  pub many : s.ring.next_avail ≡ (s.ring.next_used + length (open_of taken published)) % 2 ^ 16
  pub count : s.ring.next_avail ≡ (first + length taken) % 2 ^ 16
  pub apart : Apart (numbers_of taken)
  pub known : Each (λ e. e.number < length taken) taken
  pub passed : Each (λ n. n < length taken) published
  pub once : Apart published

-- the index of a use that is half done is another than the record's
pub moved : (used index : ℕ) → used < 2 ^ 16 → index ≡ after used → index ≡ used → ⊥
moved used index h a e = absurd (let cases : (used + 1 < 2 ^ 16) ⊎ (used + 1 ≡ 2 ^ 16) = grind arith in elim cases [ inl lt ↦ (let m : (used + 1) % 2 ^ 16 ≡ used + 1 = omega arith in omega arith) | inr eq ↦ (let m : (used + 1) % 2 ^ 16 ≡ 0 = omega arith in omega arith) ])

live_push : (ms : List Mark) (last used index : ℕ) (m : Mark) → (index ≡ used → ⊥) → m.head ≢ last → live_of (ms ++ m ∷ []) last used index ≡ live_of ms last used index ++ m ∷ []
live_push ms last used index m half ne = live_half (ms ++ m ∷ []) last used index half ∙ without_push last ms m ne ∙ ap (λ l. l ++ m ∷ []) (sym (live_half ms last used index half))

live_push_whole : (ms : List Mark) (last used index : ℕ) (m : Mark) → used ≡ index → live_of (ms ++ m ∷ []) last used index ≡ live_of ms last used index ++ m ∷ []
live_push_whole ms last used index m e = live_whole (ms ++ m ∷ []) last used index e ∙ ap (λ l. l ++ m ∷ []) (sym (live_whole ms last used index e))

-- the head that is taken is not the one that is published and in flight
live_more : (st : Stage) (s : State) (ms : List Mark) (m : Mark) → s.used < 2 ^ 16 → (st ≡ Cleared → ⊥) → StageIs st s → in_flight s m.head ≡ false → live_of (ms ++ m ∷ []) s.last s.used s.ring.next_used ≡ live_of ms s.last s.used s.ring.next_used ++ m ∷ []
live_more Settled s ms m w not_cleared is f = live_push_whole ms s.last s.used s.ring.next_used m is
live_more (Marked h) s ms m w not_cleared is f = live_push_whole ms s.last s.used s.ring.next_used m is.0
live_more (Published h) s ms m w not_cleared is f = live_push ms s.last s.used s.ring.next_used m (moved s.used s.ring.next_used w is.0) (λ e. true≢false (sym is.2 ∙ ap (in_flight s) (sym is.1) ∙ sym (ap (in_flight s) e) ∙ f))
live_more Cleared s ms m w not_cleared is f = absurd (not_cleared refl)

-- a slot that is set leaves the others in flight
flies_on : (ss : List Slot) (h k : ℕ) (x : Slot) → (get_or ss k idle).in_flight ≡ false → (get_or ss h idle).in_flight ≡ true → (get_or (set ss k x) h idle).in_flight ≡ true
flies_on ss h k x f t =
    let ne : h ≢ k = λ e. true≢false (sym t ∙ ap (λ n. (get_or ss n idle).in_flight) e ∙ f) in
    ap (λ s. s.in_flight) (get_or-set_other ss k h x idle ne) ∙ t

stage_took : (st : Stage) (s : State) (c : Chain) → (st ≡ Cleared → ⊥) → in_flight s c.head ≡ false → StageIs st s → StageIs st (state_took s c)
stage_took Settled s c whole f is = is
stage_took (Marked h) s c whole f is = (is.0, is.1, flies_on s.slots h c.head (record { in_flight = true; counter = s.next }) f is.2)
stage_took (Published h) s c whole f is = (is.0, is.1, flies_on s.slots h c.head (record { in_flight = true; counter = s.next }) f is.2)
stage_took Cleared s c whole f is = absurd (whole refl)

wrap : (a n : ℕ) → ((a + n) % 2 ^ 16 + 1) % 2 ^ 16 ≡ (a + (n + 1)) % 2 ^ 16
wrap a n = omega arith

heads_push : (es : List Entry) (e : Entry) → entry_heads (es ++ e ∷ []) ≡ entry_heads es ++ e.head ∷ []
heads_push [] e = refl
heads_push (x ∷ es) e = ap (λ l. x.head ∷ l) (heads_push es e)

numbers_push : (es : List Entry) (e : Entry) → numbers_of (es ++ e ∷ []) ≡ numbers_of es ++ e.number ∷ []
numbers_push [] e = refl
numbers_push (x ∷ es) e = ap (λ l. x.number ∷ l) (numbers_push es e)

marks_push : (ms : List Mark) (m : Mark) → heads_of (ms ++ m ∷ []) ≡ heads_of ms ++ m.head ∷ []
marks_push [] m = refl
marks_push (x ∷ ms) m = ap (λ l. x.head ∷ l) (marks_push ms m)

pub keeps_took : (first : ℕ) (s : State) (g : Guest) (c : Chain) (taken : List Entry) (published : List ℕ) → Keeps first s g taken published → (s.stage ≡ Cleared → ⊥) → s.next < 2 ^ 64 - 1 → c.head < s.ring.size → in_flight s c.head ≡ false →
    Keeps first (state_took s c) g (taken ++ record { number = length taken; head = c.head } ∷ []) published
unfolding marks_of
keeps_took first s g c taken published k not_cleared left below flies =
    let e : Entry = record { number = length taken; head = c.head } in
    let m : Mark = record { counter = s.next; head = c.head } in
    let low : c.head < length s.slots = omega (arith, k.slots) in
    let zero_add : 0 + c.head ≡ c.head = omega arith in
    let ms : marks_of (set s.slots c.head (record { in_flight = true; counter = s.next })) ≡ marks_of s.slots ++ record { counter = s.next; head = c.head } ∷ [] =
    marks_taken 0 c.head s.next s.slots low flies k.below ∙ ap (λ h. marks_of s.slots ++ record { counter = s.next; head = h } ∷ []) zero_add in
    let opens : open_of (taken ++ e ∷ []) published ≡ open_of taken published ++ e ∷ [] = open_taken taken published e k.passed in
    let longer : length (taken ++ record { number = length taken; head = c.head } ∷ []) ≡ length taken + 1 = length-append taken (record { number = length taken; head = c.head } ∷ []) in
    record {
      covered = k.covered;
      index = k.index;
      slots = length-set s.slots c.head (record { in_flight = true; counter = s.next }) ∙ k.slots;
      small = k.small;
      last = k.last;
      word = k.word;
      used = k.used;
      next = omega arith;
      ascends = subst Ascends (sym ms) (ascends_push (marks_of s.slots) m k.ascends k.below);
      below = subst (λ l. Each (λ x. x.counter < s.next + 1) l) (sym ms) (each_append (λ x. x.counter < s.next + 1) (marks_of s.slots) m (weaker (λ x. x.counter < s.next) (λ x. x.counter < s.next + 1) (λ x h. omega arith) (marks_of s.slots) k.below) (omega arith));
      stage = stage_took s.stage s c not_cleared flies k.stage;
      same =
          ap entry_heads opens ∙ heads_push (open_of taken published) e ∙ ap (λ l. l ++ c.head ∷ []) k.same
          ∙ sym (marks_push (live_of (marks_of s.slots) s.last s.used s.ring.next_used) m)
          ∙ ap heads_of (sym (live_more s.stage s (marks_of s.slots) m k.used not_cleared k.stage flies))
          ∙ ap (λ l. heads_of (live_of l s.last s.used s.ring.next_used)) (sym ms);
      many = ap (λ n. (n + 1) % 2 ^ 16) k.many ∙ wrap s.ring.next_used (length (open_of taken published)) ∙ ap (λ n. (s.ring.next_used + n) % 2 ^ 16) (sym (ap length opens ∙ length-append (open_of taken published) (record { number = length taken; head = c.head } ∷ [])));
      count = ap (λ n. (n + 1) % 2 ^ 16) k.count ∙ wrap first (length taken) ∙ ap (λ n. (first + n) % 2 ^ 16) (sym longer);
      apart = subst Apart (sym (numbers_push taken e)) (apart_push (numbers_of taken) (length taken) k.apart (map_each (λ x. x.number) (λ n. n < length taken) taken k.known));
      known = subst (λ n. Each (λ x. x.number < n) (taken ++ record { number = length taken; head = c.head } ∷ [])) (sym longer) (each_append (λ x. x.number < length taken + 1) taken e (weaker (λ x. x.number < length taken) (λ x. x.number < length taken + 1) (λ x h. omega arith) taken k.known) (omega arith));
      passed = subst (λ n. Each (λ x. x < n) published) (sym longer) (weaker (λ x. x < length taken) (λ x. x < length taken + 1) (λ x h. omega arith) published k.passed);
      once = k.once;
    }

whole_used : (st : Stage) (s : State) → IsWhole st → StageIs st s → s.used ≡ s.ring.next_used
whole_used Settled s w is = is
whole_used (Marked h) s w is = is.0
whole_used (Published h) s w is = absurd w
whole_used Cleared s w is = absurd w

pub keeps_marked : (first : ℕ) (s : State) (g : Guest) (h : ℕ) (taken : List Entry) (published : List ℕ) → Keeps first s g taken published → IsWhole s.stage → in_flight s h ≡ true → h < s.ring.size → Keeps first (state_marked s h) g taken published
keeps_marked first s g h taken published k whole flies below =
    let used : s.used ≡ s.ring.next_used = whole_used s.stage s whole k.stage in
    record {
      covered = k.covered;
      index = k.index;
      slots = k.slots;
      small = k.small;
      last = below;
      word = k.word;
      used = k.used;
      next = k.next;
      ascends = k.ascends;
      below = k.below;
      stage = (used, refl, flies);
      same = k.same ∙ ap heads_of (live_whole (marks_of s.slots) s.last s.used s.ring.next_used used ∙ sym (live_whole (marks_of s.slots) h s.used s.ring.next_used used));
      many = k.many;
      count = k.count;
      apart = k.apart;
      known = k.known;
      passed = k.passed;
      once = k.once;
    }

-- the heads of the open entries do not come twice
pub open_apart : (first : ℕ) (s : State) (g : Guest) (taken : List Entry) (published : List ℕ) → Keeps first s g taken published → Apart (entry_heads (open_of taken published))
unfolding live_of marks_of
open_apart first s g taken published k =
    subst Apart (sym k.same) (elim (eqb s.ring.next_used s.used) as (λ b. Apart (heads_of (cond b (marks_from 0 s.slots) (without s.last (marks_from 0 s.slots))))) [
      | true ↦ marks_apart 0 s.slots
      | false ↦ subst Apart (sym (heads-without s.last (marks_from 0 s.slots))) (apart_kept (λ n. not (eqb n s.last)) (heads_of (marks_from 0 s.slots)) (marks_apart 0 s.slots))
    ])

after_small : (n : ℕ) → after n < 2 ^ 16
after_small n = omega arith

one_less : (a b n m : ℕ) → n ≡ (a + m) % 2 ^ 16 → b + 1 ≡ m → n ≡ ((a + 1) % 2 ^ 16 + b) % 2 ^ 16
one_less a b n m e d = (let up : a + m ≡ a + 1 + b = omega arith in e ∙ ap (λ x. x % 2 ^ 16) up ∙ (let w : (a + 1 + b) % 2 ^ 16 ≡ ((a + 1) % 2 ^ 16 + b) % 2 ^ 16 = omega arith in w))

pub keeps_published : (first : ℕ) (s : State) (g h : Guest) (c : Chain) (e : Entry) (taken : List Entry) (published : List ℕ) → Keeps first s g taken published → s.stage ≡ Marked c.head → IsIn e (open_of taken published) → e.head ≡ c.head →
    h.regions ≡ g.regions → index_in h (state_published s c.head).ring ≡ after s.ring.next_used → Keeps first (state_published s c.head) h taken (published ++ e.number ∷ [])
keeps_published first s g h c e taken published k marked is head regions reads =
    let at : (s.used ≡ s.ring.next_used) × (s.last ≡ c.head) × (in_flight s c.head ≡ true) = subst (λ st. StageIs st s) marked k.stage in
    let next : s.ring.next_used ≡ s.used = sym at.0 in
    let half : after s.ring.next_used ≡ s.used → ⊥ = λ q. moved s.used (after s.ring.next_used) k.used (ap after next) q in
    let gone = goes (open_of taken published) e is (apart_open (λ x. not (list_any (λ n. eqb n x.number) published)) taken k.apart) (open_apart first s g taken published k) in
    let opens : open_of taken (published ++ e.number ∷ []) ≡ but e.number (open_of taken published) = open_published taken published e.number in
    let live : live_of (marks_of s.slots) s.last s.used (after s.ring.next_used) ≡ without s.last (marks_of s.slots) = live_half (marks_of s.slots) s.last s.used (after s.ring.next_used) half in
    let was : live_of (marks_of s.slots) s.last s.used s.ring.next_used ≡ marks_of s.slots = live_whole (marks_of s.slots) s.last s.used s.ring.next_used at.0 in
    let all : Each (λ x. x.number < length taken) (open_of taken published) = kept_each (λ x. x.number < length taken) (λ x. not (list_any (λ n. eqb n x.number) published)) taken k.known in
    record {
      covered = ap (λ rs. covers rs (used_index_at s.ring) 2) regions ∙ k.covered;
      index = reads;
      slots = k.slots;
      small = k.small;
      last = k.last;
      word = after_small s.ring.next_used;
      used = k.used;
      next = k.next;
      ascends = k.ascends;
      below = k.below;
      stage = (ap after next, at.1, at.2);
      same =
          ap entry_heads opens ∙ gone.0 ∙ ap (λ n. others n (entry_heads (open_of taken published))) (head ∙ sym at.1) ∙ ap (others s.last) (k.same ∙ ap heads_of was)
          ∙ sym (ap heads_of live ∙ heads-without s.last (marks_of s.slots));
      many = one_less s.ring.next_used (length (open_of taken (published ++ e.number ∷ []))) s.ring.next_avail (length (open_of taken published)) k.many (let l : length (open_of taken (published ++ e.number ∷ [])) ≡ length (but e.number (open_of taken published)) = ap length opens in omega (arith, gone.1));
      count = k.count;
      apart = k.apart;
      known = k.known;
      passed = each_append (λ n. n < length taken) published e.number k.passed (in_each (λ x. x.number < length taken) (open_of taken published) e is all);
      once = once_push published e.number k.once (not_published taken published e is);
    }

pub keeps_cleared : (first : ℕ) (s : State) (g : Guest) (h : ℕ) (taken : List Entry) (published : List ℕ) → Keeps first s g taken published → s.stage ≡ Published h → Keeps first (state_cleared s h) g taken published
unfolding marks_of
keeps_cleared first s g h taken published k published_last =
    let at : (s.ring.next_used ≡ after s.used) × (s.last ≡ h) × (in_flight s h ≡ true) = subst (λ st. StageIs st s) published_last k.stage in
    let half : s.ring.next_used ≡ s.used → ⊥ = moved s.used s.ring.next_used k.used at.0 in
    let zero_add : 0 + h ≡ h = omega arith in
    let ms : marks_of (set s.slots h idle) ≡ without h (marks_of s.slots) = marks_cleared 0 h s.slots ∙ ap (λ n. without n (marks_of s.slots)) zero_add in
    let low : h < length s.slots = (let same : s.last ≡ h = at.1 in omega (arith, k.slots, k.last)) in
    let off : (get_or (set s.slots h idle) h idle).in_flight ≡ false = ap (λ x. x.in_flight) (get_or-set_same s.slots h idle idle low) in
    let off_last : (get_or (set s.slots h idle) s.last idle).in_flight ≡ false = ap (λ n. (get_or (set s.slots h idle) n idle).in_flight) at.1 ∙ off in
    let none : without s.last (marks_of (set s.slots h idle)) ≡ marks_of (set s.slots h idle) =
    without_none s.last (marks_of (set s.slots h idle)) (let n : Each (λ m. m.head ≢ 0 + s.last) (marks_from 0 (set s.slots h idle)) = no_mark 0 s.last (set s.slots h idle) off_last in let z : 0 + s.last ≡ s.last = omega arith in subst (λ i. Each (λ m. m.head ≢ i) (marks_from 0 (set s.slots h idle))) z n) in
    record {
      covered = k.covered;
      index = k.index;
      slots = length-set s.slots h idle ∙ k.slots;
      small = k.small;
      last = k.last;
      word = k.word;
      used = k.used;
      next = k.next;
      ascends = subst Ascends (sym ms) (ascends_kept (λ m. not (eqb m.head h)) (marks_of s.slots) k.ascends);
      below = subst (λ l. Each (λ m. m.counter < s.next) l) (sym ms) (kept_each (λ m. m.counter < s.next) (λ m. not (eqb m.head h)) (marks_of s.slots) k.below);
      stage = (at.0, off_last);
      same =
          k.same ∙ ap heads_of (live_half (marks_of s.slots) s.last s.used s.ring.next_used half ∙ ap (λ n. without n (marks_of s.slots)) at.1 ∙ sym ms ∙ sym none
          ∙ sym (live_half (marks_of (set s.slots h idle)) s.last s.used s.ring.next_used half));
      many = k.many;
      count = k.count;
      apart = k.apart;
      known = k.known;
      passed = k.passed;
      once = k.once;
    }

pub keeps_settled : (first : ℕ) (s : State) (g : Guest) (taken : List Entry) (published : List ℕ) → Keeps first s g taken published → s.stage ≡ Cleared → Keeps first (state_settled s) g taken published
unfolding marks_of
keeps_settled first s g taken published k cleared =
    let at : (s.ring.next_used ≡ after s.used) × (in_flight s s.last ≡ false) = subst (λ st. StageIs st s) cleared k.stage in
    let half : s.ring.next_used ≡ s.used → ⊥ = moved s.used s.ring.next_used k.used at.0 in
    let none : without s.last (marks_of s.slots) ≡ marks_of s.slots =
    without_none s.last (marks_of s.slots) (let n : Each (λ m. m.head ≢ 0 + s.last) (marks_from 0 s.slots) = no_mark 0 s.last s.slots at.1 in let z : 0 + s.last ≡ s.last = omega arith in subst (λ i. Each (λ m. m.head ≢ i) (marks_from 0 s.slots)) z n) in
    record {
      covered = k.covered;
      index = k.index;
      slots = k.slots;
      small = k.small;
      last = k.last;
      word = k.word;
      used = k.word;
      next = k.next;
      ascends = k.ascends;
      below = k.below;
      stage = refl;
      same = k.same ∙ ap heads_of (live_half (marks_of s.slots) s.last s.used s.ring.next_used half ∙ none ∙ sym (live_whole (marks_of s.slots) s.last s.ring.next_used s.ring.next_used refl));
      many = k.many;
      count = k.count;
      apart = k.apart;
      known = k.known;
      passed = k.passed;
      once = k.once;
    }

-- what may be published is the reply to an open entry
pub found_open : (first : ℕ) (s : State) (g : Guest) (h : ℕ) (taken : List Entry) (published : List ℕ) → Keeps first s g taken published → s.stage ≡ Marked h → (e : Entry) × IsIn e (open_of taken published) × (e.head ≡ h)
unfolding marks_of
found_open first s g h taken published k marked =
    let at : (s.used ≡ s.ring.next_used) × (s.last ≡ h) × (in_flight s h ≡ true) = subst (λ st. StageIs st s) marked k.stage in
    let was : live_of (marks_of s.slots) s.last s.used s.ring.next_used ≡ marks_of s.slots = live_whole (marks_of s.slots) s.last s.used s.ring.next_used at.0 in
    let zero_add : 0 + h ≡ h = omega arith in
    let there : IsIn h (heads_of (marks_of s.slots)) = subst (λ n. IsIn n (heads_of (marks_from 0 s.slots))) zero_add (mark_there 0 h s.slots at.2) in
    entry_with h (open_of taken published) (subst (λ l. IsIn h l) (sym (k.same ∙ ap heads_of was)) there)

-- the memory changes, but not the used index word
pub keeps_memory : (first : ℕ) (s : State) (g h : Guest) (taken : List Entry) (published : List ℕ) → Keeps first s g taken published → h.regions ≡ g.regions → index_in h s.ring ≡ index_in g s.ring → Keeps first s h taken published
keeps_memory first s g h taken published k regions reads = record {
  covered = ap (λ rs. covers rs (used_index_at s.ring) 2) regions ∙ k.covered;
  index = reads ∙ k.index;
  slots = k.slots;
  small = k.small;
  last = k.last;
  word = k.word;
  used = k.used;
  next = k.next;
  ascends = k.ascends;
  below = k.below;
  stage = k.stage;
  same = k.same;
  many = k.many;
  count = k.count;
  apart = k.apart;
  known = k.known;
  passed = k.passed;
  once = k.once;
}
