-- Whatever calls were made, a cut loses nothing.
use Rattle.std.proofs.Common.{◌≡◌, ℕ, suc, ◌+◌, ◌-◌, ◌*◌, ◌%◌, ◌^◌, ◌<◌, Bool, true, false, not, ◌||◌, cond, List, [], ◌∷◌, Ok, Err, refl, sym, ap, ap₂, ◌∙◌, arith, ltb, eqb, length, set, drop}
use Rattle.std.specs.List.{AllByRecursion as Each}
use Rattle.std.proofs.lemmas.Bool.{eq-eqb, ne_eqb, lt-ltb, cond-false, or_left, or_right, or_from}
use Rattle.vub_mem.specs.Memory.{Guest}
use Rattle.vub_mem.specs.Place.{covers, number_at}
use Rattle.std.specs.Int.{w16}
use Rattle.vub_queue.specs.EntryNumber.{after}
use Rattle.vub_queue.specs.Layout.{used_index_at, at_of}
use Rattle.vub_queue.specs.Ring.{Ring}
use Rattle.vub_inflight.specs.Bytes.{record_of, word_in, slots_in, flags_fit}
use Rattle.vub_inflight.specs.Machine.{Entry, IsLike, open_of, entry_heads}
use Rattle.vub_inflight.specs.declared.mark.Mark.{Mark}
use Rattle.vub_inflight.specs.Order.{marks_of, heads_of, has_twins, is_spent}
use Rattle.vub_inflight.specs.Recover.{index_in, index_covered, live_slots, recover_from, recovered, resumed_of}
use Rattle.vub_inflight.specs.State.{State, idle}
use Rattle.vub_inflight.specs.declared.error.RecoverError.TheVariants.{Length, Version, Size, Flag, Head, Counter, Outside, UsedMoved, CounterSpent}
use Rattle.vub_inflight.specs.declared.resumed.Resumed.{Resumed}
use Rattle.vub_inflight.specs.declared.slot.Slot.{Slot}
use Rattle.vub_inflight.specs.declared.stage.Stage.{Stage}
use Rattle.vub_inflight.specs.declared.stage.Stage.TheVariants.{Settled, Marked, Published, Cleared}
use Rattle.vub_inflight.proofs.MarkLaws.{marks_from, without, kept_each, marks_cleared}
use Rattle.vub_inflight.proofs.Round.{clear_in, Fits, slots_round, flags_round, length-record_of, rest-record_of, version-record_of, size-record_of, last-record_of, used-record_of, fits_from, marks-clear_in}
use Rattle.vub_inflight.proofs.Keeps.{Ascends, Keeps, StageIs, live_of}

no_twins : (ms : List Mark) → Ascends ms → has_twins ms ≡ false
no_twins [] a = refl
no_twins (m ∷ []) a = refl
no_twins (m ∷ n ∷ ns) a = or_from (eqb m.counter n.counter) (has_twins (n ∷ ns)) (ne_eqb m.counter n.counter (λ e. absurd (let lt : m.counter < n.counter = a.0.0 in omega arith))) (no_twins (n ∷ ns) a.1)

not_spent : (ms : List Mark) (n : ℕ) → n < 2 ^ 64 → Each (λ m. m.counter < n) ms → is_spent ms ≡ false
not_spent [] n h all = refl
not_spent (m ∷ ms) n h all = or_from (eqb m.counter (2 ^ 64 - 1)) (is_spent ms) (ne_eqb m.counter (2 ^ 64 - 1) (λ e. absurd (let lt : m.counter < n = all.0 in omega arith))) (not_spent ms n h all.1)

-- the index is the record's, or one more
near : (st : Stage) (s : State) → StageIs st s → (eqb s.ring.next_used s.used || eqb s.ring.next_used (after s.used)) ≡ true
near Settled s is = or_left (eqb s.ring.next_used s.used) (eqb s.ring.next_used (after s.used)) (eq-eqb s.ring.next_used s.used (sym is))
near (Marked h) s is = or_left (eqb s.ring.next_used s.used) (eqb s.ring.next_used (after s.used)) (eq-eqb s.ring.next_used s.used (sym is.0))
near (Published h) s is = or_right (eqb s.ring.next_used s.used) (eqb s.ring.next_used (after s.used)) (eq-eqb s.ring.next_used (after s.used) is.0)
near Cleared s is = or_right (eqb s.ring.next_used s.used) (eqb s.ring.next_used (after s.used)) (eq-eqb s.ring.next_used (after s.used) is.0)

-- the marks of the slots that are read and lived through
pub live_marks : (slots : List Slot) (last used index : ℕ) → marks_of (live_slots (clear_in slots) last used index) ≡ live_of (marks_of slots) last used index
unfolding marks_of live_of
live_marks slots last used index =
    elim (eqb index used) as (λ b. marks_from 0 (cond b (clear_in slots) (set (clear_in slots) last idle)) ≡ cond b (marks_from 0 slots) (without last (marks_from 0 slots))) [
      | true ↦ marks-clear_in 0 slots
      | false ↦ marks_cleared 0 last (clear_in slots) ∙ (let z : 0 + last ≡ last = omega arith in ap (λ n. without n (marks_from 0 (clear_in slots))) z) ∙ ap (without last) (marks-clear_in 0 slots)
    ]

pub live_each : (P : Mark → Type 0) (ms : List Mark) (last used index : ℕ) → Each P ms → Each P (live_of ms last used index)
unfolding live_of
live_each P ms last used index all = elim (eqb index used) as (λ b. Each P (cond b ms (without last ms))) [ true ↦ all | false ↦ kept_each P (λ m. not (eqb m.head last)) ms all ]

past : {A : Type 0} (b : Bool) (x y z : A) → not b ≡ false → y ≡ z → cond (not b) x y ≡ z
past b x y z f e = cond-false (not b) x y f ∙ e

past_off : {A : Type 0} (b : Bool) (x y z : A) → b ≡ false → y ≡ z → cond b x y ≡ z
past_off b x y z f e = cond-false b x y f ∙ e

-- the tests all pass
pub goes_on_from : (q : Ring) (g : Guest) (last used index : ℕ) (slots : List Slot) → index_in g q ≡ index → last < q.size → has_twins (marks_of slots) ≡ false → index_covered g q ≡ true → (eqb index used || eqb index (after used)) ≡ true →
    is_spent (marks_of (live_slots slots last used index)) ≡ false → recover_from q g last used slots ≡ Ok (resumed_of q last index (live_slots slots last used index))
goes_on_from q g last used index slots is below twins covered close spent =
    past (ltb last q.size) (Err Head) _ _ (ap not (lt-ltb last q.size below))
    (past_off (has_twins (marks_of slots)) (Err Counter) _ _ twins
    (past (index_covered g q) (Err Outside) _ _ (ap not covered)
    (past ((eqb (index_in g q) used || eqb (index_in g q) (after used))) (Err UsedMoved) _ _ (ap not (ap (λ n. eqb n used || eqb n (after used)) is ∙ close))
    (past_off (is_spent (marks_of (live_slots slots last used (index_in g q)))) (Err CounterSpent) _ _ (ap (λ n. is_spent (marks_of (live_slots slots last used n))) is ∙ spent)
    (ap (λ n. Ok (resumed_of q last n (live_slots slots last used n))) is)))))

-- the record of a state is read as it was written
reads_record : (s : State) (q : Ring) (g : Guest) → q.size ≡ s.ring.size → length s.slots ≡ s.ring.size → s.ring.size < 2 ^ 16 → s.last < 2 ^ 16 → s.used < 2 ^ 16 → Fits s.slots →
    recovered (record_of s) q g ≡ recover_from q g s.last s.used (clear_in s.slots)
unfolding recovered
reads_record s q g size slots small last used fits =
    let long : length (record_of s) ≡ 16 + 16 * q.size = omega (arith, length-record_of s) in
    let count : q.size ≡ length s.slots = size ∙ sym slots in
    let flags : flags_fit q.size (drop 16 (record_of s)) ≡ true = ap₂ flags_fit count (rest-record_of s) ∙ flags_round s.slots in
    let read : slots_in q.size (drop 16 (record_of s)) ≡ clear_in s.slots = ap₂ slots_in count (rest-record_of s) ∙ slots_round s.slots fits in
    past (eqb (length (record_of s)) (16 + 16 * q.size)) (Err Length) _ _ (ap not (eq-eqb (length (record_of s)) (16 + 16 * q.size) long))
    (past (eqb (word_in (record_of s) 8) 1) (Err Version) _ _ (ap not (eq-eqb (word_in (record_of s) 8) 1 (version-record_of s)))
    (past (eqb (word_in (record_of s) 10) q.size) (Err Size) _ _ (ap not (eq-eqb (word_in (record_of s) 10) q.size (size-record_of s small ∙ sym size)))
    (past (flags_fit q.size (drop 16 (record_of s))) (Err Flag) _ _ (ap not flags)
    (ap (recover_from q g (word_in (record_of s) 12) (word_in (record_of s) 14)) read ∙ ap₂ (λ l u. recover_from q g l u (clear_in s.slots)) (last-record_of s last) (used-record_of s used)))))

pub length_heads : (ms : List Mark) → length (heads_of ms) ≡ length ms
length_heads [] = refl
length_heads (m ∷ ms) = ap suc (length_heads ms)

pub length_entries : (es : List Entry) → length (entry_heads es) ≡ length es
length_entries [] = refl
length_entries (e ∷ es) = ap suc (length_entries es)

pub recovers : (first : ℕ) (s : State) (g : Guest) (taken : List Entry) (published : List ℕ) (q : Ring) → Keeps first s g taken published → IsLike q s.ring →
    recovered (record_of s) q g ≡ Ok (resumed_of q s.last s.ring.next_used (live_slots (clear_in s.slots) s.last s.used s.ring.next_used))
unfolding marks_of
recovers first s g taken published q k like =
    let word : used_index_at q ≡ used_index_at s.ring = ap (λ x. x.used + 2) (ap (λ a. at_of (record s.ring { addresses = a })) like.addresses) in
    let index : index_in g q ≡ s.ring.next_used = ap (λ a. number_at w16 g a) word ∙ k.index in
    let covered : index_covered g q ≡ true = ap (λ a. covers g.regions a 2) word ∙ k.covered in
    let marks : marks_of (live_slots (clear_in s.slots) s.last s.used s.ring.next_used) ≡ live_of (marks_of s.slots) s.last s.used s.ring.next_used = live_marks s.slots s.last s.used s.ring.next_used in
    let below : s.last < q.size = (let size : q.size ≡ s.ring.size = like.size in omega (arith, k.last)) in
    reads_record s q g like.size k.slots k.small (omega (arith, k.last, k.small)) k.used (fits_from 0 s.next s.slots (omega (arith, k.next)) k.below)
    ∙ goes_on_from q g s.last s.used s.ring.next_used (clear_in s.slots) index below (ap has_twins (marks-clear_in 0 s.slots) ∙ no_twins (marks_of s.slots) k.ascends) covered (near s.stage s k.stage)
    (ap is_spent marks ∙ not_spent (live_of (marks_of s.slots) s.last s.used s.ring.next_used) s.next k.next (live_each (λ m. m.counter < s.next) (marks_of s.slots) s.last s.used s.ring.next_used k.below))

-- What going on gives, and where it goes on.
pub record Onward (s : State) (g : Guest) (taken : List Entry) (published : List ℕ) (q : Ring) : Type 0 where
  pub resumed : Resumed
  pub is : recovered (record_of s) q g ≡ Ok resumed
  pub again : resumed.again ≡ entry_heads (open_of taken published)
  pub next : resumed.ring.ring.next_avail ≡ s.ring.next_avail

pub goes_on : (first : ℕ) (s : State) (g : Guest) (taken : List Entry) (published : List ℕ) (q : Ring) → Keeps first s g taken published → IsLike q s.ring → Onward s g taken published q
unfolding marks_of
goes_on first s g taken published q k like =
    let again : heads_of (marks_of (live_slots (clear_in s.slots) s.last s.used s.ring.next_used)) ≡ entry_heads (open_of taken published) = ap heads_of (live_marks s.slots s.last s.used s.ring.next_used) ∙ sym k.same in
    let many : length (marks_of (live_slots (clear_in s.slots) s.last s.used s.ring.next_used)) ≡ length (open_of taken published) =
    sym (length_heads (marks_of (live_slots (clear_in s.slots) s.last s.used s.ring.next_used))) ∙ ap length again ∙ length_entries (open_of taken published) in
    record {
      resumed = resumed_of q s.last s.ring.next_used (live_slots (clear_in s.slots) s.last s.used s.ring.next_used);
      is = recovers first s g taken published q k like;
      again = again;
      next = ap (λ n. (s.ring.next_used + n) % 2 ^ 16) many ∙ sym k.many;
    }
