-- A step of a queue's worker goes with the queue's being served alone.
use Rattle.std.proofs.Common.{◌≡◌, ℕ, suc, Option, Some, None, ◌<◌, Bool, true, false, cond, not, inl, inr, ◌⊎◌, List, [], ◌∷◌, ◌++◌, length, Result, Ok, Err, refl, sym, ap, subst, ◌∙◌, arith, eqb}
use Rattle.std.specs.Int.{w16}
use Rattle.std.proofs.lemmas.Bool.{cases_Bool, ne_eqb, eqb-true, eq-eqb}
use Rattle.vub_mem.specs.declared.region.Region.{Region}
use Rattle.vub_mem.specs.Memory.{Guest}
use Rattle.vub_mem.specs.Place.{number_at}
use Rattle.vub_queue.specs.declared.chain.Chain.{Chain}
use Rattle.vub_queue.specs.declared.putting.PutFault.{PutFault}
use Rattle.vub_queue.specs.declared.putting.PutFault.TheVariants as put_fault
use Rattle.vub_queue.specs.declared.took.Took.TheVariants as took
use Rattle.vub_queue.specs.Layout.{avail_index_at}
use Rattle.vub_queue.specs.Notification.{used_event_covers, wants_notification}
use Rattle.vub_queue.specs.Put.{put_answer, put_guest, write_used, room_covers, used_covers, ring_used}
use Rattle.vub_queue.specs.Function.{took_of}
use Rattle.std.proofs.lemmas.List.{length-set}
use Rattle.vub_model.specs.declared.entry.Entry.{Entry}
use Rattle.vub_model.specs.declared.play.Play.{Play}
use Rattle.vub_model.specs.declared.play.Play.TheVariants as play
use Rattle.vub_model.specs.declared.phase.Phase.{Phase}
use Rattle.vub_model.specs.declared.phase.Phase.TheVariants.{Idle, Polled, Sweep, Heard, Serving, Taken, Served}
use Rattle.vub_model.specs.declared.ring_op.RingOp.TheVariants as op
use Rattle.vub_model.specs.RingRecord.{Vring, has_addresses, changed, ring_after}
use Rattle.vub_model.specs.Shared.{Shared, ring_at}
use Rattle.vub_model.specs.Service.{Meaning}
use Rattle.vub_model.specs.Wiring.{Wiring}
use Rattle.vub_model.specs.Work.{Local, MayWork, after_work, after_none, after_took, after_take, after_said, used, called, put_said, serving, entry_of, may_take, looked}
use Rattle.vub_model.specs.Running.{index_word, HasStopped}
use Rattle.vub_model.specs.World.{written_by, if_used}
use Rattle.vub_model.specs.Schedule.{HasInHand, PhaseFits}
use Rattle.vub_model.proofs.Shapes.{shape}
use Rattle.vub_proto.specs.declared.device_said.DeviceSaid.{DeviceSaid}
use Rattle.vub_model.specs.Headline.{IsSpot}
use Rattle.vub_model.proofs.Cases.{work-cases, heard-leaf, take-leaf, none-leaf}
use Rattle.vub_model.proofs.Live.{looked-live, live-parts, live-taken}
use Rattle.vub_model.proofs.Confined.{confined-work}
use Rattle.vub_model.proofs.Counting.{ring-own, regions-taken, regions-put}
use Rattle.vub_model.proofs.FlowSteps.{on-within}
use Rattle.vub_model.proofs.Waking.{called-ring}
use Rattle.vub_laws.specs.Alone.{SameTable, serving_of, Placing, placing, alone, placed_in, take_reads, read_by, is_of}
use Rattle.vub_laws.specs.EntriesLeft.{entries_left}
use Rattle.vub_laws.proofs.Alike.{Alike, took-alike, said-alike, guest-alike, placing-alike, entry-alike, left-alike, index-alike, taken-alike, put-alike}
use Rattle.vub_laws.proofs.EntriesLeft.{entry-left, none-left, took-here, none-here}
use Rattle.vub_laws.proofs.Agreeing.{Agree, agree-put, Clear}
use Rattle.vub_laws.proofs.Logless.{same-tables, same-answer, same-placing}
use Rattle.vub_laws.proofs.Taking.{take-same}
use Rattle.vub_laws.proofs.Quiet.{left-kept, quiet-ring, quiet-hand, quiet-agree}

-- What a put tests and writes depends on what was taken not at all

said-taken : (rs : List Region) (r : Vring) (c : Chain) (reply : List ℕ) (a b : Bool) (said : Bool) → put_answer rs (changed r op.Taken).queue c reply a ≡ Ok said → put_answer rs r.queue c reply b ≡ Ok b
unfolding put_answer used_covers used_event_covers
said-taken rs r c reply a b said is = by (room_covers rs c.segments reply) (used_covers rs r.queue) (used_event_covers rs r.queue) is where
  by : (x y z : Bool) → cond (not x) (Err put_fault.RoomOutside) (cond (not y) (Err put_fault.RingOutside) (cond (not z) (Err put_fault.RingOutside) (Ok a))) ≡ Ok said → cond (not x) (Err put_fault.RoomOutside) (cond (not y) (Err put_fault.RingOutside) (cond (not z) (Err put_fault.RingOutside) (Ok b))) ≡ Ok b
  by true true true e = refl
  by true true false e = absurd cc
  by true false z e = absurd cc
  by false y z e = absurd cc

guest-taken : (g : Guest) (r : Vring) (c : Chain) (reply : List ℕ) → put_guest g (changed r op.Taken).queue c reply ≡ put_guest g r.queue c reply
unfolding put_guest write_used
guest-taken g r c reply = refl

addressed : {V : Type 0} (h : Shared V) (e : Entry) (reply : List ℕ) (said : Bool) → put_said h e reply ≡ Ok said → put_answer h.guest.regions (ring_at h e.queue).queue e.chain reply (wants_notification (put_guest h.guest (ring_at h e.queue).queue e.chain reply) (ring_used (ring_at h e.queue).queue)) ≡ Ok said
unfolding put_said
addressed h e reply said is = by (has_addresses (ring_at h e.queue)) is where
  by : (b : Bool) → cond b (put_answer h.guest.regions (ring_at h e.queue).queue e.chain reply (wants_notification (put_guest h.guest (ring_at h e.queue).queue e.chain reply) (ring_used (ring_at h e.queue).queue))) (Err put_fault.RingOutside) ≡ Ok said → put_answer h.guest.regions (ring_at h e.queue).queue e.chain reply (wants_notification (put_guest h.guest (ring_at h e.queue).queue e.chain reply) (ring_used (ring_at h e.queue).queue)) ≡ Ok said
  by true is = is
  by false is = absurd cc

-- How a queue stands between a run and its being served alone, where n entries are left to do, from this memory and this
-- ring

-- it has no entry in hand
pub record Free {V : Type 0} (q : ℕ) (F : ℕ → ℕ → Type 0) (h : Shared V) (n : ℕ) (a : Guest) (r : Vring) : Type 0 where
  pub ring : Alike (ring_at h q) r
  pub left : n ≡ entries_left h.guest r
  pub agree : (n ≡ 0) ⊎ Agree F h.guest a

-- the run has taken this entry, and alone is about to
pub record Flown {V : Type 0} (q : ℕ) (F : ℕ → ℕ → Type 0) (h : Shared V) (e : Entry) (n : ℕ) (a : Guest) (r : Vring) : Type 0 where
  pub within : q < length h.rings
  pub its : e ≡ entry_of q r e.chain
  pub took : took_of a r.queue ≡ took.Entry e.chain
  pub ring : Alike (ring_at h q) (changed r op.Taken)
  pub left : n ≡ suc (entries_left h.guest (changed r op.Taken))
  pub agree : Agree F h.guest a

module _ {V : Type 0} (m : Meaning V) (v : V) (q : ℕ) (F : ℕ → ℕ → Type 0) where
  abbrev pub Hand : Shared V → Phase → ℕ → Guest → Vring → Type 0
  Hand h (Taken e queues) n a r = Flown q F h e n a r
  Hand h (Served e reply queues) n a r = Flown q F h e n a r × (reply ≡ m.reply_of v e.chain.request e.chain.room)
  Hand h phase n a r = ⊥

  abbrev pub State : Shared V → Phase → ℕ → Guest → Vring → Type 0
  State h phase n a r = ((HasInHand phase q → ⊥) × Free q F h n a r) ⊎ (Hand h phase n a r ⊎ HasStopped phase)

  -- the step goes with these uses of serving it alone
  abbrev pub Stepped : Local V → List Placing → ℕ → Guest → Vring → Type 0
  Stepped z placed n a r = (n' : ℕ) × (a' : Guest) × (r' : Vring) × State z.shared z.phase n' a' r' × (alone m v q n a r ≡ placed ++ alone m v q n' a' r')

  word-at : (h z : Shared V) (r : Vring) → Alike (ring_at z q) r → Alike (ring_at h q) r → index_word z q ≡ index_word h q → number_at w16 z.guest (avail_index_at r.queue) ≡ number_at w16 h.guest (avail_index_at r.queue)
  word-at h z r now was same =
      ap (λ a. number_at w16 z.guest a) (sym (index-alike (ring_at z q) r now)) ∙ same ∙ ap (λ a. number_at w16 h.guest a) (index-alike (ring_at h q) r was)

  -- what is shared moves on, but not for this queue
  module _ (h z : Shared V) (rings : length z.rings ≡ length h.rings) (ring : Alike (ring_at z q) (ring_at h q)) (regions : SameTable z.guest.regions h.guest.regions) (word : index_word z q ≡ index_word h q) (agree : (a : Guest) → Agree F h.guest a → Agree F z.guest a) where
    pub free-moved : (n : ℕ) (a : Guest) (r : Vring) → Free q F h n a r → Free q F z n a r
    free-moved n a r f = record {
      ring = ring ∙ f.ring;
      left = f.left ∙ sym (left-kept h.guest z.guest r regions (word-at h z r (ring ∙ f.ring) f.ring word));
      agree = elim f.agree [ inl none ↦ inl none | inr x ↦ inr (agree a x) ];
    }

    pub flown-moved : (e : Entry) (n : ℕ) (a : Guest) (r : Vring) → Flown q F h e n a r → Flown q F z e n a r
    flown-moved e n a r f = record {
      within = (let w = f.within in omega (arith, w, rings));
      its = f.its;
      took = f.took;
      ring = ring ∙ f.ring;
      left = f.left ∙ ap (λ x. suc x) (sym (left-kept h.guest z.guest (changed r op.Taken) regions (word-at h z (changed r op.Taken) (ring ∙ f.ring) f.ring word)));
      agree = agree a f.agree;
    }

    pub state-moved : (phase : Phase) (n : ℕ) (a : Guest) (r : Vring) → State h phase n a r → State z phase n a r
    state-moved phase n a r (inl f) = inl (f.0, free-moved n a r f.1)
    state-moved (Taken e queues) n a r (inr (inl f)) = inr (inl (flown-moved e n a r f))
    state-moved (Served e reply queues) n a r (inr (inl f)) = inr (inl (flown-moved e n a r f.0, f.1))
    state-moved phase n a r (inr (inl f)) = absurd f
    state-moved phase n a r (inr (inr s)) = inr (inr s)

  module _ (g : Wiring) (k : ℕ) (h : Shared V) where
    -- Take

    zero-suc : (n x : ℕ) (B : Type 0) → n ≡ suc x → (n ≡ 0) ⊎ B → B
    zero-suc n x B more (inl none) = absurd (omega (arith, more, none))
    zero-suc n x B more (inr b) = b

    take-entry : (rest : List ℕ) (n : ℕ) (a : Guest) (r : Vring) → Free q F h n a r → ((live : may_take (ring_at h q) ≡ true) → Clear F (take_reads h.guest (ring_at h q).queue)) → (c : Chain) → looked h q ≡ took.Entry c
        → Stepped (after_took h q rest (took.Entry c)) [] n a r
    take-entry rest n a r f clear c is =
        let here = ring_at h q in
        let live = looked-live h q c is in
        let parts = live-parts here live in
        let within = on-within h.rings q parts.on in
        let took = took-here h q c is in
        let more : n ≡ suc (entries_left h.guest (changed r op.Taken)) = f.left ∙ sym (left-alike here r f.ring h.guest) ∙ entry-left h.guest here c parts.addresses took ∙ ap (λ n. suc n) (left-alike (changed here op.Taken) (changed r op.Taken) (taken-alike here r f.ring) h.guest) in
        let x : Agree F h.guest a = zero-suc n (entries_left h.guest (changed r op.Taken)) (Agree F h.guest a) more f.agree in (
          n,
          a,
          r,
          inr (inl (record {
            within = (let same = length-set h.rings q (ring_after here op.Taken) in omega (arith, within, same));
            its = entry-alike here r f.ring q c;
            took = sym (took-alike here r f.ring a) ∙ take-same F h.guest a x here.queue c (clear live) took;
            ring = ap serving_of (ring-own h q (ring_after here op.Taken) within ∙ live-taken here live) ∙ taken-alike here r f.ring;
            left = more;
            agree = x;
          })),
          refl,
        )

    none-agree : (n : ℕ) (a : Guest) (r : Vring) → looked h q ≡ took.None → Free q F h n a r → (n ≡ 0) ⊎ Agree F (after_none h q).guest a
    none-agree n a r is f =
        none-leaf h (λ x. (n ≡ 0) ⊎ Agree F x.guest a) q
        (λ live. inl (f.left ∙ sym (left-alike (ring_at h q) r f.ring h.guest) ∙ none-left h.guest (ring_at h q) (none-here h q live is)))
        (λ not. f.agree)

    none-regions : SameTable (after_none h q).guest.regions h.guest.regions
    none-regions = none-leaf h (λ x. SameTable x.guest.regions h.guest.regions) q (λ live. same-tables _ h.guest.regions (regions-taken h.guest (ring_at h q).queue)) (λ not. refl)

    none-kept : ring_at (after_none h q) q ≡ ring_at h q
    none-kept = none-leaf h (λ x. ring_at x q ≡ ring_at h q) q (λ live. refl) (λ not. refl)

    serving-idle : (queues : List ℕ) → HasInHand (serving queues) q → ⊥
    serving-idle [] hand = hand
    serving-idle (p ∷ queues) hand = hand

    take-none : (rest : List ℕ) (n : ℕ) (a : Guest) (r : Vring) → Free q F h n a r → looked h q ≡ took.None → index_word (after_none h q) q ≡ index_word h q → Stepped (after_took h q rest took.None) [] n a r
    take-none rest n a r f is word =
        let ring : Alike (ring_at (after_none h q) q) r = ap serving_of none-kept ∙ f.ring in (
          n,
          a,
          r,
          inl (
            serving-idle rest,
            record {
              ring = ring;
              left = f.left ∙ sym (left-kept h.guest (after_none h q).guest r none-regions (word-at h (after_none h q) r ring f.ring word));
              agree = none-agree n a r is f;
            },
          ),
          refl,
        )

    take-own : (rest : List ℕ) (n : ℕ) (a : Guest) (r : Vring) → ((live : may_take (ring_at h q) ≡ true) → Clear F (take_reads h.guest (ring_at h q).queue)) → index_word (after_take h (q ∷ rest)).shared q ≡ index_word h q → Free q F h n a r → Stepped (after_take h (q ∷ rest)) [] n a r
    take-own rest n a r clear word f =
        take-leaf h (λ z. index_word z.shared q ≡ index_word h q → Stepped z [] n a r) q rest
        (λ c is word. take-entry rest n a r f clear c is)
        (λ is word. take-none rest n a r f is word)
        (λ d is word. (n, a, r, inr (inr tt), refl))
        word

    -- Put

    put-done : (c : Chain) (queues : List ℕ) (n : ℕ) (a : Guest) (r : Vring) (wanted : Bool) → let e = entry_of q r c in let reply = m.reply_of v c.request c.room in
        put_said h e reply ≡ Ok wanted → Flown q F h e n a r
        → index_word (called (used h e reply) (ring_at h q).call wanted) q ≡ index_word h q
        → Stepped (after_said h e reply queues (Ok wanted)) (placing h.guest.regions (ring_at h q).queue e reply ∷ []) n a r
    put-done c queues n a r wanted said f word =
        let e = entry_of q r c in
        let reply = m.reply_of v c.request c.room in
        let here = ring_at h q in
        let taken = changed r op.Taken in
        let r' = changed taken op.Put in
        let z = called (used h e reply) here.call wanted in
        let ring : Alike (ring_at z q) r' = ap serving_of (called-ring (used h e reply) here.call wanted q ∙ ring-own h q (ring_after here op.Put) f.within) ∙ put-alike here taken f.ring in
        let told : put_answer h.guest.regions r.queue c reply true ≡ Ok true =
        said-taken h.guest.regions r c reply _ true wanted (sym (said-alike here taken f.ring h.guest.regions c reply (wants_notification (put_guest h.guest here.queue c reply) (ring_used here.queue))) ∙ addressed h e reply wanted said) in
        let alike : put_answer a.regions r.queue c reply true ≡ Ok true = same-answer a.regions h.guest.regions f.agree.regions r.queue c reply true ∙ told in
        let one : alone m v q n a r ≡ placing a.regions r.queue e reply ∷ alone m v q (entries_left h.guest taken) (put_guest a r.queue c reply) r' = rw f.left (rw f.took (rw alike refl)) in
        let same : placing a.regions r.queue e reply ≡ placing h.guest.regions here.queue e reply = same-placing a.regions h.guest.regions f.agree.regions r.queue e reply ∙ sym (placing-alike here taken f.ring h.guest.regions e reply) in
        let guest : put_guest h.guest here.queue c reply ≡ put_guest h.guest r.queue c reply = guest-alike here taken f.ring h.guest c reply ∙ guest-taken h.guest r c reply in
        let agreed : Agree F (put_guest h.guest here.queue c reply) (put_guest a r.queue c reply) = (let A : Guest → Type 0 = λ x. Agree F x (put_guest a r.queue c reply) in subst A (sym guest) (agree-put F h.guest a r.queue c reply f.agree)) in (
          entries_left h.guest taken,
          put_guest a r.queue c reply,
          r',
          inl (
            serving-idle queues,
            record {
              ring = ring;
              left = sym (left-kept h.guest z.guest r' (same-tables z.guest.regions h.guest.regions (called-regions wanted here.call)) (ap (λ p. number_at w16 z.guest p) (sym (index-alike (ring_at z q) r' ring)) ∙ word ∙ ap (λ p. number_at w16 h.guest p) (index-alike here taken f.ring)));
              agree = inr (called-agree wanted here.call agreed);
            },
          ),
          one ∙ ap (λ x. x ∷ alone m v q (entries_left h.guest taken) (put_guest a r.queue c reply) r') same,
        ) where
          called-regions : (b : Bool) (call : Option ℕ) → (called (used h (entry_of q r c) (m.reply_of v c.request c.room)) call b).guest.regions ≡ h.guest.regions
          called-regions false call = regions-put h.guest (ring_at h q).queue c (m.reply_of v c.request c.room)
          called-regions true None = regions-put h.guest (ring_at h q).queue c (m.reply_of v c.request c.room)
          called-regions true (Some object) = regions-put h.guest (ring_at h q).queue c (m.reply_of v c.request c.room)

          called-agree : (b : Bool) (call : Option ℕ) → Agree F (put_guest h.guest (ring_at h q).queue c (m.reply_of v c.request c.room)) (put_guest a r.queue c (m.reply_of v c.request c.room)) → Agree F (called (used h (entry_of q r c) (m.reply_of v c.request c.room)) call b).guest (put_guest a r.queue c (m.reply_of v c.request c.room))
          called-agree false call x = x
          called-agree true None x = x
          called-agree true (Some object) x = x

    put-own : (c : Chain) (queues : List ℕ) (n : ℕ) (a : Guest) (r : Vring) (said : Result Bool PutFault) → let e = entry_of q r c in let reply = m.reply_of v c.request c.room in
        put_said h e reply ≡ said → Flown q F h e n a r → index_word (after_said h e reply queues said).shared q ≡ index_word h q
        → Stepped (after_said h e reply queues said) (if_used said (placing h.guest.regions (ring_at h q).queue e reply ∷ [])) n a r
    put-own c queues n a r (Ok wanted) is f word = put-done c queues n a r wanted is f word
    put-own c queues n a r (Err fault) is f word = (n, a, r, inr (inr tt), refl)

    placed-own : (e : Entry) (reply queues : List ℕ) → e.queue ≡ q → if_used (put_said h e reply) (placing h.guest.regions (ring_at h q).queue e reply ∷ []) ≡ placed_in h q play.Put (Served e reply queues)
    placed-own e reply queues own = sym (ap (λ b. cond b (if_used (put_said h e reply) (placing h.guest.regions (ring_at h q).queue e reply ∷ [])) []) (eq-eqb e.queue q own))

    put-hand : (e : Entry) (reply queues : List ℕ) (n : ℕ) (a : Guest) (r : Vring) → Flown q F h e n a r → reply ≡ m.reply_of v e.chain.request e.chain.room → index_word (after_said h e reply queues (put_said h e reply)).shared q ≡ index_word h q
        → Stepped (after_said h e reply queues (put_said h e reply)) (placed_in h q play.Put (Served e reply queues)) n a r
    put-hand e reply queues n a r f is word =
        let P : Entry → List ℕ → Type 0 = λ e reply. Flown q F h e n a r → index_word (after_said h e reply queues (put_said h e reply)).shared q ≡ index_word h q → Stepped (after_said h e reply queues (put_said h e reply)) (if_used (put_said h e reply) (placing h.guest.regions (ring_at h q).queue e reply ∷ [])) n a r in
        let here : P (entry_of q r e.chain) (m.reply_of v e.chain.request e.chain.room) = λ f word. put-own e.chain queues n a r (put_said h (entry_of q r e.chain) (m.reply_of v e.chain.request e.chain.room)) refl f word in
        let moved : P e reply = subst (λ x. P e x) (sym is) (subst (λ x. P x (m.reply_of v e.chain.request e.chain.room)) (sym f.its) here) in
        let T : List Placing → Type 0 = λ l. Stepped (after_said h e reply queues (put_said h e reply)) l n a r in
        subst T (placed-own e reply queues (ap (λ (x : Entry). x.queue) f.its)) (moved f word)

    -- Every step

    pub placed-none : (phase : Phase) (l : Play) → MayWork g k h phase l → is_of l phase q ≡ false → placed_in h q l phase ≡ []
    placed-none =
        work-cases g k h (λ phase l. is_of l phase q ≡ false → placed_in h q l phase ≡ [])
        (λ object ready other. refl) (λ object token other. refl) (λ other. refl) (λ token said other. refl) (λ queues other. refl) (λ e queues other. refl)
        (λ e reply queues other. ap (λ b. cond b (if_used (put_said h e reply) (placing h.guest.regions (ring_at h q).queue e reply ∷ [])) []) other)

    quiet : (phase : Phase) (l : Play) → MayWork g k h phase l → PhaseFits g k phase → is_of l phase q ≡ false → ((o i : ℕ) → IsSpot (written_by h l phase) o i → F o i)
        → index_word (after_work m g k h phase l).shared q ≡ index_word h q → (n : ℕ) (a : Guest) (r : Vring) → (HasInHand phase q → ⊥) → Free q F h n a r → Stepped (after_work m g k h phase l) (placed_in h q l phase) n a r
    quiet phase l may fits other foreign word n a r none f =
        let z = (after_work m g k h phase l).shared in (
          n,
          a,
          r,
          inl (quiet-hand m g k h q phase l may other none, free-moved h z (shape m g k h phase l may fits).rings (ap serving_of (quiet-ring m g k h q phase l may other)) (same-tables z.guest.regions h.guest.regions (confined-work h m g k phase l).regions) word (quiet-agree m g k h q F phase l foreign) n a r f),
          ap (λ p. p ++ alone m v q n a r) (sym (placed-none phase l may other)),
        )

    -- a serve of an entry is answered as this value of the service would
    abbrev pub IsReplied : Play → Phase → Type 0
    IsReplied play.Serve (Taken e queues) = e.queue ≡ q → m.reply_of h.service e.chain.request e.chain.room ≡ m.reply_of v e.chain.request e.chain.room
    IsReplied l phase = Unit {0}

    abbrev Step : Phase → Play → Type 0
    Step phase l =
        PhaseFits g k phase → (is_of l phase q ≡ false → (o i : ℕ) → IsSpot (written_by h l phase) o i → F o i) → (is_of l phase q ≡ true → Clear F (read_by h l phase)) → IsReplied l phase
        → index_word (after_work m g k h phase l).shared q ≡ index_word h q → (n : ℕ) (a : Guest) (r : Vring) → State h phase n a r → Stepped (after_work m g k h phase l) (placed_in h q l phase) n a r

    -- a step in a phase in which no entry is in hand, and which does not take
    plain : (phase : Phase) (l : Play) → MayWork g k h phase l → is_of l phase q ≡ false → (HasInHand phase q → ⊥) → ((n : ℕ) (a : Guest) (r : Vring) → Hand h phase n a r → ⊥) → (HasStopped phase → ⊥) → Step phase l
    plain phase l may other none hand goes fits foreign clear replied word n a r (inl f) = quiet phase l may fits other (foreign other) word n a r none f.1
    plain phase l may other none hand goes fits foreign clear replied word n a r (inr (inl x)) = absurd (hand n a r x)
    plain phase l may other none hand goes fits foreign clear replied word n a r (inr (inr x)) = absurd (goes x)

    step-take : (queues : List ℕ) → Step (Serving queues) play.Take
    step-take [] fits foreign clear replied word n a r s = plain (Serving []) play.Take tt refl (λ x. x) (λ n a r x. x) (λ x. x) fits foreign clear replied word n a r s
    step-take (p ∷ rest) fits foreign clear replied word n a r (inr (inl x)) = absurd x
    step-take (p ∷ rest) fits foreign clear replied word n a r (inr (inr x)) = absurd x
    step-take (p ∷ rest) fits foreign clear replied word n a r (inl f) =
        elim (cases_Bool (eqb p q)) [
          | inl own ↦
              (let same : p ≡ q = eqb-true p q own in
              let P : ℕ → Type 0 = λ x. Clear F (cond (may_take (ring_at h x)) (take_reads h.guest (ring_at h x).queue) []) → index_word (after_take h (x ∷ rest)).shared q ≡ index_word h q → Stepped (after_take h (x ∷ rest)) [] n a r in
              let here : P q = λ clear word. take-own rest n a r (λ live. let C : Bool → Type 0 = λ b. Clear F (cond b (take_reads h.guest (ring_at h q).queue) []) in subst C live clear) word f.1 in
              (subst P (sym same) here) (clear own) word)
          | inr other ↦ quiet (Serving (p ∷ rest)) play.Take tt fits other (foreign other) word n a r (λ x. x) f.1
        ]

    step-serve : (e : Entry) (queues : List ℕ) → Step (Taken e queues) play.Serve
    step-serve e queues fits foreign clear replied word n a r (inl f) = quiet (Taken e queues) play.Serve tt fits refl (foreign refl) word n a r f.0 f.1
    step-serve e queues fits foreign clear replied word n a r (inr (inl f)) = (n, a, r, inr (inl (record { within = f.within; its = f.its; took = f.took; ring = f.ring; left = f.left; agree = f.agree }, replied (ap (λ (x : Entry). x.queue) f.its))), refl)
    step-serve e queues fits foreign clear replied word n a r (inr (inr x)) = absurd x

    step-put : (e : Entry) (reply queues : List ℕ) → Step (Served e reply queues) play.Put
    step-put e reply queues fits foreign clear replied word n a r (inl f) =
        let other : eqb e.queue q ≡ false = ne_eqb e.queue q f.0 in
        quiet (Served e reply queues) play.Put tt fits other (foreign other) word n a r f.0 f.1
    step-put e reply queues fits foreign clear replied word n a r (inr (inl f)) = put-hand e reply queues n a r f.0 f.1 word
    step-put e reply queues fits foreign clear replied word n a r (inr (inr x)) = absurd x

    hear : (token : ℕ) (said : DeviceSaid) → Step (Heard token) (play.Hear said)
    hear token said fits foreign clear replied word n a r (inl f) =
        (n, a, r, inl (heard-leaf (λ p. HasInHand p q → ⊥) (λ e. e) (λ w e. e) said, f.1), refl)
    hear token said fits foreign clear replied word n a r (inr (inl x)) = absurd x
    hear token said fits foreign clear replied word n a r (inr (inr x)) = absurd x

    pub own-step : (phase : Phase) (l : Play) → MayWork g k h phase l → Step phase l
    own-step =
        work-cases g k h Step
        (λ object ready. plain Idle (play.Poll object) ready refl (λ x. x) (λ n a r x. x) (λ x. x))
        (λ object token. plain (Polled object token) play.Event tt refl (λ x. x) (λ n a r x. x) (λ x. x))
        (plain Sweep play.Sweep tt refl (λ x. x) (λ n a r x. x) (λ x. x))
        (λ token said. hear token said)
        step-take
        step-serve
        step-put
