-- Whatever is called, driver and device understand each other.
use Rattle.std.proofs.Common.{◌≡◌, ℕ, ◌+◌, inl, inr, true, false, List, [], ◌∷◌, ◌++◌, take, Option, None, Result, Ok, Err, refl, sym, ap, ap₂, subst, ◌∙◌, arith}
use Rattle.std.specs.Int.{w16, to_le_bytes}
use Rattle.std.proofs.lemmas.List.{length-replicate}
use Rattle.vub_mem.specs.declared.region.Region.{Region}
use Rattle.vub_mem.specs.Memory.{Guest}
use Rattle.vub_mem.specs.Place.{bytes_at, byte_at}
use Rattle.vub_queue.specs.declared.took.Took.TheVariants as took
use Rattle.vub_driver.specs.Calls.{index_of, needs_signal, new_state, state_collected, collect_answer}
use Rattle.vub_driver.specs.Law.{Begins, Understands, numbered}
use Rattle.vub_queue.specs.Ring.{Ring}
use Rattle.vub_driver.specs.Machine.{Resumes, World, Call, Step, Runs, answers_more}
use Rattle.vub_driver.specs.Machine.Call.{submits, collects, takes, puts, resumes}
use Rattle.vub_driver.specs.Places.{half_of, avail_index_at, used_index_at, avail_event_at}
use Rattle.vub_driver.specs.declared.done.Done.{Done}
use Rattle.vub_driver.specs.declared.error.DriverError.{DriverError}
use Rattle.vub_driver.specs.declared.layout.Layout.{Layout}
use Rattle.vub_driver.proofs.Areas.{lies_in, flat_in}
use Rattle.vub_driver.proofs.Fitting.{IsApart, apart_taken}
use Rattle.vub_driver.proofs.Kept.{Keeps}
use Rattle.vub_driver.proofs.Submitting.{keeps_submitted, signalled}
use Rattle.vub_driver.proofs.Taking.{keeps_entry, keeps_nothing, keeps_damaged}
use Rattle.vub_driver.proofs.Putting.{keeps_put}
use Rattle.vub_driver.proofs.Collecting as collecting
use Rattle.vub_driver.proofs.Collecting.{keeps_collected, all_collected, never_refused, next_in}

-- a collect by what it answers
abbrev after_collect : World → Result (Option Done) DriverError → World
after_collect w a = record w { driver = state_collected w.driver a; answers = answers_more w.answers a }

collected : (r : Region) (w : World) (a : Result (Option Done) DriverError) → Keeps r w → a ≡ collect_answer w.driver w.guest → Keeps r (after_collect w a)
collected r w a k is = elim (collecting.collects r w k) [
  | inl found ↦ subst (λ x. Keeps r (after_collect w x)) (sym (is ∙ found.0)) k
  | inr found ↦ subst (λ x. Keeps r (after_collect w x)) (sym (is ∙ found.0)) (keeps_collected r w k found.1)
]

resumed : (r : Region) (w : World) (q : Ring) → Keeps r w → Resumes w.ring q → Keeps r (record w { ring = q })
resumed r w q k h = record {
  apart = k.apart;
  lies = k.lies;
  event_idx = k.event_idx ∙ sym h.event_idx;
  tested = k.tested;
  long = k.long;
  rooms = k.rooms;
  asked = k.asked;
  small = k.small;
  count = k.count;
  first = k.first;
  put = k.put;
  held = k.held;
  taken = k.taken;
  behind = k.behind;
  near = k.near;
  size = h.size ∙ k.size;
  addresses = h.addresses ∙ k.addresses;
  next_avail = h.next_avail ∙ k.next_avail;
  next_used = h.next_used ∙ k.next_used;
  reads = k.reads;
  short = k.short;
  holding = k.holding;
  event = λ waits. elim (k.event waits) [ inl off ↦ inl (h.event_idx ∙ off) | inr asked ↦ inr asked ];
}

step : (r : Region) (w : World) (c : Call) (v : World) → Step w c v → Keeps r w → Keeps r v
step r w (submits request room (Ok signal)) v h k =
    subst (Keeps r) (sym (h.1 ∙ ap₂ (λ d g. record w { driver = d; guest = g; asked = w.asked ++ record { request = request; room = room } ∷ []; waits = false }) h.0.1 h.0.2))
    (keeps_submitted r w (record { request = request; room = room }) k h.0.0)
step r w (submits request room (Err e)) v h k = subst (Keeps r) (sym (h.1 ∙ ap₂ (λ d g. record w { driver = d; guest = g }) h.0.1 h.0.2)) k
step r w (collects a) v h k = subst (Keeps r) (sym h.1) (collected r w a k h.0)
step r w (takes (took.Entry c)) v h k = subst (Keeps r) (sym h.2) (keeps_entry r w k c h.0 h.1)
step r w (takes took.None) v h k = subst (Keeps r) (sym h.2) (keeps_nothing r w k h.0 h.1.0)
step r w (takes (took.Damaged d)) v h k = subst (Keeps r) (sym h.2) (keeps_damaged r w k h.0)
step r w (puts reply signal) v h k = subst (Keeps r) (sym h.4) (keeps_put r w h.0 reply k h.1 h.2)
step r w (resumes q) v h k = subst (Keeps r) (sym h.2) (resumed r w q k h.1)

runs : (r : Region) (w : World) (cs : List Call) (v : World) → Runs w cs v → Keeps r w → Keeps r v
runs r w [] v h k = subst (Keeps r) (sym h) k
runs r w (c ∷ cs) v h k = runs r h.0 cs v h.2 (step r w c h.0 h.1 k)

zero_word : (g : Guest) (a : ℕ) → ((x : ℕ) → byte_at g x ≡ 0) → bytes_at g a 2 ≡ to_le_bytes w16 (index_of 0)
unfolding bytes_at
zero_word g a none = ap₂ (λ x y. x ∷ y ∷ []) (none a) (none (a + 1))

-- a new driver over a blank memory
blank : (l : Layout) (w : World) (b : Begins l w) →
    Keeps b.guest.region (record w { driver = new_state l w.ring.event_idx; asked = []; taken = []; held = None; replies = []; answers = []; waits = true })
blank l w b =
    let apart : IsApart l = apart_taken l b.some b.layout in
    record {
      apart = apart;
      lies = lies_in l b.guest.region w.guest apart b.some b.guest.covered;
      event_idx = refl;
      tested = refl;
      long = length-replicate (half_of l) 0;
      rooms = λ n from to. absurd (omega arith);
      asked = refl;
      small = λ n to. absurd (omega arith);
      count = refl;
      first = refl;
      put = omega arith;
      held = refl;
      taken = refl;
      behind = omega arith;
      near = omega arith;
      size = b.ring.size;
      addresses = b.ring.addresses;
      next_avail = b.ring.next_avail;
      next_used = b.ring.next_used;
      reads = record {
        flat = flat_in l b.guest.region w.guest b.guest.covered;
        index = zero_word w.guest (avail_index_at l) b.guest.zero;
        requests = λ n from to. absurd (omega arith);
        chains = λ n from to. absurd (omega arith);
        slots = λ n from to. absurd (omega arith);
        used = zero_word w.guest (used_index_at l) b.guest.zero;
        elements = λ n from to. absurd (omega arith);
        replies = λ n from to. absurd (omega arith);
      };
      short = λ n from to. absurd (omega arith);
      holding = tt;
      event = λ waits. inr (zero_word w.guest (avail_event_at l) b.guest.zero);
    }

begins : (l : Layout) (w : World) (b : Begins l w) → Keeps b.guest.region w
begins l w b =
    subst (λ x. Keeps b.guest.region (record w { driver = x })) (sym b.driver)
    (subst (λ x. Keeps b.guest.region (record w { driver = new_state l w.ring.event_idx; asked = x })) (sym b.asked)
    (subst (λ x. Keeps b.guest.region (record w { driver = new_state l w.ring.event_idx; asked = []; taken = x })) (sym b.taken)
    (subst (λ x. Keeps b.guest.region (record w { driver = new_state l w.ring.event_idx; asked = []; taken = []; held = x })) (sym b.held)
    (subst (λ x. Keeps b.guest.region (record w { driver = new_state l w.ring.event_idx; asked = []; taken = []; held = None; replies = x })) (sym b.replies)
    (subst (λ x. Keeps b.guest.region (record w { driver = new_state l w.ring.event_idx; asked = []; taken = []; held = None; replies = []; answers = x })) (sym b.answers)
    (subst (λ x. Keeps b.guest.region (record w { driver = new_state l w.ring.event_idx; asked = []; taken = []; held = None; replies = []; answers = []; waits = x })) (sym b.waits)
    (blank l w b)))))))

pub understands : (l : Layout) (w v : World) (calls : List Call) → Begins l w → Runs w calls v → Understands v
understands l w v calls b h =
    let k : Keeps b.guest.region v = runs b.guest.region w calls v h (begins l w b) in
    record {
      asks = k.taken;
      order = k.first ∙ ap (λ n. take n (numbered 0 v.replies)) k.count;
      all = all_collected b.guest.region v k;
      signals = λ waits request room signal t g submits.
          submits.3 ∙ ap (needs_signal v.driver) submits.2 ∙ signalled b.guest.region v (record { request = request; room = room }) k waits submits.0;
      trusts = never_refused b.guest.region v k;
    }
