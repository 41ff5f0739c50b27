-- A collect keeps what every step keeps: it gives the next reply, or finds nothing where all were collected. It is never
-- refused.
use Rattle.std.proofs.Common.{◌≡◌, ◌⊎◌, ℕ, ◌+◌, ◌-◌, ◌<◌, ◌≤◌, inl, inr, Bool, true, false, not, cond, [], ◌∷◌, ◌++◌, length, take, drop, Option, Some, None, Result, Ok, Err, IsOk, refl, sym, ap, ap₂, subst, ◌∙◌, arith, eqb, ltb}
use Rattle.std.specs.Int.{w16, w32, from_le_bytes}
use Rattle.std.proofs.lemmas.Bool.{cases_Bool, eqb-true, eqb-false, eq-eqb}
use Rattle.std.proofs.lemmas.List.{length_push, take_all}
use Rattle.std.proofs.lemmas.Nat.{from_le_bytes-to_le_bytes_4}
use Rattle.vub_mem.specs.declared.region.Region.{Region}
use Rattle.vub_mem.specs.Place.{bytes_at, covers, number_at}
use Rattle.vub_queue.specs.EntryNumber.{minus}
use Rattle.vub_driver.specs.Calls.{index_of, new_of, id_of, len_of, oldest_room, done_of, collect_answer}
use Rattle.vub_driver.specs.Law.{numbered}
use Rattle.vub_driver.specs.Machine.{World}
use Rattle.vub_driver.specs.Places.{half_of, head_of, reply_at, used_index_at, used_element_at}
use Rattle.vub_driver.specs.declared.done.Done.{Done}
use Rattle.vub_driver.specs.declared.error.DriverError.{DriverError}
use Rattle.vub_driver.specs.declared.error.DriverError.TheVariants.{Outside, UsedAhead, BadId, BadLength}
use Rattle.vub_driver.proofs.Flat.{bytes_sub, covers_inside}
use Rattle.vub_driver.proofs.Fitting.{place_below}
use Rattle.vub_driver.proofs.Cells.{in_used, in_element, in_reply}
use Rattle.vub_driver.proofs.Writes.{element_bytes, inside}
use Rattle.vub_driver.proofs.Kept.{Keeps, IsSmall, ask_in, reply_in, put_low, index_small, word_is, same_index, minus_zero, minus_same, length-numbered, take_numbered}

-- a collect where all its tests are known
answer : Bool → Bool → Bool → Bool → Bool → Bool → Bool → Done → Result (Option Done) DriverError
answer index none ahead element id long reply d =
    cond (not index) (Err Outside) (cond none (Ok None) (cond ahead (Err UsedAhead) (cond (not element) (Err Outside) (cond (not id) (Err BadId) (cond long (Err BadLength) (cond (not reply) (Err Outside) (Ok (Some d))))))))

le_ltb : (a b : ℕ) → b ≤ a → ltb a b ≡ false
le_ltb a b h = grind arith

known : (index none ahead element id long reply : Bool) (d : Done) → index ≡ true → none ≡ false → ahead ≡ false → element ≡ true → id ≡ true → long ≡ false → reply ≡ true →
    answer index none ahead element id long reply d ≡ Ok (Some d)
unfolding answer
known index none ahead element id long reply d a b c e f g h = rw (a, b, c, e, f, g, h) refl

known_none : (index none ahead element id long reply : Bool) (d : Done) → index ≡ true → none ≡ true → answer index none ahead element id long reply d ≡ Ok None
unfolding answer
known_none index none ahead element id long reply d a b = rw (a, b) refl

-- the answer to the oldest outstanding request
abbrev pub next_in : World → Done
next_in w = record { number = w.driver.collected; reply = reply_in w.replies w.driver.collected }

module _ (r : Region) (w : World) (k : Keeps r w) where
  used_word : number_at w16 w.guest (used_index_at w.driver.layout) ≡ index_of (length w.replies)
  used_word = word_is w.guest (used_index_at w.driver.layout) (index_of (length w.replies)) (index_small (length w.replies)) k.reads.used

  used_covered : covers w.guest.regions (used_index_at w.driver.layout) 2 ≡ true
  used_covered = covers_inside r w.guest (used_index_at w.driver.layout) 2 k.reads.flat (inside r k.lies.used (in_used w.driver.layout))

  new_is : new_of w.driver w.guest ≡ minus (index_of (length w.replies)) (index_of w.driver.collected)
  new_is = ap (λ x. minus x (index_of w.driver.collected)) used_word

  near : length w.replies ≤ w.driver.collected + half_of w.driver.layout
  near = omega (arith, put_low r w k, k.behind, k.near)

  -- nothing is new exactly where all replies were collected
  nothing : eqb (new_of w.driver w.guest) 0 ≡ true → w.driver.collected ≡ length w.replies
  nothing none =
      same_index w.driver.collected (length w.replies) (half_of w.driver.layout) k.put near (omega (arith, k.apart.fit.small, k.apart.fit.even))
      (sym (minus_zero (index_of (length w.replies)) (index_of w.driver.collected) (index_small (length w.replies)) (index_small w.driver.collected) (sym new_is ∙ eqb-true (new_of w.driver w.guest) 0 none)))

  something : eqb (new_of w.driver w.guest) 0 ≡ false → w.driver.collected < length w.replies
  something some =
      let cases : (w.driver.collected < length w.replies) ⊎ (w.driver.collected ≡ length w.replies) = (let order : w.driver.collected ≤ length w.replies = k.put in grind arith) in
      elim cases [
        | inl below ↦ below
        | inr same ↦ absurd (eqb-false (new_of w.driver w.guest) 0 some
            (new_is ∙ ap (λ n. minus (index_of (length w.replies)) (index_of n)) same ∙ minus_same (index_of (length w.replies)) (index_small (length w.replies))))
      ]

  whole : w.driver.collected ≡ length w.replies → w.answers ≡ numbered 0 w.replies
  whole same = k.first ∙ ap (λ n. take n (numbered 0 w.replies)) same ∙ take_all (length w.replies) (numbered 0 w.replies) (omega (arith, length-numbered 0 w.replies))

  -- what a collect reads where something is new
  module _ (below : w.driver.collected < length w.replies) where
    own : w.driver.collected ≤ w.driver.collected
    own = omega arith

    outstanding : w.driver.collected < w.driver.submitted
    outstanding = omega (arith, put_low r w k, k.behind)

    small : IsSmall w.driver.layout (ask_in w.asked w.driver.collected)
    small = k.small w.driver.collected outstanding

    short : length (reply_in w.replies w.driver.collected) ≤ (ask_in w.asked w.driver.collected).room
    short = k.short w.driver.collected own below

    element : bytes_at w.guest (used_element_at w.driver.layout w.driver.collected) 8 ≡ element_bytes (head_of w.driver.layout w.driver.collected) (length (reply_in w.replies w.driver.collected))
    element = k.reads.elements w.driver.collected own below

    id_is : id_of w.driver w.guest ≡ head_of w.driver.layout w.driver.collected
    unfolding number_at
    id_is =
        let here : used_element_at w.driver.layout w.driver.collected ≡ used_element_at w.driver.layout w.driver.collected + 0 = omega arith in
        ap (λ a. from_le_bytes w32 (bytes_at w.guest a 4)) here
        ∙ ap (from_le_bytes w32) (bytes_sub w.guest (used_element_at w.driver.layout w.driver.collected) 8 0 4 (omega arith) ∙ ap (λ b. take 4 (drop 0 b)) element)
        ∙ from_le_bytes-to_le_bytes_4 (head_of w.driver.layout w.driver.collected) (omega (arith, place_below w.driver.layout w.driver.collected k.apart.fit, k.apart.fit.small, k.apart.fit.even))

    len_is : len_of w.driver w.guest ≡ length (reply_in w.replies w.driver.collected)
    unfolding number_at
    len_is =
        ap (from_le_bytes w32) (bytes_sub w.guest (used_element_at w.driver.layout w.driver.collected) 8 4 4 (omega arith) ∙ ap (λ b. take 4 (drop 4 b)) element)
        ∙ from_le_bytes-to_le_bytes_4 (length (reply_in w.replies w.driver.collected)) (omega (arith, short, small.both))

    not_ahead : ltb (w.driver.submitted - w.driver.collected) (new_of w.driver w.guest) ≡ false
    not_ahead = le_ltb (w.driver.submitted - w.driver.collected) (new_of w.driver w.guest) (omega (arith, new_is, put_low r w k, k.behind))

    covered : covers w.guest.regions (used_element_at w.driver.layout w.driver.collected) 8 ≡ true
    covered = covers_inside r w.guest (used_element_at w.driver.layout w.driver.collected) 8 k.reads.flat (inside r k.lies.used (in_element w.driver.layout w.driver.collected k.apart))

    not_long : ltb (oldest_room w.driver) (len_of w.driver w.guest) ≡ false
    not_long = le_ltb (oldest_room w.driver) (len_of w.driver w.guest) (omega (arith, k.rooms w.driver.collected own outstanding, len_is, short))

    reply_covered : covers w.guest.regions (reply_at w.driver.layout w.driver.collected) (len_of w.driver w.guest) ≡ true
    reply_covered =
        covers_inside r w.guest (reply_at w.driver.layout w.driver.collected) (len_of w.driver w.guest) k.reads.flat
        (inside r k.lies.buffers (in_reply w.driver.layout w.driver.collected (len_of w.driver w.guest) k.apart (omega (arith, len_is, short, small.space))))

    done_is : done_of w.driver w.guest ≡ record { number = w.driver.collected; reply = reply_in w.replies w.driver.collected }
    done_is = ap (λ bs. record { number = w.driver.collected; reply = bs }) (ap (bytes_at w.guest (reply_at w.driver.layout w.driver.collected)) len_is ∙ k.reads.replies w.driver.collected own below)

    gives : eqb (new_of w.driver w.guest) 0 ≡ false → collect_answer w.driver w.guest ≡ Ok (Some (next_in w))
    unfolding collect_answer answer
    gives some =
        known (covers w.guest.regions (used_index_at w.driver.layout) 2) (eqb (new_of w.driver w.guest) 0) (ltb (w.driver.submitted - w.driver.collected) (new_of w.driver w.guest))
        (covers w.guest.regions (used_element_at w.driver.layout w.driver.collected) 8) (eqb (id_of w.driver w.guest) (head_of w.driver.layout w.driver.collected)) (ltb (oldest_room w.driver) (len_of w.driver w.guest))
        (covers w.guest.regions (reply_at w.driver.layout w.driver.collected) (len_of w.driver w.guest)) (done_of w.driver w.guest)
        used_covered some not_ahead covered (eq-eqb (id_of w.driver w.guest) (head_of w.driver.layout w.driver.collected) id_is) not_long reply_covered
        ∙ ap (λ d. Ok (Some d)) done_is

  finds_nothing : eqb (new_of w.driver w.guest) 0 ≡ true → collect_answer w.driver w.guest ≡ Ok None
  unfolding collect_answer answer
  finds_nothing none =
      known_none (covers w.guest.regions (used_index_at w.driver.layout) 2) (eqb (new_of w.driver w.guest) 0) (ltb (w.driver.submitted - w.driver.collected) (new_of w.driver w.guest))
      (covers w.guest.regions (used_element_at w.driver.layout w.driver.collected) 8) (eqb (id_of w.driver w.guest) (head_of w.driver.layout w.driver.collected)) (ltb (oldest_room w.driver) (len_of w.driver w.guest))
      (covers w.guest.regions (reply_at w.driver.layout w.driver.collected) (len_of w.driver w.guest)) (done_of w.driver w.guest)
      used_covered none

  -- what a collect answers
  pub collects : ((collect_answer w.driver w.guest ≡ Ok None) × (w.driver.collected ≡ length w.replies))
      ⊎ ((collect_answer w.driver w.guest ≡ Ok (Some (next_in w))) × (w.driver.collected < length w.replies))
  collects = elim (cases_Bool (eqb (new_of w.driver w.guest) 0)) [
    | inl none ↦ inl (finds_nothing none, nothing none)
    | inr some ↦ inr (gives (something some) some, something some)
  ]

  not_some : ◌≡◌ {A = Result (Option Done) DriverError} (Ok (Some (next_in w))) (Ok None) → ⊥
  not_some h = (let no : ⊥ = cc in no)

  pub all_collected : collect_answer w.driver w.guest ≡ Ok None → w.answers ≡ numbered 0 w.replies
  all_collected none = elim collects [
    | inl found ↦ whole found.1
    | inr found ↦ absurd (not_some (sym found.0 ∙ none))
  ]

  pub never_refused : IsOk (collect_answer w.driver w.guest)
  never_refused = elim collects [
    | inl found ↦ subst IsOk (sym found.0) refl
    | inr found ↦ subst IsOk (sym found.0) refl
  ]

  pub keeps_collected : w.driver.collected < length w.replies → Keeps r (record w { driver = record w.driver { collected = w.driver.collected + 1 }; answers = w.answers ++ next_in w ∷ [] })
  keeps_collected below =
      let up : 0 + w.driver.collected ≡ w.driver.collected = omega arith in
      record {
        apart = k.apart;
        lies = k.lies;
        event_idx = k.event_idx;
        tested = k.tested;
        long = k.long;
        rooms = λ n from to. k.rooms n (omega arith) to;
        asked = k.asked;
        small = k.small;
        count = ap (λ n. n + 1) k.count ∙ sym (length_push w.answers (next_in w));
        first = ap₂ (λ ds n. ds ++ record { number = n; reply = reply_in w.replies w.driver.collected } ∷ []) k.first (sym up) ∙ sym (take_numbered 0 w.driver.collected w.replies below);
        put = omega arith;
        held = k.held;
        taken = k.taken;
        behind = k.behind;
        near = omega (arith, k.near);
        size = k.size;
        addresses = k.addresses;
        next_avail = k.next_avail;
        next_used = k.next_used;
        reads = record {
          flat = k.reads.flat;
          index = k.reads.index;
          requests = k.reads.requests;
          chains = k.reads.chains;
          slots = k.reads.slots;
          used = k.reads.used;
          elements = λ n from to. k.reads.elements n (omega arith) to;
          replies = λ n from to. k.reads.replies n (omega arith) to;
        };
        short = λ n from to. k.short n (omega arith) to;
        holding = k.holding;
        event = k.event;
      }
