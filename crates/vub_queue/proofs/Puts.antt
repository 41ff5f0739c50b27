-- Laws of a reply over segments.
use Rattle.std.proofs.Common.{◌≡◌, ℕ, suc, ◌+◌, ◌<◌, ◌≤◌, Bool, true, false, ◌&&◌, List, ◌++◌, length, get_or, take, drop, drop-cons, drop_of_length-le, append_assoc, append-nil, sym, ap, ap₂, subst, ◌∙◌, arith}
use Rattle.std.proofs.lemmas.Bool.{and_left, and_parts}
use Rattle.vub_mem.proofs.MarkLaws.{marks_append}
use Rattle.vub_mem.specs.Marks.{Mark, MarksAll, marks_of}
use Rattle.vub_mem.specs.declared.dirty.Stored.{Stored}
use Rattle.vub_mem.specs.Memory.{Guest}
use Rattle.vub_mem.specs.Place.{covers, write_at}
use Rattle.vub_mem.specs.declared.region.Region.{Region}
use Rattle.vub_queue.specs.declared.segment.Segment.{Segment}
use Rattle.vub_queue.specs.Notification.{used_event_covers}
use Rattle.vub_queue.specs.Put.{reply_marks, ring_used, room_covers, write_reply}
use Rattle.vub_queue.specs.Ring.{Ring}

-- the segments before i are written
pub record RoomSo (old now : Guest) (segments : List Segment) (reply : List ℕ) (i : ℕ) (rest : List ℕ) : Type 0 where
  pub regions : now.regions ≡ old.regions
  pub covered : room_covers old.regions (drop i segments) rest ≡ true
  pub written : write_reply now (drop i segments) rest ≡ write_reply old segments reply

-- one segment of the rest
pub room_step : (rs : List Region) (ss : List Segment) (i : ℕ) (d : Segment) (rest : List ℕ) → i < length ss →
    room_covers rs (drop i ss) rest ≡ covers rs (get_or ss i d).addr (length (take (get_or ss i d).len rest)) && room_covers rs (drop (i + 1) ss) (drop (get_or ss i d).len rest)
unfolding room_covers
room_step rs ss i d rest h =
    ap (λ l. room_covers rs l rest) (drop-cons ss i d h)
    ∙ (let up : suc i ≡ i + 1 = omega arith in
    ap (λ k. covers rs (get_or ss i d).addr (length (take (get_or ss i d).len rest)) && room_covers rs (drop k ss) (drop (get_or ss i d).len rest)) up)

pub room_end : (rs : List Region) (ss : List Segment) (i : ℕ) (rest : List ℕ) → length ss ≤ i → room_covers rs (drop i ss) rest ≡ true
unfolding room_covers
room_end rs ss i rest h = ap (λ l. room_covers rs l rest) (drop_of_length-le ss h)

pub room_false : (rs : List Region) (ss : List Segment) (i : ℕ) (d : Segment) (rest piece reply : List ℕ) → i < length ss → piece ≡ take (get_or ss i d).len rest → covers rs (get_or ss i d).addr (length piece) ≡ false →
    room_covers rs (drop i ss) rest ≡ room_covers rs ss reply → false ≡ room_covers rs ss reply
room_false rs ss i d rest piece reply h is none e =
    sym (sym e ∙ room_step rs ss i d rest h ∙ and_left (covers rs (get_or ss i d).addr (length (take (get_or ss i d).len rest))) (room_covers rs (drop (i + 1) ss) (drop (get_or ss i d).len rest)) (ap (λ p. covers rs (get_or ss i d).addr (length p)) (sym is) ∙ none))

pub room_true : (rs : List Region) (ss : List Segment) (i : ℕ) (d : Segment) (rest piece after : List ℕ) → i < length ss → piece ≡ take (get_or ss i d).len rest → after ≡ drop (get_or ss i d).len rest → covers rs (get_or ss i d).addr (length piece) ≡ true →
    room_covers rs (drop (i + 1) ss) after ≡ room_covers rs (drop i ss) rest
room_true rs ss i d rest piece after h is back all =
    ap (λ r. room_covers rs (drop (i + 1) ss) r) back
    ∙ sym (room_step rs ss i d rest h ∙ ap (λ b. b && room_covers rs (drop (i + 1) ss) (drop (get_or ss i d).len rest)) (ap (λ p. covers rs (get_or ss i d).addr (length p)) (sym is) ∙ all))

pub write_step : (g : Guest) (ss : List Segment) (i : ℕ) (d : Segment) (rest : List ℕ) → i < length ss →
    write_reply g (drop i ss) rest ≡ write_reply (write_at g (get_or ss i d).addr (take (get_or ss i d).len rest)) (drop (i + 1) ss) (drop (get_or ss i d).len rest)
unfolding write_reply
write_step g ss i d rest h =
    ap (λ l. write_reply g l rest) (drop-cons ss i d h)
    ∙ (let up : suc i ≡ i + 1 = omega arith in
    ap (λ k. write_reply (write_at g (get_or ss i d).addr (take (get_or ss i d).len rest)) (drop k ss) (drop (get_or ss i d).len rest)) up)

pub write_end : (g : Guest) (ss : List Segment) (i : ℕ) (rest : List ℕ) → length ss ≤ i → write_reply g (drop i ss) rest ≡ g
unfolding write_reply
write_end g ss i rest h = ap (λ l. write_reply g l rest) (drop_of_length-le ss h)

-- one segment more is written
pub room_more : (old now next : Guest) (ss : List Segment) (reply : List ℕ) (i : ℕ) (d : Segment) (rest piece after : List ℕ) → i < length ss → RoomSo old now ss reply i rest → piece ≡ take (get_or ss i d).len rest → after ≡ drop (get_or ss i d).len rest →
    next.regions ≡ now.regions → next ≡ write_at now (get_or ss i d).addr piece → RoomSo old next ss reply (i + 1) after
room_more old now next ss reply i d rest piece after h so is back regions writes =
    let both : (covers old.regions (get_or ss i d).addr (length (take (get_or ss i d).len rest)) ≡ true) × (room_covers old.regions (drop (i + 1) ss) (drop (get_or ss i d).len rest) ≡ true) =
    and_parts (covers old.regions (get_or ss i d).addr (length (take (get_or ss i d).len rest))) (room_covers old.regions (drop (i + 1) ss) (drop (get_or ss i d).len rest)) (sym (room_step old.regions ss i d rest h) ∙ so.covered) in
    record {
      regions = regions ∙ so.regions;
      covered = ap (λ r. room_covers old.regions (drop (i + 1) ss) r) back ∙ both.1;
      written = ap₂ (λ m r. write_reply m (drop (i + 1) ss) r) (writes ∙ ap (λ p. write_at now (get_or ss i d).addr p) is) back ∙ sym (write_step now ss i d rest h) ∙ so.written;
    }

pub room_keep : (rs : List Region) (ss : List Segment) (i : ℕ) (d : Segment) (rest piece after : List ℕ) (b : Bool) → i < length ss → room_covers rs (drop i ss) rest ≡ b → piece ≡ take (get_or ss i d).len rest → after ≡ drop (get_or ss i d).len rest → covers rs (get_or ss i d).addr (length piece) ≡ true →
    room_covers rs (drop (i + 1) ss) after ≡ b
room_keep rs ss i d rest piece after b h e is back all = room_true rs ss i d rest piece after h is back all ∙ e

pub room_all : (rs : List Region) (ss : List Segment) (i : ℕ) (rest : List ℕ) (b : Bool) → length ss ≤ i → room_covers rs (drop i ss) rest ≡ b → true ≡ b
room_all rs ss i rest b h e = sym (room_end rs ss i rest h) ∙ e

pub write_all : (old now : Guest) (ss : List Segment) (reply rest : List ℕ) (i : ℕ) → length ss ≤ i → RoomSo old now ss reply i rest → now ≡ write_reply old ss reply
write_all old now ss reply rest i h so = sym (write_end now ss i rest h) ∙ so.written

-- the marks of the segments before i are made
pub record MarksSo {L : Type 0} (step : L → ℕ → L → Type 0) (rs : List Region) (old now : List (Stored L)) (ss : List Segment) (reply : List ℕ) (i : ℕ) (rest : List ℕ) : Type 0 where
  pub made : List Mark
  pub marks : MarksAll step old made now
  pub split : made ++ reply_marks rs (drop i ss) rest ≡ reply_marks rs ss reply

marks_step : (rs : List Region) (ss : List Segment) (i : ℕ) (d : Segment) (rest : List ℕ) → i < length ss →
    reply_marks rs (drop i ss) rest ≡ marks_of rs (get_or ss i d).addr (length (take (get_or ss i d).len rest)) ++ reply_marks rs (drop (i + 1) ss) (drop (get_or ss i d).len rest)
unfolding reply_marks
marks_step rs ss i d rest h =
    ap (λ l. reply_marks rs l rest) (drop-cons ss i d h)
    ∙ (let up : suc i ≡ i + 1 = omega arith in
    ap (λ k. marks_of rs (get_or ss i d).addr (length (take (get_or ss i d).len rest)) ++ reply_marks rs (drop k ss) (drop (get_or ss i d).len rest)) up)

pub marks_next : {L : Type 0} → (step : L → ℕ → L → Type 0) (rs : List Region) (old now next : List (Stored L)) (ss : List Segment) (reply : List ℕ) (i : ℕ) (d : Segment) (rest piece after : List ℕ) → i < length ss → MarksSo step rs old now ss reply i rest → piece ≡ take (get_or ss i d).len rest → after ≡ drop (get_or ss i d).len rest →
    MarksAll step now (marks_of rs (get_or ss i d).addr (length piece)) next → MarksSo step rs old next ss reply (i + 1) after
marks_next step rs old now next ss reply i d rest piece after h so is back marks = record {
  made = so.made ++ marks_of rs (get_or ss i d).addr (length piece);
  marks = marks_append step old now next so.made (marks_of rs (get_or ss i d).addr (length piece)) so.marks marks;
  split =
      append_assoc so.made (marks_of rs (get_or ss i d).addr (length piece)) (reply_marks rs (drop (i + 1) ss) after)
      ∙ ap (λ l. so.made ++ l) (ap₂ (λ p a. marks_of rs (get_or ss i d).addr (length p) ++ reply_marks rs (drop (i + 1) ss) a) is back ∙ sym (marks_step rs ss i d rest h))
      ∙ so.split;
}

pub marks_end : {L : Type 0} → (step : L → ℕ → L → Type 0) (rs : List Region) (old now : List (Stored L)) (ss : List Segment) (reply : List ℕ) (i : ℕ) (rest : List ℕ) → length ss ≤ i → MarksSo step rs old now ss reply i rest → MarksAll step old (reply_marks rs ss reply) now
unfolding reply_marks
marks_end step rs old now ss reply i rest h so =
    let whole : so.made ≡ reply_marks rs ss reply = sym (append-nil so.made) ∙ ap (λ l. so.made ++ reply_marks rs l rest) (sym (drop_of_length-le ss h)) ∙ so.split in
    subst (λ ms. MarksAll step old ms now) whole so.marks

-- the next piece is covered
pub room_here : (old now : Guest) (ss : List Segment) (reply : List ℕ) (i : ℕ) (d : Segment) (rest piece : List ℕ) → i < length ss → RoomSo old now ss reply i rest → piece ≡ take (get_or ss i d).len rest → covers now.regions (get_or ss i d).addr (length piece) ≡ true
room_here old now ss reply i d rest piece h so is =
    let both : (covers old.regions (get_or ss i d).addr (length (take (get_or ss i d).len rest)) ≡ true) × (room_covers old.regions (drop (i + 1) ss) (drop (get_or ss i d).len rest) ≡ true) =
    and_parts (covers old.regions (get_or ss i d).addr (length (take (get_or ss i d).len rest))) (room_covers old.regions (drop (i + 1) ss) (drop (get_or ss i d).len rest)) (sym (room_step old.regions ss i d rest h) ∙ so.covered) in
    ap₂ (λ rs p. covers rs (get_or ss i d).addr (length p)) so.regions is ∙ both.0

pub marks_here : {L : Type 0} → (step : L → ℕ → L → Type 0) (rs qs : List Region) (now next : List (Stored L)) (a n : ℕ) → qs ≡ rs → MarksAll step now (marks_of qs a n) next → MarksAll step now (marks_of rs a n) next
marks_here step rs qs now next a n e marks = subst (λ r. MarksAll step now (marks_of r a n) next) e marks

-- the marks of one write and of the next
pub marks_two : {L : Type 0} → (step : L → ℕ → L → Type 0) (rs qs : List Region) (f : List Region → List Mark) (old mid new : List (Stored L)) (ms : List Mark) → qs ≡ rs → MarksAll step old ms mid → MarksAll step mid (f qs) new → MarksAll step old (ms ++ f rs) new
marks_two step rs qs f old mid new ms e first second = marks_append step old mid new ms (f rs) first (subst (λ r. MarksAll step mid (f r) new) e second)

-- whether used_event is covered depends neither on bytes nor on what was used
pub event_stays : (rs qs : List Region) (r q : Ring) → qs ≡ rs → q ≡ ring_used r → used_event_covers rs r ≡ true → used_event_covers qs q ≡ true
unfolding used_event_covers
event_stays rs qs r q same used covered = rw (same, used) covered
