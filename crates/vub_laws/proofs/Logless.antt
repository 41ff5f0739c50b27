-- The log of a region bears on no look-up: where two tables are the same but for their logs, the same addresses are
-- covered, lie at the same places, and are read, written and answered for alike.
use Rattle.std.proofs.Common.{◌≡◌, ℕ, Bool, true, false, cond, ◌&&◌, List, [], ◌∷◌, ◌++◌, length, map, take, drop, Option, Some, None, is_some, option_map, refl, sym, ap, ap₂, ◌∙◌, flat_map}
use Rattle.std.proofs.Math.Path.{fun_ext}
use Rattle.std.specs.List.{list_all, range_with_len}
use Rattle.vub_mem.specs.declared.content.Content.{Content}
use Rattle.vub_mem.specs.declared.region.Region.{Region}
use Rattle.vub_mem.specs.Place.{holds, region_of, covers, byte_in, poke_in}
use Rattle.vub_mem.specs.Table.{unlogged}
use Rattle.vub_queue.specs.declared.chain.Chain.{Chain}
use Rattle.vub_queue.specs.declared.segment.Segment.{Segment}
use Rattle.vub_queue.specs.Layout.{used_element_at, used_index_at, used_event_at}
use Rattle.vub_queue.specs.Notification.{used_event_covers}
use Rattle.vub_queue.specs.Put.{room_covers, used_covers, put_answer}
use Rattle.vub_queue.specs.Ring.{Ring}
use Rattle.vub_model.specs.declared.entry.Entry.{Entry}
use Rattle.vub_model.specs.Written.{spot_in, spots_of, reply_spots, put_spots}
use Rattle.vub_laws.specs.Alone.{SameTable, placing}

-- One table

-- a region is found as before, but for its log
found-logless : (rs : List Region) (a : ℕ) → region_of (map unlogged rs) a ≡ option_map unlogged (region_of rs a)
found-logless [] a = refl
found-logless (r ∷ rs) a = by (holds r a) (found-logless rs a) where
  by : (b : Bool) → region_of (map unlogged rs) a ≡ option_map unlogged (region_of rs a) → cond b (Some (unlogged r)) (region_of (map unlogged rs) a) ≡ option_map unlogged (cond b (Some r) (region_of rs a))
  by true rest = refl
  by false rest = rest

-- what a look-up of an address makes of its region, but for the log, it makes of two tables alike
found-alike : {X : Type 0} (f : Option Region → X) → ((r : Option Region) → f (option_map unlogged r) ≡ f r) → (rs qs : List Region) (a : ℕ) → SameTable rs qs → f (region_of rs a) ≡ f (region_of qs a)
found-alike f keeps rs qs a same =
    sym (keeps (region_of rs a)) ∙ ap f (sym (found-logless rs a))
    ∙ (ap (λ l. f (region_of l a)) same ∙ (ap f (found-logless qs a) ∙ keeps (region_of qs a)))

some-logless : (r : Option Region) → is_some (option_map unlogged r) ≡ is_some r
some-logless None = refl
some-logless (Some r) = refl

byte-logless : (cs : List Content) (a : ℕ) (r : Option Region) → byte_in cs a (option_map unlogged r) ≡ byte_in cs a r
byte-logless cs a None = refl
byte-logless cs a (Some r) = refl

poke-logless : (cs : List Content) (a b : ℕ) (r : Option Region) → poke_in cs a b (option_map unlogged r) ≡ poke_in cs a b r
poke-logless cs a b None = refl
poke-logless cs a b (Some r) = refl

spot-logless : (a : ℕ) (r : Option Region) → spot_in (option_map unlogged r) a ≡ spot_in r a
spot-logless a None = refl
spot-logless a (Some r) = refl

-- Two tables that are the same but for their logs

pub same-tables : (rs qs : List Region) → rs ≡ qs → SameTable rs qs
same-tables rs qs same = ap (λ l. map unlogged l) same

module _ (rs qs : List Region) (same : SameTable rs qs) where
  pub same-byte : (cs : List Content) (a : ℕ) → byte_in cs a (region_of rs a) ≡ byte_in cs a (region_of qs a)
  same-byte cs a = found-alike (λ r. byte_in cs a r) (byte-logless cs a) rs qs a same

  pub same-poke : (cs : List Content) (a b : ℕ) → poke_in cs a b (region_of rs a) ≡ poke_in cs a b (region_of qs a)
  same-poke cs a b = found-alike (λ r. poke_in cs a b r) (poke-logless cs a b) rs qs a same

  pub same-covers : (a n : ℕ) → covers rs a n ≡ covers qs a n
  unfolding covers
  same-covers a n = ap (λ p. list_all p (range_with_len a n)) (fun_ext (λ x. found-alike is_some some-logless rs qs x same))

  pub same-spots : (a n : ℕ) → spots_of rs a n ≡ spots_of qs a n
  same-spots a n = ap (λ f. flat_map f (range_with_len a n)) (fun_ext (λ x. found-alike (λ r. spot_in r x) (spot-logless x) rs qs x same))

  -- Puts

  same-room : (ss : List Segment) (reply : List ℕ) → room_covers rs ss reply ≡ room_covers qs ss reply
  unfolding room_covers
  same-room [] reply = refl
  same-room (s ∷ ss) reply = ap₂ (λ a b. a && b) (same-covers s.addr (length (take s.len reply))) (same-room ss (drop s.len reply))

  same-used : (r : Ring) → used_covers rs r ≡ used_covers qs r
  unfolding used_covers
  same-used r = ap₂ (λ a b. a && b) (same-covers (used_element_at r) 8) (same-covers (used_index_at r) 2)

  same-event : (r : Ring) → used_event_covers rs r ≡ used_event_covers qs r
  unfolding used_event_covers
  same-event r = ap (λ b. cond r.event_idx b true) (same-covers (used_event_at r) 2)

  pub same-answer : (r : Ring) (c : Chain) (reply : List ℕ) (wanted : Bool) → put_answer rs r c reply wanted ≡ put_answer qs r c reply wanted
  unfolding put_answer
  same-answer r c reply wanted = rw (same-room c.segments reply, same-used r, same-event r) refl

  same-reply : (ss : List Segment) (reply : List ℕ) → reply_spots rs ss reply ≡ reply_spots qs ss reply
  same-reply [] reply = refl
  same-reply (s ∷ ss) reply = ap₂ (λ a b. a ++ b) (same-spots s.addr (length (take s.len reply))) (same-reply ss (drop s.len reply))

  same-put : (r : Ring) (c : Chain) (reply : List ℕ) → put_spots rs r c reply ≡ put_spots qs r c reply
  same-put r c reply = ap₂ (λ a b. a ++ b) (same-reply c.segments reply) (ap₂ (λ a b. a ++ b) (same-spots (used_element_at r) 8) (same-spots (used_index_at r) 2))

  pub same-placing : (r : Ring) (e : Entry) (reply : List ℕ) → placing rs r e reply ≡ placing qs r e reply
  same-placing r e reply = ap (λ spots. record (placing qs r e reply) { spots = spots }) (same-put r e.chain reply)
