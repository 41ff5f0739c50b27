-- Setting a run of flags at once is setting the flag of each place.
use Rattle.std.proofs.Common.{Vec, Global, map, ◌≡◌, ℕ, zero, suc, ◌+◌, ◌-◌, ◌<◌, ◌≤◌, inl, inr, Bool, true, List, [], ◌∷◌, ◌++◌, Option, Some, None, is_some, refl, sym, ap, subst, ◌∙◌, arith, length, get_or, set, take, drop, min, append-nil, append_assoc, length-set}
use Rattle.std.specs.Vec.{with_items}
use Rattle.std.specs.Option.{option_map}
use Rattle.std.proofs.lemmas.Bool.{cases_lt, and_parts}
use Rattle.std.proofs.lemmas.List.{set-set, set-get_or, get_or-set_same, set_past, drop_more, drop_all, map-set, get_or-map}
use Rattle.std.proofs.lemmas.List.Sums.{fold-append}
use Rattle.vub_mem.specs.declared.place.Place.{Place}
use Rattle.vub_mem.specs.declared.region.Region.{Region}
use Rattle.vub_mem.specs.Place.{region_of, covers}
use Rattle.vub_mem.proofs.Ranges.{covers_at}
use Rattle.vub_mem.specs.PlaceAt.{place_at, place_in, RunsOn}
use Rattle.vub_queue.specs.declared.segment.Segment.{Segment}
use Rattle.vub_queue.specs.Put.{room_covers}
use Rattle.vub_model.specs.Written.{Spot, spot_in, spots_of, reply_spots, flagged, with_spots}
use Rattle.vub_core.specs.Flags.{filled, run_flagged}

-- runs of places

pub spots_add : (rs : List Region) (a n m : ℕ) → spots_of rs a (n + m) ≡ spots_of rs a n ++ spots_of rs (a + n) m
spots_add rs a zero m = ap (λ k. spots_of rs a k) (let e : 0 + m ≡ m = omega arith in e) ∙ ap (λ k. spots_of rs k m) (let e : a ≡ a + 0 = omega arith in e)
spots_add rs a (suc n) m =
    ap (λ k. spots_of rs a k) (let e : suc n + m ≡ suc (n + m) = omega arith in e)
    ∙ ap (λ l. spot_in (region_of rs a) a ++ l) (spots_add rs (a + 1) n m ∙ ap (λ k. spots_of rs (a + 1) n ++ spots_of rs k m) (let e : a + 1 + n ≡ a + suc n = omega arith in e))
    ∙ sym (append_assoc (spot_in (region_of rs a) a) (spots_of rs (a + 1) n) (spots_of rs (a + suc n) m))

abbrev spot_of : Option Place → List Spot
spot_of None = []
spot_of (Some p) = record { object = p.object; offset = p.offset } ∷ []

spot_there : (o : Option Region) (a : ℕ) → spot_in o a ≡ spot_of (option_map (λ r. place_in a r) o)
spot_there None a = refl
spot_there (Some r) a = refl

spots_one : (rs : List Region) (a i : ℕ) (p : Place) → RunsOn rs a p → i < p.left → spots_of rs (a + i) 1 ≡ record { object = p.object; offset = p.offset + i } ∷ []
spots_one rs a i p runs below = append-nil (spot_in (region_of rs (a + i)) (a + i)) ∙ spot_there (region_of rs (a + i)) (a + i) ∙ ap spot_of (runs i below)

flagged_again : (flags : List (List Bool)) (o i : ℕ) (x : List Bool) → flagged (set flags o x) (record { object = o; offset = i }) ≡ set flags o (set x i true)
flagged_again flags o i x =
    elim (cases_lt o (length flags)) [
      | inl within ↦ set-set flags o x (set (get_or (set flags o x) o []) i true) ∙ ap (λ y. set flags o (set y i true)) (get_or-set_same flags o x [] within)
      | inr past ↦ set_past (set flags o x) o (set (get_or (set flags o x) o []) i true) (let len = length-set flags o x in omega arith) ∙ set_past flags o x past ∙ sym (set_past flags o (set x i true) past)
    ]

-- the flags of a run in one region
pub run_flags : (rs : List Region) (flags : List (List Bool)) (a n : ℕ) (p : Place) → RunsOn rs a p → n ≤ p.left → with_spots flags (spots_of rs a n) ≡ run_flagged flags p.object p.offset n
run_flags rs flags a zero p runs fits = sym (set-get_or flags p.object [])
run_flags rs flags a (suc n) p runs fits =
    ap (λ l. with_spots flags l) (ap (λ k. spots_of rs a k) (let e : suc n ≡ n + 1 = omega arith in e) ∙ spots_add rs a n 1)
    ∙ fold-append flagged flags (spots_of rs a n) (spots_of rs (a + n) 1)
    ∙ ap (λ f. with_spots f (spots_of rs (a + n) 1)) (run_flags rs flags a n p runs (omega arith))
    ∙ ap (λ l. with_spots (run_flagged flags p.object p.offset n) l) (spots_one rs a n p runs (omega arith))
    ∙ flagged_again flags p.object (p.offset + n) (filled (get_or flags p.object []) p.offset n)

-- the front of a range is flagged
pub record FlagsSo (rs : List Region) (before flags : List (List Bool)) (addr len at left : ℕ) : Type 0 where
  pub split : at + left ≡ addr + len
  pub past : addr ≤ at
  pub set : flags ≡ with_spots before (spots_of rs addr (at - addr))

no_place : (o : Option Region) (a : ℕ) → option_map (λ r. place_in a r) o ≡ None → is_some o ≡ true → ⊥
no_place None a none some = cc
no_place (Some r) a none some = (let e : Some (place_in a r) ≡ None = none in cc)

-- an address of a covered range lies in a region
pub place_none : (rs : List Region) (before flags : List (List Bool)) (addr len at left : ℕ) → covers rs addr len ≡ true → FlagsSo rs before flags addr len at left → 0 < left → place_at rs at ≡ None → ⊥
place_none rs before flags addr len at left all so some none =
    let there : is_some (region_of rs at) ≡ true = covers_at rs addr len at all so.past (omega (arith, so.split)) in
    no_place (region_of rs at) at none there

-- flags past the end

pub length-filled : (flags : List Bool) (place n : ℕ) → length (filled flags place n) ≡ length flags
length-filled flags place zero = refl
length-filled flags place (suc n) = length-set (filled flags place n) (place + n) true ∙ length-filled flags place n

pub filled_past : (flags : List Bool) (place n m : ℕ) → length flags ≤ place + n → filled flags place (n + m) ≡ filled flags place n
filled_past flags place n zero past = ap (λ k. filled flags place k) (let e : n + 0 ≡ n = omega arith in e)
filled_past flags place n (suc m) past =
    ap (λ k. filled flags place k) (let e : n + suc m ≡ suc (n + m) = omega arith in e)
    ∙ set_past (filled flags place (n + m)) (place + (n + m)) true (let len = length-filled flags place (n + m) in omega arith)
    ∙ filled_past flags place n m past

pub filled_within : (flags : List Bool) (place n here : ℕ) → here ≡ min n (length flags - place) → filled flags place here ≡ filled flags place n
filled_within flags place n here is =
    elim (cases_lt here n) [
      | inl less ↦ sym (ap (λ k. filled flags place k) (let e : n ≡ here + (n - here) = omega arith in e) ∙ filled_past flags place here (n - here) (omega arith))
      | inr all ↦ ap (λ k. filled flags place k) (let e : here ≡ n = omega arith in e)
    ]

pub flags_none : (rs : List Region) (flags : List (List Bool)) (addr len : ℕ) → FlagsSo rs flags flags addr len addr len
flags_none rs flags addr len = record {
  split = refl;
  past = omega arith;
  set = ap (λ k. with_spots flags (spots_of rs addr k)) (let none : 0 ≡ addr - addr = omega arith in none);
}

pub flags_more : (rs : List Region) (before flags : List (List Bool)) (addr len at left here : ℕ) (p : Place) → FlagsSo rs before flags addr len at left → RunsOn rs at p → here ≤ p.left → here ≤ left → FlagsSo rs before (run_flagged flags p.object p.offset here) addr len (at + here) (left - here)
flags_more rs before flags addr len at left here p so runs fits short = record {
  split = omega (arith, so.split);
  past = omega (arith, so.past);
  set =
      sym (run_flags rs flags at here p runs fits)
      ∙ ap (λ f. with_spots f (spots_of rs at here)) so.set
      ∙ sym (fold-append flagged before (spots_of rs addr (at - addr)) (spots_of rs at here))
      ∙ ap (λ l. with_spots before l) (ap (λ k. spots_of rs addr (at - addr) ++ spots_of rs k here) (let start : at ≡ addr + (at - addr) = omega (arith, so.past) in start) ∙ sym (spots_add rs addr (at - addr) here))
      ∙ ap (λ k. with_spots before (spots_of rs addr k)) (let up : at - addr + here ≡ at + here - addr = omega (arith, so.past) in up);
}

pub flags_all : (rs : List Region) (before flags : List (List Bool)) (addr len at left : ℕ) → FlagsSo rs before flags addr len at left → left ≤ 0 → flags ≡ with_spots before (spots_of rs addr len)
flags_all rs before flags addr len at left so none = so.set ∙ (let all : at - addr ≡ len = omega (arith, so.split, so.past) in ap (λ k. with_spots before (spots_of rs addr k)) all)

-- the flags of the front of a reply's room are set
pub record RoomFlagged (rs : List Region) (before flags : List (List Bool)) (segments : List Segment) (reply : List ℕ) (index : ℕ) (rest : List ℕ) : Type 0 where
  pub covered : room_covers rs (drop index segments) rest ≡ true
  pub set : with_spots flags (reply_spots rs (drop index segments) rest) ≡ with_spots before (reply_spots rs segments reply)

pub room_none : (rs : List Region) (flags : List (List Bool)) (segments : List Segment) (reply : List ℕ) → room_covers rs segments reply ≡ true → RoomFlagged rs flags flags segments reply 0 reply
room_none rs flags segments reply covered = record { covered = covered; set = refl }

covered_next : (rs : List Region) (s : Segment) (ss : List Segment) (rest : List ℕ) → room_covers rs (s ∷ ss) rest ≡ true → (covers rs s.addr (length (take s.len rest)) ≡ true) × (room_covers rs ss (drop s.len rest) ≡ true)
unfolding room_covers
covered_next rs s ss rest covered = and_parts (covers rs s.addr (length (take s.len rest))) (room_covers rs ss (drop s.len rest)) covered

there : (segments : List Segment) (index : ℕ) (d : Segment) → index < length segments → drop index segments ≡ get_or segments index d ∷ drop (index + 1) segments
there segments index d within = drop_more segments index d within

pub room_covered : (rs : List Region) (before flags : List (List Bool)) (segments : List Segment) (reply rest piece : List ℕ) (index : ℕ) (d : Segment) → index < length segments → RoomFlagged rs before flags segments reply index rest → piece ≡ take (get_or segments index d).len rest → covers rs (get_or segments index d).addr (length piece) ≡ true
room_covered rs before flags segments reply rest piece index d within so front =
    ap (λ p. covers rs (get_or segments index d).addr (length p)) front
    ∙ (covered_next rs (get_or segments index d) (drop (index + 1) segments) rest (ap (λ l. room_covers rs l rest) (sym (there segments index d within)) ∙ so.covered)).0

pub room_next : (rs : List Region) (before flags next : List (List Bool)) (segments : List Segment) (reply rest piece behind : List ℕ) (index : ℕ) (d : Segment) → index < length segments → RoomFlagged rs before flags segments reply index rest → piece ≡ take (get_or segments index d).len rest → behind ≡ drop (get_or segments index d).len rest → next ≡ with_spots flags (spots_of rs (get_or segments index d).addr (length piece)) → RoomFlagged rs before next segments reply (index + 1) behind
room_next rs before flags next segments reply rest piece behind index d within so front back is =
    let s : Segment = get_or segments index d in
    record {
      covered = ap (λ l. room_covers rs (drop (index + 1) segments) l) back ∙ (covered_next rs s (drop (index + 1) segments) rest (ap (λ l. room_covers rs l rest) (sym (there segments index d within)) ∙ so.covered)).1;
      set =
          ap (λ f. with_spots f (reply_spots rs (drop (index + 1) segments) behind)) is
          ∙ ap (λ l. with_spots (with_spots flags (spots_of rs s.addr (length piece))) (reply_spots rs (drop (index + 1) segments) l)) back
          ∙ ap (λ p. with_spots (with_spots flags (spots_of rs s.addr (length p))) (reply_spots rs (drop (index + 1) segments) (drop s.len rest))) front
          ∙ sym (fold-append flagged flags (spots_of rs s.addr (length (take s.len rest))) (reply_spots rs (drop (index + 1) segments) (drop s.len rest)))
          ∙ ap (λ l. with_spots flags (reply_spots rs l rest)) (sym (there segments index d within))
          ∙ so.set;
    }

pub room_all : (rs : List Region) (before flags : List (List Bool)) (segments : List Segment) (reply rest : List ℕ) (index : ℕ) → length segments ≤ index → RoomFlagged rs before flags segments reply index rest → flags ≡ with_spots before (reply_spots rs segments reply)
room_all rs before flags segments reply rest index past so =
    ap (λ l. with_spots flags (reply_spots rs l rest)) (sym (drop_all index segments past)) ∙ so.set

take-append : (xs ys : List Bool) → take (length xs) (xs ++ ys) ≡ xs
take-append [] ys = refl
take-append (x ∷ xs) ys = ap (λ l. x ∷ l) (take-append xs ys)

-- a vector whose elements are written anew
pub whole : (flags items : List Bool) (n : ℕ) → length flags ≡ n → take n (flags ++ drop (length flags) items) ≡ flags
whole flags items n long = ap (λ k. take k (flags ++ drop (length flags) items)) (sym long) ∙ take-append flags (drop (length flags) items)

-- the list of vectors with one written anew, as a list of lists
pub flag_view : (vectors : List (Vec Bool Global)) (self : List (List Bool)) (object offset n len : ℕ) (old : Vec Bool Global) (piece flags : List Bool) → self ≡ map (λ v. v.items) vectors → object < len → len ≡ length vectors → old ≡ get_or vectors object old → piece ≡ old.items → length piece ≡ old.len → flags ≡ filled piece offset n → map (λ v. v.items) (set vectors object (with_items old flags)) ≡ run_flagged self object offset n
flag_view vectors self object offset n len old piece flags view within is place lent long fill =
    let items = λ (v : Vec Bool Global). v.items in
    map-set items vectors object (with_items old flags)
    ∙ ap (λ l. set (map items vectors) object l) (whole flags old.items old.len (ap length fill ∙ length-filled piece offset n ∙ long))
    ∙ ap (λ s. set s object flags) (sym view)
    ∙ ap (λ l. set self object l) (fill ∙ ap (λ f. filled f offset n) (lent ∙ ap items place ∙ sym (get_or-map items vectors object old [] (omega arith)) ∙ ap (λ s. get_or s object []) (sym view)))

pub flags_next : (rs : List Region) (before flags next : List (List Bool)) (addr len at left here : ℕ) (p : Place) → FlagsSo rs before flags addr len at left → RunsOn rs at p → here ≡ min p.left left → next ≡ run_flagged flags p.object p.offset here → FlagsSo rs before next addr len (at + here) (left - here)
flags_next rs before flags next addr len at left here p so runs is set =
    let P : List (List Bool) → Type 0 = λ f. FlagsSo rs before f addr len (at + here) (left - here) in
    subst P (sym set) (flags_more rs before flags addr len at left here p so runs (omega arith) (omega arith))
