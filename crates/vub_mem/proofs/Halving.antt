-- Laws of look-ups by halving over regions that stand in order.
use Rattle.std.proofs.Common.{◌≡◌, ℕ, zero, suc, ◌+◌, ◌-◌, ◌*◌, ◌^◌, ◌<◌, ◌≤◌, inl, inr, Bool, true, false, List, [], ◌∷◌, Some, None, min, sym, ap, subst, ◌∙◌, arith, position, ltb, leb, length, get_or}
use Rattle.std.specs.List.{position_or_len, AllByRecursion}
use Rattle.std.proofs.lemmas.Bool.{and_parts, cases_Bool, cases_lt, leb-true, lt-ltb, le-ltb, cond-true, cond-false}
use Rattle.std.proofs.Math.Nat.{pow-succ', pow-le-pow_right, mul-le-mul_left}
use Rattle.std.proofs.lemmas.List.{get_or_default}
use Rattle.vub_mem.specs.declared.region.Region.{Region}
use Rattle.vub_mem.specs.Place.{holds, region_of}
use Rattle.vub_mem.specs.Sound.{IsApart, IsBounded}
use Rattle.vub_mem.specs.Found.{IsFound}
use Rattle.vub_mem.specs.Halving.{IsParted, IsPast, StandsAt, IsRegionAt, HalvesIn}
use Rattle.vub_mem.proofs.Finds.{first_true, first_false, find_first, find_nothing, all_at}
use Rattle.vub_mem.proofs.Ranges.{found}
use Rattle.vub_mem.proofs.Chunks.{not_held}

-- what is read past the end of a table
abbrev pub no_region : Region
no_region = record { start = 0; len = 0; object = 0; offset = 0; log = None }

pub region_is : (rs : List Region) (k : ℕ) (d : Region) → k < length rs → IsRegionAt rs k (get_or rs k d)
region_is rs k d h = record { within = h; is = λ e. get_or_default rs k e d h }

-- of two regions the earlier ends where the later starts, or before
pub apart_at : (rs : List Region) (i j : ℕ) (d : Region) → IsApart rs → i < j → j < length rs → (get_or rs i d).start + (get_or rs i d).len ≤ (get_or rs j d).start
apart_at [] i j d apart lt h = absurd (omega arith)
apart_at (q ∷ rs) i zero d apart lt h = absurd (omega arith)
apart_at (q ∷ rs) zero (suc j) d apart lt h = all_at (λ s. q.start + q.len ≤ s.start) rs j d (omega arith) apart.0
apart_at (q ∷ rs) (suc i) (suc j) d apart lt h = apart_at rs i j d apart.1 (omega arith) (omega arith)

-- so it starts no later
pub ordered_at : (rs : List Region) (i j : ℕ) (d : Region) → IsApart rs → i ≤ j → j < length rs → (get_or rs i d).start ≤ (get_or rs j d).start
ordered_at rs i j d apart le h = elim (cases_lt i j) [
  | inl lt ↦ omega (arith, apart_at rs i j d apart lt h)
  | inr ge ↦ (let same : i ≡ j = omega arith in subst (λ k. (get_or rs i d).start ≤ (get_or rs k d).start) same (omega arith))
]

-- the first region that passes a test
first_at : {X : Type 0} → (p : X → Bool) (xs : List X) (k : ℕ) (d : X) → k < length xs → ((j : ℕ) → j < k → p (get_or xs j d) ≡ false) → p (get_or xs k d) ≡ true → position_or_len p xs ≡ k
first_at p [] k d h before here = absurd (omega arith)
first_at p (x ∷ xs) zero d h before here = first_true p x xs here
first_at p (x ∷ xs) (suc k) d h before here =
    first_false p x xs (before 0 (omega arith)) ∙ ap suc (first_at p xs k d (omega arith) (λ j lt. before (suc j) (omega arith)) here)

first_nowhere : {X : Type 0} → (p : X → Bool) (xs : List X) (d : X) → ((j : ℕ) → j < length xs → p (get_or xs j d) ≡ false) → length xs ≤ position_or_len p xs
first_nowhere p [] d none = omega arith
first_nowhere p (x ∷ xs) d none =
    let rest : length xs ≤ position_or_len p xs = first_nowhere p xs d (λ j lt. none (suc j) (omega arith)) in
    omega (arith, first_false p x xs (none 0 (omega arith)))

not_yet : (q : Region) (b : ℕ) → b < q.start → holds q b ≡ false
not_yet q b h = elim (cases_Bool (holds q b)) [
  | inl t ↦ absurd (let low : q.start ≤ b = leb-true q.start b (and_parts (leb q.start b) (ltb (b - q.start) q.len) t).0 in omega arith)
  | inr f ↦ f
]

-- no region before the place holds the address
before_not : (rs : List Region) (a k : ℕ) (d : Region) → StandsAt rs a k → (j : ℕ) → j < k → holds (get_or rs j d) a ≡ false
before_not rs a k d at j lt = not_held (get_or rs j d) a (at.low j d lt)

pub place_is : (rs : List Region) (a k : ℕ) (d : Region) → StandsAt rs a k → k < length rs → holds (get_or rs k d) a ≡ true → position_or_len (λ r. holds r a) rs ≡ k
place_is rs a k d at h here = first_at (λ r. holds r a) rs k d h (before_not rs a k d at) here

pub place_nowhere : (rs : List Region) (a k : ℕ) (d : Region) → StandsAt rs a k → (k < length rs → holds (get_or rs k d) a ≡ false) → length rs ≤ position_or_len (λ r. holds r a) rs
place_nowhere rs a k d at not_here =
    first_nowhere (λ r. holds r a) rs d (λ j lt.
    elim (cases_lt j k) [
      | inl low ↦ before_not rs a k d at j low
      | inr ge ↦ elim (cases_lt k j) [
        | inl high ↦ not_yet (get_or rs j d) a (at.high j d high lt)
        | inr le ↦ (let same : k ≡ j = omega arith in subst (λ i. holds (get_or rs i d) a ≡ false) same (not_here (omega arith)))
      ]
    ])

-- the region of the place holds the address
pub region_found : (rs : List Region) (a k : ℕ) (r : Region) → AllByRecursion IsBounded rs → StandsAt rs a k → IsRegionAt rs k r → holds r a ≡ true → IsFound rs a r
region_found rs a k r all at is here =
    let there : holds (get_or rs k r) a ≡ true = subst (λ q. holds q a ≡ true) (sym (is.is r)) here in
    let place : position_or_len (λ r. holds r a) rs ≡ k = place_is rs a k r at is.within there in
    found rs a r all
    (find_first (λ r. holds r a) rs r (let w = is.within in omega arith)
    ∙ ap (λ i. Some (get_or rs i r)) place ∙ ap (λ q. Some q) (is.is r))

-- no region holds the address
pub region_nowhere : (rs : List Region) (a k : ℕ) (d : Region) → StandsAt rs a k → (k < length rs → holds (get_or rs k d) a ≡ false) → region_of rs a ≡ None
region_nowhere rs a k d at not_here = find_nothing (λ r. holds r a) rs (place_nowhere rs a k d at not_here)

pub position_is : (rs : List Region) (a k : ℕ) (d : Region) → StandsAt rs a k → k < length rs → holds (get_or rs k d) a ≡ true → Some k ≡ position (λ r. holds r a) rs
position_is rs a k d at h here =
    let place : position_or_len (λ r. holds r a) rs ≡ k = place_is rs a k d at h here in
    sym (cond-true (ltb (position_or_len (λ r. holds r a) rs) (length rs)) (Some (position_or_len (λ r. holds r a) rs)) None (lt-ltb (position_or_len (λ r. holds r a) rs) (length rs) (omega arith))
    ∙ ap (λ i. Some i) place)

pub position_nowhere : (rs : List Region) (a k : ℕ) (d : Region) → StandsAt rs a k → (k < length rs → holds (get_or rs k d) a ≡ false) → None ≡ position (λ r. holds r a) rs
position_nowhere rs a k d at not_here =
    sym (cond-false (ltb (position_or_len (λ r. holds r a) rs) (length rs)) (Some (position_or_len (λ r. holds r a) rs)) None (le-ltb (position_or_len (λ r. holds r a) rs) (length rs) (place_nowhere rs a k d at not_here)))

-- behind the region of the place only the next one can hold
pub stands_next : (rs : List Region) (a k : ℕ) (r : Region) → AllByRecursion IsBounded rs → IsApart rs → IsRegionAt rs k r → r.start + r.len ≡ a → StandsAt rs a (k + 1)
stands_next rs a k r all apart is e = record {
  within = (let w = is.within in omega arith);
  low = λ j d lt.
      elim (cases_lt j k) [
        | inl low ↦ (let before : (get_or rs j d).start + (get_or rs j d).len ≤ (get_or rs k d).start = apart_at rs j k d apart low is.within in
            let starts : (get_or rs k d).start ≡ r.start = ap (λ (q : Region). q.start) (is.is d) in omega arith)
        | inr ge ↦ (let same : k ≡ j = omega arith in
            subst (λ i. (get_or rs i d).start + (get_or rs i d).len ≤ a) same
            (subst (λ (q : Region). q.start + q.len ≤ a) (sym (is.is d)) (omega arith)))
      ];
  high = λ j d lt h.
      (let first : (get_or rs k d).start + (get_or rs k d).len ≤ (get_or rs (k + 1) d).start = apart_at rs k (k + 1) d apart (omega arith) (omega arith) in
      let then_ : (get_or rs (k + 1) d).start + (get_or rs (k + 1) d).len ≤ (get_or rs j d).start = apart_at rs (k + 1) j d apart (omega arith) h in
      let some : IsBounded (get_or rs (k + 1) d) = all_at IsBounded rs (k + 1) d (omega arith) all in
      let starts : (get_or rs k d).start ≡ r.start = ap (λ (q : Region). q.start) (is.is d) in
      let lens : (get_or rs k d).len ≡ r.len = ap (λ (q : Region). q.len) (is.is d) in
      omega (arith, some.some));
}

-- the walk goes on behind the region, where the rest of a range of n is not in it
pub next_after : (rs : List Region) (a k here n : ℕ) (r : Region) → AllByRecursion IsBounded rs → IsApart rs → IsFound rs a r → IsRegionAt rs k r → here ≡ min (r.len - (a - r.start)) n → here < n → StandsAt rs (a + here) (k + 1)
next_after rs a k here n r all apart f is e more = stands_next rs (a + here) k r all apart is (omega (arith, f.low, f.high))

-- a place before which all regions end at or below the address, and from which the first ends above it
pub stands_past : (rs : List Region) (a k : ℕ) (d : Region) → AllByRecursion IsBounded rs → IsApart rs → IsPast rs a k → (k < length rs → a < (get_or rs k d).start + (get_or rs k d).len) → StandsAt rs a k
stands_past rs a k d all apart past ends = record {
  within = past.within;
  low = past.low;
  high = λ j e lt h.
      (let here : a < (get_or rs k d).start + (get_or rs k d).len = ends (omega arith) in
      let is : get_or rs k d ≡ get_or rs k e = get_or_default rs k d e (omega arith) in
      let starts : (get_or rs k d).start ≡ (get_or rs k e).start = ap (λ (q : Region). q.start) is in
      let lens : (get_or rs k d).len ≡ (get_or rs k e).len = ap (λ (q : Region). q.len) is in
      let behind : (get_or rs k e).start + (get_or rs k e).len ≤ (get_or rs j e).start = apart_at rs k j e apart lt h in
      omega arith);
}

pub past_next : (rs : List Region) (a k : ℕ) (d : Region) → IsPast rs a k → k < length rs → (get_or rs k d).start + (get_or rs k d).len ≤ a → IsPast rs a (k + 1)
past_next rs a k d past h ends = record {
  within = omega arith;
  low = λ j e lt.
      elim (cases_lt j k) [
        | inl low ↦ past.low j e low
        | inr ge ↦ (let same : k ≡ j = omega arith in
            let is : get_or rs k d ≡ get_or rs k e = get_or_default rs k d e h in
            subst (λ i. (get_or rs i e).start + (get_or rs i e).len ≤ a) same (subst (λ (q : Region). q.start + q.len ≤ a) is ends))
      ];
}

pub past_up : (rs : List Region) (a b k : ℕ) → IsPast rs a k → a ≤ b → IsPast rs b k
past_up rs a b k past le = record { within = past.within; low = λ j d lt. (let below = past.low j d lt in omega arith) }

pub past_of : (rs : List Region) (a k : ℕ) → StandsAt rs a k → IsPast rs a k
past_of rs a k at = record { within = at.within; low = at.low }

-- halving: the first `low` regions start at or below the address, those from `high` on above it
pub record HalvesSo (rs : List Region) (a low high : ℕ) : Type 0 where
  pub order : low ≤ high
  pub within : high ≤ length rs
  pub below : (j : ℕ) (d : Region) → j < low → (get_or rs j d).start ≤ a
  pub above : (j : ℕ) (d : Region) → high ≤ j → j < length rs → a < (get_or rs j d).start

pub halves_first : (rs : List Region) (a n : ℕ) → n ≡ length rs → HalvesSo rs a 0 n
halves_first rs a n e = record {
  order = omega arith;
  within = omega arith;
  below = λ j d lt. absurd (omega arith);
  above = λ j d ge lt. absurd (omega arith);
}

pub halves_low : (rs : List Region) (a low high middle start : ℕ) → IsApart rs → HalvesSo rs a low high → middle < high → low ≤ middle → ((d : Region) → start ≡ (get_or rs middle d).start) → start ≤ a → HalvesSo rs a (middle + 1) high
halves_low rs a low high middle start apart so lt ge is le = record {
  order = omega arith;
  within = so.within;
  below = λ j d below. (let before : (get_or rs j d).start ≤ (get_or rs middle d).start = ordered_at rs j middle d apart (omega arith) (let w = so.within in omega arith) in omega (arith, is d));
  above = so.above;
}

pub halves_high : (rs : List Region) (a low high middle start : ℕ) → IsApart rs → HalvesSo rs a low high → middle < high → low ≤ middle → ((d : Region) → start ≡ (get_or rs middle d).start) → a < start → HalvesSo rs a low middle
halves_high rs a low high middle start apart so lt ge is gt = record {
  order = ge;
  within = (let w = so.within in omega arith);
  below = so.below;
  above = λ j d from h. (let before : (get_or rs middle d).start ≤ (get_or rs j d).start = ordered_at rs middle j d apart from h in omega (arith, is d));
}

pub halved : (rs : List Region) (a low high : ℕ) → HalvesSo rs a low high → high ≤ low → IsParted rs a low
halved rs a low high so done = record {
  within = (let w = so.within in let o = so.order in omega arith);
  low = so.below;
  high = λ j d ge h. so.above j d (omega arith) h;
}

pub stands_parted : (rs : List Region) (a k : ℕ) → IsApart rs → IsParted rs a k → StandsAt rs a (k - 1)
stands_parted rs a k apart parted = record {
  within = (let w = parted.within in omega arith);
  low = λ j d lt. (let w = parted.within in
      let before : (get_or rs j d).start + (get_or rs j d).len ≤ (get_or rs (k - 1) d).start = apart_at rs j (k - 1) d apart lt (omega arith) in
      let below : (get_or rs (k - 1) d).start ≤ a = parted.low (k - 1) d (omega arith) in omega arith);
  high = λ j d gt h. parted.high j d (omega arith) h;
}

-- the steps of halving: what is left to look at, doubled with each step, is never more than there was
pub record StepsSo (n before now width : ℕ) : Type 0 where
  pub later : before ≤ now
  pub left : 2 ^ (now - before) * width ≤ n
  pub steps : 2 ^ (now - before) ≤ 2 * n + 1

pub steps_first : (n before : ℕ) → StepsSo n before before n
steps_first n before =
    let none : before - before ≡ 0 = omega arith in
    record {
      later = omega arith;
      left = subst (λ k. 2 ^ k * n ≤ n) (sym none) (omega arith);
      steps = subst (λ k. 2 ^ k ≤ 2 * n + 1) (sym none) (omega arith);
    }

doubled : (p n width less : ℕ) → p * width ≤ n → 0 < width → 2 * less ≤ width → (2 * p * less ≤ n) × (2 * p ≤ 2 * n + 1)
doubled p n width less left some half =
    let a : p * (2 * less) ≤ p * width = mul-le-mul_left p half in
    let b : p * 1 ≤ p * width = mul-le-mul_left p some in
    (omega arith, omega arith)

pub steps_more : (n before now next width less : ℕ) → StepsSo n before now width → next ≡ now + 1 → 0 < width → 2 * less ≤ width → StepsSo n before next less
steps_more n before now next width less so e some half =
    let up : next - before ≡ suc (now - before) = omega (arith, so.later) in
    let twice : 2 ^ (next - before) ≡ 2 * 2 ^ (now - before) = ap (λ k. 2 ^ k) up ∙ pow-succ' 2 (now - before) in
    let both = doubled (2 ^ (now - before)) n width less so.left some half in
    record {
      later = omega (arith, so.later);
      left = subst (λ p. p * less ≤ n) (sym twice) both.0;
      steps = subst (λ p. p ≤ 2 * n + 1) (sym twice) both.1;
    }

-- halving over seven starts takes at most three steps, over none no step
pub seven_in_three : (before after : ℕ) → HalvesIn 7 before after → after ≤ before + 3
seven_in_three before after halves = elim (cases_lt (before + 3) after) [
  | inl more ↦ (let four : 4 ≤ after - before = omega arith in
      let pow : 2 ^ 4 ≤ 2 ^ (after - before) = (let two : 0 < 2 = omega arith in pow-le-pow_right two four) in
      absurd (omega arith))
  | inr le ↦ le
]

pub none_in_none : (before after : ℕ) → HalvesIn 0 before after → after ≤ before
none_in_none before after halves = elim (cases_lt before after) [
  | inl more ↦ (let one : 1 ≤ after - before = omega arith in
      let pow : 2 ^ 1 ≤ 2 ^ (after - before) = (let two : 0 < 2 = omega arith in pow-le-pow_right two one) in
      absurd (omega arith))
  | inr le ↦ le
]
