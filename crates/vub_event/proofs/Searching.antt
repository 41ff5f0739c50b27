-- The place that a search by halves finds in a list in order.
use Rattle.std.proofs.Common.{ℕ, zero, suc, ◌+◌, ◌<◌, ◌≤◌, ◌≡◌, ◌≢◌, List, [], ◌∷◌, ◌++◌, length, take, drop, get_or, true, false, ap, subst, refl, arith, nat_lt}
use Rattle.std.proofs.lemmas.Bool.Decides.{nat_tests}
use Rattle.vub_event.specs.declared.member.Member.{Member}
use Rattle.vub_event.specs.InterestList.{AllAbove, IsOrdered}
use Rattle.vub_event.specs.Place.{AllBelow, IsAt, GoesAt}

above-at : (k : ℕ) (ms : List Member) (j : ℕ) (d : Member) → AllAbove k ms → j < length ms → k < (get_or ms j d).object
above-at k [] j d above lt = absurd (omega arith)
above-at k (m ∷ ms) zero d above lt = above.0
above-at k (m ∷ ms) (suc j) d above lt = above-at k ms j d above.1 (omega arith)

above-weaker : (j k : ℕ) (ms : List Member) → j ≤ k → AllAbove k ms → AllAbove j ms
above-weaker j k [] le above = tt
above-weaker j k (m ∷ ms) le above = (omega (arith, above.0), above-weaker j k ms le above.1)

rising : (ms : List Member) (i j : ℕ) (d : Member) → IsOrdered ms → i ≤ j → j < length ms → (get_or ms i d).object ≤ (get_or ms j d).object
rising [] i j d ordered le lt = absurd (omega arith)
rising (m ∷ ms) zero zero d ordered le lt = omega arith
rising (m ∷ ms) zero (suc j) d ordered le lt = omega (arith, above-at m.object ms j d ordered.0 (omega arith))
rising (m ∷ ms) (suc i) zero d ordered le lt = absurd (omega arith)
rising (m ∷ ms) (suc i) (suc j) d ordered le lt = rising ms i j d ordered.1 (omega arith) (omega arith)

-- no member below `o` comes after one that isn't
pub parted : (ms : List Member) (o : ℕ) → IsOrdered ms → (i j : ℕ) (d : Member) → i ≤ j → j < length ms → nat_lt (get_or ms j d).object o ≡ true → nat_lt (get_or ms i d).object o ≡ true
parted ms o ordered i j d le lt is = let h = rising ms i j d ordered le lt in grind (arith, nat_tests)

pub below-take : (o : ℕ) (ms : List Member) (i : ℕ) → i ≤ length ms → ((k : ℕ) (d : Member) → 0 ≤ k → k < i → nat_lt (get_or ms k d).object o ≡ true) → AllBelow o (take i ms)
below-take o [] zero le all = tt
below-take o [] (suc i) le all = absurd (omega arith)
below-take o (m ∷ ms) zero le all = tt
below-take o (m ∷ ms) (suc i) le all = (
  let h = all 0 m (omega arith) (omega arith) in grind (arith, nat_tests),
  below-take o ms i (omega arith) (λ k d low lt. all (suc k) d (omega arith) (omega arith)),
)

pub above-drop : (ms : List Member) (i : ℕ) (d : Member) → IsOrdered ms → i < length ms → AllAbove (get_or ms i d).object (drop (i + 1) ms)
above-drop [] i d ordered lt = absurd (omega arith)
above-drop (m ∷ ms) zero d ordered lt = ordered.0
above-drop (m ∷ ms) (suc i) d ordered lt =
    let step : suc i + 1 ≡ suc (i + 1) = omega arith in
    rw step (above-drop ms i d ordered.1 (omega arith))

pub above-from : (o : ℕ) (ms : List Member) (i : ℕ) → IsOrdered ms
    → ((k : ℕ) (d : Member) → i ≤ k → k < length ms → nat_lt (get_or ms k d).object o ≡ false)
    → (i < length ms → (d : Member) → (get_or ms i d).object ≢ o) → AllAbove o (drop i ms)
above-from o [] zero ordered all apart = tt
above-from o [] (suc i) ordered all apart = tt
above-from o (m ∷ ms) zero ordered all apart =
    let h = all 0 m (omega arith) (omega arith) in
    let g = apart (omega arith) m in
    let lt : o < m.object = grind (arith, nat_tests) in
    (lt, above-weaker o m.object ms (omega arith) ordered.0)
above-from o (m ∷ ms) (suc i) ordered all apart =
    above-from o ms i ordered.1 (λ k d low lt. all (suc k) d (omega arith) (omega arith)) (λ lt d. apart (omega arith) d)

-- the element at a place, and the lists before and after it
pub split-at : (ms : List Member) (i : ℕ) (d : Member) → i < length ms → ms ≡ take i ms ++ get_or ms i d ∷ drop (i + 1) ms
split-at [] i d lt = absurd (omega arith)
split-at (m ∷ ms) zero d lt = refl
split-at (m ∷ ms) (suc i) d lt =
    let step : suc i + 1 ≡ suc (i + 1) = omega arith in
    rw step (ap (λ (l : List Member). m ∷ l) (split-at ms i d (omega arith)))

pub split-here : (ms : List Member) (i : ℕ) → ms ≡ take i ms ++ drop i ms
split-here [] zero = refl
split-here [] (suc i) = refl
split-here (m ∷ ms) zero = refl
split-here (m ∷ ms) (suc i) = ap (λ (l : List Member). m ∷ l) (split-here ms i)

-- the same element, whatever stands in for a missing one
pub same-at : (ms : List Member) (i : ℕ) (d e : Member) → i < length ms → get_or ms i d ≡ get_or ms i e
same-at [] i d e lt = absurd (omega arith)
same-at (m ∷ ms) zero d e lt = refl
same-at (m ∷ ms) (suc i) d e lt = same-at ms i d e (omega arith)

pub found-at : (ms : List Member) (o i : ℕ) (d : Member) → IsOrdered ms → i < length ms → (get_or ms i d).object ≡ o
    → ((k : ℕ) (d : Member) → 0 ≤ k → k < i → nat_lt (get_or ms k d).object o ≡ true) → IsAt ms o i
found-at ms o i d ordered lt here all = record {
  member = get_or ms i d;
  split = split-at ms i d lt;
  found = λ e. same-at ms i e d lt;
  is = here;
  below = below-take o ms i (omega arith) all;
  above = let P = λ (n : ℕ). AllAbove n (drop (i + 1) ms) in subst P here (above-drop ms i d ordered lt);
}

pub goes-at : (ms : List Member) (o i : ℕ) → IsOrdered ms → i ≤ length ms
    → ((k : ℕ) (d : Member) → 0 ≤ k → k < i → nat_lt (get_or ms k d).object o ≡ true)
    → ((k : ℕ) (d : Member) → i ≤ k → k < length ms → nat_lt (get_or ms k d).object o ≡ false)
    → (i < length ms → (d : Member) → (get_or ms i d).object ≢ o) → GoesAt ms o i
goes-at ms o i ordered le all none apart = record {
  split = split-here ms i;
  below = below-take o ms i le all;
  above = above-from o ms i ordered none apart;
}
