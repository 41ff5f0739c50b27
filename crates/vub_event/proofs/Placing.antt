-- What the changes of a list in order do at a place.
use Rattle.std.proofs.Common.{ℕ, zero, suc, true, false, is_some, ◌+◌, ◌<◌, ◌≡◌, List, [], ◌∷◌, ◌++◌, length, take, drop, set, get_or, Some, None, insert, sym, ◌∙◌, ap, subst, refl, arith, add-one}
use Rattle.std.proofs.lemmas.Bool.Decides.{nat_tests}
use Rattle.vub_event.specs.declared.member.Member.{Member}
use Rattle.vub_event.specs.InterestList.{AllAbove, IsOrdered, member_of, with_member, with_changed, without_member}
use Rattle.vub_event.specs.Place.{AllBelow, IsAt, GoesAt}

pub member-hit : (xs ys : List Member) (m : Member) → AllBelow m.object xs → member_of (xs ++ m ∷ ys) m.object ≡ Some m
member-hit [] ys m below = grind (arith, nat_tests)
member-hit (x ∷ xs) ys m below = grind (arith, nat_tests, member-hit xs ys m below.1)

pub member-above : (ys : List Member) (o : ℕ) → AllAbove o ys → member_of ys o ≡ None
member-above [] o above = refl
member-above (y ∷ ys) o above = grind (arith, nat_tests, member-above ys o above.1)

pub member-missed : (xs ys : List Member) (o : ℕ) → AllBelow o xs → AllAbove o ys → member_of (xs ++ ys) o ≡ None
member-missed [] ys o below above = member-above ys o above
member-missed (x ∷ xs) ys o below above = grind (arith, nat_tests, member-missed xs ys o below.1 above)

pub with-split : (xs ys : List Member) (n : Member) → AllBelow n.object xs → AllAbove n.object ys → with_member (xs ++ ys) n ≡ xs ++ n ∷ ys
with-split [] [] n below above = refl
with-split [] (y ∷ ys) n below above = grind (arith, nat_tests)
with-split (x ∷ xs) ys n below above = grind (arith, nat_tests, with-split xs ys n below.1 above)

pub changed-above : (ys : List Member) (n : Member) → AllAbove n.object ys → with_changed ys n ≡ ys
changed-above [] n above = refl
changed-above (y ∷ ys) n above = grind (arith, nat_tests, changed-above ys n above.1)

pub changed-split : (xs ys : List Member) (m n : Member) → m.object ≡ n.object → AllBelow n.object xs → AllAbove n.object ys → with_changed (xs ++ m ∷ ys) n ≡ xs ++ n ∷ ys
changed-split [] ys m n is below above = grind (arith, nat_tests, changed-above ys n above)
changed-split (x ∷ xs) ys m n is below above = grind (arith, nat_tests, changed-split xs ys m n is below.1 above)

pub without-above : (ys : List Member) (o : ℕ) → AllAbove o ys → without_member ys o ≡ ys
without-above [] o above = refl
without-above (y ∷ ys) o above = grind (arith, nat_tests, without-above ys o above.1)

pub without-missed : (xs ys : List Member) (o : ℕ) → AllBelow o xs → AllAbove o ys → without_member (xs ++ ys) o ≡ xs ++ ys
without-missed [] ys o below above = without-above ys o above
without-missed (x ∷ xs) ys o below above = grind (arith, nat_tests, without-missed xs ys o below.1 above)

pub without-split : (xs ys : List Member) (m : Member) (o : ℕ) → m.object ≡ o → AllBelow o xs → AllAbove o ys → without_member (xs ++ m ∷ ys) o ≡ xs ++ ys
without-split [] ys m o is below above = grind (arith, nat_tests, without-above ys o above)
without-split (x ∷ xs) ys m o is below above = grind (arith, nat_tests, without-split xs ys m o is below.1 above)

above-insert : (k : ℕ) (xs ys : List Member) (n : Member) → k < n.object → AllAbove k (xs ++ ys) → AllAbove k (xs ++ n ∷ ys)
above-insert k [] ys n lt above = (lt, above)
above-insert k (x ∷ xs) ys n lt above = (above.0, above-insert k xs ys n lt above.1)

above-remove : (k : ℕ) (xs ys : List Member) (m : Member) → AllAbove k (xs ++ m ∷ ys) → AllAbove k (xs ++ ys)
above-remove k [] ys m above = above.1
above-remove k (x ∷ xs) ys m above = (above.0, above-remove k xs ys m above.1)

pub ordered-with : (xs ys : List Member) (n : Member) → AllBelow n.object xs → AllAbove n.object ys → IsOrdered (xs ++ ys) → IsOrdered (xs ++ n ∷ ys)
ordered-with [] ys n below above ordered = (above, ordered)
ordered-with (x ∷ xs) ys n below above ordered =
    (above-insert x.object xs ys n below.0 ordered.0, ordered-with xs ys n below.1 above ordered.1)

pub ordered-without : (xs ys : List Member) (m : Member) → IsOrdered (xs ++ m ∷ ys) → IsOrdered (xs ++ ys)
ordered-without [] ys m ordered = ordered.1
ordered-without (x ∷ xs) ys m ordered = (above-remove x.object xs ys m ordered.0, ordered-without xs ys m ordered.1)

pub set-split : (l : List Member) (i : ℕ) (v : Member) → i < length l → set l i v ≡ take i l ++ v ∷ drop (i + 1) l
set-split [] i v in' = absurd (omega arith)
set-split (x ∷ xs) zero v in' = refl
set-split (x ∷ xs) (suc i) v in' =
    let step : suc i + 1 ≡ suc (i + 1) = omega arith in
    rw step (ap (λ (l : List Member). x ∷ l) (set-split xs i v (omega arith)))

-- the same at a place of the list
pub got : (ms : List Member) (o i : ℕ) (x : Member) → IsAt ms o i → x ≡ get_or ms i x → Some x ≡ member_of ms o
got ms o i x at is =
    let same : x ≡ at.member = is ∙ at.found x in
    let P = λ (l : List Member). Some x ≡ member_of l o in
    subst P (sym at.split) (rw (← at.is, same) (sym (member-hit _ _ at.member (rw at.is at.below))))

pub missed : (ms : List Member) (o i : ℕ) → GoesAt ms o i → None ≡ member_of ms o
missed ms o i at = sym (ap (λ (l : List Member). member_of l o) at.split ∙ member-missed _ _ o at.below at.above)

pub added : (ms : List Member) (n : Member) (i : ℕ) → GoesAt ms n.object i → insert ms i n ≡ with_member ms n
added ms n i at = sym (ap (λ (l : List Member). with_member l n) at.split ∙ with-split _ _ n at.below at.above)

pub ordered-added : (ms : List Member) (n : Member) (i : ℕ) → GoesAt ms n.object i → IsOrdered ms → IsOrdered (insert ms i n)
ordered-added ms n i at ordered = ordered-with _ _ n at.below at.above (subst IsOrdered at.split ordered)

pub changed : (ms : List Member) (n : Member) (i : ℕ) → i < length ms → IsAt ms n.object i → set ms i n ≡ with_changed ms n
changed ms n i in' at =
    set-split ms i n in' ∙ sym (ap (λ (l : List Member). with_changed l n) at.split ∙ changed-split _ _ at.member n at.is at.below at.above)

pub ordered-changed : (ms : List Member) (n : Member) (i : ℕ) → i < length ms → IsAt ms n.object i → IsOrdered ms → IsOrdered (set ms i n)
ordered-changed ms n i in' at ordered =
    rw (set-split ms i n in')
    (ordered-with _ _ n at.below at.above (ordered-without _ _ at.member (subst IsOrdered at.split ordered)))

pub removed : (ms : List Member) (o i : ℕ) → IsAt ms o i → take i ms ++ drop (suc i) ms ≡ without_member ms o
removed ms o i at =
    rw (← add-one) (sym (ap (λ (l : List Member). without_member l o) at.split ∙ without-split _ _ at.member o at.is at.below at.above))

pub ordered-removed : (ms : List Member) (o i : ℕ) → IsAt ms o i → IsOrdered ms → IsOrdered (take i ms ++ drop (suc i) ms)
ordered-removed ms o i at ordered = rw (← add-one) (ordered-without _ _ at.member (subst IsOrdered at.split ordered))

pub kept : (ms : List Member) (o i : ℕ) → GoesAt ms o i → ms ≡ without_member ms o
kept ms o i at = at.split ∙ sym (ap (λ (l : List Member). without_member l o) at.split ∙ without-missed _ _ o at.below at.above)

pub hit : (ms : List Member) (o i : ℕ) → IsAt ms o i → true ≡ is_some (member_of ms o)
hit ms o i at = ap is_some (got ms o i at.member at (sym (at.found at.member)))

pub miss : (ms : List Member) (o i : ℕ) → GoesAt ms o i → false ≡ is_some (member_of ms o)
miss ms o i at = ap is_some (missed ms o i at)
