-- Each call of a host leaves an orderly table orderly.
use Rattle.std.proofs.Common.{ℕ, zero, suc, ◌≡◌, ◌+◌, ◌-◌, ◌<◌, ◌≤◌, ◌⊎◌, inl, inr, ◌||◌, List, [], ◌∷◌, ◌++◌, get_or, set, map, Bool, true, false, not, if◌then◌else◌, Option, Some, None, is_some, nat_lt, eqb, ltb, Result, Ok, Err, sym, ◌∙◌, ap, subst, refl, arith}
use Rattle.std.proofs.lemmas.Bool.{cases_Bool, eqb-true, eqb-false, ltb-true, ltb-false, cond-true, cond-false}
use Rattle.std.proofs.lemmas.Bool.Decides.{nat_tests}
use Rattle.std.proofs.lemmas.List.{get_or-set_other}
use Rattle.vub_event.specs.declared.error.HostError.{HostError}
use Rattle.vub_event.specs.declared.error.HostError.TheVariants.{EBADF, EEXIST}
use Rattle.vub_event.specs.declared.event.Event.{Event}
use Rattle.vub_event.specs.declared.member.Member.{Member}
use Rattle.vub_event.specs.Counter.{greatest_count, write_refusal, written, read_value, after_read}
use Rattle.vub_event.specs.HostCalls.{Meets, due_of, with_change, new_event, create_event_after, create_list_after, signal_refusal, signal_after, consume_after, add_refusal, add_after, modify_after, delete_after, listener, listen_refusal, is_listed_as, claimed_by, claim_after, release_after, after_hang_up, hang_up_after, close_after, has_both, CreateEventCall, CreateListCall, SignalCall, ConsumeCall, AddCall, ModifyCall, DeleteCall, ListenCall, UnlistenCall, ConsumeAsCall, ClaimCall}
use Rattle.vub_event.specs.HostTable.{HostTable, empty_table, event_at, has_event, members_at, member_at, with_event, with_members}
use Rattle.vub_event.specs.InterestList.{AllAbove, IsOrdered, member_of, with_member, with_changed, without_member}
use Rattle.vub_event.specs.Orderly.{count_of, IsOrderly}
use Rattle.vub_event.proofs.AddLaws.{allowed, both-list}

-- a fact of each element, at any place, is kept
pub set-keeps : {X : Type 0} (P : X → Type 0) (xs : List X) (i : ℕ) (v d : X) → P v → ((j : ℕ) → P (get_or xs j d)) → (j : ℕ) → P (get_or (set xs i v) j d)
set-keeps P [] i v d has all j = all j
set-keeps P (x ∷ xs) zero v d has all zero = has
set-keeps P (x ∷ xs) zero v d has all (suc j) = all (suc j)
set-keeps P (x ∷ xs) (suc i) v d has all zero = all zero
set-keeps P (x ∷ xs) (suc i) v d has all (suc j) = set-keeps P xs i v d has (λ k. all (suc k)) j

pub push-keeps : {X : Type 0} (P : X → Type 0) (xs : List X) (v d : X) → P v → ((j : ℕ) → P (get_or xs j d)) → (j : ℕ) → P (get_or (xs ++ v ∷ []) j d)
push-keeps P [] v d has all zero = has
push-keeps P [] v d has all (suc j) = all (suc j)
push-keeps P (x ∷ xs) v d has all zero = all zero
push-keeps P (x ∷ xs) v d has all (suc j) = push-keeps P xs v d has (λ k. all (suc k)) j

pub map-keeps : {X : Type 0} (P Q : X → Type 0) (f : X → X) (xs : List X) (d : X) → Q d → ((x : X) → P x → Q (f x)) → ((j : ℕ) → P (get_or xs j d)) → (j : ℕ) → Q (get_or (map f xs) j d)
map-keeps P Q f [] d none step all j = none
map-keeps P Q f (x ∷ xs) d none step all zero = step x (all zero)
map-keeps P Q f (x ∷ xs) d none step all (suc j) = map-keeps P Q f xs d none step (λ k. all (suc k)) j

some-set : (xs : List (Option Event)) (i : ℕ) (e : Event) (j : ℕ) → is_some (get_or xs j None) ≡ true → is_some (get_or (set xs i (Some e)) j None) ≡ true
some-set [] i e j is = is
some-set (x ∷ xs) zero e zero is = refl
some-set (x ∷ xs) zero e (suc j) is = is
some-set (x ∷ xs) (suc i) e zero is = is
some-set (x ∷ xs) (suc i) e (suc j) is = some-set xs i e j is

some-push : (xs : List (Option Event)) (e : Event) (j : ℕ) → is_some (get_or xs j None) ≡ true → is_some (get_or (xs ++ Some e ∷ []) j None) ≡ true
some-push [] e j is = absurd (let h : ⊥ = cc in h)
some-push (x ∷ xs) e zero is = is
some-push (x ∷ xs) e (suc j) is = some-push xs e j is

-- lists in order
above-less : (k n : ℕ) (ms : List Member) → n < k → AllAbove k ms → AllAbove n ms
above-less k n [] less above = tt
above-less k n (m ∷ ms) less above = (let first : k < m.object = above.0 in omega arith, above-less k n ms less above.1)

above-with : (k : ℕ) (ms : List Member) (n : Member) → k < n.object → AllAbove k ms → AllAbove k (with_member ms n)
above-with k [] n less above = (less, tt)
above-with k (m ∷ ms) n less above =
    elim (nat_lt n.object m.object) as (λ b. AllAbove k (if b then n ∷ m ∷ ms else m ∷ with_member ms n)) [
      | true ↦ (less, above)
      | false ↦ (above.0, above-with k ms n less above.1)
    ]

absent-head : (m : Member) (ms : List Member) (o : ℕ) → is_some (member_of (m ∷ ms) o) ≡ false → (m.object ≡ o → ⊥) × (is_some (member_of ms o) ≡ false)
absent-head m ms o absent =
    elim (cases_Bool (eqb m.object o)) [
      | inl t ↦ absurd (let h : true ≡ false = ap is_some (sym (cond-true (eqb m.object o) (Some m) (member_of ms o) t)) ∙ absent in cc)
      | inr f ↦ (eqb-false m.object o f, ap is_some (sym (cond-false (eqb m.object o) (Some m) (member_of ms o) f)) ∙ absent)
    ]

ordered-with : (ms : List Member) (n : Member) → is_some (member_of ms n.object) ≡ false → IsOrdered ms → IsOrdered (with_member ms n)
ordered-with [] n absent ordered = (tt, tt)
ordered-with (m ∷ ms) n absent ordered =
    let other = absent-head m ms n.object absent in
    elim (cases_Bool (ltb n.object m.object)) [
      | inl t ↦ subst (λ b. IsOrdered (if b then n ∷ m ∷ ms else m ∷ with_member ms n)) (sym t)
          (let less : n.object < m.object = ltb-true n.object m.object t in ((less, above-less m.object n.object ms less ordered.0), ordered))
      | inr f ↦ subst (λ b. IsOrdered (if b then n ∷ m ∷ ms else m ∷ with_member ms n)) (sym f)
          (let most = ltb-false n.object m.object f in
          let less : m.object < n.object = omega (arith, most, other.0) in
          (above-with m.object ms n less ordered.0, ordered-with ms n other.1 ordered.1))
    ]

changed-object : (m n : Member) → (if eqb m.object n.object then n else m).object ≡ m.object
changed-object m n =
    elim (cases_Bool (eqb m.object n.object)) [
      | inl t ↦ ap (λ (x : Member). x.object) (cond-true (eqb m.object n.object) n m t) ∙ sym (eqb-true m.object n.object t)
      | inr f ↦ ap (λ (x : Member). x.object) (cond-false (eqb m.object n.object) n m f)
    ]

above-changed : (k : ℕ) (ms : List Member) (n : Member) → AllAbove k ms → AllAbove k (with_changed ms n)
above-changed k [] n above = tt
above-changed k (m ∷ ms) n above = (subst (λ o. k < o) (sym (changed-object m n)) above.0, above-changed k ms n above.1)

ordered-changed : (ms : List Member) (n : Member) → IsOrdered ms → IsOrdered (with_changed ms n)
ordered-changed [] n ordered = tt
ordered-changed (m ∷ ms) n ordered =
    (subst (λ o. AllAbove o (with_changed ms n)) (sym (changed-object m n)) (above-changed m.object ms n ordered.0), ordered-changed ms n ordered.1)

above-without : (k : ℕ) (ms : List Member) (o : ℕ) → AllAbove k ms → AllAbove k (without_member ms o)
above-without k [] o above = tt
above-without k (m ∷ ms) o above =
    elim (not (eqb m.object o)) as (λ b. AllAbove k (if b then m ∷ without_member ms o else without_member ms o)) [
      | true ↦ (above.0, above-without k ms o above.1)
      | false ↦ above-without k ms o above.1
    ]

pub ordered-without : (ms : List Member) (o : ℕ) → IsOrdered ms → IsOrdered (without_member ms o)
ordered-without [] o ordered = tt
ordered-without (m ∷ ms) o ordered =
    elim (not (eqb m.object o)) as (λ b. IsOrdered (if b then m ∷ without_member ms o else without_member ms o)) [
      | true ↦ (above-without m.object ms o ordered.0, ordered-without ms o ordered.1)
      | false ↦ ordered-without ms o ordered.1
    ]

-- whose members they are
here-or-later : (m : Member) (ms : List Member) (o : ℕ) → is_some (member_of (m ∷ ms) o) ≡ true → (m.object ≡ o) ⊎ (is_some (member_of ms o) ≡ true)
here-or-later m ms o is =
    elim (cases_Bool (eqb m.object o)) [
      | inl t ↦ inl (eqb-true m.object o t)
      | inr f ↦ inr (ap is_some (sym (cond-false (eqb m.object o) (Some m) (member_of ms o) f)) ∙ is)
    ]

member-here : (m : Member) (ms : List Member) (o : ℕ) → m.object ≡ o → is_some (member_of (m ∷ ms) o) ≡ true
member-here m ms o same = grind (arith, nat_tests)

member-later : (m : Member) (ms : List Member) (o : ℕ) → is_some (member_of ms o) ≡ true → is_some (member_of (m ∷ ms) o) ≡ true
member-later m ms o is =
    elim (cases_Bool (eqb m.object o)) [
      | inl t ↦ member-here m ms o (eqb-true m.object o t)
      | inr f ↦ ap is_some (cond-false (eqb m.object o) (Some m) (member_of ms o) f) ∙ is
    ]

member-with : (ms : List Member) (n : Member) (o : ℕ) → is_some (member_of (with_member ms n) o) ≡ true → (n.object ≡ o) ⊎ (is_some (member_of ms o) ≡ true)
member-with [] n o is = here-or-later n [] o is
member-with (m ∷ ms) n o is =
    elim (cases_Bool (ltb n.object m.object)) [
      | inl t ↦ here-or-later n (m ∷ ms) o (subst (λ b. is_some (member_of (if b then n ∷ m ∷ ms else m ∷ with_member ms n) o) ≡ true) t is)
      | inr f ↦ elim (here-or-later m (with_member ms n) o (subst (λ b. is_some (member_of (if b then n ∷ m ∷ ms else m ∷ with_member ms n) o) ≡ true) f is)) [
        | inl same ↦ inr (member-here m ms o same)
        | inr later ↦ elim (member-with ms n o later) [ inl same ↦ inl same | inr was ↦ inr (member-later m ms o was) ]
      ]
    ]

pub member-changed : (ms : List Member) (n : Member) (o : ℕ) → is_some (member_of (with_changed ms n) o) ≡ true → is_some (member_of ms o) ≡ true
member-changed [] n o is = is
member-changed (m ∷ ms) n o is =
    elim (here-or-later (if eqb m.object n.object then n else m) (with_changed ms n) o is) [
      | inl same ↦ member-here m ms o (sym (changed-object m n) ∙ same)
      | inr later ↦ member-later m ms o (member-changed ms n o later)
    ]

pub member-without : (ms : List Member) (o q : ℕ) → is_some (member_of (without_member ms o) q) ≡ true → (q ≡ o → ⊥) × (is_some (member_of ms q) ≡ true)
member-without [] o q is = absurd (let h : ⊥ = cc in h)
member-without (m ∷ ms) o q is =
    elim (cases_Bool (eqb m.object o)) [
      | inl t ↦ (let rest = member-without ms o q (subst (λ b. is_some (member_of (if not b then m ∷ without_member ms o else without_member ms o) q) ≡ true) t is) in
          (rest.0, member-later m ms q rest.1))
      | inr f ↦ (let apart = eqb-false m.object o f in
          elim (here-or-later m (without_member ms o) q (subst (λ b. is_some (member_of (if not b then m ∷ without_member ms o else without_member ms o) q) ≡ true) f is)) [
            | inl same ↦ ((λ e. apart (same ∙ e)), member-here m ms q same)
            | inr later ↦ (let rest = member-without ms o q later in (rest.0, member-later m ms q rest.1))
          ])
    ]

-- the calls
zero-least : (n : ℕ) → 0 ≤ n
zero-least n = omega arith

less-more : (a b n : ℕ) → a ≤ n → a - b ≤ n
less-more a b n small = omega arith

count-at : (table : HostTable) (object : ℕ) (event : Event) → IsOrderly table → event_at table object ≡ Some event → event.count ≤ greatest_count
count-at table object event orderly at = subst (λ o. count_of o ≤ greatest_count) at (orderly.bounded object)

change-keeps : (table : HostTable) (object : ℕ) (change : Event → Event) → ((event : Event) → event_at table object ≡ Some event → (change event).count ≤ greatest_count) → IsOrderly table → (o : Option Event) → event_at table object ≡ o → IsOrderly (with_change change table object o)
change-keeps table object change fits orderly None at = orderly
change-keeps table object change fits orderly (Some event) at = record {
  ordered = orderly.ordered;
  there = λ list q is. some-set table.objects object (change event) q (orderly.there list q is);
  bounded = set-keeps (λ o. count_of o ≤ greatest_count) table.objects object (Some (change event)) None (fits event at) orderly.bounded;
}

meets-keeps : {T : Type 0} (due : Option HostError) (Said : T → Type 0) (after old new : HostTable) (r : Result T HostError) → (due ≡ None → IsOrderly after) → IsOrderly old → Meets due Said after r old new → IsOrderly new
meets-keeps due Said after old new (Ok x) keeps orderly meets = subst IsOrderly (sym meets.2) (keeps meets.0)
meets-keeps due Said after old new (Err e) keeps orderly meets = subst IsOrderly (sym meets.1) orderly

pub empty-orderly : IsOrderly empty_table
empty-orderly = record {
  ordered = λ list. tt;
  there = λ list q is. absurd (let h : ⊥ = cc in h);
  bounded = λ object. zero-least greatest_count;
}

pub create_event-keeps : (flags : ℕ) (r : Result ℕ HostError) (old new : HostTable) → IsOrderly old → CreateEventCall flags r old new → IsOrderly new
unfolding create_event_after
create_event-keeps flags r old new orderly call = meets-keeps _ _ (create_event_after old flags) old new r (λ due. record {
  ordered = orderly.ordered;
  there = λ list q is. some-push old.objects (new_event flags) q (orderly.there list q is);
  bounded = push-keeps (λ o. count_of o ≤ greatest_count) old.objects (Some (new_event flags)) None (zero-least greatest_count) orderly.bounded;
}) orderly call

pub create_list-keeps : (r : Result ℕ HostError) (old new : HostTable) → IsOrderly old → CreateListCall r old new → IsOrderly new
unfolding create_list_after
create_list-keeps r old new orderly call = meets-keeps _ _ (create_list_after old) old new r (λ due. record {
  ordered = push-keeps IsOrdered old.lists [] [] tt orderly.ordered;
  there = λ list q is. push-keeps (λ ms. is_some (member_of ms q) ≡ true → has_event old q ≡ true) old.lists [] [] (λ h. absurd (let no : ⊥ = cc in no)) (λ l. orderly.there l q) list is;
  bounded = orderly.bounded;
}) orderly call

second-passed : (a b : Bool) (x y : HostError) → (if a then Some x else if b then Some y else None) ≡ None → b ≡ false
second-passed true b x y is = absurd cc
second-passed false true x y is = absurd cc
second-passed false false x y is = refl

written-fits : (event : Event) (value : ℕ) → write_refusal event value ≡ None → event.count + value ≤ greatest_count
written-fits event value due = ltb-false greatest_count (event.count + value) (second-passed _ _ _ _ due)

pub signal-keeps : {T : Type 0} (object value : ℕ) (r : Result T HostError) (old new : HostTable) → IsOrderly old → SignalCall object value r old new → IsOrderly new
unfolding signal_refusal signal_after
signal-keeps object value r old new orderly call = meets-keeps _ _ (signal_after old object value) old new r (λ due.
    change-keeps old object (λ event. written event value)
    (λ event at. written-fits event value (sym (ap (λ o. due_of (λ event. write_refusal event value) o) at) ∙ due)) orderly (event_at old object) refl)
    orderly call

consumed-orderly : (old : HostTable) (object : ℕ) → IsOrderly old → IsOrderly (consume_after old object)
unfolding consume_after
consumed-orderly old object orderly =
    change-keeps old object after_read (λ event at. less-more event.count (read_value event) greatest_count (count-at old object event orderly at)) orderly (event_at old object) refl

pub consume-keeps : (object : ℕ) (r : Result ℕ HostError) (old new : HostTable) → IsOrderly old → ConsumeCall object r old new → IsOrderly new
consume-keeps object r old new orderly call = meets-keeps _ _ (consume_after old object) old new r (λ due. consumed-orderly old object orderly) orderly call

pub consume_as-keeps : (list object token : ℕ) (r : Result Bool HostError) (old new : HostTable) → IsOrderly old → ConsumeAsCall list object token r old new → IsOrderly new
consume_as-keeps list object token r old new orderly call = meets-keeps _ _ _ old new r
    (λ due. elim (is_listed_as old list object token) as (λ b. IsOrderly (if b then consume_after old object else old)) [ true ↦ consumed-orderly old object orderly | false ↦ orderly ])
    orderly call

members-keep : (table : HostTable) (list : ℕ) (ms : List Member) → IsOrdered ms → ((q : ℕ) → is_some (member_of ms q) ≡ true → has_event table q ≡ true) → IsOrderly table → IsOrderly (with_members table list ms)
members-keep table list ms ordered there orderly = record {
  ordered = set-keeps IsOrdered table.lists list ms [] ordered orderly.ordered;
  there = λ l q is. set-keeps (λ xs. is_some (member_of xs q) ≡ true → has_event table q ≡ true) table.lists list ms [] (there q) (λ k. orderly.there k q) l is;
  bounded = orderly.bounded;
}

added-orderly : (old : HostTable) (list : ℕ) (n : Member) → has_both old list n.object ≡ true → is_some (member_at old list n.object) ≡ false → IsOrderly old → IsOrderly (add_after old list n)
unfolding add_after
added-orderly old list n both absent orderly = members-keep old list (with_member (members_at old list) n)
    (ordered-with (members_at old list) n absent (orderly.ordered list))
    (λ q is. elim (member-with (members_at old list) n q is) [
      | inl same ↦ subst (λ k. has_event old k ≡ true) same (both-list _ _ both).1
      | inr was ↦ orderly.there list q was
    ])
    orderly

pub add-keeps : {T : Type 0} (list : ℕ) (n : Member) (r : Result T HostError) (old new : HostTable) → IsOrderly old → AddCall list n r old new → IsOrderly new
unfolding add_refusal
add-keeps list n r old new orderly call = meets-keeps _ _ (add_after old list n) old new r (λ due. let can = allowed _ _ _ due in added-orderly old list n can.there can.absent orderly) orderly call

record MayListen (both member claimed : Bool) : Type 0 where
  there : both ≡ true
  absent : member ≡ false

may_listen : (both member claimed : Bool) → (if not both then Some EBADF else if member || claimed then Some EEXIST else None) ≡ None → MayListen both member claimed
may_listen false member claimed is = absurd cc
may_listen true true claimed is = absurd cc
may_listen true false claimed is = record { there = refl; absent = refl }

pub listen-keeps : {T : Type 0} (list object token : ℕ) (r : Result T HostError) (old new : HostTable) → IsOrderly old → ListenCall list object token r old new → IsOrderly new
unfolding listen_refusal
listen-keeps list object token r old new orderly call = meets-keeps _ _ (add_after old list (listener object token)) old new r (λ due. let can = may_listen _ _ _ due in added-orderly old list (listener object token) can.there can.absent orderly) orderly call

pub modify-keeps : {T : Type 0} (list : ℕ) (n : Member) (r : Result T HostError) (old new : HostTable) → IsOrderly old → ModifyCall list n r old new → IsOrderly new
unfolding modify_after
modify-keeps list n r old new orderly call = meets-keeps _ _ (modify_after old list n) old new r (λ due.
    members-keep old list (with_changed (members_at old list) n) (ordered-changed (members_at old list) n (orderly.ordered list))
    (λ q is. orderly.there list q (member-changed (members_at old list) n q is)) orderly)
    orderly call

deleted-orderly : (old : HostTable) (list object : ℕ) → IsOrderly old → IsOrderly (delete_after old list object)
unfolding delete_after
deleted-orderly old list object orderly = members-keep old list (without_member (members_at old list) object) (ordered-without (members_at old list) object (orderly.ordered list))
    (λ q is. orderly.there list q (member-without (members_at old list) object q is).1) orderly

pub delete-keeps : {T : Type 0} (list object : ℕ) (r : Result T HostError) (old new : HostTable) → IsOrderly old → DeleteCall list object r old new → IsOrderly new
delete-keeps list object r old new orderly call = meets-keeps _ _ (delete_after old list object) old new r (λ due. deleted-orderly old list object orderly) orderly call

pub unlisten-keeps : {T : Type 0} (list object above : ℕ) (r : Result T HostError) (old new : HostTable) → IsOrderly old → UnlistenCall list object above r old new → IsOrderly new
unlisten-keeps list object above r old new orderly call = meets-keeps _ _ (delete_after old list object) old new r (λ due. deleted-orderly old list object orderly) orderly call

same-count : (old : HostTable) (object : ℕ) (change : Event → Event) → ((event : Event) → (change event).count ≡ event.count) → IsOrderly old → IsOrderly (with_change change old object (event_at old object))
same-count old object change same orderly =
    change-keeps old object change (λ event at. subst (λ n. n ≤ greatest_count) (sym (same event)) (count-at old object event orderly at)) orderly (event_at old object) refl

pub claim-keeps : {T : Type 0} (object queue : ℕ) (r : Result T HostError) (old new : HostTable) → IsOrderly old → ClaimCall object queue r old new → IsOrderly new
unfolding claim_after
claim-keeps object queue r old new orderly call = meets-keeps _ _ (claim_after old object queue) old new r (λ due. same-count old object (claimed_by (Some queue)) (λ event. refl) orderly) orderly call

pub release-keeps : (object : ℕ) (old new : HostTable) → IsOrderly old → new ≡ release_after old object → IsOrderly new
unfolding release_after
release-keeps object old new orderly is = subst IsOrderly (sym is) (same-count old object (claimed_by None) (λ event. refl) orderly)

pub hang_up-keeps : (object : ℕ) (old new : HostTable) → IsOrderly old → new ≡ hang_up_after old object → IsOrderly new
unfolding hang_up_after
hang_up-keeps object old new orderly is = subst IsOrderly (sym is) (same-count old object after_hang_up (λ event. refl) orderly)

some-none : (xs : List (Option Event)) (i j : ℕ) → (j ≡ i → ⊥) → is_some (get_or xs j None) ≡ true → is_some (get_or (set xs i None) j None) ≡ true
some-none xs i j apart is = subst (λ o. is_some o ≡ true) (sym (get_or-set_other xs i j None None apart)) is

closed-orderly : (old : HostTable) (object : ℕ) → IsOrderly old → IsOrderly (close_after old object)
unfolding close_after
closed-orderly old object orderly = record {
  ordered = map-keeps IsOrdered IsOrdered (λ ms. without_member ms object) old.lists [] tt (λ ms. ordered-without ms object) orderly.ordered;
  there = λ l q is. map-keeps (λ ms. is_some (member_of ms q) ≡ true → has_event old q ≡ true) (λ ms. is_some (member_of ms q) ≡ true → has_event (with_event old object None) q ≡ true)
      (λ ms. without_member ms object) old.lists [] (λ h. absurd (let no : ⊥ = cc in no))
      (λ ms there h. let rest = member-without ms object q h in some-none old.objects object q rest.0 (there rest.1)) (λ k. orderly.there k q) l is;
  bounded = set-keeps (λ o. count_of o ≤ greatest_count) old.objects object None None (zero-least greatest_count) orderly.bounded;
}

pub close-keeps : (object : ℕ) (old new : HostTable) → IsOrderly old → new ≡ close_after old object → IsOrderly new
close-keeps object old new orderly is = subst IsOrderly (sym is) (closed-orderly old object orderly)

pub looked-keeps : {T : Type 0} (due : Option HostError) (Said : T → Type 0) (r : Result T HostError) (old new : HostTable) → IsOrderly old → Meets due Said old r old new → IsOrderly new
looked-keeps due Said r old new orderly call = meets-keeps due Said old old new r (λ none. orderly) orderly call
