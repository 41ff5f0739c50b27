-- Laws of the ready members of lists, kept as bit words.
use Rattle.std.proofs.Common.{ℕ, zero, suc, ◌+◌, ◌/◌, ◌%◌, ◌<◌, ◌≤◌, ◌≡◌, ◌≢◌, inl, inr, Bool, true, false, not, ltb, cond, List, [], ◌∷◌, ◌++◌, Option, Some, None, is_some, length, get_or, set, slice_get, map, refl, sym, ap, subst, ◌∙◌, arith, eqb, length-set, length-append, get_or-set_same, get_or-set_other}
use Rattle.std.specs.List.{cons_option}
use Rattle.std.proofs.Math.ListN.{get_or-map, length-map}
use Rattle.std.proofs.lemmas.Bool.{cases_Bool, cases_lt, cases_eq, cond-true, cond-false, eqb-true, eq-eqb, true≢false}
use Rattle.std.proofs.lemmas.List.{get_or_append_left, get_or_default, get_or_past, get_or_at}
use Rattle.std.specs.Int.{bit_at}
use Rattle.std.proofs.lemmas.Nat.Bits.{bit_at-zero}
use Rattle.vub_event.specs.declared.event.Event.{Event}
use Rattle.vub_event.specs.declared.member.Member.{Member}
use Rattle.vub_event.specs.declared.ready.Ready.{Ready}
use Rattle.vub_event.specs.BitWords.{bit_in, as_bit, PutsBit, MakesRoom, IsLeastIn}
use Rattle.vub_event.specs.HostTable.{report_of, reports_of, IsLeastOf}
use Rattle.vub_event.specs.InterestList.{member_of, with_member, with_changed, without_member, AllAbove, IsOrdered}
use Rattle.vub_event.specs.ReadyWords.{report_for, has_ready, HasRoom, IsReadyList, IsReadyBut, AreReady, AreReadyBut}
use Rattle.vub_event.proofs.Orderly.{member-changed, member-without}
use Rattle.vub_event.proofs.Placing.{member-above}
use Rattle.vub_event.specs.Orderly.{IsByObject}
use Rattle.vub_event.proofs.ByObject.{by-object}
use Rattle.vub_event.proofs.Reporting.{least-head}

-- the member for an object is for it
member-object : (ms : List Member) (o : ℕ) (m : Member) → member_of ms o ≡ Some m → m.object ≡ o
member-object [] o m e = (let h : None ≡ Some m = e in cc)
member-object (x ∷ ms) o m e =
    elim (cases_Bool (eqb x.object o)) [
      | inl t ↦ (let h : Some x ≡ Some m = sym (cond-true (eqb x.object o) (Some x) (member_of ms o) t) ∙ e in
          let same : x ≡ m = cc in subst (λ (y : Member). y.object ≡ o) same (eqb-true x.object o t))
      | inr f ↦ member-object ms o m (sym (cond-false (eqb x.object o) (Some x) (member_of ms o) f) ∙ e)
    ]

-- two tables of objects in which the member's object is the same give one report
report-same : (xs ys : List (Option Event)) (p : Option Member) → ((m : Member) → p ≡ Some m → get_or xs m.object None ≡ get_or ys m.object None) → report_for xs p ≡ report_for ys p
report-same xs ys None same = refl
report-same xs ys (Some m) same = ap (λ (e : Option Event). report_of m e) (same m refl)

-- what is ready is a member
ready-member : (objects : List (Option Event)) (p : Option Member) → is_some (report_for objects p) ≡ true → is_some p ≡ true
ready-member objects None h = (let e : false ≡ true = h in absurd (true≢false (sym e)))
ready-member objects (Some m) h = refl

pub has_room_for : (objects : List (Option Event)) (ms : List Member) (ws : List ℕ) (o : ℕ) (b : Bool) → HasRoom objects ms ws → b ≡ has_ready objects ms o → b ≡ true → o / 64 < length ws
has_room_for objects ms ws o b room e h = room.room o (ready-member objects (member_of ms o) (sym e ∙ h))

-- the bit of the object left out is written
pub refreshed : (objects : List (Option Event)) (ms : List Member) (ws vs : List ℕ) (o : ℕ) (b : Bool) → IsReadyBut o objects ms ws → b ≡ has_ready objects ms o → PutsBit ws o b vs → IsReadyList objects ms vs
refreshed objects ms ws vs o b but e puts = record {
  bits = λ q.
      elim (cases_eq q o) [
        | inl same ↦ subst (λ k. bit_in vs k ≡ as_bit (has_ready objects ms k)) (sym same) (puts.here ∙ ap as_bit e)
        | inr other ↦ puts.others q other ∙ but.bits q other
      ];
  room = record {
    room = λ q is. (let lt = but.room.room q is in omega (arith, puts.same));
    made = but.room.made;
    few = (let f = but.room.few in omega (arith, puts.same));
  };
}

-- the lists before this one are right, those from it on but for one object
pub record RefreshSo (o : ℕ) (objects : List (Option Event)) (lists : List (List Member)) (ready : List (List ℕ)) (i : ℕ) : Type 0 where
  pub count : length ready ≡ length lists
  pub before : (l : ℕ) → l < i → l < length lists → IsReadyList objects (get_or lists l []) (get_or ready l [])
  pub from : (l : ℕ) → i ≤ l → l < length lists → IsReadyBut o objects (get_or lists l []) (get_or ready l [])

pub refresh_first : (o : ℕ) (objects : List (Option Event)) (lists : List (List Member)) (ready : List (List ℕ)) → AreReadyBut o objects lists ready → RefreshSo o objects lists ready 0
refresh_first o objects lists ready but = record { count = but.count; before = λ l lt h. absurd (omega arith); from = λ l le h. but.each l h }

pub refresh_more : (o : ℕ) (objects : List (Option Event)) (lists : List (List Member)) (ready : List (List ℕ)) (i : ℕ) (ws : List ℕ) → RefreshSo o objects lists ready i → i < length lists → IsReadyList objects (get_or lists i []) ws → RefreshSo o objects lists (set ready i ws) (i + 1)
refresh_more o objects lists ready i ws so h is = record {
  count = length-set ready i ws ∙ so.count;
  before = λ l lt h2.
      elim (cases_eq l i) [
        | inl same ↦ subst (λ k. IsReadyList objects (get_or lists k []) (get_or (set ready i ws) k [])) (sym same)
            (subst (λ vs. IsReadyList objects (get_or lists i []) vs) (sym (get_or-set_same ready i ws [] (omega (arith, so.count)))) is)
        | inr other ↦ subst (λ vs. IsReadyList objects (get_or lists l []) vs) (sym (get_or-set_other ready i l ws [] other)) (so.before l (omega arith) h2)
      ];
  from = λ l le h2.
      (let other : l ≢ i = omega arith in
      subst (λ vs. IsReadyBut o objects (get_or lists l []) vs) (sym (get_or-set_other ready i l ws [] other)) (so.from l (omega arith) h2));
}

-- the list and the words that the loop looks at
pub refresh_here : (o : ℕ) (objects : List (Option Event)) (lists : List (List Member)) (ready : List (List ℕ)) (i : ℕ) (ms : List Member) (ws : List ℕ) → RefreshSo o objects lists ready i → i < length lists → ms ≡ get_or lists i ms → IsReadyBut o objects ms (get_or ready i ws)
refresh_here o objects lists ready i ms ws so h is =
    subst (λ x. IsReadyBut o objects x (get_or ready i ws)) (sym (is ∙ get_or_default lists i ms [] h))
    (subst (λ x. IsReadyBut o objects (get_or lists i []) x) (get_or_default ready i [] ws (omega (arith, so.count))) (so.from i (omega arith) h))

pub refresh_step : (o : ℕ) (objects : List (Option Event)) (lists : List (List Member)) (ready : List (List ℕ)) (i : ℕ) (ms : List Member) (ws : List ℕ) → RefreshSo o objects lists ready i → i < length lists → ms ≡ get_or lists i ms → IsReadyList objects ms ws → RefreshSo o objects lists (set ready i ws) (i + 1)
refresh_step o objects lists ready i ms ws so h e is = refresh_more o objects lists ready i ws so h (subst (λ x. IsReadyList objects x ws) (e ∙ get_or_default lists i ms [] h) is)

pub refresh_done : (o : ℕ) (objects : List (Option Event)) (lists : List (List Member)) (ready : List (List ℕ)) (i : ℕ) → RefreshSo o objects lists ready i → length lists ≤ i → AreReady objects lists ready
refresh_done o objects lists ready i so done = record { count = so.count; each = λ l h. so.before l (omega arith) h }

-- an object is changed
pub object_set : (o : ℕ) (e : Option Event) (objects : List (Option Event)) (lists : List (List Member)) (ready : List (List ℕ)) → AreReady objects lists ready → AreReadyBut o (set objects o e) lists ready
object_set o e objects lists ready are = record {
  count = are.count;
  each = λ l h.
      (let is : IsReadyList objects (get_or lists l []) (get_or ready l []) = are.each l h in
      record {
        bits = λ q other. is.bits q
            ∙ ap (λ r. as_bit (is_some r))
            (report-same objects (set objects o e) (member_of (get_or lists l []) q)
            (λ m found. let apart : m.object ≢ o = λ s. other (sym (member-object (get_or lists l []) q m found) ∙ s) in
            sym (get_or-set_other objects o m.object e None apart)));
        room = record { room = is.room.room; made = λ q s. (let lt = is.room.made q s in omega (arith, length-set objects o e)); few = (let f = is.room.few in omega (arith, length-set objects o e)) };
      });
}

-- an object more
pub object_push : (e : Option Event) (objects : List (Option Event)) (lists : List (List Member)) (ready : List (List ℕ)) → AreReady objects lists ready → AreReady (objects ++ e ∷ []) lists ready
object_push e objects lists ready are = record {
  count = are.count;
  each = λ l h.
      (let is : IsReadyList objects (get_or lists l []) (get_or ready l []) = are.each l h in
      let one : length (objects ++ e ∷ []) ≡ length objects + 1 = length-append objects (e ∷ []) in
      record {
        bits = λ q. is.bits q
            ∙ ap (λ r. as_bit (is_some r))
            (report-same objects (objects ++ e ∷ []) (member_of (get_or lists l []) q)
            (λ m found. let made : m.object < length objects = is.room.made m.object
            (let at : m.object ≡ q = member-object (get_or lists l []) q m found in subst (λ k. is_some (member_of (get_or lists l []) k) ≡ true) (sym at) (ap is_some found)) in
            sym (get_or_append_left objects (e ∷ []) None m.object made)));
        room = record { room = is.room.room; made = λ q s. (let lt = is.room.made q s in omega arith); few = (let f = is.room.few in omega arith) };
      });
}

-- a list without members
none_ready : (objects : List (Option Event)) → IsReadyList objects [] []
none_ready objects = record {
  bits = λ q. bit_at-zero (q % 64);
  room = record {
    room = λ q s. absurd (true≢false (sym s));
    made = λ q s. absurd (true≢false (sym s));
    few = omega arith;
  };
}

push_last : {X : Type 0} → (xs : List X) (x : X) (l : ℕ) (d : X) → l < length (xs ++ x ∷ []) → length xs ≤ l → get_or (xs ++ x ∷ []) l d ≡ x
push_last xs x l d h ge = get_or_at xs x [] d l (omega (arith, length-append xs (x ∷ [])))

pub list_push : (objects : List (Option Event)) (lists : List (List Member)) (ready : List (List ℕ)) → AreReady objects lists ready → AreReady objects (lists ++ [] ∷ []) (ready ++ [] ∷ [])
list_push objects lists ready are = record {
  count = omega (arith, are.count, length-append lists ([] ∷ []), length-append ready ([] ∷ []));
  each = λ l h.
      elim (cases_lt l (length lists)) [
        | inl lt ↦ subst (λ ms. IsReadyList objects ms (get_or (ready ++ [] ∷ []) l [])) (sym (get_or_append_left lists ([] ∷ []) [] l lt))
            (subst (λ ws. IsReadyList objects (get_or lists l []) ws) (sym (get_or_append_left ready ([] ∷ []) [] l (omega (arith, are.count)))) (are.each l lt))
        | inr ge ↦ subst (λ ms. IsReadyList objects ms (get_or (ready ++ [] ∷ []) l [])) (sym (push_last lists [] l [] h ge))
            (subst (λ ws. IsReadyList objects [] ws) (sym (push_last ready [] l [] (omega (arith, are.count, length-append lists ([] ∷ []), length-append ready ([] ∷ []))) (omega (arith, are.count)))) (none_ready objects))
      ];
}

-- one list and its words are changed
pub list_set : (objects : List (Option Event)) (lists : List (List Member)) (ready : List (List ℕ)) (l : ℕ) (ms : List Member) (ws : List ℕ) → AreReady objects lists ready → IsReadyList objects ms ws → AreReady objects (set lists l ms) (set ready l ws)
list_set objects lists ready l ms ws are is = record {
  count = length-set ready l ws ∙ are.count ∙ sym (length-set lists l ms);
  each = λ k h.
      (let within : k < length lists = omega (arith, length-set lists l ms) in
      elim (cases_eq k l) [
        | inl same ↦ (let at : l < length lists = omega arith in
            subst (λ j. IsReadyList objects (get_or (set lists l ms) j []) (get_or (set ready l ws) j [])) (sym same)
            (subst (λ x. IsReadyList objects x (get_or (set ready l ws) l [])) (sym (get_or-set_same lists l ms [] at))
            (subst (λ x. IsReadyList objects ms x) (sym (get_or-set_same ready l ws [] (omega (arith, are.count)))) is)))
        | inr other ↦ subst (λ x. IsReadyList objects x (get_or (set ready l ws) k [])) (sym (get_or-set_other lists l k ms [] other))
            (subst (λ x. IsReadyList objects (get_or lists k []) x) (sym (get_or-set_other ready l k ws [] other)) (are.each k within))
      ]);
}

abbrev bit_at_of : ℕ → ℕ → ℕ
bit_at_of x q = bit_at x (q % 64)

-- room in the words of one list
pub room_set : (objects : List (Option Event)) (lists : List (List Member)) (ready : List (List ℕ)) (l o : ℕ) (ws : List ℕ) → AreReady objects lists ready → l < length lists → o < length objects → MakesRoom (get_or ready l []) o ws → IsReadyList objects (get_or lists l []) ws
room_set objects lists ready l o ws are h there room =
    let is : IsReadyList objects (get_or lists l []) (get_or ready l []) = are.each l h in
    record {
      bits = λ q. ap (λ x. bit_at_of x q) (room.words (q / 64)) ∙ is.bits q;
      room = record {
        room = λ q s. (let lt = is.room.room q s in let g = room.grows in omega arith);
        made = is.room.made;
        few = (let f = is.room.few in let m = room.most in omega arith);
      };
    }

pub words_set : (objects : List (Option Event)) (lists : List (List Member)) (ready : List (List ℕ)) (l : ℕ) (ws : List ℕ) → AreReady objects lists ready → l < length lists → IsReadyList objects (get_or lists l []) ws → AreReady objects lists (set ready l ws)
words_set objects lists ready l ws are h is = record {
  count = length-set ready l ws ∙ are.count;
  each = λ k lt.
      elim (cases_eq k l) [
        | inl same ↦ subst (λ j. IsReadyList objects (get_or lists j []) (get_or (set ready l ws) j [])) (sym same)
            (subst (λ x. IsReadyList objects (get_or lists l []) x) (sym (get_or-set_same ready l ws [] (omega (arith, are.count)))) is)
        | inr other ↦ subst (λ x. IsReadyList objects (get_or lists k []) x) (sym (get_or-set_other ready l k ws [] other)) (are.each k lt)
      ];
}

-- what was read at a place
pub item_is : {X : Type 0} → (xs : List X) (i : ℕ) (x d : X) → x ≡ get_or xs i x → i < length xs → x ≡ get_or xs i d
item_is xs i x d e h = e ∙ get_or_default xs i x d h

-- what was read where something was put
pub item_set : {X : Type 0} → (xs : List X) (i : ℕ) (v x : X) → x ≡ get_or (set xs i v) i x → i < length xs → x ≡ v
item_set xs i v x e h = e ∙ get_or-set_same xs i v x h

-- room in the words that were read
pub roomed : (objects : List (Option Event)) (lists : List (List Member)) (ready : List (List ℕ)) (l o : ℕ) (was ws : List ℕ) → AreReady objects lists ready → l < length lists → o < length objects → was ≡ get_or ready l was → MakesRoom was o ws → IsReadyList objects (get_or lists l []) ws
roomed objects lists ready l o was ws are h there e room =
    room_set objects lists ready l o ws are h there (subst (λ x. MakesRoom x o ws) (item_is ready l was [] e (omega (arith, are.count))) room)

-- what a refresh of one list asks, where its members were put to it
pub but_now : (objects os : List (Option Event)) (lists : List (List Member)) (l o : ℕ) (ms x : List Member) (vs ws : List ℕ) → os ≡ objects → l < length lists → x ≡ get_or (set lists l ms) l x → ws ≡ vs → IsReadyBut o objects ms vs → IsReadyBut o os x ws
but_now objects os lists l o ms x vs ws os_is h x_is ws_is but =
    rw (os_is, item_set lists l ms x x_is h, ws_is) but

-- what it leaves
pub list_refreshed : (objects os : List (Option Event)) (lists : List (List Member)) (ready : List (List ℕ)) (l : ℕ) (ms x : List Member) (ws : List ℕ) → AreReady objects lists ready → os ≡ objects → l < length lists → x ≡ get_or (set lists l ms) l x → IsReadyList os x ws → AreReady objects (set lists l ms) (set ready l ws)
list_refreshed objects os lists ready l ms x ws are os_is h x_is is =
    list_set objects lists ready l ms ws are
    (subst (λ y. IsReadyList objects y ws) (item_set lists l ms x x_is h) (subst (λ y. IsReadyList y x ws) os_is is))

-- an object that is there was made
pub made_object : (objects : List (Option Event)) (o : ℕ) → is_some (get_or objects o None) ≡ true → o < length objects
made_object objects o h =
    elim (cases_lt o (length objects)) [
      | inl lt ↦ lt
      | inr ge ↦ absurd (true≢false (sym h ∙ ap is_some (get_or_past objects o None ge)))
    ]

-- the members changed for one object alone
but_members : (objects : List (Option Event)) (ms ns : List Member) (ws : List ℕ) (o : ℕ) → IsReadyList objects ms ws → ((q : ℕ) → q ≢ o → member_of ns q ≡ member_of ms q) → (is_some (member_of ns o) ≡ true → (o / 64 < length ws) × (o < length objects)) → IsReadyBut o objects ns ws
but_members objects ms ns ws o is same at =
    let sure : (q : ℕ) → is_some (member_of ns q) ≡ true → (q / 64 < length ws) × (q < length objects) =
    λ q s. elim (cases_eq q o) [
      | inl e ↦ subst (λ k. (k / 64 < length ws) × (k < length objects)) (sym e) (at (subst (λ k. is_some (member_of ns k) ≡ true) e s))
      | inr other ↦ (let old : is_some (member_of ms q) ≡ true = ap is_some (sym (same q other)) ∙ s in (is.room.room q old, is.room.made q old))
    ] in
    record {
      bits = λ q other. is.bits q ∙ sym (ap (λ p. as_bit (is_some (report_for objects p))) (same q other));
      room = record { room = λ q s. (sure q s).0; made = λ q s. (sure q s).1; few = is.room.few };
    }

-- the members for other objects stay
head-miss : (m : Member) (ms : List Member) (q : ℕ) → (m.object ≡ q → ⊥) → member_of (m ∷ ms) q ≡ member_of ms q
head-miss m ms q ne =
    elim (cases_Bool (eqb m.object q)) [
      | inl t ↦ absurd (ne (eqb-true m.object q t))
      | inr f ↦ cond-false (eqb m.object q) (Some m) (member_of ms q) f
    ]

head-same : (m : Member) (ms ns : List Member) (q : ℕ) → member_of ms q ≡ member_of ns q → member_of (m ∷ ms) q ≡ member_of (m ∷ ns) q
head-same m ms ns q e = ap (λ p. cond (eqb m.object q) (Some m) p) e

with-others : (ms : List Member) (n : Member) (q : ℕ) → q ≢ n.object → member_of (with_member ms n) q ≡ member_of ms q
with-others [] n q ne = head-miss n [] q (λ e. ne (sym e))
with-others (m ∷ ms) n q ne =
    elim (cases_Bool (ltb n.object m.object)) [
      | inl t ↦ ap (λ l. member_of l q) (cond-true (ltb n.object m.object) (n ∷ m ∷ ms) (m ∷ with_member ms n) t) ∙ head-miss n (m ∷ ms) q (λ e. ne (sym e))
      | inr f ↦ ap (λ l. member_of l q) (cond-false (ltb n.object m.object) (n ∷ m ∷ ms) (m ∷ with_member ms n) f) ∙ head-same m (with_member ms n) ms q (with-others ms n q ne)
    ]

changed-others : (ms : List Member) (n : Member) (q : ℕ) → q ≢ n.object → member_of (with_changed ms n) q ≡ member_of ms q
changed-others [] n q ne = refl
changed-others (m ∷ ms) n q ne =
    elim (cases_Bool (eqb m.object n.object)) [
      | inl t ↦ ap (λ x. member_of (x ∷ with_changed ms n) q) (cond-true (eqb m.object n.object) n m t)
          ∙ head-miss n (with_changed ms n) q (λ e. ne (sym e)) ∙ changed-others ms n q ne
          ∙ sym (head-miss m ms q (λ e. ne (sym e ∙ eqb-true m.object n.object t)))
      | inr f ↦ ap (λ x. member_of (x ∷ with_changed ms n) q) (cond-false (eqb m.object n.object) n m f)
          ∙ head-same m (with_changed ms n) ms q (changed-others ms n q ne)
    ]

without-others : (ms : List Member) (o q : ℕ) → q ≢ o → member_of (without_member ms o) q ≡ member_of ms q
without-others [] o q ne = refl
without-others (m ∷ ms) o q ne =
    elim (cases_Bool (eqb m.object o)) [
      | inl t ↦ ap (λ b. member_of (cond (not b) (m ∷ without_member ms o) (without_member ms o)) q) t
          ∙ without-others ms o q ne ∙ sym (head-miss m ms q (λ e. ne (sym e ∙ eqb-true m.object o t)))
      | inr f ↦ ap (λ b. member_of (cond (not b) (m ∷ without_member ms o) (without_member ms o)) q) f
          ∙ head-same m (without_member ms o) ms q (without-others ms o q ne)
    ]

pub but_added : (objects : List (Option Event)) (ms : List Member) (n : Member) (ws : List ℕ) → IsReadyList objects ms ws → n.object / 64 < length ws → n.object < length objects → IsReadyBut n.object objects (with_member ms n) ws
but_added objects ms n ws is room there = but_members objects ms (with_member ms n) ws n.object is (with-others ms n) (λ s. (room, there))

pub but_changed : (objects : List (Option Event)) (ms : List Member) (n : Member) (ws : List ℕ) → IsReadyList objects ms ws → IsReadyBut n.object objects (with_changed ms n) ws
but_changed objects ms n ws is =
    but_members objects ms (with_changed ms n) ws n.object is (changed-others ms n)
    (λ s. let old : is_some (member_of ms n.object) ≡ true = member-changed ms n n.object s in (is.room.room n.object old, is.room.made n.object old))

pub but_without : (objects : List (Option Event)) (ms : List Member) (o : ℕ) (ws : List ℕ) → IsReadyList objects ms ws → IsReadyBut o objects (without_member ms o) ws
but_without objects ms o ws is =
    but_members objects ms (without_member ms o) ws o is (without-others ms o)
    (λ s. let old : is_some (member_of ms o) ≡ true = (member-without ms o o s).1 in (is.room.room o old, is.room.made o old))

pub set_past : {X : Type 0} → (xs : List X) (i : ℕ) (x : X) → length xs ≤ i → set xs i x ≡ xs
set_past [] i x h = refl
set_past (y ∷ xs) zero x h = absurd (omega arith)
set_past (y ∷ xs) (suc i) x h = ap (λ l. y ∷ l) (set_past xs i x (omega arith))

-- an object is closed and taken off each list
pub closed : (o : ℕ) (e : Option Event) (objects : List (Option Event)) (lists : List (List Member)) (ready : List (List ℕ)) → AreReady objects lists ready → AreReadyBut o (set objects o e) (map (λ ms. without_member ms o) lists) ready
closed o e objects lists ready are =
    let but = object_set o e objects lists ready are in
    record {
      count = but.count ∙ sym (length-map lists (λ ms. without_member ms o));
      each = λ l h.
          (let within : l < length lists = omega (arith, length-map lists (λ ms. without_member ms o)) in
          let is : IsReadyBut o (set objects o e) (get_or lists l []) (get_or ready l []) = but.each l within in
          subst (λ ms. IsReadyBut o (set objects o e) ms (get_or ready l [])) (sym (get_or-map (λ ms. without_member ms o) lists l []))
          (record {
            bits = λ q other. is.bits q other ∙ sym (ap (λ p. as_bit (is_some (report_for (set objects o e) p))) (without-others (get_or lists l []) o q other));
            room = record {
              room = λ q s. is.room.room q ((member-without (get_or lists l []) o q s).1);
              made = λ q s. is.room.made q ((member-without (get_or lists l []) o q s).1);
              few = is.room.few;
            };
          }));
    }

member-head : (m : Member) (ms : List Member) → member_of (m ∷ ms) m.object ≡ Some m
member-head m ms = cond-true (eqb m.object m.object) (Some m) (member_of ms m.object) (eq-eqb m.object m.object refl)

not-some : (r : Option Ready) → is_some r ≡ false → r ≡ None
not-some None h = refl
not-some (Some r) h = absurd (true≢false h)

-- a member of members that are all above a number is above it
above-member : (k : ℕ) (ms : List Member) (q : ℕ) → AllAbove k ms → is_some (member_of ms q) ≡ true → k < q
above-member k [] q above s = absurd (true≢false (sym s))
above-member k (m ∷ ms) q above s =
    elim (cases_Bool (eqb m.object q)) [
      | inl t ↦ (let same : m.object ≡ q = eqb-true m.object q t in omega (arith, above.0))
      | inr f ↦ above-member k ms q above.1 (sym (ap is_some (cond-false (eqb m.object q) (Some m) (member_of ms q) f)) ∙ s)
    ]

-- what is not ready among all is not ready among the later ones
rest-none : (objects : List (Option Event)) (m : Member) (ms : List Member) (q : ℕ) → AllAbove m.object ms → is_some (report_for objects (member_of (m ∷ ms) q)) ≡ false → is_some (report_for objects (member_of ms q)) ≡ false
rest-none objects m ms q above h =
    elim (cases_Bool (eqb m.object q)) [
      | inl t ↦ (let same : m.object ≡ q = eqb-true m.object q t in
          let none : member_of ms q ≡ None = subst (λ k. member_of ms k ≡ None) same (member-above ms m.object above) in
          ap (λ p. is_some (report_for objects p)) none)
      | inr f ↦ ap (λ p. is_some (report_for objects p)) (sym (cond-false (eqb m.object q) (Some m) (member_of ms q) f)) ∙ h
    ]

-- where no member is ready there is no report
pub no_reports : (objects : List (Option Event)) (ms : List Member) → IsOrdered ms → ((q : ℕ) → is_some (report_for objects (member_of ms q)) ≡ false) → reports_of objects ms ≡ []
no_reports objects [] ordered none = refl
no_reports objects (m ∷ ms) ordered none =
    let here : is_some (report_of m (get_or objects m.object None)) ≡ false = ap (λ p. is_some (report_for objects p)) (sym (member-head m ms)) ∙ none m.object in
    ap (λ r. cons_option r (reports_of objects ms)) (not-some _ here)
    ∙ no_reports objects ms ordered.1 (λ q. rest-none objects m ms q ordered.0 (none q))

-- the member with the least ready object gives the first report
pub first_report : (objects : List (Option Event)) (ms : List Member) (o : ℕ) (m : Member) (r : Ready) → IsOrdered ms → member_of ms o ≡ Some m → report_of m (get_or objects m.object None) ≡ Some r
    → ((q : ℕ) → q < o → is_some (report_for objects (member_of ms q)) ≡ false) → (rest : List Ready) × (reports_of objects ms ≡ r ∷ rest)
first_report objects [] o m r ordered found is before = (let h : None ≡ Some m = found in cc)
first_report objects (x ∷ ms) o m r ordered found is before =
    elim (cases_Bool (eqb x.object o)) [
      | inl t ↦ (let h : Some x ≡ Some m = sym (cond-true (eqb x.object o) (Some x) (member_of ms o) t) ∙ found in
          let same : x ≡ m = cc in
          (reports_of objects ms, ap (λ p. cons_option p (reports_of objects ms)) (ap (λ (y : Member). report_of y (get_or objects y.object None)) same ∙ is)))
      | inr f ↦ (let later : member_of ms o ≡ Some m = sym (cond-false (eqb x.object o) (Some x) (member_of ms o) f) ∙ found in
          let lower : x.object < o = above-member x.object ms o ordered.0 (ap is_some later) in
          let here : is_some (report_of x (get_or objects x.object None)) ≡ false = ap (λ p. is_some (report_for objects p)) (sym (member-head x ms)) ∙ before x.object lower in
          let more = first_report objects ms o m r ordered.1 later is (λ q lt. rest-none objects x ms q ordered.0 (before q lt)) in
          (more.0, ap (λ p. cons_option p (reports_of objects ms)) (not-some _ here) ∙ more.1))
    ]

-- the bit of an object is clear where its member is not ready
bit_false : (b : Bool) → as_bit b ≡ 0 → b ≡ false
bit_false true e = absurd (let one : 1 ≡ 0 = e in omega arith)
bit_false false e = refl

bit_true : (b : Bool) → as_bit b ≡ 1 → b ≡ true
bit_true true e = refl
bit_true false e = absurd (let one : 0 ≡ 1 = e in omega arith)

-- no bit: no report
pub words_none : (objects : List (Option Event)) (ms : List Member) (ws : List ℕ) → IsOrdered ms → IsReadyList objects ms ws → IsLeastIn ws None → reports_of objects ms ≡ []
words_none objects ms ws ordered is least = no_reports objects ms ordered (λ q. bit_false (has_ready objects ms q) (sym (is.bits q) ∙ least q))

-- the report for the member of the least bit is the first, and the least
pub record IsFirstReport (reports : List Ready) (found : Option Ready) : Type 0 where
  pub least : IsLeastOf reports found
  pub first : found ≡ slice_get reports 0

unwrapped : (p : Option Ready) → is_some p ≡ true → (r : Ready) × (p ≡ Some r)
unwrapped None h = absurd (true≢false (sym h))
unwrapped (Some r) h = (r, refl)

first_is : (objects : List (Option Event)) (ms : List Member) (found : Option Ready) (m : Member) (r : Ready) (rest : List Ready) → IsOrdered ms → reports_of objects ms ≡ r ∷ rest → found ≡ Some r → IsFirstReport (reports_of objects ms) found
first_is objects ms found m r rest ordered e got =
    rw (e, got) (record { least = least-head r rest ((subst IsByObject e (by-object objects ms ordered)).0); first = refl })

some_report : (objects : List (Option Event)) (p : Option Member) → is_some (report_for objects p) ≡ true → (m : Member) × (r : Ready) × (p ≡ Some m) × (report_of m (get_or objects m.object None) ≡ Some r) × (report_for objects p ≡ Some r)
some_report objects None h = absurd (true≢false (sym h))
some_report objects (Some m) h = (let both = unwrapped (report_of m (get_or objects m.object None)) h in (m, both.0, refl, both.1, both.1))

pub words_first : (objects : List (Option Event)) (ms : List Member) (ws : List ℕ) (o : ℕ) (found : Option Ready) → IsOrdered ms → IsReadyList objects ms ws → IsLeastIn ws (Some o) → found ≡ report_for objects (member_of ms o) → IsFirstReport (reports_of objects ms) found
words_first objects ms ws o found ordered is least e =
    let there = some_report objects (member_of ms o) (bit_true (has_ready objects ms o) (sym (is.bits o) ∙ least.0)) in
    let more = first_report objects ms o there.0 there.1 ordered there.2 there.3 (λ q lt. bit_false (has_ready objects ms q) (sym (is.bits q) ∙ least.1 q lt)) in
    let got : found ≡ Some there.1 = e ∙ there.4 in
    first_is objects ms found there.0 there.1 more.0 ordered more.1 got
