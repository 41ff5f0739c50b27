-- How reading, raising and polling change the events left.
use Rattle.std.proofs.Common.{◌≡◌, ◌≢◌, ℕ, ◌+◌, ◌-◌, ◌<◌, ◌≤◌, Bool, true, false, cond, not, ◌&&◌, ◌||◌, ◌==◌, nat_lt, eqb, inl, inr, ◌⊎◌, Option, Some, None, is_some, List, [], ◌∷◌, length, find, slice_index_or, refl, sym, ap, ◌∙◌, subst, arith}
use Rattle.std.specs.Prelude.{sum_by}
use Rattle.std.specs.List.{AllByRecursion, list_any, range_with_len, cons_option}
use Rattle.std.proofs.lemmas.Bool.{cases_eq, cases_lt, eqb-true, eq-eqb, ne_eqb, lt-ltb, le-ltb}
use Rattle.std.proofs.lemmas.List.{get_or-set_same, get_or-set_other, get_or_past, set_past, length-set}
use Rattle.vub_event.specs.declared.event.Event.{Event}
use Rattle.vub_event.specs.declared.member.Member.{Member}
use Rattle.vub_event.specs.declared.ready.Ready.{Ready}
use Rattle.vub_event.specs.Counter.{greatest_count, reported_bits}
use Rattle.vub_event.specs.HostTable.{HostTable, event_at, with_event, report_of, reports_of}
use Rattle.vub_event.specs.InterestList.{member_of}
use Rattle.vub_model.specs.declared.phase.Phase.{Phase}
use Rattle.vub_model.specs.declared.phase.Phase.TheVariants.{Polled}
use Rattle.vub_model.specs.Shared.{count_of, count_at, raised_option, read_option, token_in}
use Rattle.vub_model.specs.Work.{has_token}
use Rattle.vub_model.specs.Frame.{is_member}
use Rattle.vub_laws.specs.Draining.{is_kick_or_listener, AsksForIn, event_left, polled_off, object_left, events_in, is_hung_up, is_semaphore}
use Rattle.vub_laws.proofs.Sums.{sum-le, sum-raised, sum-falls}

-- One counter

left-by : Bool → Bool → ℕ → ℕ
left-by kick semaphore count = cond (kick && semaphore) count (cond (nat_lt 0 count) 1 0)

small : (b : Bool) → cond b 1 0 ≤ 1
small true = omega arith
small false = omega arith

abbrev flag : ℕ → ℕ
flag n = cond (nat_lt 0 n) 1 0

zero-flag : (n : ℕ) → n ≡ 0 → flag n ≡ 0
zero-flag n none = rw none refl

one-flag : (n : ℕ) → 0 < n → flag n ≡ 1
one-flag n above = rw (lt-ltb 0 n above) refl

flag-le : (m n : ℕ) → m ≤ n → flag m ≤ flag n
flag-le m n le =
    elim (cases_lt 0 n) [
      | inl above ↦ omega (arith, small (nat_lt 0 m), one-flag n above)
      | inr none ↦ omega (arith, zero-flag m (omega (arith, le, none)))
    ]

read-le : (k s : Bool) (c : ℕ) → left-by k s (c - cond s 1 c) ≤ left-by k s c
unfolding left-by
read-le true true c = omega arith
read-le false true c = flag-le (c - 1) c (omega arith)
read-le true false c = flag-le (c - c) c (omega arith)
read-le false false c = flag-le (c - c) c (omega arith)

flag-falls : (m n : ℕ) → m ≡ 0 → 0 < n → flag m + 1 ≤ flag n
flag-falls m n none above = omega (arith, zero-flag m none, one-flag n above)

-- a counter above zero that is no semaphore, or is a kick
read-less : (k s : Bool) (c : ℕ) → 0 < c → (s ≡ false) ⊎ (k ≡ true) → left-by k s (c - cond s 1 c) + 1 ≤ left-by k s c
unfolding left-by
read-less true true c above which = omega (arith, above)
read-less false true c above (inl is) = absurd cc
read-less false true c above (inr is) = absurd cc
read-less true false c above which = flag-falls (c - c) c (omega arith) above
read-less false false c above which = flag-falls (c - c) c (omega arith) above

raised-le : (k s : Bool) (c : ℕ) → left-by k s (c + 1) ≤ left-by k s c + 1
unfolding left-by
raised-le true true c = omega arith
raised-le false true c = omega (arith, small (nat_lt 0 (c + 1)))
raised-le true false c = omega (arith, small (nat_lt 0 (c + 1)))
raised-le false false c = omega (arith, small (nat_lt 0 (c + 1)))

above-left : (k s : Bool) (c : ℕ) → 0 < c → 1 ≤ left-by k s c
unfolding left-by
above-left k s c above = by (k && s) where
  by : (b : Bool) → 1 ≤ cond b c (flag c)
  by true = above
  by false = rw (lt-ltb 0 c above) (omega arith)

zero-left : (k s : Bool) (c : ℕ) → c ≤ 0 → left-by k s c ≡ 0
unfolding left-by
zero-left k s c none = by (k && s) where
  by : (b : Bool) → cond b c (flag c) ≡ 0
  by true = omega (arith, none)
  by false = zero-flag c (omega (arith, none))

event-zero : (k : Bool) (e : Option Event) → count_of e ≤ 0 → event_left k e ≡ 0
unfolding left-by
event-zero k None none = refl
event-zero k (Some e) none = zero-left k e.semaphore e.count none

event-is : (k : Bool) (e : Event) → event_left k (Some e) ≡ left-by k e.semaphore e.count
unfolding left-by
event-is k e = refl

event-read : (k : Bool) (e : Option Event) → event_left k (read_option e) ≤ event_left k e
unfolding left-by
event-read k None = omega arith
event-read k (Some e) = read-le k e.semaphore e.count

read-zero : (k : Bool) (e : Option Event) → count_of e ≤ 0 → event_left k (read_option e) ≡ 0
read-zero k e none = let zero = event-zero k e none in let less = event-read k e in omega (arith, zero, less)

event-read-less : (k : Bool) (e : Option Event) → 0 < count_of e → (is_semaphore e ≡ false) ⊎ (k ≡ true) → event_left k (read_option e) + 1 ≤ event_left k e
unfolding left-by
event-read-less k None above which = absurd (omega (arith, above))
event-read-less k (Some e) above which = read-less k e.semaphore e.count above which

event-raised : (k : Bool) (e : Option Event) → event_left k (raised_option e) ≤ event_left k e + 1
unfolding left-by
event-raised k None = omega arith
event-raised k (Some e) = by (nat_lt e.count greatest_count) where
  by : (b : Bool) → left-by k (cond {A = Event} b (record e { count = e.count + 1 }) e).semaphore (cond {A = Event} b (record e { count = e.count + 1 }) e).count ≤ left-by k e.semaphore e.count + 1
  by true = raised-le k e.semaphore e.count
  by false = omega arith

event-above : (k : Bool) (e : Option Event) → 0 < count_of e → 1 ≤ event_left k e
unfolding left-by
event-above k None above = absurd (omega (arith, above))
event-above k (Some e) above = above-left k e.semaphore e.count above

within : (t : HostTable) (x : ℕ) → 0 < count_at t x → x < length t.objects
within t x above = elim (cases_lt x (length t.objects)) [ inl below ↦ below | inr past ↦ absurd (let none = ap count_of (get_or_past t.objects x None past) in omega (arith, above, none)) ]

at-own : (t : HostTable) (x : ℕ) (e : Option Event) → x < length t.objects → event_at (with_event t x e) x ≡ e
at-own t x e below = get_or-set_same t.objects x e None below

at-other : (t : HostTable) (x o : ℕ) (e : Option Event) → o ≢ x → event_at (with_event t x e) o ≡ event_at t o
at-other t x o e other = get_or-set_other t.objects x o e None other

off-le : (p : Phase) (ms : List Member) (o : ℕ) → polled_off p ms o ≤ 1
off-le (Polled x token) ms o = small ((x == o) && has_token (member_of ms o) token)
off-le p ms o = omega arith

cond-le : (b : Bool) (x y : ℕ) → x ≤ y → cond b x 0 ≤ cond b y 0
cond-le true x y le = le
cond-le false x y le = omega arith

cond-raised : (b : Bool) (x y : ℕ) → x ≤ y + 1 → cond b x 0 ≤ cond b y 0 + 1
cond-raised true x y le = le
cond-raised false x y le = omega arith

minus-le : (x y d : ℕ) → x ≤ y → x - d ≤ y - d
minus-le x y d le = omega (arith, le)

module _ (queues : ℕ) (ms : List Member) where
  -- kicks and listeners count each event of a semaphore
  abbrev pub counted : ℕ → Bool
  counted o = is_kick_or_listener queues (member_of ms o)

  abbrev at : HostTable → Phase → ℕ → ℕ
  at t p o = object_left queues ms t p o

  same-length : (t : HostTable) (x : ℕ) (e : Option Event) (p : Phase) → events_in queues ms (with_event t x e) p ≡ sum_by (λ o. at (with_event t x e) p o) (range_with_len 0 (length t.objects))
  same-length t x e p = ap (λ n. sum_by (λ o. at (with_event t x e) p o) (range_with_len 0 n)) (length-set t.objects x e)

  other-same : (t : HostTable) (x : ℕ) (e : Option Event) (p : Phase) (o : ℕ) → o ≢ x → at (with_event t x e) p o ≡ at t p o
  other-same t x e p o other = ap (λ e. cond (is_member ms o) (event_left (counted o) e - polled_off p ms o) 0) (at-other t x o e other)

  -- a change of one event, by what it does to that event
  changed-le : (t : HostTable) (x : ℕ) (e : Option Event) (p : Phase) → event_left (counted x) e ≤ event_left (counted x) (event_at t x) → events_in queues ms (with_event t x e) p ≤ events_in queues ms t p
  changed-le t x e p le =
      omega (arith, same-length t x e p, sum-le (λ o. at (with_event t x e) p o) (λ o. at t p o) (length t.objects) 0 (λ o low. each o)) where
        own : x < length t.objects → at (with_event t x e) p x ≤ at t p x
        own below = cond-le (is_member ms x) _ _ (minus-le _ _ (polled_off p ms x) (omega (arith, le, ap (event_left (counted x)) (at-own t x e below))))

        past-same : length t.objects ≤ x → at (with_event t x e) p x ≡ at t p x
        past-same past = ap (λ l. cond (is_member ms x) (event_left (counted x) (slice_index_or l x None) - polled_off p ms x) 0) (set_past t.objects x e past)

        each : (o : ℕ) → at (with_event t x e) p o ≤ at t p o
        each o =
            elim (cases_eq o x) [
              | inl same ↦
                  (let P : ℕ → Type 0 = λ y. at (with_event t x e) p y ≤ at t p y in
                  subst P (sym same) (elim (cases_lt x (length t.objects)) [ inl below ↦ own below | inr past ↦ omega (arith, past-same past) ]))
              | inr other ↦ omega (arith, other-same t x e p o other)
            ]

  pub read-events : (t : HostTable) (x : ℕ) (p : Phase) → events_in queues ms (with_event t x (read_option (event_at t x))) p ≤ events_in queues ms t p
  read-events t x p = changed-le t x (read_option (event_at t x)) p (event-read (counted x) (event_at t x))

  pub raised-events : (t : HostTable) (x : ℕ) (p : Phase) → events_in queues ms (with_event t x (raised_option (event_at t x))) p ≤ events_in queues ms t p + 1
  raised-events t x p =
      let e = raised_option (event_at t x) in
      omega (
        arith,
        same-length t x e p,
        sum-raised (λ o. at (with_event t x e) p o) (λ o. at t p o) (length t.objects) 0 x
            (λ o other. omega (arith, other-same t x e p o other)) own,
      ) where
        own : at (with_event t x (raised_option (event_at t x))) p x ≤ at t p x + 1
        own =
            elim (cases_lt x (length t.objects)) [
              | inl below ↦
                  cond-raised (is_member ms x) _ _ (omega (arith, event-raised (counted x) (event_at t x), ap (event_left (counted x)) (at-own t x (raised_option (event_at t x)) below)))
              | inr past ↦ omega (arith, ap (λ l. cond (is_member ms x) (event_left (counted x) (slice_index_or l x None) - polled_off p ms x) 0) (set_past t.objects x (raised_option (event_at t x)) past))
            ]

  -- a phase for which nothing is taken off
  abbrev pub Bare : Phase → Type 0
  Bare p = (o : ℕ) → polled_off p ms o ≡ 0

  -- a member above zero is read, that is no semaphore or is a kick
  pub read-falls : (t : HostTable) (x : ℕ) (p q : Phase) → Bare p → Bare q → is_member ms x ≡ true → 0 < count_at t x → (is_semaphore (event_at t x) ≡ false) ⊎ (counted x ≡ true) → events_in queues ms (with_event t x (read_option (event_at t x))) p + 1 ≤ events_in queues ms t q
  read-falls t x p q bare-p bare-q member above which =
      let e = read_option (event_at t x) in
      omega (
        arith,
        same-length t x e p,
        sum-falls (λ o. at (with_event t x e) p o) (λ o. at t q o) (length t.objects) 0 x (omega arith) (omega (arith, within t x above))
            (λ o other. omega (arith, other-same t x e p o other, bare o)) own,
      ) where
        bare : (o : ℕ) → at t p o ≡ at t q o
        bare o = ap (λ d. cond (is_member ms o) (event_left (counted o) (event_at t o) - d) 0) (bare-p o ∙ sym (bare-q o))

        own : at (with_event t x (read_option (event_at t x))) p x + 1 ≤ at t q x
        own = rw (member, bare-p x, bare-q x) (omega (arith, event-read-less (counted x) (event_at t x) above which, ap (event_left (counted x)) (at-own t x (read_option (event_at t x)) (within t x above))))

  -- the polled event is read, that of a kick or a listener
  pub token-falls : (t : HostTable) (x token : ℕ) (p : Phase) → Bare p → (token ≡ queues → ⊥) → events_in queues ms (with_event t x (read_option (event_at t x))) p ≤ events_in queues ms t (Polled x token)
  token-falls t x token p bare apart =
      let e = read_option (event_at t x) in
      omega (arith, same-length t x e p, sum-le (λ o. at (with_event t x e) p o) (λ o. at t (Polled x token) o) (length t.objects) 0 (λ o low. each o)) where
        off-other : (o : ℕ) → o ≢ x → polled_off (Polled x token) ms o ≡ 0
        off-other o other = ap (λ b. cond (b && has_token (member_of ms o) token) 1 0) (ne_eqb x o (λ same. other (sym same)))

        none-off : (b : Bool) → cond {A = ℕ} (b && false) 1 0 ≡ 0
        none-off true = refl
        none-off false = refl

        counts : (b : Option Member) → has_token b token ≡ true → is_kick_or_listener queues b ≡ true
        counts None has = absurd cc
        counts (Some m) has = ap (λ t. not (eqb t queues)) (eqb-true m.token token has) ∙ ap not (ne_eqb token queues apart)

        stale : (b : Bool) → has_token (member_of ms x) token ≡ b → event_left (counted x) (read_option (event_at t x)) ≤ event_left (counted x) (event_at t x) - cond (eqb x x && b) 1 0
        stale true has =
            elim (cases_lt 0 (count_at t x)) [
              | inl above ↦ omega (arith, event-read-less (counted x) (event_at t x) above (inr (counts (member_of ms x) has)), small (eqb x x && true))
              | inr none ↦ omega (arith, event-zero (counted x) (event_at t x) none, read-zero (counted x) (event_at t x) none)
            ]
        stale false has = omega (arith, event-read (counted x) (event_at t x), none-off (eqb x x))

        own : event_left (counted x) (event_at (with_event t x (read_option (event_at t x))) x) ≤ event_left (counted x) (event_at t x) - polled_off (Polled x token) ms x
        own =
            elim (cases_lt x (length t.objects)) [
              | inl below ↦
                  (let now = ap (event_left (counted x)) (at-own t x (read_option (event_at t x)) below) in
                  omega (arith, now, stale (has_token (member_of ms x) token) refl))
              | inr past ↦ omega (arith, ap (λ l. event_left (counted x) (slice_index_or l x None)) (set_past t.objects x (read_option (event_at t x)) past), ap (event_left (counted x)) (get_or_past t.objects x None past))
            ]

        each : (o : ℕ) → at (with_event t x (read_option (event_at t x))) p o ≤ at t (Polled x token) o
        each o =
            elim (cases_eq o x) [
              | inl same ↦
                  (let P : ℕ → Type 0 = λ y. at (with_event t x (read_option (event_at t x))) p y ≤ at t (Polled x token) y in
                  subst P (sym same) (cond-le (is_member ms x) _ _ (omega (arith, own, bare x))))
              | inr other ↦ omega (arith, other-same t x (read_option (event_at t x)) p o other, ap (λ d. cond (is_member ms o) (event_left (counted o) (event_at t o) - d) 0) (bare o ∙ sym (off-other o other)))
            ]

  -- what was taken off is 1 at most
  pub undone : (t : HostTable) (x token : ℕ) (p : Phase) → Bare p → events_in queues ms t p ≤ events_in queues ms t (Polled x token) + 1
  undone t x token p bare =
      sum-raised (λ o. at t p o) (λ o. at t (Polled x token) o) (length t.objects) 0 x
      (λ o other. omega (arith, ap (λ d. cond (is_member ms o) (event_left (counted o) (event_at t o) - d) 0) (bare o ∙ sym (off-other o other))))
      (cond-raised (is_member ms x) _ _ (omega (arith, bare x, off-le (Polled x token) ms x))) where
        off-other : (o : ℕ) → o ≢ x → polled_off (Polled x token) ms o ≡ 0
        off-other o other = ap (λ b. cond (b && has_token (member_of ms o) token) 1 0) (ne_eqb x o (λ same. other (sym same)))

  -- nothing was taken off where it is no member under its token
  pub stale-same : (t : HostTable) (x token : ℕ) (p : Phase) → Bare p → has_token (member_of ms x) token ≡ false → events_in queues ms t p ≤ events_in queues ms t (Polled x token)
  stale-same t x token p bare other =
      sum-le (λ o. at t p o) (λ o. at t (Polled x token) o) (length t.objects) 0 (λ o low. omega (arith, ap (λ d. cond (is_member ms o) (event_left (counted o) (event_at t o) - d) 0) (bare o ∙ sym (off o)))) where
        off : (o : ℕ) → polled_off (Polled x token) ms o ≡ 0
        off o =
            elim (cases_eq o x) [
              | inl same ↦ (let P : ℕ → Type 0 = λ y. polled_off (Polled x token) ms y ≡ 0 in subst P (sym same) (rw (eq-eqb x x refl, other) refl))
              | inr apart ↦ ap (λ b. cond (b && has_token (member_of ms o) token) 1 0) (ne_eqb x o (λ same. apart (sym same)))
            ]

  -- a poll of a member above zero takes one off
  pub poll-falls : (t : HostTable) (x token : ℕ) (p : Phase) → Bare p → is_member ms x ≡ true → has_token (member_of ms x) token ≡ true → 0 < count_at t x → events_in queues ms t (Polled x token) + 1 ≤ events_in queues ms t p
  poll-falls t x token p bare member its above =
      sum-falls (λ o. at t (Polled x token) o) (λ o. at t p o) (length t.objects) 0 x (omega arith) (omega (arith, within t x above))
      (λ o other. cond-le (is_member ms o) _ _ (omega (arith, bare o)))
      (rw (member, eq-eqb x x refl, its, bare x) (omega (arith, event-above (counted x) (event_at t x) above)))

-- What a poll finds: a member above zero, under its token

no-bits : (e : Event) → e.hung_up ≡ false → e.count ≤ 0 → reported_bits e 1 ≡ 0
no-bits e hung none =
    let low : nat_lt 0 e.count ≡ false = le-ltb 0 e.count none in
    rw (hung, low) refl

report-above : (m : Member) (e : Option Event) (r : Ready) → m.set.0 ≡ 1 → is_hung_up e ≡ false → report_of m e ≡ Some r → (0 < count_of e) × (r.object ≡ m.object) × (r.token ≡ m.token)
report-above m None r asks hung is = absurd cc
report-above m (Some e) r asks hung is = by (eqb (reported_bits e m.set.0) 0) refl is where
  above : eqb (reported_bits e m.set.0) 0 ≡ false → 0 < e.count
  above some =
      elim (cases_lt 0 e.count) [
        | inl high ↦ high
        | inr low ↦ absurd (let zero : reported_bits e m.set.0 ≡ 0 = ap (reported_bits e) asks ∙ no-bits e hung low in let yes = eq-eqb (reported_bits e m.set.0) 0 zero in cc)
      ]

  by : (b : Bool) → eqb (reported_bits e m.set.0) 0 ≡ b → cond {A = Option Ready} b None (Some record { object = m.object; events = reported_bits e m.set.0; token = m.token }) ≡ Some r → (0 < e.count) × (r.object ≡ m.object) × (r.token ≡ m.token)
  by true some is = absurd cc
  by false some is =
      let same : record { object = m.object; events = reported_bits e m.set.0; token = m.token } ≡ r = cc in
      (above some, sym (ap (λ (x : Ready). x.object) same), sym (ap (λ (x : Ready). x.token) same))

above-bits : (e : Event) → 0 < e.count → eqb (reported_bits e 1) 0 ≡ false
above-bits e above =
    let high : nat_lt 0 e.count ≡ true = lt-ltb 0 e.count above in
    rw high (ne_eqb (1 + 0 + cond e.hung_up 16 0) 0 (λ none. absurd (omega arith)))

none-above : (m : Member) (e : Option Event) → m.set.0 ≡ 1 → report_of m e ≡ None → 0 < count_of e → ⊥
none-above m None asks is above = omega (arith, above)
none-above m (Some e) asks is above =
    let some : eqb (reported_bits e m.set.0) 0 ≡ false = ap (λ x. eqb (reported_bits e x) 0) asks ∙ above-bits e above in
    by (eqb (reported_bits e m.set.0) 0) some is where
      by : (b : Bool) → b ≡ false → cond {A = Option Ready} b None (Some record { object = m.object; events = reported_bits e m.set.0; token = m.token }) ≡ None → ⊥
      by true some is = cc
      by false some is = cc

-- the first report of an object
pub record Polls (objects : List (Option Event)) (ms : List Member) (o : ℕ) : Type 0 where
  pub member : is_member ms o ≡ true
  pub its : has_token (member_of ms o) (token_in (find (λ r. eqb r.object o) (reports_of objects ms))) ≡ true
  pub above : 0 < count_of (slice_index_or objects o None)

poll-first : (objects : List (Option Event)) (m : Member) (ms : List Member) (o : ℕ) (b : Bool) → eqb m.object o ≡ b → m.set.0 ≡ 1 → ((x : ℕ) → is_hung_up (slice_index_or objects x None) ≡ false)
    → (report : Option Ready) → report_of m (slice_index_or objects m.object None) ≡ report
    → (list_any (λ r. eqb r.object o) (reports_of objects ms) ≡ true → Polls objects ms o)
    → list_any (λ r. eqb r.object o) (cons_option report (reports_of objects ms)) ≡ true
    → (is_some (cond b (Some m) (member_of ms o)) ≡ true) × (has_token (cond b (Some m) (member_of ms o)) (token_in (find (λ r. eqb r.object o) (cons_option report (reports_of objects ms)))) ≡ true) × (0 < count_of (slice_index_or objects o None))
poll-first objects m ms o true here asks stays None is more found =
    let same : m.object ≡ o = eqb-true m.object o here in
    let rest = more found in
    let P : ℕ → Type 0 = λ x. 0 < count_of (slice_index_or objects x None) in
    absurd (none-above m (slice_index_or objects m.object None) asks is (subst P (sym same) rest.above))
poll-first objects m ms o true here asks stays (Some r) is more found =
    let same : m.object ≡ o = eqb-true m.object o here in
    let told = report-above m (slice_index_or objects m.object None) r asks (stays m.object) is in
    let P : ℕ → Type 0 = λ x. 0 < count_of (slice_index_or objects x None) in
    (refl, rw (eq-eqb r.object o (told.1 ∙ same)) (eq-eqb m.token r.token (sym told.2)), subst P same told.0)
poll-first objects m ms o false here asks stays None is more found =
    let rest = more found in (rest.member, rest.its, rest.above)
poll-first objects m ms o false here asks stays (Some r) is more found =
    let told = report-above m (slice_index_or objects m.object None) r asks (stays m.object) is in
    let other : eqb r.object o ≡ false = ne_eqb r.object o (λ same. let yes = eq-eqb m.object o (sym told.1 ∙ same) in absurd cc) in
    let later : list_any (λ r. eqb r.object o) (reports_of objects ms) ≡ true = sym (ap (λ b. b || list_any (λ r. eqb r.object o) (reports_of objects ms)) other) ∙ found in
    let rest = more later in
    (rest.member, rw other rest.its, rest.above)

pub polls : (objects : List (Option Event)) (ms : List Member) (o : ℕ) → AllByRecursion AsksForIn ms → ((x : ℕ) → is_hung_up (slice_index_or objects x None) ≡ false) → list_any (λ r. eqb r.object o) (reports_of objects ms) ≡ true → Polls objects ms o
polls objects [] o asks stays found = absurd cc
polls objects (m ∷ ms) o asks stays found =
    let all = poll-first objects m ms o (eqb m.object o) refl asks.0 stays (report_of m (slice_index_or objects m.object None)) refl (λ found. polls objects ms o asks.1 stays found) found in
    record { member = all.0; its = all.1; above = all.2 }

-- in phases for which nothing is taken off, the same are left
pub bare-same : (queues : ℕ) (ms : List Member) (t : HostTable) (p q : Phase) → Bare queues ms p → Bare queues ms q → events_in queues ms t p ≤ events_in queues ms t q
bare-same queues ms t p q bare-p bare-q =
    sum-le (λ o. object_left queues ms t p o) (λ o. object_left queues ms t q o) (length t.objects) 0
    (λ o low. omega (arith, ap (λ d. cond (is_member ms o) (event_left (counted queues ms o) (event_at t o) - d) 0) (bare-p o ∙ sym (bare-q o))))

-- an event at zero is none that is taken off
pub zero-same : (queues : ℕ) (ms : List Member) (t : HostTable) (x token : ℕ) (p : Phase) → Bare queues ms p → count_at t x ≤ 0 → events_in queues ms t p ≤ events_in queues ms t (Polled x token)
zero-same queues ms t x token p bare none =
    sum-le (λ o. object_left queues ms t p o) (λ o. object_left queues ms t (Polled x token) o) (length t.objects) 0 (λ o low. each o) where
      own : object_left queues ms t p x ≤ object_left queues ms t (Polled x token) x
      own = cond-le (is_member ms x) _ _ (omega (arith, event-zero (counted queues ms x) (event_at t x) none))

      each : (o : ℕ) → object_left queues ms t p o ≤ object_left queues ms t (Polled x token) o
      each o =
          elim (cases_eq o x) [
            | inl same ↦ (let P : ℕ → Type 0 = λ y. object_left queues ms t p y ≤ object_left queues ms t (Polled x token) y in subst P (sym same) own)
            | inr apart ↦
                (let off : polled_off (Polled x token) ms o ≡ 0 = ap (λ b. cond (b && has_token (member_of ms o) token) 1 0) (ne_eqb x o (λ same. apart (sym same))) in
                omega (arith, ap (λ d. cond (is_member ms o) (event_left (counted queues ms o) (event_at t o) - d) 0) (bare o ∙ sym off)))
          ]
