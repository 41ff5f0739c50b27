-- The host takes each call by which a valid set-up is opened.
use Rattle.std.proofs.Common.{◌≡◌, ℕ, suc, ◌+◌, zero, ◌<◌, ◌≤◌, ◌^◌, Bool, true, false, cond, ◌&&◌, ◌||◌, ◌⊎◌, inl, inr, List, [], ◌∷◌, ◌++◌, length, map, Option, Some, None, is_some, IfSome, refl, sym, ap, ◌∙◌, subst, arith, eqb, nat_lt, slice_index_or, slice_set}
use Rattle.std.specs.List.{AllByRecursion, list_any}
use Rattle.std.proofs.lemmas.List.{get_or-set_same, get_or-set_other, get_or_past, length-set, length-append, length-map, get_or-map as mapped-at}
use Rattle.std.proofs.lemmas.List.FromFn.{length-map-range_with_len}
use Rattle.std.proofs.lemmas.Bool.{cases_eq, cases_lt, eqb-true, lt-ltb, le-ltb}
use Rattle.vub_event.specs.declared.event.Event.{Event}
use Rattle.vub_event.specs.declared.member.Member.{Member}
use Rattle.vub_event.specs.Counter.{write_refusal, greatest_count}
use Rattle.vub_event.specs.HostTable.{HostTable, event_at, has_event, members_at, is_listed, with_members}
use Rattle.vub_event.specs.HostCalls.{new_event, create_list_after, due_of, claim_test, claim_refusal, add_refusal, signal_refusal}
use Rattle.vub_event.specs.InterestList.{member_of, with_member}
use Rattle.vub_model.specs.declared.constants.Constants.{Constants}
use Rattle.vub_model.specs.declared.setup.GivenRing.{GivenRing}
use Rattle.vub_model.specs.declared.setup.Object.{Object}
use Rattle.vub_model.specs.declared.setup.Setup.{Setup}
use Rattle.vub_model.specs.declared.wiring.Opened.{Opened}
use Rattle.vub_model.specs.declared.wiring.Place.{Place}
use Rattle.vub_model.specs.Frame.{claim_of}
use Rattle.vub_model.specs.Shared.{Shared, count_of, count_at, raised, raised_option, inserted}
use Rattle.vub_model.specs.Opening.{flags_of, opening_events, opened_worker, wiring_of, listed, exit_member, opening_members, claimed_event, claimed, joined, placed, registered_kick, registered, opening_table, before_rings}
use Rattle.vub_model.specs.Schedule.{is_member}
use Rattle.vub_model.specs.ValidSetup.{is_event_or_none, is_free_or_none, fault_of}
use Rattle.vub_model.specs.Wiring.{Wiring, no_worker, place_of, IsPlaced}
use Rattle.vub_model.proofs.OpeningMeets.{among-left, among-new, free-parts, object-below, events-at}
use Rattle.vub_model.proofs.Places.{place-is}
use Rattle.vub_model.proofs.Registering.{Among, member-first, member-more}
use Rattle.vub_open.specs.Opened.{ExitsAreThere, IsTaken, AreTaken}
use Rattle.vub_open.proofs.Placing.{opened_is}
use Rattle.vub_open.proofs.ValidParts.{SoundRing, SoundRings, sound_ring, sound_rings, sound_device, no_fault}

-- Lists

head-or : (x : ℕ) (m : Member) (ms : List Member) → is_member (m ∷ ms) x ≡ true → (m.object ≡ x) ⊎ (is_member ms x ≡ true)
head-or x m ms h = by (eqb m.object x) refl h where
  by : (b : Bool) → eqb m.object x ≡ b → is_some (cond {A = Option Member} b (Some m) (member_of ms x)) ≡ true → (m.object ≡ x) ⊎ (is_member ms x ≡ true)
  by true is h = inl (eqb-true m.object x is)
  by false is h = inr h

-- a member of a list with a new one is the new one or an old one
member-from : (x : ℕ) (ms : List Member) (new : Member) → is_member (with_member ms new) x ≡ true → (new.object ≡ x) ⊎ (is_member ms x ≡ true)
member-from x [] new h = head-or x new [] h
member-from x (m ∷ ms) new h = by (nat_lt new.object m.object) (member-from x ms new) h where
  later : (new.object ≡ x) ⊎ (is_member ms x ≡ true) → (new.object ≡ x) ⊎ (is_member (m ∷ ms) x ≡ true)
  later (inl own) = inl own
  later (inr old) = inr (member-more x m ms old)

  first : (m.object ≡ x) ⊎ (is_member (with_member ms new) x ≡ true) → (is_member (with_member ms new) x ≡ true → (new.object ≡ x) ⊎ (is_member ms x ≡ true)) → (new.object ≡ x) ⊎ (is_member (m ∷ ms) x ≡ true)
  first (inl same) rest = inr (member-first x m ms same)
  first (inr more) rest = later (rest more)

  by : (b : Bool) → (is_member (with_member ms new) x ≡ true → (new.object ≡ x) ⊎ (is_member ms x ≡ true)) → is_member (cond b (new ∷ m ∷ ms) (m ∷ with_member ms new)) x ≡ true → (new.object ≡ x) ⊎ (is_member (m ∷ ms) x ≡ true)
  by true rest h = head-or x new (m ∷ ms) h
  by false rest h = first (head-or x m (with_member ms new) h) rest

exit-is : (exit : Option ℕ) (o token : ℕ) → is_member (exit_member exit token) o ≡ true → exit ≡ Some o
exit-is None o token is = absurd cc
exit-is (Some x) o token is = by (head-or o (listed x token) [] is) where
  by : (x ≡ o) ⊎ (is_member [] o ≡ true) → Some x ≡ Some o
  by (inl same) = ap (λ y. Some y) same
  by (inr none) = absurd cc

none-listed : (ls : List (List Member)) (o : ℕ) → ((w : ℕ) → w < length ls → is_member (slice_index_or ls w []) o ≡ true → ⊥) → list_any (λ ms. is_some (member_of ms o)) ls ≡ false
none-listed [] o none = refl
none-listed (ms ∷ ls) o none = by (is_member ms o) refl (none-listed ls o (λ w low. none (suc w) (omega arith))) where
  by : (b : Bool) → is_member ms o ≡ b → list_any (λ ms. is_some (member_of ms o)) ls ≡ false → b || list_any (λ ms. is_some (member_of ms o)) ls ≡ false
  by true is rest = absurd (none 0 (omega arith) is)
  by false is rest = rest

not-member : (ms : List Member) (o : ℕ) → (is_member ms o ≡ true → ⊥) → is_member ms o ≡ false
not-member ms o none = by (is_member ms o) refl where
  by : (b : Bool) → is_member ms o ≡ b → b ≡ false
  by true is = absurd (none is)
  by false is = refl

-- The refusals that are due

claim-due : (q : ℕ) (in_list : Bool) (event : Option Event) → is_some event ≡ true → claim_of event ≡ None → in_list ≡ false → due_of (claim_test q in_list) event ≡ None
claim-due q in_list None some none unlisted = absurd cc
claim-due q in_list (Some e) some none unlisted = rw (none, unlisted) refl

add-due : (t : HostTable) (w o n : ℕ) → w < length t.lists → has_event t o ≡ true → is_member (members_at t w) o ≡ false → add_refusal t w (listed o n) ≡ None
unfolding add_refusal
add-due t w o n low there none = rw (lt-ltb w (length t.lists) low, there, none) refl

signal-with : (event : Option Event) (n : ℕ) → is_some event ≡ true → count_of event ≤ n → n < 2 ^ 63 → due_of (λ e. write_refusal e 1) event ≡ None
signal-with None n some low few = absurd cc
signal-with (Some e) n some low few =
    let count : e.count ≤ n = low in
    rw (le-ltb greatest_count (e.count + 1) (omega arith)) refl

signal-due : (t : HostTable) (b n : ℕ) → has_event t b ≡ true → count_at t b ≤ n → n < 2 ^ 63 → signal_refusal t b 1 ≡ None
unfolding signal_refusal
signal-due t b n there low few = signal-with (event_at t b) n there low few

raised-count : (event : Option Event) (n : ℕ) → count_of event ≤ n → count_of (raised_option event) ≤ n + 1
raised-count None n low = omega arith
raised-count (Some e) n low =
    let count : e.count ≤ n = low in
    elim (nat_lt e.count greatest_count) as (λ b. count_of (Some (cond {A = Event} b (record e { count = e.count + 1 }) e)) ≤ n + 1) [ true ↦ omega arith | false ↦ omega arith ]

raised-some : (event : Option Event) → is_some event ≡ true → is_some (raised_option event) ≡ true
raised-some None some = absurd cc
raised-some (Some e) some = refl

raised-claim : (event : Option Event) → claim_of (raised_option event) ≡ claim_of event
raised-claim None = refl
raised-claim (Some e) = elim (nat_lt e.count greatest_count) as (λ b. claim_of (Some (cond {A = Event} b (record e { count = e.count + 1 }) e)) ≡ e.claim) [ true ↦ refl | false ↦ refl ]

claimed-some : (q : ℕ) (event : Option Event) → is_some event ≡ true → is_some (claimed_event q event) ≡ true
claimed-some q None some = absurd cc
claimed-some q (Some e) some = refl

claimed-count : (q : ℕ) (event : Option Event) → count_of (claimed_event q event) ≡ count_of event
claimed-count q None = refl
claimed-count q (Some e) = refl

module _ (k : Constants) (objects : List Object) where
  abbrev count : ℕ
  count = length objects

  abbrev workers : ℕ
  workers = length k.masks

  abbrev g : Wiring
  g = wiring_of k count

  -- the object is a kick of one of these rings
  pub record Kicks (done : List GivenRing) (o : ℕ) : Type 0 where
    pub ring : GivenRing
    pub among : Among done ring
    pub kick : ring.kick ≡ Some o

  -- How the events and the lists stand once these rings are registered: an object is claimed only as a kick of them, and
  -- is a member only as a bell, an exit object or such a kick; and no count is above their number.
  pub record Stands {V : Type 0} (n : ℕ) (done : List GivenRing) (h : Shared V) : Type 0 where
    pub objects_size : length h.table.objects ≡ count + workers
    pub lists_size : length h.table.lists ≡ workers
    pub some : (o : ℕ) → o < count + workers → is_some (event_at h.table o) ≡ true
    pub claims : (o q : ℕ) → claim_of (event_at h.table o) ≡ Some q → Kicks done o
    pub members : (w o : ℕ) → w < workers → is_member (members_at h.table w) o ≡ true → (o ≡ count + w) ⊎ ((slice_index_or k.exits w None ≡ Some o) ⊎ Kicks done o)
    pub counts : (o : ℕ) → count_at h.table o ≤ n

  wider : (done : List GivenRing) (r : GivenRing) (o : ℕ) → Kicks done o → Kicks (done ++ r ∷ []) o
  wider done r o old = record { ring = old.ring; among = among-left done r old.ring old.among; kick = old.kick }

  wider-member : (done : List GivenRing) (r : GivenRing) (w o : ℕ) → (o ≡ count + w) ⊎ ((slice_index_or k.exits w None ≡ Some o) ⊎ Kicks done o) → (o ≡ count + w) ⊎ ((slice_index_or k.exits w None ≡ Some o) ⊎ Kicks (done ++ r ∷ []) o)
  wider-member done r w o (inl bell) = inl bell
  wider-member done r w o (inr (inl exit)) = inr (inl exit)
  wider-member done r w o (inr (inr old)) = inr (inr (wider done r o old))

  pass : {V : Type 0} (n : ℕ) (done : List GivenRing) (h : Shared V) (r : GivenRing) → Stands n done h → Stands (n + 1) (done ++ r ∷ []) h
  pass n done h r s = record {
    objects_size = s.objects_size;
    lists_size = s.lists_size;
    some = s.some;
    claims = λ o q is. wider done r o (s.claims o q is);
    members = λ w o low is. wider-member done r w o (s.members w o low is);
    counts = λ o. (let old = s.counts o in omega arith);
  }

  up : {V : Type 0} (n : ℕ) (done : List GivenRing) (h : Shared V) → Stands n done h → Stands (n + 1) done h
  up n done h s = record {
    objects_size = s.objects_size;
    lists_size = s.lists_size;
    some = s.some;
    claims = s.claims;
    members = s.members;
    counts = λ o. (let old = s.counts o in omega arith);
  }

  module _ {V : Type 0} (n : ℕ) (done : List GivenRing) (h : Shared V) (s : Stands n done h) (r : GivenRing) (o : ℕ) (kick : r.kick ≡ Some o) where
    -- the kick is claimed
    claim-stands : o < count → Stands n (done ++ r ∷ []) (claimed h o r.queue)
    claim-stands below = record {
      objects_size = length-set h.table.objects o (claimed_event r.queue (event_at h.table o)) ∙ s.objects_size;
      lists_size = s.lists_size;
      some = λ x low. elim (cases_eq x o) [
        | inl same ↦ (let P : ℕ → Type 0 = λ x. is_some (event_at (claimed h o r.queue).table x) ≡ true in subst P (sym same) (ap is_some own ∙ claimed-some r.queue (event_at h.table o) (s.some o (omega (arith, below)))))
        | inr other ↦ ap is_some (away x other) ∙ s.some x low
      ];
      claims = λ x q is. elim (cases_eq x o) [
        | inl same ↦ record { ring = r; among = among-new done r; kick = kick ∙ ap (λ y. Some y) (sym same) }
        | inr other ↦ wider done r x (s.claims x q (ap claim_of (sym (away x other)) ∙ is))
      ];
      members = λ w x low is. wider-member done r w x (s.members w x low is);
      counts = λ x. elim (cases_eq x o) [
        | inl same ↦ (let P : ℕ → Type 0 = λ x. count_at (claimed h o r.queue).table x ≤ n in subst P (sym same) (let e = ap count_of own ∙ claimed-count r.queue (event_at h.table o) in let old = s.counts o in omega arith))
        | inr other ↦ (let e = ap count_of (away x other) in let old = s.counts x in omega arith)
      ];
    } where
      own : event_at (claimed h o r.queue).table o ≡ claimed_event r.queue (event_at h.table o)
      own = get_or-set_same h.table.objects o (claimed_event r.queue (event_at h.table o)) None (omega (arith, below, s.objects_size))

      away : (x : ℕ) → (x ≡ o → ⊥) → event_at (claimed h o r.queue).table x ≡ event_at h.table x
      away x other = get_or-set_other h.table.objects o x (claimed_event r.queue (event_at h.table o)) None other

  abbrev with-kick : {V : Type 0} → Shared V → ℕ → ℕ → ℕ → Shared V
  with-kick h o w number = raised (inserted (joined h w o number) w number) (count + w)

  -- the kick joins its worker's list, its number is pending, and the bell is rung
  join-stands : {V : Type 0} (n : ℕ) (done : List GivenRing) (h : Shared V) → Stands n done h → (o w number : ℕ) → w < workers → Kicks done o → Stands (n + 1) done (with-kick h o w number)
  join-stands {V} n done h s o w number low is_kick = record {
    objects_size = length-set h.table.objects (count + w) (raised_option (event_at h.table (count + w))) ∙ s.objects_size;
    lists_size = length-set h.table.lists w (with_member (members_at h.table w) (listed o number)) ∙ s.lists_size;
    some = λ x below. elim (cases_eq x (count + w)) [
      | inl same ↦ (let P : ℕ → Type 0 = λ x. is_some (event_at (with-kick h o w number).table x) ≡ true in subst P (sym same) (ap is_some own ∙ raised-some (event_at h.table (count + w)) (s.some (count + w) (omega (arith, low)))))
      | inr other ↦ ap is_some (away x other) ∙ s.some x below
    ];
    claims = λ x q is. elim (cases_eq x (count + w)) [
      | inl same ↦ (let P : ℕ → Type 0 = λ x. claim_of (event_at (with-kick h o w number).table x) ≡ Some q → Kicks done x in (subst P (sym same) (λ is. s.claims (count + w) q (sym (raised-claim (event_at h.table (count + w))) ∙ (ap claim_of (sym own) ∙ is)))) is)
      | inr other ↦ s.claims x q (ap claim_of (sym (away x other)) ∙ is)
    ];
    members = λ x y below is. elim (cases_eq x w) [
      | inl same ↦
          (let P : ℕ → Type 0 = λ x. is_member (members_at (with-kick h o w number).table x) y ≡ true → (y ≡ count + x) ⊎ ((slice_index_or k.exits x None ≡ Some y) ⊎ Kicks done y) in
          (subst P (sym same) (λ is. from y (member-from y (members_at h.table w) (listed o number) (ap (λ ms. is_member ms y) (sym mine) ∙ is)))) is)
      | inr other ↦ s.members x y below (ap (λ ms. is_member ms y) (sym (get_or-set_other h.table.lists w x (with_member (members_at h.table w) (listed o number)) [] other)) ∙ is)
    ];
    counts = λ x. elim (cases_eq x (count + w)) [
      | inl same ↦ (let P : ℕ → Type 0 = λ x. count_at (with-kick h o w number).table x ≤ n + 1 in subst P (sym same) (let e = ap count_of own in let up = raised-count (event_at h.table (count + w)) n (s.counts (count + w)) in omega arith))
      | inr other ↦ (let e = ap count_of (away x other) in let old = s.counts x in omega arith)
    ];
  } where
    own : event_at (with-kick h o w number).table (count + w) ≡ raised_option (event_at h.table (count + w))
    own = get_or-set_same h.table.objects (count + w) (raised_option (event_at h.table (count + w))) None (omega (arith, low, s.objects_size))

    away : (x : ℕ) → (x ≡ count + w → ⊥) → event_at (with-kick h o w number).table x ≡ event_at h.table x
    away x other = get_or-set_other h.table.objects (count + w) x (raised_option (event_at h.table (count + w))) None other

    mine : members_at (with-kick h o w number).table w ≡ with_member (members_at h.table w) (listed o number)
    mine = get_or-set_same h.table.lists w (with_member (members_at h.table w) (listed o number)) [] (omega (arith, low, s.lists_size))

    from : (y : ℕ) → (o ≡ y) ⊎ (is_member (members_at h.table w) y ≡ true) → (y ≡ count + w) ⊎ ((slice_index_or k.exits w None ≡ Some y) ⊎ Kicks done y)
    from y (inl same) = inr (inr (subst (λ x. Kicks done x) same is_kick))
    from y (inr old) = s.members w y low old

  -- A ring that is to be registered

  module _ {V : Type 0} (n : ℕ) (done : List GivenRing) (h : Shared V) (s : Stands n done h) (few : n < 2 ^ 63) (r : GivenRing) (sound : SoundRing k objects done r) where
    module _ (o : ℕ) (kick : r.kick ≡ Some o) where
      below : o < count
      below = object-below objects o (ap (is_event_or_none objects) (sym kick) ∙ sound.kick)

      fresh : Kicks done o → ⊥
      fresh old = (free-parts k done o (ap (is_free_or_none k done) (sym kick) ∙ sound.free)).1 old.ring old.among o old.kick refl

      unlisted : (w : ℕ) → w < workers → is_member (members_at h.table w) o ≡ true → ⊥
      unlisted w low is = by (s.members w o low is) where
        by : (o ≡ count + w) ⊎ ((slice_index_or k.exits w None ≡ Some o) ⊎ Kicks done o) → ⊥
        by (inl bell) = absurd (let low = below in omega arith)
        by (inr (inl exit)) = (free-parts k done o (ap (is_free_or_none k done) (sym kick) ∙ sound.free)).0 w o exit refl
        by (inr (inr old)) = fresh old

      unclaimed : claim_of (event_at h.table o) ≡ None
      unclaimed = by (claim_of (event_at h.table o)) refl where
        by : (c : Option ℕ) → claim_of (event_at h.table o) ≡ c → c ≡ None
        by None is = refl
        by (Some q) is = absurd (fresh (s.claims o q is))

      claim-taken : claim_refusal h.table o r.queue ≡ None
      unfolding claim_refusal
      claim-taken =
          claim-due r.queue (is_listed h.table o) (event_at h.table o) (s.some o (let low = below in omega arith)) unclaimed
          (none-listed h.table.lists o (λ w low is. unlisted w (omega (arith, low, s.lists_size)) is))

      claims-on : Stands n (done ++ r ∷ []) (claimed h o r.queue)
      claims-on = claim-stands n done h s r o kick below

      add-taken : (w number : ℕ) → w < workers → add_refusal (claimed h o r.queue).table w (listed o number) ≡ None
      add-taken w number low =
          add-due (claimed h o r.queue).table w o number (omega (arith, low, s.lists_size)) (claims-on.some o (let low = below in omega arith)) (not-member (members_at h.table w) o (unlisted w low))

      signal-taken : (w : ℕ) → w < workers → signal_refusal (claimed h o r.queue).table (count + w) 1 ≡ None
      signal-taken w low = signal-due (claimed h o r.queue).table (count + w) n (claims-on.some (count + w) (omega (arith, low))) (claims-on.counts (count + w)) few

    ring-taken : IsTaken k count h r
    ring-taken = record {
      claim = λ o kick. claim-taken o kick;
      add = λ o w number kick low. add-taken o kick w number low;
      signal = λ o w kick low. signal-taken o kick w low;
    }

    placed-stands : (o : ℕ) → r.kick ≡ Some o → (place : Option Place) → place_of g r.queue ≡ place → Stands (n + 1) (done ++ r ∷ []) (placed g (claimed h o r.queue) o place)
    placed-stands o kick None at = up n (done ++ r ∷ []) (claimed h o r.queue) (claims-on o kick)
    placed-stands o kick (Some p) at =
        let here : IsPlaced g r.queue p.worker p.number = record { there = sound.queue; place = at } in
        let low : p.worker < workers = (place-is g r.queue p.worker p.number here).below in
        let P : Opened → Type 0 = λ w. Stands (n + 1) (done ++ r ∷ []) (raised (inserted (joined (claimed h o r.queue) w.list o p.number) p.worker p.number) w.bell) in
        subst P (sym (opened_is k count p.worker low))
        (join-stands n (done ++ r ∷ []) (claimed h o r.queue) (claims-on o kick) o p.worker p.number low (record { ring = r; among = among-new done r; kick = kick }))

    kick-stands : (kick : Option ℕ) → r.kick ≡ kick → Stands (n + 1) (done ++ r ∷ []) (registered_kick g h r kick)
    kick-stands None is = pass n done h r s
    kick-stands (Some o) is =
        elim (r.ready && r.enabled) as (λ b. Stands (n + 1) (done ++ r ∷ []) (cond {A = Shared V} b (placed g (claimed h o r.queue) o (place_of g r.queue)) (claimed h o r.queue))) [
          | true ↦ placed-stands o is (place_of g r.queue) refl
          | false ↦ up n (done ++ r ∷ []) (claimed h o r.queue) (claims-on o is)
        ]

  -- the host takes the calls of each ring
  all-taken : {V : Type 0} (n : ℕ) (done rest : List GivenRing) (h : Shared V) → Stands n done h → SoundRings k objects done rest → n + length rest < 2 ^ 63 → AreTaken k count h rest
  all-taken n done [] h s sound few = tt
  all-taken n done (r ∷ rest) h s sound few =
      let one = sound_ring k objects done r sound.0 in
      let low : n < 2 ^ 63 = omega (arith, few) in
      (ring-taken n done h s low r one, all-taken (n + 1) (done ++ r ∷ []) rest (registered g h r) (kick-stands n done h s low r one r.kick refl) sound.1 (omega (arith, few)))

  -- Before the rings are registered

  opened-size : length g.opened ≡ workers
  opened-size = length-map-range_with_len (λ w. opened_worker count k.exits w) 0 workers

  events-size : length (opening_events objects k.masks) ≡ count + workers
  events-size = omega (arith, length-append (map (λ o. Some (new_event (flags_of o))) objects) (map (λ (mask : ℕ). Some (new_event 0)) k.masks), length-map objects (λ o. Some (new_event (flags_of o))), length-map k.masks (λ (mask : ℕ). Some (new_event 0)))

  -- what holds of a new event, and of none, holds of each event
  events-all : (P : Option Event → Type 0) → P None → ((flags : ℕ) → P (Some (new_event flags))) → (o : ℕ) → P (event_at (opening_table k objects) o)
  events-all P none each o =
      elim (cases_lt o (count + workers)) [
        | inl low ↦ events-at objects k.masks P each o None low
        | inr past ↦ subst P (sym (get_or_past (opening_events objects k.masks) o None (omega (arith, past, events-size)))) none
      ]

  members-are : (w : ℕ) → w < workers → members_at (opening_table k objects) w ≡ with_member (exit_member (slice_index_or k.exits w None) k.queues) (listed (count + w) k.queues)
  members-are w low =
      mapped-at (λ w. opening_members k.queues w) g.opened w no_worker [] (omega (arith, low, opened-size)) ∙ ap (λ w. opening_members k.queues w) (opened_is k count w low)

  stands-first : {V : Type 0} (setup : Setup) → setup.objects ≡ objects → (v : V) → Stands 0 [] (before_rings k setup v)
  stands-first {V} setup is v = subst (λ os. Stands 0 [] (record (before_rings k setup v) { table = opening_table k os })) (sym is) first where
    claim-none : (o q : ℕ) → claim_of (event_at (opening_table k objects) o) ≡ Some q → ⊥
    claim-none o q some = absurd (let none = events-all (λ e. claim_of e ≡ None) refl (λ flags. refl) o in cc)

    member : (w o : ℕ) → w < workers → is_member (members_at (opening_table k objects) w) o ≡ true → (o ≡ count + w) ⊎ ((slice_index_or k.exits w None ≡ Some o) ⊎ Kicks [] o)
    member w o low is = by (member-from o (exit_member (slice_index_or k.exits w None) k.queues) (listed (count + w) k.queues) (ap (λ ms. is_member ms o) (sym (members-are w low)) ∙ is)) where
      by : (count + w ≡ o) ⊎ (is_member (exit_member (slice_index_or k.exits w None) k.queues) o ≡ true) → (o ≡ count + w) ⊎ ((slice_index_or k.exits w None ≡ Some o) ⊎ Kicks [] o)
      by (inl bell) = inl (sym bell)
      by (inr exit) = inr (inl (exit-is (slice_index_or k.exits w None) o k.queues exit))

    first : Stands 0 [] (record (before_rings k setup v) { table = opening_table k objects })
    first = record {
      objects_size = events-size;
      lists_size = length-map g.opened (λ w. opening_members k.queues w) ∙ opened-size;
      some = λ o low. events-at objects k.masks (λ e. is_some e ≡ true) (λ flags. refl) o None low;
      claims = λ o q some. absurd (claim-none o q some);
      members = member;
      counts = λ o. events-all (λ e. count_of e ≤ 0) (omega arith) (λ flags. omega arith) o;
    }

-- the host takes the calls of each ring of a valid set-up
pub rings-taken : {V : Type 0} (k : Constants) (setup : Setup) (v : V) → fault_of k setup ≡ None → length setup.rings < 2 ^ 63 → AreTaken k (length setup.objects) (before_rings k setup v) setup.rings
rings-taken k setup v valid few =
    let sound = sound_rings k setup.objects [] setup.rings (no_fault k setup valid).rings in
    all-taken k setup.objects 0 [] setup.rings (before_rings k setup v) (stands-first k setup.objects setup refl v) sound (omega (arith, few))

-- Exit objects

exit-at : (objects : List Object) (exits : List (Option ℕ)) (w x : ℕ) → AllByRecursion (λ exit. is_event_or_none objects exit ≡ true) exits → slice_index_or exits w None ≡ Some x → x < length objects
exit-at objects [] w x all is = absurd cc
exit-at objects (exit ∷ exits) zero x all is = object-below objects x (ap (λ e. is_event_or_none objects e) (sym is) ∙ all.0)
exit-at objects (exit ∷ exits) (suc w) x all is = exit-at objects exits w x all.1 is

pub exits-below : (k : Constants) (setup : Setup) → fault_of k setup ≡ None → ExitsAreThere k (length setup.objects)
exits-below k setup valid w x is = exit-at setup.objects k.exits w x (sound_device k setup.objects (no_fault k setup valid).device).exits is

-- The calls by which lists are made

-- an exit object joins a list with no member
pub first-taken : (t : HostTable) (w o n : ℕ) → w < length t.lists → has_event t o ≡ true → members_at t w ≡ [] → add_refusal t w (listed o n) ≡ None
first-taken t w o n low there none = add-due t w o n low there (ap (λ ms. is_member ms o) none)

-- a bell joins a list that has at most another object
pub bell-taken : (t : HostTable) (w bell n : ℕ) (exit : Option ℕ) → w < length t.lists → has_event t bell ≡ true → members_at t w ≡ exit_member exit n → (exit ≡ Some bell → ⊥) → add_refusal t w (listed bell n) ≡ None
bell-taken t w bell n exit low there are apart = add-due t w bell n low there (not-member (members_at t w) bell (λ is. apart (exit-is exit bell n (ap (λ ms. is_member ms bell) (sym are) ∙ is))))

-- what holds of a number that may be there
pub if-there : (P : ℕ → Type 0) (o : Option ℕ) → ((x : ℕ) → o ≡ Some x → P x) → IfSome o P
if-there P None each = tt
if-there P (Some x) each = each x refl

-- each object and each bell is an event
pub events-there : (objects : List Object) (masks : List ℕ) (os : List (Option Event)) → os ≡ opening_events objects masks → (o : ℕ) → o < length objects + length masks → is_some (slice_index_or os o None) ≡ true
events-there objects masks os are o low = ap (λ l. is_some (slice_index_or l o None)) are ∙ events-at objects masks (λ e. is_some e ≡ true) (λ flags. refl) o None low

-- a signal looks at no list
pub signal-kept : (t new : HostTable) (ls : List (List Member)) (b : ℕ) → new ≡ record t { lists = ls } → signal_refusal t b 1 ≡ None → signal_refusal new b 1 ≡ None
unfolding signal_refusal
signal-kept t new ls b is none = ap (λ x. signal_refusal x b 1) is ∙ none

pub made-longer : (old new : HostTable) (n : ℕ) → n ≡ length old.lists → new ≡ create_list_after old → n < length new.lists
unfolding create_list_after
made-longer old new n is made =
    let longer : length new.lists ≡ length old.lists + 1 = ap (λ t. length t.lists) made ∙ length-append old.lists ([] ∷ []) in
    omega (arith, longer, is)

pub made-exit : (old new : HostTable) (exit : Option ℕ) → new ≡ create_list_after old → IfSome exit (λ x. has_event old x ≡ true) → IfSome exit (λ x. has_event new x ≡ true)
unfolding create_list_after
made-exit old new exit made there = let P : HostTable → Type 0 = λ t. IfSome exit (λ x. has_event t x ≡ true) in subst P (sym made) there

-- the bell joins the new list, behind the exit object
pub bell-joins : (old made exited : HostTable) (w bell n : ℕ) (exit : Option ℕ) → w ≡ length old.lists → made ≡ create_list_after old → exited ≡ with_members made w (exit_member exit n) → has_event old bell ≡ true → (exit ≡ Some bell → ⊥) → add_refusal exited w (listed bell n) ≡ None
unfolding create_list_after
bell-joins old made exited w bell n exit w-is made-is exited-is there apart =
    let longer : w < length made.lists = made-longer old made w w-is made-is in
    let objects : exited.objects ≡ old.objects = ap (λ t. t.objects) exited-is ∙ ap (λ t. t.objects) made-is in
    let lists : exited.lists ≡ slice_set made.lists w (exit_member exit n) = ap (λ t. t.lists) exited-is in
    let size = ap length lists ∙ length-set made.lists w (exit_member exit n) in
    bell-taken exited w bell n exit (omega (arith, size, longer)) (ap (λ os. is_some (slice_index_or os bell None)) objects ∙ there)
    (ap (λ ls. slice_index_or ls w []) lists ∙ get_or-set_same made.lists w (exit_member exit n) [] longer) apart

module _ (k : Constants) (count : ℕ) where
  -- a worker's exit object is an event, and so is its bell, which is another
  pub exit-opened : (first t : HostTable) (w : ℕ) (o : Opened) → o ≡ opened_worker count k.exits w → ExitsAreThere k count → t.objects ≡ first.objects → ((object : ℕ) → object < count + length k.masks → has_event first object ≡ true) → IfSome o.exit (λ x. has_event t x ≡ true)
  exit-opened first t w o is exits same there =
      if-there (λ x. has_event t x ≡ true) o.exit
      (λ x exit. let low : x < count = exits w x (sym (ap (λ p. p.exit) is) ∙ exit) in ap (λ os. is_some (slice_index_or os x None)) same ∙ there x (omega (arith, low)))

  pub bell-opened : (first t : HostTable) (w : ℕ) (o : Opened) → o ≡ opened_worker count k.exits w → w < length k.masks → t.objects ≡ first.objects → ((object : ℕ) → object < count + length k.masks → has_event first object ≡ true) → has_event t o.bell ≡ true
  bell-opened first t w o is low same there =
      let bell : o.bell ≡ count + w = ap (λ p. p.bell) is in
      ap (λ os. is_some (slice_index_or os o.bell None)) same ∙ there o.bell (omega (arith, bell, low))

  pub apart-opened : (w : ℕ) (o : Opened) → o ≡ opened_worker count k.exits w → ExitsAreThere k count → o.exit ≡ Some o.bell → ⊥
  apart-opened w o is exits exit =
      let bell : o.bell ≡ count + w = ap (λ p. p.bell) is in
      let low : o.bell < count = exits w o.bell (sym (ap (λ p. p.exit) is) ∙ exit) in
      absurd (omega (arith, bell, low))
