-- The rows of the small steps that call the host.
use Rattle.std.proofs.Common.{◌≡◌, ℕ, ◌≤◌, Bool, true, false, nat_eq, not, ◌||◌, ◌&&◌, if◌then◌else◌, is_some, List, [], ◌∷◌, length, Option, Some, None, refl, ap, sym, subst, ◌∙◌, arith}
use Rattle.std.proofs.lemmas.Bool.Decides.{nat_tests}
use Rattle.std.proofs.lemmas.List.{set-get_or, get_or_past, set_past}
use Rattle.vub_base.specs.Told.{Told}
use Rattle.vub_event.specs.declared.error.HostError.{HostError}
use Rattle.vub_event.specs.declared.error.HostError.TheVariants.{EEXIST, ENOENT, EBADF, Held}
use Rattle.vub_event.specs.declared.event.Event.{Event}
use Rattle.vub_event.specs.declared.member.Member.{Member}
use Rattle.vub_event.specs.Counter.{write_refusal, written}
use Rattle.vub_event.specs.HostTable.{HostTable, event_at, has_event, has_list, members_at, member_at, is_listed, with_event, with_members}
use Rattle.vub_event.specs.HostCalls.{due_of, with_change, may_claim, claim_test, claim_refusal, claim_after, has_both, add_refusal, add_after, delete_refusal, delete_after, listen_refusal, unlisten_refusal, is_claimed, has_token_above, signal_refusal, signal_after, listener}
use Rattle.vub_event.specs.InterestList.{member_of, without_member}
use Rattle.vub_model.specs.declared.small.Small.TheVariants.{Claim, Add, Delete, Listen, Unlisten, Bell}
use Rattle.vub_model.specs.declared.wiring.Opened.{Opened}
use Rattle.vub_model.specs.Control.{can_claim, can_add, can_listen, can_unlisten, instead, drop_two}
use Rattle.vub_model.specs.Frame.{claim_of}
use Rattle.vub_model.specs.Plans.{Plan}
use Rattle.vub_model.specs.Shared.{Shared, raised_event, raised_option}
use Rattle.vub_model.specs.Wiring.{Wiring, opened_at}
use Rattle.vub_proto.specs.declared.answer.Answer.TheVariants as answer
use Rattle.vub_proto.specs.declared.answer.ListenerError.TheVariants as listener_error
use Rattle.vub_proto.specs.declared.answer.VhostUserError.TheVariants as error
use Rattle.vub_proto.specs.declared.device_said.DeviceSaid.TheVariants as outcome
use Rattle.vub_vring.specs.declared.ops.HostOp.TheVariants as host
use Rattle.vub_vring.specs.declared.ops.HostSaid.{HostSaid}
use Rattle.vub_vring.specs.declared.ops.HostSaid.TheVariants as said
use Rattle.vub_vring.specs.Calls.{HostCall, IsSaid}
use Rattle.vub_plan.specs.declared.half.Turn.{Turn}
use Rattle.vub_plan.specs.declared.half.Turn.TheVariants as turn
use Rattle.vub_plan.specs.Halves.{turned}
use Rattle.vub_handler.specs.Acting.{claim_turn, add_turn, listen_turn, unlisten_turn, IsRowOf, IsRow}
use Rattle.vub_handler.proofs.Telling.{told-map, by-row, said-due}

-- Which refusal is due

abbrev held_unless : Bool → Option HostError
held_unless b = if b then None else Some Held

free-test : (b : Bool) → held_unless b ≡ None → b ≡ true
free-test true due = refl
free-test false due = absurd cc

held-test : (b : Bool) (e : HostError) → held_unless b ≡ Some e → (e ≡ Held) × (b ≡ false)
held-test true e due = absurd cc
held-test false e due = (cc, refl)

claim-free : (q : ℕ) (listed : Bool) (event : Option Event) → due_of (claim_test q listed) event ≡ None → may_claim q listed (claim_of event) ≡ true
claim-free q listed None due = absurd cc
claim-free q listed (Some event) due = free-test (may_claim q listed event.claim) due

claim-held : (q : ℕ) (listed : Bool) (event : Option Event) (e : HostError) → is_some event ≡ true → due_of (claim_test q listed) event ≡ Some e → (e ≡ Held) × (may_claim q listed (claim_of event) ≡ false)
claim-held q listed None e there due = absurd cc
claim-held q listed (Some event) e there due = held-test (may_claim q listed event.claim) e due

abbrev add_due : Bool → Bool → Option HostError
add_due both member = if not both then Some EBADF else (if member then Some EEXIST else None)

add-free : (both member : Bool) → add_due both member ≡ None → member ≡ false
add-free true true due = absurd cc
add-free true false due = refl
add-free false member due = absurd cc

-- an event that is there and is not added is on the list, or there is no list
pub data Unadded (list member : Bool) (e : HostError) : Type 0 where
  found : e ≡ EEXIST → member ≡ true → Unadded list member e
  no_list : e ≡ EBADF → list ≡ false → Unadded list member e

add-refused : (list event member : Bool) (e : HostError) → event ≡ true → add_due (list && event) member ≡ Some e → Unadded list member e
add-refused true event true e there due = found (let x : add_due true true ≡ Some e = ap (λ b. add_due b true) (sym there) ∙ due in cc) (refl {a = true})
add-refused true event false e there due = absurd (let x : add_due true false ≡ Some e = ap (λ b. add_due b false) (sym there) ∙ due in cc)
add-refused false event member e there due = no_list (cc) (refl {a = false})

abbrev missing_unless : Bool → Bool → Option HostError
missing_unless both member = if not both then Some EBADF else (if member then None else Some ENOENT)

missing-free : (both member : Bool) → missing_unless both member ≡ None → member ≡ true
missing-free true true due = refl
missing-free true false due = absurd cc
missing-free false member due = absurd cc

pub data Undeleted (list member : Bool) (e : HostError) : Type 0 where
  absent : e ≡ ENOENT → member ≡ false → Undeleted list member e
  no_list : e ≡ EBADF → list ≡ false → Undeleted list member e

delete-refused : (list event member : Bool) (e : HostError) → event ≡ true → missing_unless (list && event) member ≡ Some e → Undeleted list member e
delete-refused true event true e there due = absurd (let x : missing_unless true true ≡ Some e = ap (λ b. missing_unless b true) (sym there) ∙ due in cc)
delete-refused true event false e there due = absent (let x : missing_unless true false ≡ Some e = ap (λ b. missing_unless b false) (sym there) ∙ due in cc) (refl {a = false})
delete-refused false event member e there due = no_list (cc) (refl {a = false})

-- Tables that stay

no-list : (table : HostTable) (list : ℕ) → has_list table list ≡ false → length table.lists ≤ list
no-list table list is = grind (arith, nat_tests)

list-past : (table : HostTable) (list : ℕ) (members : List Member) → has_list table list ≡ false → with_members table list members ≡ table
list-past table list members is = ap (λ (lists : List (List Member)). record table { lists = lists }) (set_past table.lists list members (no-list table list is))

none-past : (table : HostTable) (list object : ℕ) → has_list table list ≡ false → is_some (member_at table list object) ≡ false
none-past table list object is = ap (λ (members : List Member). is_some (member_of members object)) (get_or_past table.lists list [] (no-list table list is))

list-same : (table : HostTable) (list : ℕ) (members : List Member) → members ≡ members_at table list → with_members table list members ≡ table
list-same table list members is = ap (λ (ms : List Member). with_members table list ms) is ∙ ap (λ (lists : List (List Member)). record table { lists = lists }) (set-get_or table.lists list [])

without-none : (members : List Member) (object : ℕ) → is_some (member_of members object) ≡ false → without_member members object ≡ members
without-none [] object is = refl
without-none (m ∷ ms) object is = by (nat_eq m.object object) (without-none ms object) is where
  by : (b : Bool) → (is_some (member_of ms object) ≡ false → without_member ms object ≡ ms) → is_some (if b then Some m else member_of ms object) ≡ false → (if not b then m ∷ without_member ms object else without_member ms object) ≡ m ∷ ms
  by true more is = absurd cc
  by false more is = ap (λ (rest : List Member). m ∷ rest) (more is)

raised-once : (event : Event) → write_refusal event 1 ≡ None → written event 1 ≡ raised_event event
raised-once event due = grind (arith, nat_tests)

full-stays : (event : Event) (e : HostError) → write_refusal event 1 ≡ Some e → event ≡ raised_event event
full-stays event e due = grind (arith, nat_tests)

event-same : (table : HostTable) (object : ℕ) (event : Option Event) → event_at table object ≡ event → table ≡ with_event table object event
event-same table object event is =
    sym (ap (λ (e : Option Event). with_event table object e) (sym is) ∙ ap (λ (objects : List (Option Event)). record table { objects = objects }) (set-get_or table.objects object None))

signal-made : (table : HostTable) (object : ℕ) (event : Option Event) → due_of (λ event. write_refusal event 1) event ≡ None → with_change (λ event. written event 1) table object event ≡ with_event table object (raised_option event)
signal-made table object None due = absurd cc
signal-made table object (Some event) due = ap (λ (e : Event). with_event table object (Some e)) (raised-once event due)

signal-stays : (table : HostTable) (object : ℕ) (event : Option Event) (e : HostError) → event_at table object ≡ event → due_of (λ event. write_refusal event 1) event ≡ Some e → table ≡ with_event table object (raised_option event)
signal-stays table object None e is due = event-same table object None is
signal-stays table object (Some event) e is due = event-same table object (Some event) is ∙ ap (λ (e : Event). with_event table object (Some e)) (full-stays event e due)

claimed-same : (event : Option Event) → is_claimed event ≡ is_some (claim_of event)
claimed-same None = refl
claimed-same (Some event) = refl

-- Rows

module _ {V : Type 0} (g : Wiring) (a b : Shared V) where
  left : (table : HostTable) → b.table ≡ table → b ≡ record a { table = b.table } → b ≡ record a { table = table }
  left table is only = only ∙ ap (λ (t : HostTable). record a { table = t }) is

  abbrev claimed_if : ℕ → ℕ → Bool → HostTable
  claimed_if object queue may = if may then claim_after a.table object queue else a.table

  claim-made : (object queue : ℕ) (may : Bool) → can_claim a.table object queue ≡ may → b.table ≡ claimed_if object queue may → b ≡ record a { table = b.table } → (t : Turn) → ((p : Plan) → turned t p ≡ (if may then p else instead (answer.Failed error.InvalidParam) p)) → IsRowOf g (Claim object queue) outcome.Done t a b
  claim-made object queue may is table only t rest =
      record {
        free = refl;
        says = refl;
        shared = left _ (table ∙ ap (claimed_if object queue) (sym is)) only;
        rest = λ p. rest p ∙ ap (λ (c : Bool). if c then p else instead (answer.Failed error.InvalidParam) p) (sym is);
      }

  claim-none : (object queue : ℕ) → claim_refusal a.table object queue ≡ None → can_claim a.table object queue ≡ true
  unfolding claim_refusal
  claim-none object queue due = claim-free queue (is_listed a.table object) (event_at a.table object) due

  claim-some : (object queue : ℕ) (e : HostError) → has_event a.table object ≡ true → claim_refusal a.table object queue ≡ Some e → (e ≡ Held) × (can_claim a.table object queue ≡ false)
  unfolding claim_refusal
  claim-some object queue e there due = claim-held queue (is_listed a.table object) (event_at a.table object) e there due

  pub claim-row : (s : HostSaid) (object queue : ℕ) → has_event a.table object ≡ true → IsSaid s → HostCall (host.Claim object queue) s a b → IsRowOf g (Claim object queue) outcome.Done (claim_turn s) a b
  claim-row said.Done object queue there ok call = claim-made object queue true (claim-none object queue call.0.0) call.0.2 call.1 turn.Goes (λ p. refl)
  claim-row (said.Refused e) object queue there ok call =
      let due = claim-some object queue e there (said-due (claim_refusal a.table object queue) e ok call.0.0) in
      let P : HostError → Type 0 = λ x. IsRowOf g (Claim object queue) outcome.Done (claim_turn (said.Refused x)) a b in
      subst P (sym due.0) (claim-made object queue false due.1 call.0.1 call.1 (claim_turn (said.Refused Held)) (λ p. refl))
  claim-row (said.Number n) object queue there ok call = absurd call.0
  claim-row (said.Count n) object queue there ok call = absurd call.0
  claim-row (said.Member m) object queue there ok call = absurd call.0
  claim-row (said.Ready m) object queue there ok call = absurd call.0

  -- a new member

  abbrev added_if : ℕ → ℕ → ℕ → Bool → HostTable
  added_if list object token may = if may then add_after a.table list (listener object token) else a.table

  add-past : (list object token : ℕ) → has_list a.table list ≡ false → add_after a.table list (listener object token) ≡ a.table
  unfolding add_after
  add-past list object token is = list-past a.table list _ is

  add-none : (list object token : ℕ) → add_refusal a.table list (listener object token) ≡ None → is_some (member_at a.table list object) ≡ false
  unfolding add_refusal
  add-none list object token due = add-free (has_both a.table list object) (is_some (member_at a.table list object)) due

  add-some : (list object token : ℕ) (e : HostError) → has_event a.table object ≡ true → add_refusal a.table list (listener object token) ≡ Some e → Unadded (has_list a.table list) (is_some (member_at a.table list object)) e
  unfolding add_refusal
  add-some list object token e there due = add-refused (has_list a.table list) (has_event a.table object) (is_some (member_at a.table list object)) e there due

  add-made : (worker object token : ℕ) (may : Bool) → can_add a.table (opened_at g worker).list object ≡ may → b.table ≡ added_if (opened_at g worker).list object token may → b ≡ record a { table = b.table } → (t : Turn) → ((p : Plan) → turned t p ≡ (if may then p else record p { steps = drop_two p.steps })) → IsRowOf g (Add worker object token) outcome.Done t a b
  add-made worker object token may is table only t rest =
      record {
        free = refl;
        says = refl;
        shared = left _ (table ∙ ap (added_if (opened_at g worker).list object token) (sym is)) only;
        rest = λ p. rest p ∙ ap (λ (c : Bool). if c then p else record p { steps = drop_two p.steps }) (sym is);
      }

  pub add-row : (s : HostSaid) (worker object token : ℕ) → has_event a.table object ≡ true → IsSaid s → HostCall (host.Add (opened_at g worker).list object (record { 0 = 1 }) token) s a b → IsRowOf g (Add worker object token) outcome.Done (add_turn s) a b
  add-row said.Done worker object token there ok call = add-made worker object token true (ap not (add-none (opened_at g worker).list object token call.0.0)) call.0.2 call.1 turn.Goes (λ p. refl)
  add-row (said.Refused e) worker object token there ok call = by (add-some list object token e there (said-due (add_refusal a.table list (listener object token)) e ok call.0.0)) where
    list : ℕ
    list = (opened_at g worker).list

    P : HostError → Type 0
    P x = IsRowOf g (Add worker object token) outcome.Done (add_turn (said.Refused x)) a b

    by : Unadded (has_list a.table list) (is_some (member_at a.table list object)) e → P e
    by (found is there) = subst P (sym is) (add-made worker object token false (ap not there) call.0.1 call.1 turn.Skips (λ p. refl))
    by (no_list is past) = subst P (sym is) (add-made worker object token true (ap not (none-past a.table list object past)) (call.0.1 ∙ sym (add-past list object token past)) call.1 turn.Goes (λ p. refl))
  add-row (said.Number n) worker object token there ok call = absurd call.0
  add-row (said.Count n) worker object token there ok call = absurd call.0
  add-row (said.Member m) worker object token there ok call = absurd call.0
  add-row (said.Ready m) worker object token there ok call = absurd call.0

  -- a member that leaves

  delete-past : (list object : ℕ) → has_list a.table list ≡ false → delete_after a.table list object ≡ a.table
  unfolding delete_after
  delete-past list object is = list-past a.table list _ is

  delete-absent : (list object : ℕ) → is_some (member_at a.table list object) ≡ false → delete_after a.table list object ≡ a.table
  unfolding delete_after
  delete-absent list object is = list-same a.table list _ (without-none (members_at a.table list) object is)

  delete-some : (list object : ℕ) (e : HostError) → has_event a.table object ≡ true → delete_refusal a.table list object ≡ Some e → Undeleted (has_list a.table list) (is_some (member_at a.table list object)) e
  unfolding delete_refusal
  delete-some list object e there due = delete-refused (has_list a.table list) (has_event a.table object) (is_some (member_at a.table list object)) e there due

  delete-made : (worker object : ℕ) → b.table ≡ delete_after a.table (opened_at g worker).list object → b ≡ record a { table = b.table } → IsRowOf g (Delete worker object) outcome.Done turn.Goes a b
  delete-made worker object table only = record { free = refl; says = refl; shared = left _ table only; rest = λ p. refl }

  pub delete-row : (s : HostSaid) (worker object : ℕ) → has_event a.table object ≡ true → IsSaid s → HostCall (host.Delete (opened_at g worker).list object) s a b → IsRowOf g (Delete worker object) outcome.Done turn.Goes a b
  delete-row said.Done worker object there ok call = delete-made worker object call.0.2 call.1
  delete-row (said.Refused e) worker object there ok call = by (delete-some list object e there (said-due (delete_refusal a.table list object) e ok call.0.0)) where
    list : ℕ
    list = (opened_at g worker).list

    by : Undeleted (has_list a.table list) (is_some (member_at a.table list object)) e → IsRowOf g (Delete worker object) outcome.Done turn.Goes a b
    by (absent is none) = delete-made worker object (call.0.1 ∙ sym (delete-absent list object none)) call.1
    by (no_list is past) = delete-made worker object (call.0.1 ∙ sym (delete-past list object past)) call.1
  delete-row (said.Number n) worker object there ok call = absurd call.0
  delete-row (said.Count n) worker object there ok call = absurd call.0
  delete-row (said.Member m) worker object there ok call = absurd call.0
  delete-row (said.Ready m) worker object there ok call = absurd call.0

  -- listeners

  abbrev listen_due : Bool → Bool → Option HostError
  listen_due both listed = if not both then Some EBADF else (if listed then Some EEXIST else None)

  listen-free : (both listed : Bool) → both ≡ true → listen_due both listed ≡ None → not listed ≡ true
  listen-free true true there due = absurd cc
  listen-free true false there due = refl
  listen-free false listed there due = absurd cc

  listen-found : (both listed : Bool) (e : HostError) → both ≡ true → listen_due both listed ≡ Some e → (e ≡ EEXIST) × (not listed ≡ false)
  listen-found true true e there due = (cc, refl {a = false})
  listen-found true false e there due = absurd cc
  listen-found false listed e there due = absurd cc

  abbrev is_taken : ℕ → ℕ → Bool
  is_taken list object = is_some (member_at a.table list object) || is_claimed (event_at a.table object)

  can-listen : (list object : ℕ) (may : Bool) → not (is_taken list object) ≡ may → can_listen a.table list object ≡ may
  can-listen list object may is = sym (ap (λ (c : Bool). not (is_some (member_at a.table list object) || c)) (claimed-same (event_at a.table object))) ∙ is

  listen-none : (list object : ℕ) → has_both a.table list object ≡ true → listen_refusal a.table list object ≡ None → can_listen a.table list object ≡ true
  unfolding listen_refusal
  listen-none list object there due = can-listen list object true (listen-free (has_both a.table list object) (is_taken list object) there due)

  listen-some : (list object : ℕ) (e : HostError) → has_both a.table list object ≡ true → listen_refusal a.table list object ≡ Some e → (e ≡ EEXIST) × (can_listen a.table list object ≡ false)
  unfolding listen_refusal
  listen-some list object e there due = (let r = listen-found (has_both a.table list object) (is_taken list object) e there due in (r.0, can-listen list object false r.1))

  listen-made : (worker object token : ℕ) (may : Bool) → can_listen a.table (opened_at g worker).list object ≡ may → b.table ≡ added_if (opened_at g worker).list object token may → b ≡ record a { table = b.table } → (t : Turn) → ((p : Plan) → turned t p ≡ (if may then p else instead (answer.Listener listener_error.AlreadyExists) p)) → IsRowOf g (Listen worker object token) outcome.Done t a b
  listen-made worker object token may is table only t rest =
      record {
        free = refl;
        says = refl;
        shared = left _ (table ∙ ap (added_if (opened_at g worker).list object token) (sym is)) only;
        rest = λ p. rest p ∙ ap (λ (c : Bool). if c then p else instead (answer.Listener listener_error.AlreadyExists) p) (sym is);
      }

  pub listen-row : (s : HostSaid) (worker object token : ℕ) → has_both a.table (opened_at g worker).list object ≡ true → IsSaid s → HostCall (host.Listen (opened_at g worker).list object token) s a b → IsRowOf g (Listen worker object token) outcome.Done (listen_turn s) a b
  listen-row said.Done worker object token there ok call = listen-made worker object token true (listen-none (opened_at g worker).list object there call.0.0) call.0.2 call.1 turn.Goes (λ p. refl)
  listen-row (said.Refused e) worker object token there ok call =
      let due = listen-some (opened_at g worker).list object e there (said-due (listen_refusal a.table (opened_at g worker).list object) e ok call.0.0) in
      let P : HostError → Type 0 = λ x. IsRowOf g (Listen worker object token) outcome.Done (listen_turn (said.Refused x)) a b in
      subst P (sym due.0) (listen-made worker object token false due.1 call.0.1 call.1 (listen_turn (said.Refused EEXIST)) (λ p. refl))
  listen-row (said.Number n) worker object token there ok call = absurd call.0
  listen-row (said.Count n) worker object token there ok call = absurd call.0
  listen-row (said.Member m) worker object token there ok call = absurd call.0
  listen-row (said.Ready m) worker object token there ok call = absurd call.0

  unlisten-found : (both above : Bool) (e : HostError) → both ≡ true → missing_unless both above ≡ Some e → (e ≡ ENOENT) × (above ≡ false)
  unlisten-found true true e there due = absurd cc
  unlisten-found true false e there due = (cc, refl {a = false})
  unlisten-found false above e there due = absurd cc

  unlisten-none : (list object above : ℕ) → unlisten_refusal a.table list object above ≡ None → can_unlisten a.table list object above ≡ true
  unfolding unlisten_refusal
  unlisten-none list object above due = missing-free (has_both a.table list object) (has_token_above above (member_at a.table list object)) due

  unlisten-some : (list object above : ℕ) (e : HostError) → has_both a.table list object ≡ true → unlisten_refusal a.table list object above ≡ Some e → (e ≡ ENOENT) × (can_unlisten a.table list object above ≡ false)
  unfolding unlisten_refusal
  unlisten-some list object above e there due = unlisten-found (has_both a.table list object) (has_token_above above (member_at a.table list object)) e there due

  abbrev deleted_if : ℕ → ℕ → Bool → HostTable
  deleted_if list object may = if may then delete_after a.table list object else a.table

  unlisten-made : (worker object above : ℕ) (may : Bool) → can_unlisten a.table (opened_at g worker).list object above ≡ may → b.table ≡ deleted_if (opened_at g worker).list object may → b ≡ record a { table = b.table } → (t : Turn) → ((p : Plan) → turned t p ≡ (if may then p else instead (answer.Listener listener_error.NotFound) p)) → IsRowOf g (Unlisten worker object above) outcome.Done t a b
  unlisten-made worker object above may is table only t rest =
      record {
        free = refl;
        says = refl;
        shared = left _ (table ∙ ap (deleted_if (opened_at g worker).list object) (sym is)) only;
        rest = λ p. rest p ∙ ap (λ (c : Bool). if c then p else instead (answer.Listener listener_error.NotFound) p) (sym is);
      }

  pub unlisten-row : (s : HostSaid) (worker object above : ℕ) → has_both a.table (opened_at g worker).list object ≡ true → IsSaid s → HostCall (host.Unlisten (opened_at g worker).list object above) s a b → IsRowOf g (Unlisten worker object above) outcome.Done (unlisten_turn s) a b
  unlisten-row said.Done worker object above there ok call = unlisten-made worker object above true (unlisten-none (opened_at g worker).list object above call.0.0) call.0.2 call.1 turn.Goes (λ p. refl)
  unlisten-row (said.Refused e) worker object above there ok call =
      let due = unlisten-some (opened_at g worker).list object above e there (said-due (unlisten_refusal a.table (opened_at g worker).list object above) e ok call.0.0) in
      let P : HostError → Type 0 = λ x. IsRowOf g (Unlisten worker object above) outcome.Done (unlisten_turn (said.Refused x)) a b in
      subst P (sym due.0) (unlisten-made worker object above false due.1 call.0.1 call.1 (unlisten_turn (said.Refused ENOENT)) (λ p. refl))
  unlisten-row (said.Number n) worker object above there ok call = absurd call.0
  unlisten-row (said.Count n) worker object above there ok call = absurd call.0
  unlisten-row (said.Member m) worker object above there ok call = absurd call.0
  unlisten-row (said.Ready m) worker object above there ok call = absurd call.0

  -- a bell

  bell-made : (object : ℕ) → b.table ≡ with_event a.table object (raised_option (event_at a.table object)) → b ≡ record a { table = b.table } → IsRowOf g (Bell object) outcome.Done turn.Goes a b
  bell-made object table only = record { free = refl; says = refl; shared = left _ table only; rest = λ p. refl }

  signal-none : (object : ℕ) → signal_refusal a.table object 1 ≡ None → signal_after a.table object 1 ≡ with_event a.table object (raised_option (event_at a.table object))
  unfolding signal_refusal signal_after
  signal-none object due = signal-made a.table object (event_at a.table object) due

  signal-some : (object : ℕ) (e : HostError) → signal_refusal a.table object 1 ≡ Some e → a.table ≡ with_event a.table object (raised_option (event_at a.table object))
  unfolding signal_refusal
  signal-some object e due = signal-stays a.table object (event_at a.table object) e refl due

  pub bell-row : (s : HostSaid) (object : ℕ) → IsSaid s → HostCall (host.Signal object 1) s a b → IsRowOf g (Bell object) outcome.Done turn.Goes a b
  bell-row said.Done object ok call = bell-made object (call.0.2 ∙ signal-none object call.0.0) call.1
  bell-row (said.Refused e) object ok call = bell-made object (call.0.1 ∙ signal-some object e (said-due (signal_refusal a.table object 1) e ok call.0.0)) call.1
  bell-row (said.Number n) object ok call = absurd call.0
  bell-row (said.Count n) object ok call = absurd call.0
  bell-row (said.Member m) object ok call = absurd call.0
  bell-row (said.Ready m) object ok call = absurd call.0

-- The same where what is shared is told

module _ {V : Type 0} (g : Wiring) (Sound Rise : Type 0) (old new : Option (Shared V)) (s : HostSaid) (ok : IsSaid s) where
  pub claim_told : (object queue : ℕ) → Told old new (HostCall (host.Claim object queue) s) → Told old new (IsRow Sound Rise g (Claim object queue) outcome.Done (claim_turn s))
  claim_told object queue told = told-map old new _ _ (λ a b call there. by-row Sound Rise _ (claim-row g a b s object queue there ok call)) told

  pub add_told : (worker object token : ℕ) → Told old new (HostCall (host.Add (opened_at g worker).list object (record { 0 = 1 }) token) s) → Told old new (IsRow Sound Rise g (Add worker object token) outcome.Done (add_turn s))
  add_told worker object token told = told-map old new _ _ (λ a b call there. by-row Sound Rise _ (add-row g a b s worker object token there ok call)) told

  pub delete_told : (w : Opened) (worker object : ℕ) → w ≡ opened_at g worker → Told old new (HostCall (host.Delete w.list object) s) → Told old new (IsRow Sound Rise g (Delete worker object) outcome.Done turn.Goes)
  delete_told w worker object is told =
      let P : Opened → Type 0 = λ w. Told old new (HostCall (host.Delete w.list object) s) in
      told-map old new _ _ (λ a b call there. by-row Sound Rise _ (delete-row g a b s worker object there ok call)) (subst P is told)

  pub listen_told : (worker object token : ℕ) → Told old new (HostCall (host.Listen (opened_at g worker).list object token) s) → Told old new (IsRow Sound Rise g (Listen worker object token) outcome.Done (listen_turn s))
  listen_told worker object token told = told-map old new _ _ (λ a b call there. by-row Sound Rise _ (listen-row g a b s worker object token there ok call)) told

  pub unlisten_told : (worker object above : ℕ) → Told old new (HostCall (host.Unlisten (opened_at g worker).list object above) s) → Told old new (IsRow Sound Rise g (Unlisten worker object above) outcome.Done (unlisten_turn s))
  unlisten_told worker object above told = told-map old new _ _ (λ a b call there. by-row Sound Rise _ (unlisten-row g a b s worker object above there ok call)) told

  pub bell_told : (object : ℕ) → Told old new (HostCall (host.Signal object 1) s) → Told old new (IsRow Sound Rise g (Bell object) outcome.Done turn.Goes)
  bell_told object told = told-map old new _ _ (λ a b call there. by-row Sound Rise _ (bell-row g a b s object ok call)) told
