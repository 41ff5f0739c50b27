-- The rows of an Event whose counter is read by a call of the host: the bell and the listeners.
use Rattle.std.proofs.Common.{◌≡◌, ℕ, ◌≤◌, Bool, true, false, nat_lt, if◌then◌else◌, is_some, List, [], length, slice_set, Option, Some, None, refl, ap, sym, ◌∙◌, arith}
use Rattle.std.proofs.lemmas.Bool.Decides.{nat_tests}
use Rattle.std.proofs.lemmas.List.{set-get_or, get_or_past}
use Rattle.vub_event.specs.declared.error.HostError.{HostError}
use Rattle.vub_event.specs.declared.event.Event.{Event}
use Rattle.vub_event.specs.declared.member.Member.{Member}
use Rattle.vub_event.specs.Counter.{read_refusal, after_read}
use Rattle.vub_event.specs.HostTable.{HostTable, event_at, members_at, member_at, with_event}
use Rattle.vub_event.specs.HostCalls.{due_of, with_change, consume_refusal, consume_after, list_refusal, is_listed_as}
use Rattle.vub_event.specs.HostCalls as host
use Rattle.vub_event.specs.InterestList.{member_of}
use Rattle.vub_model.specs.declared.cause.StopCause.TheVariants.{Exit}
use Rattle.vub_model.specs.declared.phase.Phase.{Phase}
use Rattle.vub_model.specs.declared.phase.Phase.TheVariants.{Idle, Sweep, Heard, Stopped}
use Rattle.vub_model.specs.Shared.{Shared, count_of, count_at, read_option, counter_read}
use Rattle.vub_model.specs.Work.{Local, has_token, after_bell, after_listener}
use Rattle.vub_vring.specs.declared.ops.HostOp.TheVariants as host_op
use Rattle.vub_vring.specs.declared.ops.HostSaid.{HostSaid}
use Rattle.vub_vring.specs.declared.ops.HostSaid.TheVariants as said
use Rattle.vub_vring.specs.Calls.{HostCall, IsSaid}
use Rattle.vub_loop.specs.Said.{has_count, is_member}
use Rattle.vub_loop.proofs.Answers.{said-due}

-- an event whose read is not refused counts
above-zero : (e : Option Event) → due_of read_refusal e ≡ None → nat_lt 0 (count_of e) ≡ true
above-zero None due = absurd cc
above-zero (Some event) due = grind (arith, nat_tests)

-- one whose read is refused counts 0, as one that is not there
at-zero : (e : Option Event) (refusal : HostError) → due_of read_refusal e ≡ Some refusal → nat_lt 0 (count_of e) ≡ false
at-zero None refusal due = refl
at-zero (Some event) refusal due = grind (arith, nat_tests)

-- a read leaves what the counter's change leaves, also where the event is not there
change-read : (table : HostTable) (object : ℕ) (e : Option Event) → event_at table object ≡ e → with_change after_read table object e ≡ with_event table object (read_option e)
change-read table object None is = ap (λ (objects : List (Option Event)). record table { objects = objects }) (sym (set-get_or table.objects object None) ∙ ap (λ (e : Option Event). slice_set table.objects object e) is)
change-read table object (Some event) is = refl

read-after : (table : HostTable) (object : ℕ) → consume_after table object ≡ with_event table object (read_option (event_at table object))
unfolding consume_after
read-after table object = change-read table object (event_at table object) refl

bell-above : (table : HostTable) (bell : ℕ) → consume_refusal table bell ≡ None → nat_lt 0 (count_at table bell) ≡ true
unfolding consume_refusal
bell-above table bell due = above-zero (event_at table bell) due

bell-at-zero : (table : HostTable) (bell : ℕ) (refusal : HostError) → consume_refusal table bell ≡ Some refusal → nat_lt 0 (count_at table bell) ≡ false
unfolding consume_refusal
bell-at-zero table bell refusal due = at-zero (event_at table bell) refusal due

flip-token : (m : Option Member) (token : ℕ) → host.has_token token m ≡ has_token m token
flip-token None token = refl
flip-token (Some m) token = refl

listed-token : (table : HostTable) (list object token : ℕ) → is_listed_as table list object token ≡ has_token (member_of (members_at table list) object) token
unfolding is_listed_as
listed-token table list object token = flip-token (member_at table list object) token

no-list : (table : HostTable) (list : ℕ) (refusal : HostError) → list_refusal table list ≡ Some refusal → length table.lists ≤ list
no-list table list refusal due = grind (arith, nat_tests)

unlisted-token : (table : HostTable) (list object token : ℕ) (refusal : HostError) → list_refusal table list ≡ Some refusal → has_token (member_of (members_at table list) object) token ≡ false
unlisted-token table list object token refusal due =
    ap (λ (members : List Member). has_token (member_of members object) token) (get_or_past table.lists list [] (no-list table list refusal due))

abbrev table_read : HostTable → ℕ → Bool → HostTable
table_read table object heard = if heard then consume_after table object else table

module _ {V : Type 0} where
  left : (a b : Shared V) (table : HostTable) → b.table ≡ table → b ≡ record a { table = b.table } → b ≡ record a { table = table }
  left a b table is only = only ∙ ap (λ (t : HostTable). record a { table = t }) is

  abbrev bell_local : Shared V → ℕ → Option ℕ → Bool → Local V
  bell_local a bell exit above = if above then record { shared = counter_read a bell; phase = Sweep } else record { shared = a; phase = if is_some exit then Stopped Exit else Idle }

  -- a bell that was read is due
  pub bell-row : (a b : Shared V) (s : HostSaid) (bell : ℕ) (exit : Option ℕ) → has_count s ≡ true → HostCall (host_op.Consume bell) s a b → record { shared = b; phase = Sweep } ≡ after_bell a bell exit
  bell-row a b (said.Count n) bell exit is call =
      let now : b ≡ counter_read a bell = left a b _ (call.0.2 ∙ read-after a.table bell) call.1 in
      let local : Shared V → Local V = λ h. record { shared = h; phase = Sweep } in
      ap local now ∙ ap (bell_local a bell exit) (sym (bell-above a.table bell call.0.0))
  bell-row a b said.Done bell exit is call = absurd cc
  bell-row a b (said.Number n) bell exit is call = absurd cc
  bell-row a b (said.Member m) bell exit is call = absurd cc
  bell-row a b (said.Ready m) bell exit is call = absurd cc
  bell-row a b (said.Refused e) bell exit is call = absurd cc

  -- one whose read is refused stands at zero
  pub unrung-row : (a b : Shared V) (s : HostSaid) (bell : ℕ) (exit : Option ℕ) (phase : Phase) → has_count s ≡ false → IsSaid s → phase ≡ (if is_some exit then Stopped Exit else Idle) → HostCall (host_op.Consume bell) s a b → record { shared = b; phase = phase } ≡ after_bell a bell exit
  unrung-row a b (said.Refused e) bell exit phase is due at call =
      let now : b ≡ a = left a b _ call.0.1 call.1 in
      let local : Shared V → Phase → Local V = λ h p. record { shared = h; phase = p } in
      ap (λ (h : Shared V). local h phase) now ∙ ap (λ (p : Phase). local a p) at ∙ ap (bell_local a bell exit) (sym (bell-at-zero a.table bell e (said-due (consume_refusal a.table bell) e due call.0.0)))
  unrung-row a b (said.Count n) bell exit phase is due at call = absurd cc
  unrung-row a b said.Done bell exit phase is due at call = absurd call.0
  unrung-row a b (said.Number n) bell exit phase is due at call = absurd call.0
  unrung-row a b (said.Member m) bell exit phase is due at call = absurd call.0
  unrung-row a b (said.Ready m) bell exit phase is due at call = absurd call.0

  abbrev listener_local : Shared V → ℕ → ℕ → Bool → Local V
  listener_local a object token heard = if heard then record { shared = counter_read a object; phase = Heard token } else record { shared = a; phase = Idle }

  -- a listener that was read is heard
  pub listener-row : (a b : Shared V) (s : HostSaid) (list object token : ℕ) → is_member s ≡ true → HostCall (host_op.ConsumeAs list object token) s a b → record { shared = b; phase = Heard token } ≡ after_listener a list object token
  listener-row a b (said.Member m) list object token is call =
      let heard : is_listed_as a.table list object token ≡ true = sym call.0.1 ∙ is in
      let now : b ≡ counter_read a object = left a b _ (call.0.2 ∙ ap (table_read a.table object) heard ∙ read-after a.table object) call.1 in
      let local : Shared V → Local V = λ h. record { shared = h; phase = Heard token } in
      ap local now ∙ ap (listener_local a object token) (sym heard ∙ listed-token a.table list object token)
  listener-row a b said.Done list object token is call = absurd cc
  listener-row a b (said.Number n) list object token is call = absurd cc
  listener-row a b (said.Count n) list object token is call = absurd cc
  listener-row a b (said.Ready m) list object token is call = absurd cc
  listener-row a b (said.Refused e) list object token is call = absurd cc

  -- an event that is no listener with this token is stale
  pub stale-row : (a b : Shared V) (s : HostSaid) (list object token : ℕ) → is_member s ≡ false → IsSaid s → HostCall (host_op.ConsumeAs list object token) s a b → record { shared = b; phase = Idle } ≡ after_listener a list object token
  stale-row a b (said.Member m) list object token is due call =
      let heard : is_listed_as a.table list object token ≡ false = sym call.0.1 ∙ is in
      let now : b ≡ a = left a b _ (call.0.2 ∙ ap (table_read a.table object) heard) call.1 in
      let local : Shared V → Local V = λ h. record { shared = h; phase = Idle } in
      ap local now ∙ ap (listener_local a object token) (sym heard ∙ listed-token a.table list object token)
  stale-row a b (said.Refused e) list object token is due call =
      let now : b ≡ a = left a b _ call.0.1 call.1 in
      let local : Shared V → Local V = λ h. record { shared = h; phase = Idle } in
      ap local now ∙ ap (listener_local a object token) (sym (unlisted-token a.table list object token e (said-due (list_refusal a.table list) e due call.0.0)))
  stale-row a b said.Done list object token is due call = absurd call.0
  stale-row a b (said.Number n) list object token is due call = absurd call.0
  stale-row a b (said.Count n) list object token is due call = absurd call.0
  stale-row a b (said.Ready m) list object token is due call = absurd call.0
