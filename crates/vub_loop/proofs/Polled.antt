-- Which member a poll picks.
use Rattle.std.proofs.Common.{◌≡◌, ℕ, ◌≤◌, ◌==◌, true, List, [], ◌∷◌, Option, Some, None, Contains, find, slice_get, ◌∙◌, ap, subst, sym, arith}
use Rattle.std.specs.List.{list_any}
use Rattle.std.proofs.lemmas.Bool.Decides.{nat_tests}
use Rattle.vub_event.specs.declared.ready.Ready.{Ready}
use Rattle.vub_event.specs.HostTable.{HostTable, ready_members, IsLeastOf}
use Rattle.vub_model.specs.declared.phase.Phase.{Phase}
use Rattle.vub_model.specs.declared.phase.Phase.TheVariants.{Idle, Polled, Sweep, Heard, Serving, Taken, Served, Stopped}
use Rattle.vub_model.specs.declared.play.Play.TheVariants as play
use Rattle.vub_model.specs.declared.wiring.Opened.{Opened}
use Rattle.vub_model.specs.Shared.{Shared, is_ready, token_in, token_of}
use Rattle.vub_model.specs.RunOf.{IsLeastPoll}
use Rattle.vub_model.specs.Service.{Meaning}
use Rattle.vub_model.specs.Wiring.{Wiring, opened_at}
use Rattle.vub_model.specs.Work.{Local}
use Rattle.vub_vring.specs.declared.ops.HostOp.TheVariants as host_op
use Rattle.vub_vring.specs.declared.ops.HostSaid.{HostSaid}
use Rattle.vub_vring.specs.declared.ops.HostSaid.TheVariants as said
use Rattle.vub_vring.specs.Calls.{HostCall}
use Rattle.vub_loop.specs.declared.polling.Polling.{Polling}
use Rattle.vub_loop.specs.declared.polling.Polling.TheVariants.{Member}
use Rattle.vub_loop.specs.Phases.{HasPolled}
use Rattle.vub_loop.specs.Plays.{Plays}
use Rattle.vub_loop.specs.Polling.{PollingLeast, PollingIn}
use Rattle.vub_loop.specs.Said.{member_in}
use Rattle.vub_loop.specs.Stepping.{LeastPolled}

-- the first report of a list is found by its object
first-found : (reports : List Ready) (r : Ready) → Some r ≡ slice_get reports 0 → (list_any (λ (x : Ready). x.object == r.object) reports ≡ true) × (token_in (find (λ (x : Ready). x.object == r.object) reports) ≡ r.token)
first-found [] r is = absurd cc
first-found (x ∷ rest) r is = let same : r ≡ x = cc in let object : r.object ≡ x.object = cc in let token : r.token ≡ x.token = cc in grind (arith, nat_tests)

first-ready : (table : HostTable) (list : ℕ) (r : Ready) → Some r ≡ slice_get (ready_members table list) 0 → (is_ready table list r.object ≡ true) × (token_of table list r.object ≡ r.token)
first-ready table list r is = first-found (ready_members table list) r is

-- and has the least number
least-ready : (reports : List Ready) (found : Option Ready) (r : Ready) → Some r ≡ found → IsLeastOf reports found → (other : Ready) → Contains reports other → r.object ≤ other.object
least-ready reports None r is least other among = absurd cc
least-ready reports (Some x) r is least other among = let same : r.object ≡ x.object = cc in rw same (least.1 other among)

module _ {V : Type 0} (g : Wiring) (worker : ℕ) where
  -- the member that the host gave is the one with the least number
  pub least-row : (opened : Opened) (s : HostSaid) (r : Ready) (a b : Shared V) → opened ≡ opened_at g worker → Some r ≡ member_in s → HostCall (host_op.Ready opened.list) s a b → IsLeastPoll g worker a (play.Poll r.object)
  least-row opened (said.Ready found) r a b is picked call = rw (← is) (least-ready (ready_members a.table opened.list) found r picked call.0.1.0)
  least-row opened said.Done r a b is picked call = absurd cc
  least-row opened (said.Number n) r a b is picked call = absurd cc
  least-row opened (said.Count n) r a b is picked call = absurd cc
  least-row opened (said.Member x) r a b is picked call = absurd cc
  least-row opened (said.Refused e) r a b is picked call = absurd cc

  -- so has the worker that polled it
  least-polled : (object : ℕ) (phase : Phase) (a : Shared V) → HasPolled object phase → IsLeastPoll g worker a (play.Poll object) → LeastPolled g worker a true phase
  least-polled object (Polled o token) a same least = rw same least
  least-polled object Idle a same least = absurd same
  least-polled object Sweep a same least = absurd same
  least-polled object (Heard token) a same least = absurd same
  least-polled object (Serving queues) a same least = absurd same
  least-polled object (Taken e queues) a same least = absurd same
  least-polled object (Served e reply queues) a same least = absurd same
  least-polled object (Stopped cause) a same least = absurd same

  pub least-member : (polled : Polling) (object : ℕ) (before phase : Phase) (a : Shared V) → polled ≡ Member object → PollingIn polled before phase → PollingLeast g worker a polled → LeastPolled g worker a true phase
  least-member polled object before phase a is made least =
      least-polled object phase a (subst (λ (p : Polling). PollingIn p before phase) is made).1 (subst (λ (p : Polling). PollingLeast g worker a p) is least)

module _ {V : Type 0} (m : Meaning V) (g : Wiring) (worker : ℕ) where
  poll-at : (opened : Opened) → opened ≡ opened_at g worker → (s : HostSaid) (r : Ready) (a b : Shared V) → Some r ≡ member_in s → HostCall (host_op.Ready opened.list) s a b → Plays m g worker (play.Poll r.object) true Idle (Polled r.object r.token) a b
  poll-at opened is (said.Ready found) r a b picked call =
      let here = first-ready a.table opened.list r (picked ∙ call.0.1.1) in
      let now : b ≡ a = call.1 ∙ ap (λ (t : HostTable). record a { table = t }) call.0.2 in
      let local : Shared V → ℕ → Local V = λ h token. record { shared = h; phase = Polled r.object token } in
      let P : Opened → Type 0 = λ o. Plays m g worker (play.Poll r.object) true Idle (Polled r.object r.token) a b in
      rw (← is) (here.0, ap (λ (h : Shared V). local h r.token) now ∙ ap (local a) (sym here.1))
  poll-at opened is said.Done r a b picked call = absurd cc
  poll-at opened is (said.Number n) r a b picked call = absurd cc
  poll-at opened is (said.Count n) r a b picked call = absurd cc
  poll-at opened is (said.Member x) r a b picked call = absurd cc
  poll-at opened is (said.Refused e) r a b picked call = absurd cc

  -- the member that the host gave is polled
  pub poll-row : (opened : Opened) (before now : Phase) (s : HostSaid) (r : Ready) (a b : Shared V) → opened ≡ opened_at g worker → before ≡ Idle → now ≡ Polled r.object r.token → Some r ≡ member_in s → HostCall (host_op.Ready opened.list) s a b → Plays m g worker (play.Poll r.object) true before now a b
  poll-row opened before now s r a b is idle at picked call = rw (idle, at) (poll-at opened is s r a b picked call)
