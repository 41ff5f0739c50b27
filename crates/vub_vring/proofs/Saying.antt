-- Each call of a host says and leaves, as a call of the parts, what the call of its name does.
use Rattle.std.proofs.Common.{◌≡◌, ◌==◌, ℕ, Bool, false, IsTrue, List, Option, Some, Result, Ok, Err, IsErrOf, IfOk, refl, subst}
use Rattle.std.specs.List.{list_any}
use Rattle.vub_event.specs.Errors.{RefusesBy, error_number}
use Rattle.vub_base.specs.Told.{Told}
use Rattle.vub_event.specs.declared.error.HostError.{HostError}
use Rattle.vub_event.specs.declared.error.HostError.TheVariants.{WouldBlock, EINVAL, EEXIST, ENOENT, EBADF, ENOBUFS, Failed, Held, OutOfMemory}
use Rattle.vub_event.specs.declared.event_set.EventSet.{EventSet}
use Rattle.vub_event.specs.declared.ready.Ready.{Ready}
use Rattle.vub_event.specs.Faults.{CountsFaults}
use Rattle.vub_event.specs.HostTable.{HostTable}
use Rattle.vub_event.specs.HostCalls.{member_for, CreateEventCall, CreateListCall, SignalCall, ConsumeCall, AddCall, DeleteCall, ListenCall, UnlistenCall, ConsumeAsCall, ReadyCall, FirstReadyCall, ClaimCall}
use Rattle.vub_vring.specs.declared.ops.HostOp.TheVariants as host
use Rattle.vub_vring.specs.declared.ops.HostSaid.{HostSaid}
use Rattle.vub_vring.specs.declared.ops.HostSaid.TheVariants as said
use Rattle.vub_ring.specs.declared.ops.PartsError.TheVariants as parts_error
use Rattle.vub_vring.specs.Calls.{HostTableCall, IsSaid}
use Rattle.vub_ring.specs.Faults.{CountsFaults as CountsPartsFaults}
use Rattle.vub_ring.specs.Play.{OnTable}
use Rattle.vub_vring.specs.Hosting.{HostPlays, said_refused, said_by}
use Rattle.vub_ring.proofs.Settling.{told-map}

-- what the host's answer means, the parts' answer means
says : {T : Type 0} (wrap : T → HostSaid) (R : Result T HostError → HostTable → HostTable → Type 0) (P : HostSaid → HostTable → HostTable → Type 0) → ((x : T) (a b : HostTable) → R (Ok x) a b → P (wrap x) a b) → ((e : HostError) (a b : HostTable) → said_refused e ≡ Ok (said.Refused e) → R (Err e) a b → P (said.Refused e) a b) → ((e : HostError) (a b : HostTable) → R (Err e) a b → b ≡ a) → (r : Result T HostError) (old new : Option HostTable) → Told old new (R r) → OnTable (said_by wrap r) old new P
says wrap R P ok refused same (Ok x) old new h = told-map old new (R (Ok x)) (P (wrap x)) (ok x) h
says wrap R P ok refused same (Err WouldBlock) old new h = told-map old new (R (Err WouldBlock)) (P (said.Refused WouldBlock)) (λ a b m. refused WouldBlock a b refl m) h
says wrap R P ok refused same (Err EINVAL) old new h = told-map old new (R (Err EINVAL)) (P (said.Refused EINVAL)) (λ a b m. refused EINVAL a b refl m) h
says wrap R P ok refused same (Err EEXIST) old new h = told-map old new (R (Err EEXIST)) (P (said.Refused EEXIST)) (λ a b m. refused EEXIST a b refl m) h
says wrap R P ok refused same (Err ENOENT) old new h = told-map old new (R (Err ENOENT)) (P (said.Refused ENOENT)) (λ a b m. refused ENOENT a b refl m) h
says wrap R P ok refused same (Err EBADF) old new h = told-map old new (R (Err EBADF)) (P (said.Refused EBADF)) (λ a b m. refused EBADF a b refl m) h
says wrap R P ok refused same (Err ENOBUFS) old new h = told-map old new (R (Err ENOBUFS)) (P (said.Refused ENOBUFS)) (λ a b m. refused ENOBUFS a b refl m) h
says wrap R P ok refused same (Err Held) old new h = told-map old new (R (Err Held)) (P (said.Refused Held)) (λ a b m. refused Held a b refl m) h
says wrap R P ok refused same (Err Failed) old new h = told-map old new (R (Err Failed)) (λ a b. b ≡ a) (same Failed) h
says wrap R P ok refused same (Err OutOfMemory) old new h = told-map old new (R (Err OutOfMemory)) (λ a b. b ≡ a) (same OutOfMemory) h

-- a new list is refused for nothing that a table shows
none-refused : (e : HostError) (a b : HostTable) → said_refused e ≡ Ok (said.Refused e) → CreateListCall (Err e) a b → HostPlays host.CreateList (said.Refused e) a b
none-refused WouldBlock a b is m = absurd (cc)
none-refused EINVAL a b is m = absurd (cc)
none-refused EEXIST a b is m = absurd (cc)
none-refused ENOENT a b is m = absurd (cc)
none-refused EBADF a b is m = absurd (cc)
none-refused ENOBUFS a b is m = absurd (cc)
none-refused Held a b is m = absurd (cc)
none-refused Failed a b is m = absurd (cc)
none-refused OutOfMemory a b is m = absurd (cc)

pub create_event_says : (flags : ℕ) (r : Result ℕ HostError) (old new : Option HostTable) → Told old new (CreateEventCall flags r) → OnTable (said_by said.Number r) old new (HostPlays (host.CreateEvent flags))
create_event_says flags r old new h = says said.Number (λ answer a b. CreateEventCall flags answer a b) (HostPlays (host.CreateEvent flags)) (λ x a b m. m) (λ e a b is m. m) (λ e a b m. m.1) r old new h

pub create_list_says : (r : Result ℕ HostError) (old new : Option HostTable) → Told old new (CreateListCall r) → OnTable (said_by said.Number r) old new (HostPlays host.CreateList)
create_list_says r old new h = says said.Number (λ answer a b. CreateListCall answer a b) (HostPlays host.CreateList) (λ x a b m. m) (λ e a b is m. none-refused e a b is m) (λ e a b m. m.1) r old new h

pub signal_says : (object : ℕ) (value : ℕ) (r : Result (Unit {0}) HostError) (old new : Option HostTable) → Told old new (SignalCall object value r) → OnTable (said_by (λ done. said.Done) r) old new (HostPlays (host.Signal object value))
signal_says object value r old new h = says (λ done. said.Done) (λ answer a b. SignalCall object value answer a b) (HostPlays (host.Signal object value)) (λ x a b m. m) (λ e a b is m. m) (λ e a b m. m.1) r old new h

pub consume_says : (object : ℕ) (r : Result ℕ HostError) (old new : Option HostTable) → Told old new (ConsumeCall object r) → OnTable (said_by said.Count r) old new (HostPlays (host.Consume object))
consume_says object r old new h = says said.Count (λ answer a b. ConsumeCall object answer a b) (HostPlays (host.Consume object)) (λ x a b m. m) (λ e a b is m. m) (λ e a b m. m.1) r old new h

pub add_says : (list : ℕ) (object : ℕ) (set : EventSet) (token : ℕ) (r : Result (Unit {0}) HostError) (old new : Option HostTable) → Told old new (AddCall list (member_for object set token) r) → OnTable (said_by (λ done. said.Done) r) old new (HostPlays (host.Add list object set token))
add_says list object set token r old new h = says (λ done. said.Done) (λ answer a b. AddCall list (member_for object set token) answer a b) (HostPlays (host.Add list object set token)) (λ x a b m. m) (λ e a b is m. m) (λ e a b m. m.1) r old new h

pub delete_says : (list : ℕ) (object : ℕ) (r : Result (Unit {0}) HostError) (old new : Option HostTable) → Told old new (DeleteCall list object r) → OnTable (said_by (λ done. said.Done) r) old new (HostPlays (host.Delete list object))
delete_says list object r old new h = says (λ done. said.Done) (λ answer a b. DeleteCall list object answer a b) (HostPlays (host.Delete list object)) (λ x a b m. m) (λ e a b is m. m) (λ e a b m. m.1) r old new h

pub listen_says : (list : ℕ) (object : ℕ) (token : ℕ) (r : Result (Unit {0}) HostError) (old new : Option HostTable) → Told old new (ListenCall list object token r) → OnTable (said_by (λ done. said.Done) r) old new (HostPlays (host.Listen list object token))
listen_says list object token r old new h = says (λ done. said.Done) (λ answer a b. ListenCall list object token answer a b) (HostPlays (host.Listen list object token)) (λ x a b m. m) (λ e a b is m. m) (λ e a b m. m.1) r old new h

pub unlisten_says : (list : ℕ) (object : ℕ) (above : ℕ) (r : Result (Unit {0}) HostError) (old new : Option HostTable) → Told old new (UnlistenCall list object above r) → OnTable (said_by (λ done. said.Done) r) old new (HostPlays (host.Unlisten list object above))
unlisten_says list object above r old new h = says (λ done. said.Done) (λ answer a b. UnlistenCall list object above answer a b) (HostPlays (host.Unlisten list object above)) (λ x a b m. m) (λ e a b is m. m) (λ e a b m. m.1) r old new h

pub consume_as_says : (list : ℕ) (object : ℕ) (token : ℕ) (r : Result Bool HostError) (old new : Option HostTable) → Told old new (ConsumeAsCall list object token r) → OnTable (said_by said.Member r) old new (HostPlays (host.ConsumeAs list object token))
consume_as_says list object token r old new h = says said.Member (λ answer a b. ConsumeAsCall list object token answer a b) (HostPlays (host.ConsumeAs list object token)) (λ x a b m. m) (λ e a b is m. m) (λ e a b m. m.1) r old new h

pub ready_says : (list : ℕ) (r : Result (Option Ready) HostError) (old new : Option HostTable) → Told old new (ReadyCall list r) → OnTable (said_by said.Ready r) old new (HostPlays (host.Ready list))
ready_says list r old new h = says said.Ready (λ answer a b. ReadyCall list answer a b) (HostPlays (host.Ready list)) (λ x a b m. m) (λ e a b is m. m) (λ e a b m. m.1) r old new h

pub claim_says : (object : ℕ) (queue : ℕ) (r : Result (Unit {0}) HostError) (old new : Option HostTable) → Told old new (ClaimCall object queue r) → OnTable (said_by (λ done. said.Done) r) old new (HostPlays (host.Claim object queue))
claim_says object queue r old new h = says (λ done. said.Done) (λ answer a b. ClaimCall object queue answer a b) (HostPlays (host.Claim object queue)) (λ x a b m. m) (λ e a b is m. m) (λ e a b m. m.1) r old new h

-- neither a fault nor want of memory is said
pub said_is : {T : Type 0} (wrap : T → HostSaid) (r : Result T HostError) → ((x : T) → IsSaid (wrap x)) → IfOk (said_by wrap r) IsSaid
said_is wrap (Ok x) plain = plain x
said_is wrap (Err WouldBlock) plain = tt
said_is wrap (Err EINVAL) plain = tt
said_is wrap (Err EEXIST) plain = tt
said_is wrap (Err ENOENT) plain = tt
said_is wrap (Err EBADF) plain = tt
said_is wrap (Err ENOBUFS) plain = tt
said_is wrap (Err Held) plain = tt
said_is wrap (Err Failed) plain = tt
said_is wrap (Err OutOfMemory) plain = tt

fault-is : {T : Type 0} (wrap : T → HostSaid) (r : Result T HostError) → IsErrOf (said_by wrap r) parts_error.Fault → IsErrOf r Failed
fault-is wrap (Ok x) h = absurd (cc)
fault-is wrap (Err WouldBlock) h = absurd (cc)
fault-is wrap (Err EINVAL) h = absurd (cc)
fault-is wrap (Err EEXIST) h = absurd (cc)
fault-is wrap (Err ENOENT) h = absurd (cc)
fault-is wrap (Err EBADF) h = absurd (cc)
fault-is wrap (Err ENOBUFS) h = absurd (cc)
fault-is wrap (Err Held) h = absurd (cc)
fault-is wrap (Err OutOfMemory) h = absurd (cc)
fault-is wrap (Err Failed) h = refl

-- want of memory is said only where the host may refuse for it
pub no_lack : {T : Type 0} (wrap : T → HostSaid) (r : Result T HostError) (errors : List HostError) → RefusesBy r errors → list_any (λ x. error_number x == error_number OutOfMemory) errors ≡ false → IsErrOf (said_by wrap r) parts_error.OutOfMemory → ⊥
no_lack wrap (Ok x) errors by none h = absurd (cc)
no_lack wrap (Err WouldBlock) errors by none h = absurd (cc)
no_lack wrap (Err EINVAL) errors by none h = absurd (cc)
no_lack wrap (Err EEXIST) errors by none h = absurd (cc)
no_lack wrap (Err ENOENT) errors by none h = absurd (cc)
no_lack wrap (Err EBADF) errors by none h = absurd (cc)
no_lack wrap (Err ENOBUFS) errors by none h = absurd (cc)
no_lack wrap (Err Held) errors by none h = absurd (cc)
no_lack wrap (Err Failed) errors by none h = absurd (cc)
no_lack wrap (Err OutOfMemory) errors by none h = let lacks : IsTrue false = subst IsTrue none by in absurd (cc)

-- the count of faults is that of the call
pub counts_said : {T : Type 0} (wrap : T → HostSaid) (before now : ℕ) (Sound Still : Type 0) (r : Result T HostError) → CountsFaults before now Sound Still r → CountsPartsFaults before now Sound Still (said_by wrap r)
counts_said wrap before now Sound Still r h = record {
  cause = record { later = h.cause.later; failed = λ e. h.cause.failed (fault-is wrap r e) };
  still = h.still;
  sound = λ s e. h.sound s (fault-is wrap r e);
}

-- of several ready members the first by object number
pub first_ready_says : (list : ℕ) (r : Result (Option Ready) HostError) (old new : HostTable) → FirstReadyCall list r old new → OnTable (said_by said.Ready r) (Some old) (Some new) (HostTableCall (host.Ready list))
first_ready_says list r old new h = says said.Ready (λ answer a b. FirstReadyCall list answer a b) (HostTableCall (host.Ready list)) (λ x a b m. m) (λ e a b is m. m) (λ e a b m. m.1) r (Some old) (Some new) h

-- what each call of a host says, as a call of the parts
pub ruleset host_calls = (
  create_event_says,
  create_list_says,
  signal_says,
  consume_says,
  add_says,
  delete_says,
  listen_says,
  unlisten_says,
  consume_as_says,
  ready_says,
  claim_says,
  said_is,
  counts_said,
  no_lack,
)
