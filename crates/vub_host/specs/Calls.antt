-- The calls of interest lists as calls of the host table.
use Rattle.std.specs.Prelude.{ℕ, ◌≡◌, List, ◌++◌, length, take, drop, map, None, Result}
use Rattle.vub_event.specs.declared.error.HostError.{HostError}
use Rattle.vub_event.specs.declared.ready.Ready.{Ready}
use Rattle.vub_event.specs.HostTable.{HostTable, IsNextNumber, ready_members}
use Rattle.vub_event.specs.HostCalls.{Meets, create_list_after, list_refusal, member_for, AddCall, ModifyCall}
use Rattle.vub_event.specs.HostCalls.{DeleteCall}
use Rattle.vub_host.specs.declared.epoll.EpollEvent.{EpollEvent}
use Rattle.vub_host.specs.declared.epoll.ControlOperation.{ControlOperation}
use Rattle.vub_host.specs.declared.epoll.ControlOperation.TheVariants.{Add, Delete, Modify}

-- a new interest list
abbrev pub MakesList : {T : Type 0} → (T → ℕ) → Result T HostError → HostTable → HostTable → Type 0
MakesList number result old =
    Meets None (λ made. IsNextNumber old.lists (number made)) (create_list_after old) result old

-- the event that reports a ready member
abbrev pub event_of : Ready → EpollEvent
event_of ready = record { events = ready.events; raw = ready.token }

-- the events that report the first `most` ready members of a list
abbrev pub events_of : HostTable → ℕ → ℕ → List EpollEvent
events_of table list most = map event_of (take most (ready_members table list))

-- add, delete or modify by an event's bits and data
abbrev pub ControlCall :
    {T : Type 0} → ControlOperation → ℕ → ℕ → EpollEvent → Result T HostError → HostTable → HostTable → Type 0
ControlCall Add list object event result =
    AddCall list (member_for object (record { 0 = event.events }) event.raw) result
ControlCall Delete list object event result = DeleteCall list object result
ControlCall Modify list object event result =
    ModifyCall list (member_for object (record { 0 = event.events }) event.raw) result

-- a wait that fills the front of a slice, and answers how many events it wrote
abbrev pub WaitCall : ℕ → List EpollEvent → List EpollEvent → Result ℕ HostError → HostTable → HostTable → Type 0
WaitCall list before now result old =
    Meets (list_refusal old list)
    (λ n. let events = events_of old list (length before) in (n ≡ length events) × (now ≡ events ++ drop n before))
    old result old

-- a wait that answers at most 16 events
abbrev pub PollCall : {T : Type 0} → (T → List EpollEvent) → ℕ → Result T HostError → HostTable → HostTable → Type 0
PollCall events list result old =
    Meets (list_refusal old list) (λ polled. events polled ≡ events_of old list 16) old result old
