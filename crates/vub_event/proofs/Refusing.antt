-- Refusals of calls that take no memory.
use Rattle.std.proofs.Common.{◌==◌, ◌≡◌, List, false, Option, None, Err}
use Rattle.std.specs.List.{list_any}
use Rattle.vub_event.specs.declared.error.HostError.{HostError}
use Rattle.vub_event.specs.declared.error.HostError.TheVariants.{WouldBlock, EINVAL, EEXIST, ENOENT, EBADF, ENOBUFS, Failed, Held, OutOfMemory}
use Rattle.vub_event.specs.Errors.{error_number, RefusesBy, IsDue}
use Rattle.vub_event.specs.Laws.{IsDueOrFault}

-- a refusal other than want of memory
abbrev pub NoMemory : HostError → Type 0
NoMemory OutOfMemory = ⊥
NoMemory e = Unit {0}

pub due-or-fault : (due : Option HostError) (e : HostError) → NoMemory e → IsDue due e → IsDueOrFault due e
due-or-fault due WouldBlock few h = h
due-or-fault due EINVAL few h = h
due-or-fault due EEXIST few h = h
due-or-fault due ENOENT few h = h
due-or-fault due EBADF few h = h
due-or-fault due ENOBUFS few h = h
due-or-fault due Failed few h = tt
due-or-fault due Held few h = h
due-or-fault due OutOfMemory few h = absurd few

pub fault-alone : (due : Option HostError) (e : HostError) → IsDueOrFault None e → IsDueOrFault due e
fault-alone due WouldBlock h = absurd cc
fault-alone due EINVAL h = absurd cc
fault-alone due EEXIST h = absurd cc
fault-alone due ENOENT h = absurd cc
fault-alone due EBADF h = absurd cc
fault-alone due ENOBUFS h = absurd cc
fault-alone due Failed h = tt
fault-alone due Held h = absurd cc
fault-alone due OutOfMemory h = absurd cc

pub no-memory : (T : Type 0) (e : HostError) (errors : List HostError) → RefusesBy {T = T} (Err e) errors → list_any (λ x. error_number x == 9) errors ≡ false → NoMemory e
no-memory T WouldBlock errors h none = tt
no-memory T EINVAL errors h none = tt
no-memory T EEXIST errors h none = tt
no-memory T ENOENT errors h none = tt
no-memory T EBADF errors h none = tt
no-memory T ENOBUFS errors h none = tt
no-memory T Failed errors h none = tt
no-memory T Held errors h none = tt
no-memory T OutOfMemory errors h none = let is = rw none at h in absurd cc
