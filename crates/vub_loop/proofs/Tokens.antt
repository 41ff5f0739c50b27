-- Which counter an Event reads, by the token under which its event was polled.
use Rattle.std.proofs.Common.{◌≡◌, ℕ, ◌<◌, ◌≤◌, ◌==◌, true, false, nat_lt, List, length, get_or, Option, Result, Ok, Err, IfOk, ap, ◌∙◌, arith}
use Rattle.std.proofs.lemmas.Bool.Decides.{nat_tests}
use Rattle.vub_base.specs.Told.{Told}
use Rattle.vub_model.specs.declared.cause.VringEpollError.{VringEpollError}
use Rattle.vub_model.specs.declared.cause.VringEpollError.TheVariants.{HandleEventReadKick, HandleVringEnabledEventConsume}
use Rattle.vub_model.specs.declared.phase.Phase.{Phase}
use Rattle.vub_model.specs.declared.wiring.Opened.{Opened}
use Rattle.vub_model.specs.Shared.{Shared}
use Rattle.vub_model.specs.Wiring.{Wiring, opened_at, queues_of}
use Rattle.vub_model.specs.Work.{Local, after_event, after_kick, after_bell, after_listener}
use Rattle.vub_loop.specs.Faults.{Reads, read_error}
use Rattle.vub_loop.proofs.Telling.{told-map}

module _ {V : Type 0} where
  -- what is told of a read, in the words of the token
  pub read-as : {E : Type 0} (Sound Rise : Type 0) (local row : Shared V → Local V) (error due : VringEpollError) → ((h : Shared V) → row h ≡ local h) → due ≡ error
      → (r : Result Phase E) (a b : Option (Shared V)) → IfOk r (λ phase. Told a b (λ old new. Reads Sound Rise (local old) error phase old new)) → IfOk r (λ phase. Told a b (λ old new. Reads Sound Rise (row old) due phase old new))
  read-as Sound Rise local row error due same at (Err e) a b told = tt
  read-as Sound Rise local row error due same at (Ok phase) a b told = told-map a b _ _ (λ old new reads. rw (same old, at) reads) told

  -- below the length of the worker's list: a kick
  pub kick-token : (g : Wiring) (worker : ℕ) (queues : List ℕ) (object token queue : ℕ) → queues ≡ queues_of g worker → token < length queues → queue ≡ get_or queues token 0
      → ((h : Shared V) → after_event g worker h object token ≡ after_kick h queue object) × (read_error g worker token ≡ HandleEventReadKick)
  kick-token g worker queues object token queue is below at =
      let test : nat_lt token (length (queues_of g worker)) ≡ true = rw (← is) (grind (arith, nat_tests)) in
      let same : queue ≡ get_or (queues_of g worker) token 0 = at ∙ ap (λ (l : List ℕ). get_or l token 0) is in
      (λ h. rw (test, same), rw test)

  -- the number of all queues: the bell
  pub bell-token : (g : Wiring) (worker : ℕ) (queues : List ℕ) (object token : ℕ) (opened : Opened) → queues ≡ queues_of g worker → length queues ≤ token → token ≡ g.queues → opened ≡ opened_at g worker
      → ((h : Shared V) → after_event g worker h object token ≡ after_bell h opened.bell opened.exit) × (read_error g worker token ≡ HandleVringEnabledEventConsume)
  bell-token g worker queues object token opened is past at same =
      let test : nat_lt token (length (queues_of g worker)) ≡ false = rw (← is) (grind (arith, nat_tests)) in
      let bell : (token == g.queues) ≡ true = grind (arith, nat_tests) in
      (λ h. rw (test, bell, same), rw (test, bell))

  -- any other: a listener
  pub listener-token : (g : Wiring) (worker : ℕ) (queues : List ℕ) (object token : ℕ) (opened : Opened) → queues ≡ queues_of g worker → length queues ≤ token → (token ≡ g.queues → ⊥) → opened ≡ opened_at g worker
      → ((h : Shared V) → after_event g worker h object token ≡ after_listener h opened.list object token) × (read_error g worker token ≡ HandleEventReadKick)
  listener-token g worker queues object token opened is past other same =
      let test : nat_lt token (length (queues_of g worker)) ≡ false = rw (← is) (grind (arith, nat_tests)) in
      let bell : (token == g.queues) ≡ false = grind (arith, nat_tests) in
      (λ h. rw (test, bell, same), rw (test, bell))
