-- What `wait` and `serve` answer, by the error with which the control thread ended.
use Rattle.std.specs.Prelude.{◌≡◌, Bool, true, false, Result, Ok, Err}
use Rattle.vub_proto.specs.declared.answer.VhostUserError.{VhostUserError}
use Rattle.vub_proto.specs.declared.answer.VhostUserError.TheVariants as end
use Rattle.vub_daemon.specs.declared.error.Error.{Error}
use Rattle.vub_daemon.specs.declared.error.Error.TheVariants as error
use Rattle.vub_daemon.specs.Duties.{is_link_end}

-- `wait`: a broken socket is how a front end leaves, and any end will do where a shutdown was requested
abbrev pub wait_verdict : VhostUserError → Bool → Result (Unit {0}) Error
wait_verdict e true = Ok tt
wait_verdict end.SocketBroken false = Ok tt
wait_verdict end.OutOfMemory false = Err error.OutOfMemory
wait_verdict e false = Err (error.HandleRequest e)

-- `serve`: a front end that has gone is no error either
abbrev pub serve_verdict : Result (Unit {0}) Error → Result (Unit {0}) Error
serve_verdict (Err (error.HandleRequest end.Disconnected)) = Ok tt
serve_verdict (Err (error.HandleRequest end.PartialMessage)) = Ok tt
serve_verdict r = r

-- what `wait` answers: Ok where there is no control thread; else the verdict for an error with which such a thread
-- ends, and for one value of the flag that `shutdown` sets
abbrev pub IsWaited : Bool → Result (Unit {0}) Error → Type 0
IsWaited false r = r ≡ Ok tt
IsWaited true r = (e : VhostUserError) × (requested : Bool) × (is_link_end e ≡ true) × (r ≡ wait_verdict e requested)

-- the verdict of `serve` for what its `wait` answered
pub record IsServed (r : Result (Unit {0}) Error) : Type 0 where
  pub waited : Result (Unit {0}) Error
  pub wait : IsWaited true waited
  pub verdict : r ≡ serve_verdict waited
