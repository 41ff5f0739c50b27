-- What a task that was joined says of the job that was started.
use Rattle.std.specs.Prelude.{◌≡◌, Result, IfOk, IfErr}
use Rattle.vub_threads.specs.declared.std_task.StdTask.{StdTask}
use Rattle.vub_threads.specs.declared.std_task.StdTask.TheVariants.{Running, Ran}

-- each result that the task promises is one that the job gives
abbrev pub PromisesOf : {T J O : Type 0} → (T → O → Type 0) → (J → O → Type 0) → T → J → Type 0
PromisesOf {T} {J} {O} promised gives task job = (o : O) → promised task o → gives job o

-- a job was started, and its task promises a result that the job gives; or this very job is handed back
pub record Started {T J O : Type 0} (promised : T → O → Type 0) (gives : J → O → Type 0) (job : J) (result : Result T J)
    : Type 0 where
  pub task : IfOk result (λ t. PromisesOf promised gives t job)
  pub back : IfErr result (λ j. j ≡ job)

-- a task of a thread promises what the job that it was given gives, and one that ran already its result
abbrev pub Promised : {R J O : Type 0} → (J → O → Type 0) → StdTask R J O → O → Type 0
Promised gives (Running rt handle) o = gives handle.promise.0.value o
Promised gives (Ran out) o = o ≡ out
