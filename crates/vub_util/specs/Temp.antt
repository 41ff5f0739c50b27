-- What a refusal of the system says of a temporary file or directory.
use Rattle.std.specs.Prelude.{ℤ}
use Rattle.std.specs.declared.io.ErrorKind.{ErrorKind}
use Rattle.std.specs.declared.io.ErrorKind.TheVariants.{AlreadyExists, OutOfMemory}
use Rattle.vub_util.specs.declared.temperror.TempError.{TempError}
use Rattle.vub_util.specs.declared.temperror.TempError.TheVariants.{Taken, Os, OutOfMemory as NoMemory}

-- where a name is removed: by want of memory, and else by its number
abbrev pub removal_refusal_of : ErrorKind → ℤ → TempError
removal_refusal_of OutOfMemory number = NoMemory
removal_refusal_of kind number = Os number

-- where one is made: also by a name that is there already
abbrev pub refusal_of : ErrorKind → ℤ → TempError
refusal_of AlreadyExists number = Taken
refusal_of kind number = removal_refusal_of kind number
