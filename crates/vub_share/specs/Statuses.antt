-- The exit statuses of the program, and what it says of each on standard error.
use Rattle.std.specs.Prelude.{ℕ, List, Option, Some, None, codes}
use Rattle.vub_share.specs.declared.status.Status.{Status}
use Rattle.vub_share.specs.declared.status.Status.TheVariants.{Done, Words, NotAScript, SetUp, Read, Write, Memory}
use Rattle.vub_share.specs.declared.status.Status.TheVariants.{TooLong}
use Rattle.vub_share.specs.declared.no_run.NoRun.{NoRun}
use Rattle.vub_share.specs.declared.no_run.NoRun.TheVariants as why

abbrev pub number_of : Status → ℕ
number_of Done = 0
number_of Words = 1
number_of NotAScript = 2
number_of SetUp = 3
number_of Read = 4
number_of Write = 5
number_of Memory = 6
number_of TooLong = 7

abbrev pub complaint_of : Status → Option (List ℕ)
complaint_of Done = None
complaint_of Words = Some (codes "words")
complaint_of NotAScript = Some (codes "not a script")
complaint_of SetUp = Some (codes "set-up")
complaint_of Read = Some (codes "read")
complaint_of Write = Some (codes "write")
complaint_of Memory = Some (codes "memory")
complaint_of TooLong = Some (codes "too long")

-- where there is no run
abbrev pub status_of : NoRun → Status
status_of why.Read = Read
status_of why.TooLong = TooLong
status_of (why.NotAScript fault) = NotAScript
status_of (why.Unfit unfit) = SetUp
status_of why.Memory = Memory
