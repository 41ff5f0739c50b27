-- What a daemon says that it did.
use Rattle.std.specs.Prelude.{List}
use Rattle.vub_model.specs.Service.{Meaning}
use Rattle.vub_locks.specs.declared.comparing.CompareError.TheVariants as compare
use Rattle.vub_locks.specs.declared.records.Spent.{Spent}
use Rattle.vub_locks.specs.Comparing.{IsCompared, DiffersFromSome}
use Rattle.vub_daemon.specs.declared.ends.Report.{Report}
use Rattle.vub_daemon.specs.declared.error.Error.{Error}
use Rattle.vub_daemon.specs.declared.error.Error.TheVariants as error

-- There are records of uses, and a history of the service in which each reply is that of the value then, and the
-- records are its calls, one for one. The report counts the records of entries that are not held, and the calls.
abbrev pub IsReport : {V : Type 0} → Meaning V → Report → Type 0
IsReport m r = (spent : List Spent) × IsCompared m spent (record { uses = r.uses; served = r.served })

-- Why there is no report: this is what stands where some records first differ from some calls; or want of memory.
abbrev pub IsReportError : Error → Type 0
IsReportError (error.Mismatch used served) = (spent : List Spent) × DiffersFromSome spent (compare.Mismatch used served)
IsReportError error.OutOfMemory = Unit {0}
IsReportError e = ⊥
