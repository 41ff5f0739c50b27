-- How the program ends, and what it writes.
use Rattle.std.specs.Prelude.{ℕ, ◌*◌, ◌==◌, Bool, ◌||◌, List, ◌++◌, codes}
use Rattle.std.specs.Fmt.{decimal}
use Rattle.vub_base.specs.Causes.{Rose}
use Rattle.vub_daemon.specs.declared.error.Error.{Error}
use Rattle.vub_daemon.specs.declared.error.Error.TheVariants as error
use Rattle.vub_daemon.specs.Reports.{IsReportError}
use Rattle.vub_live.specs.declared.lived.Missing.{Missing}
use Rattle.vub_live.specs.declared.lived.Missing.TheVariants as missing
use Rattle.vub_live.specs.declared.words.Asked.{Asked}

-- the error is a Mismatch, whose record and call stand where some records first differ from some calls
abbrev pub IsMismatch : Error → Type 0
IsMismatch (error.Mismatch used served) = IsReportError (error.Mismatch used served)
IsMismatch e = ⊥

-- why there is no report: a thread was not started, and the spawner's count rose; the comparison found a difference; or
-- want of memory
abbrev pub IsMissing : ℕ → ℕ → Missing → Type 0
IsMissing before now missing.Spawn = Rose before now
IsMissing before now missing.Memory = Unit {0}
IsMissing before now (missing.Mismatch e) = IsMismatch e

-- the line: how many workers and entries there were, and how many entries were used
abbrev pub line : Asked → ℕ → List ℕ
line a uses =
    codes "workers " ++ decimal a.workers ++ codes " entries " ++ decimal (a.workers * a.entries) ++ codes " uses "
    ++ decimal uses ++ codes " match\n"

-- a status with which it may end
abbrev pub is_status : ℕ → Bool
is_status s = (s == 0) || (s == 1) || (s == 5) || (s == 6) || (s == 8) || (s == 9)

-- a status at which something may have been written
abbrev pub writes : ℕ → Bool
writes s = (s == 0) || (s == 5)
