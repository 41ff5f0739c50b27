-- How the program ends.
use Rattle.std.specs.Prelude.{◌≡◌, ◌⊎◌, ℕ, Option}
use Rattle.vub_model.specs.declared.run.Run.{Run}
use Rattle.vub_share.specs.declared.status.Status.{Status}
use Rattle.vub_share.specs.declared.finished.Finished.{Finished}
use Rattle.vub_share.specs.Statuses.{number_of}

abbrev pub ended : Status → Option Run → Finished
ended status run = record { status = number_of status; run = run }

-- the status that is called for, or that of a read fault or of want of memory
abbrev pub IsStatus : ℕ → ℕ → Type 0
IsStatus wanted status = (status ≡ wanted) ⊎ (status ≡ 4) ⊎ (status ≡ 6)
