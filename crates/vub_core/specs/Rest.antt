-- Whether a worker has a step, by its phase.
use Rattle.std.specs.Prelude.{ℕ, Bool, true, false, not, List, [], ◌∷◌}
use Rattle.vub_event.specs.declared.ready.Ready.{Ready}
use Rattle.vub_event.specs.HostTable.{HostTable, ready_members}
use Rattle.vub_model.specs.declared.phase.Phase.{Phase}
use Rattle.vub_model.specs.declared.phase.Phase.TheVariants.{Idle, Stopped}

abbrev pub is_some_list : List Ready → Bool
is_some_list [] = false
is_some_list (r ∷ rs) = true

-- the list has a member to report
abbrev pub has_report : HostTable → ℕ → Bool
has_report table list = is_some_list (ready_members table list)

-- a worker in this phase has no step
abbrev pub rests_in : HostTable → ℕ → Phase → Bool
rests_in table list Idle = not (has_report table list)
rests_in table list (Stopped cause) = true
rests_in table list phase = false
