-- What an input is, by its bytes alone, and what it calls for.
use Rattle.std.specs.Prelude.{◌≡◌, ◌⊎◌, ℕ, ◌<◌, ◌≤◌, List, length, true, false, Some, None, IsSome, Result, Ok, Err}
use Rattle.vub_model.specs.declared.run.Run.{Run}
use Rattle.vub_stream.specs.declared.input.TheConstants.{LIMIT}
use Rattle.vub_script.specs.declared.draft.Draft.{Draft}
use Rattle.vub_script.specs.declared.script.Script.{Script}
use Rattle.vub_script.specs.Script.{read_draft, is_within, script_from}
use Rattle.vub_share.specs.ScriptRun.{fault_in, IsRunOf}
use Rattle.vub_share.specs.declared.no_run.NoRun.{NoRun}
use Rattle.vub_share.specs.declared.no_run.NoRun.TheVariants.{Read, TooLong, NotAScript, Unfit, Memory}

-- more bytes than an input may have
abbrev pub IsTooLong : List ℕ → Type 0
IsTooLong input = LIMIT < length input

-- JSON that has no reading, or whose tree is not in the grammar
abbrev pub IsNoScript : List ℕ → Type 0
IsNoScript input = (length input ≤ LIMIT) × (read_draft input ≡ None)

-- a script past the limits
abbrev pub IsPastLimit : List ℕ → Type 0
IsPastLimit input = (length input ≤ LIMIT) × ((d : Draft) × (read_draft input ≡ Some d) × (is_within d ≡ false))

-- the script that an input is, which is within the limits
abbrev pub HasScript : List ℕ → Script → Type 0
HasScript input script =
    (length input ≤ LIMIT)
    × ((d : Draft) × (read_draft input ≡ Some d) × (is_within d ≡ true) × (script ≡ script_from d))

-- a script past the limits, or whose set-up fails a test
abbrev pub IsSetUpRefused : List ℕ → Type 0
IsSetUpRefused input =
    IsPastLimit input ⊎ ((script : Script) × HasScript input script × IsSome (fault_in script))

-- a script within the limits whose set-up passes all tests
abbrev pub IsRunnable : List ℕ → Type 0
IsRunnable input = (script : Script) × HasScript input script × (fault_in script ≡ None)

-- the headline's run of the script that the input is
abbrev pub HasRun : List ℕ → Run → Type 0
HasRun input run = (script : Script) × HasScript input script × IsRunOf script run

-- what a draft is written out to, but for want of memory
abbrev pub DraftSays : Draft → Result Script NoRun → Type 0
DraftSays d (Ok script) = (is_within d ≡ true) × (script ≡ script_from d)
DraftSays d (Err (Unfit why)) = is_within d ≡ false
DraftSays d (Err Memory) = Unit {0}
DraftSays d (Err Read) = ⊥
DraftSays d (Err TooLong) = ⊥
DraftSays d (Err (NotAScript fault)) = ⊥

-- the script that an input says, but for read faults and want of memory
abbrev pub Says : List ℕ → Result Script NoRun → Type 0
Says input (Ok script) = HasScript input script
Says input (Err TooLong) = IsTooLong input
Says input (Err (NotAScript fault)) = IsNoScript input
Says input (Err (Unfit why)) = IsPastLimit input
Says input (Err Read) = Unit {0}
Says input (Err Memory) = Unit {0}

-- what an input calls for, but for read faults and want of memory: only a script within the limits has a run, the
-- headline's
abbrev pub CallsFor : List ℕ → Result Run NoRun → Type 0
CallsFor input (Ok run) = HasRun input run
CallsFor input (Err TooLong) = IsTooLong input
CallsFor input (Err (NotAScript fault)) = IsNoScript input
CallsFor input (Err (Unfit why)) = IsSetUpRefused input
CallsFor input (Err Read) = Unit {0}
CallsFor input (Err Memory) = Unit {0}

-- the answer says that the input was read to its end
abbrev pub SaysEnded : {T : Type 0} → Result T NoRun → Type 0
SaysEnded (Ok x) = Unit {0}
SaysEnded (Err (NotAScript fault)) = Unit {0}
SaysEnded (Err (Unfit why)) = Unit {0}
SaysEnded (Err Read) = ⊥
SaysEnded (Err Memory) = ⊥
SaysEnded (Err TooLong) = ⊥

-- the answer speaks of the input alone: no read was refused, and it is not too long
abbrev pub IsOfInput : {T : Type 0} → Result T NoRun → Type 0
IsOfInput (Ok x) = Unit {0}
IsOfInput (Err (NotAScript fault)) = Unit {0}
IsOfInput (Err (Unfit why)) = Unit {0}
IsOfInput (Err Memory) = Unit {0}
IsOfInput (Err Read) = ⊥
IsOfInput (Err TooLong) = ⊥
