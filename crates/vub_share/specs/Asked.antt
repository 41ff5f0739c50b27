-- What the program's words ask for, and what they get.
use Rattle.std.specs.Prelude.{◌≡◌, ℕ, List, [], Option, Some, None, IfSome, String, map, string_bytes}
use Rattle.std.specs.declared.alloc.Global.{Global}
use Rattle.vub_stream.specs.declared.source.Source.{Ghosts as Source}
use Rattle.vub_model.specs.declared.run.Run.{Run}
use Rattle.vub_text.specs.Text.{run_text, summary_text}
use Rattle.vub_share.specs.Commands.{command_in}
use Rattle.vub_share.specs.Generator.{made}
use Rattle.vub_share.specs.Inputs.{HasRun}
use Rattle.vub_share.specs.ScriptRun.{IsRunOf}
use Rattle.vub_share.specs.declared.command.Command.{Command}
use Rattle.vub_share.specs.declared.command.Command.TheVariants.{Play, Make}

-- what the words ask for, if they ask for anything
abbrev pub asked : List (String Global) → Option Command
asked words = command_in (map string_bytes words)

-- with no words, an input that is of this kind has this answer, over a source that tells its bytes
abbrev pub OnInput : {S : Type 0} → Source S → S → List (String Global) → (List ℕ → Type 0) → Type 0 → Type 0
OnInput s source words IsKind Answer = IfSome (s.left source) (λ input. asked words ≡ Some Play → IsKind input → Answer)

-- the run is one that the words ask for: that of the script that was read, where the source tells its bytes, or that of
-- the generated script
abbrev pub IsRunFor : Option Command → Option (List ℕ) → Run → Type 0
IsRunFor None left run = ⊥
IsRunFor (Some Play) left run = IfSome left (λ input. HasRun input run)
IsRunFor (Some (Make count)) left run = IsRunOf (made count) run

-- and no other run is
abbrev pub IsOnlyRunFor : Option Command → Option (List ℕ) → Run → Type 0
IsOnlyRunFor None left run = ⊥
IsOnlyRunFor (Some Play) left run = IfSome left (λ input. (other : Run) → HasRun input other → run ≡ other)
IsOnlyRunFor (Some (Make count)) left run = (other : Run) → IsRunOf (made count) other → run ≡ other

-- what is written of a run: its text, or the summary of a generated script's
abbrev pub text_for : Option Command → Run → List ℕ
text_for None run = []
text_for (Some Play) run = run_text run
text_for (Some (Make count)) run = summary_text count run
