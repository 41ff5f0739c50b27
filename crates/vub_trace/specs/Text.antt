-- The text of a trace: a line for each turn, with the turn's number, its party and its step. The text is a function of
-- the set-up, the device's masks, the schedule and its run.
use Rattle.std.specs.Prelude.{ℕ, ◌-◌, List, [], ◌∷◌, ◌++◌, length, codes, decimal, Option, Some, None, slice_get}
use Rattle.std.specs.List.{flat_map}
use Rattle.vub_proto.specs.declared.answer.Answer.{Answer}
use Rattle.vub_model.specs.declared.label.Label.{Label}
use Rattle.vub_model.specs.declared.label.Label.TheVariants as label
use Rattle.vub_model.specs.declared.run.Run.{Run}
use Rattle.vub_model.specs.declared.setup.Guest.{Guest}
use Rattle.vub_model.specs.declared.setup.Setup.{Setup}
use Rattle.vub_model.specs.RunOf.{party_of}
use Rattle.vub_text.specs.Lines.{answer_line, device_line, stop_line, take_line, use_line}
use Rattle.vub_trace.specs.Kinds.{follows_of, kind_of}
use Rattle.vub_trace.specs.Past.{none_past, past_after}
use Rattle.vub_trace.specs.Words.{action_text, party_text, poll_text, small_text}
use Rattle.vub_trace.specs.declared.kind.Kind.{Kind}
use Rattle.vub_trace.specs.declared.kind.Kind.TheVariants as kind
use Rattle.vub_trace.specs.declared.past.Past.{Past}

-- a line that ends here
abbrev pub ended : List ℕ → List ℕ
ended text = text ++ codes "\n"

abbrev pub action_line : Option Guest → List ℕ
action_line None = codes "\n"
action_line (Some action) = ended (action_text action)

abbrev pub answer_line_at : ℕ → Option Answer → List ℕ
answer_line_at number None = codes "\n"
answer_line_at number (Some answer) = answer_line number answer

-- a record in its own line
abbrev pub record_line : {A : Type 0} → (A → List ℕ) → Option A → List ℕ
record_line line None = codes "\n"
record_line line (Some r) = line r

-- the object of a poll
abbrev pub poll_line : ℕ → Label → List ℕ
poll_line objects (label.Poll object) = ended (poll_text objects object)
poll_line objects l = codes "\n"

-- a change that control made
abbrev pub change_line : Label → List ℕ
change_line (label.Control s) = ended (small_text s)
change_line l = codes "\n"

-- a step of control is one of the request at hand
abbrev pub request_text : ℕ → List ℕ
request_text number = codes "request " ++ (decimal number ++ codes " ")

-- the next call of the device, and the next entry that was taken or used
abbrev pub next_call : Run → Past → List ℕ
next_call run past = record_line device_line (slice_get run.device past.called)

abbrev pub next_take : Run → Past → List ℕ
next_take run past = record_line take_line (slice_get run.takes past.taken)

abbrev pub next_use : Run → Past → List ℕ
next_use run past = record_line use_line (slice_get run.uses past.used)

abbrev pub next_answer : Run → Past → List ℕ
next_answer run past = answer_line_at past.answered (slice_get run.answers past.answered)

abbrev pub next_action : Setup → Past → List ℕ
next_action setup past = action_line (slice_get setup.guest past.acted)

-- what is told of a worker's step of this kind
unfoldable pub worker_line : Setup → Run → Past → Label → Kind → List ℕ
worker_line setup run past l kind.Poll = poll_line (length setup.objects) l
worker_line setup run past l kind.Event = codes "event\n"
worker_line setup run past l kind.Sweep = codes "sweep\n"
worker_line setup run past l kind.Hear = next_call run past
worker_line setup run past l kind.Take = next_take run past
worker_line setup run past l kind.Look = codes "take nothing\n"
worker_line setup run past l kind.Serve = codes "serve\n"
worker_line setup run past l kind.Use = next_use run past
worker_line setup run past l kind.Miss = codes "use refused\n"
worker_line setup run past l k = codes "\n"

-- what is told of a step of this kind, from the next record of the list that tells of it
unfoldable pub step_line : Setup → Run → Past → Label → Kind → List ℕ
step_line setup run past l kind.Pass = codes "pass\n"
step_line setup run past l kind.Act = next_action setup past
step_line setup run past l kind.Change = request_text past.answered ++ change_line l
step_line setup run past l kind.Call = request_text past.answered ++ next_call run past
step_line setup run past l kind.Answer = next_answer run past
step_line setup run past l k = worker_line setup run past l k

-- a turn's number, counted from 0, and its party
abbrev pub turn_text : ℕ → ℕ → List ℕ
turn_text number party = decimal number ++ (codes " " ++ (party_text (party_of party) ++ codes " "))

unfoldable pub turn_line : Setup → Run → Past → ℕ → Label → Kind → List ℕ
turn_line setup run past party l k = turn_text past.turns party ++ step_line setup run past l k

-- the lines of these turns, behind those of which this was told
abbrev pub lines_from : Setup → List ℕ → Run → Past → List ℕ → List Label → List ℕ
lines_from setup masks run past [] labels = []
lines_from setup masks run past (party ∷ turns) [] = []
lines_from setup masks run past (party ∷ turns) (l ∷ labels) =
    let k = kind_of masks run past (party - 2) l (follows_of party turns labels) in
    turn_line setup run past party l k ++ lines_from setup masks run (past_after past k) turns labels

-- a line for each turn of a run, and then one for each worker that has stopped
unfoldable pub trace_text : Setup → List ℕ → List ℕ → Run → List ℕ
trace_text setup masks schedule run =
    lines_from setup masks run none_past schedule run.labels ++ flat_map stop_line run.stops
