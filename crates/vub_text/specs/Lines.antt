-- The lines of a text. Numbers are decimal, and each line ends with a newline byte.
use Rattle.std.specs.Prelude.{ℕ, ◌+◌, Bool, true, false, List, [], ◌∷◌, ◌++◌, length, codes, decimal, count_by}
use Rattle.std.specs.Int.{w32, to_le_bytes}
use Rattle.vub_proto.specs.declared.answer.Answer.{Answer}
use Rattle.vub_proto.specs.declared.used.Used.{Used}
use Rattle.vub_model.specs.declared.label.Label.{Label}
use Rattle.vub_model.specs.declared.label.Label.TheVariants.{Pass, Guest, Control, Poll, Event, Sweep, Hear, Take}
use Rattle.vub_model.specs.declared.label.Label.TheVariants.{Serve, Put}
use Rattle.vub_model.specs.declared.records.DeviceCall.{DeviceCall}
use Rattle.vub_model.specs.declared.records.Take as records
use Rattle.vub_model.specs.declared.records.Stop.{Stop}
use Rattle.vub_model.specs.declared.records.Count.{Count}
use Rattle.vub_model.specs.declared.records.Span.{Span}
use Rattle.vub_model.specs.declared.records.LogBytes.{LogBytes}
use Rattle.vub_model.specs.declared.records.Harvested.{Harvested}
use Rattle.vub_text.specs.Words.{hex_text, yes_no, cause_text}
use Rattle.vub_text.specs.Answers.{answer_text}
use Rattle.vub_text.specs.Calls.{device_name, outcome_text}

-- a turn is played unless its party passed
abbrev pub is_played : Label → Bool
is_played Pass = false
is_played Guest = true
is_played (Control s) = true
is_played (Poll o) = true
is_played Event = true
is_played Sweep = true
is_played Hear = true
is_played Take = true
is_played Serve = true
is_played Put = true

-- how many turns there were and how many were played, and whether all is at rest
unfoldable pub turns_line : List Label → Bool → List ℕ
turns_line labels rest =
    codes "turns " ++ decimal (length labels) ++ codes " played " ++ decimal (count_by is_played labels)
    ++ codes " rest " ++ yes_no rest ++ codes "\n"

-- an answer to the request with this number
unfoldable pub answer_line : ℕ → Answer → List ℕ
answer_line number a = codes "answer " ++ decimal number ++ codes " " ++ answer_text a ++ codes "\n"

-- the answers, numbered from here on
abbrev pub answer_lines : ℕ → List Answer → List ℕ
answer_lines number [] = []
answer_lines number (a ∷ answers) = answer_line number a ++ answer_lines (number + 1) answers

-- a call of the device: its name, its two numbers, and whether it was refused
unfoldable pub device_line : DeviceCall → List ℕ
device_line c =
    codes "device " ++ device_name c.op ++ codes " " ++ decimal c.a ++ codes " " ++ decimal c.b ++ codes " " ++
    outcome_text c.refused ++ codes "\n"

abbrev pub take_place : records.Take → List ℕ
take_place t =
    codes "take " ++ decimal t.queue ++ codes " " ++ decimal t.epoch ++ codes " " ++ decimal t.number ++ codes " head "
    ++ decimal t.head

abbrev pub take_content : records.Take → List ℕ
take_content t = codes " request " ++ hex_text t.request ++ codes " room " ++ decimal t.room ++ codes "\n"

-- an entry that was taken: queue, epoch, number and head, then the request's bytes and the room for the reply
unfoldable pub take_line : records.Take → List ℕ
take_line t = take_place t ++ take_content t

abbrev pub use_place : Used → List ℕ
use_place u =
    codes "use " ++ decimal u.queue ++ codes " " ++ decimal u.epoch ++ codes " " ++ decimal u.number ++ codes " head "
    ++ decimal u.head

abbrev pub use_content : Used → List ℕ
use_content u = codes " length " ++ decimal (length u.reply) ++ codes " reply " ++ hex_text u.reply ++ codes "\n"

-- an entry that was used: queue, epoch, number and head, then the reply's length and bytes
unfoldable pub use_line : Used → List ℕ
use_line u = use_place u ++ use_content u

-- a worker that has stopped, and why
unfoldable pub stop_line : Stop → List ℕ
stop_line s = codes "stop " ++ decimal s.worker ++ codes " " ++ cause_text s.cause ++ codes "\n"

-- an event object and its count
unfoldable pub count_line : Count → List ℕ
count_line c = codes "count " ++ decimal c.object ++ codes " " ++ decimal c.count ++ codes "\n"

-- bytes that were written: object, place of the first, and the bytes
unfoldable pub write_line : Span → List ℕ
write_line s =
    codes "write " ++ decimal s.object ++ codes " " ++ decimal s.offset ++ codes " " ++ hex_text s.bytes ++ codes "\n"

-- a log of dirty pages, byte by byte: page p is bit p modulo 8 of byte p / 8
unfoldable pub log_line : LogBytes → List ℕ
log_line l = codes "log " ++ decimal l.object ++ codes " " ++ hex_text l.bytes ++ codes "\n"

-- a word of a log that was harvested: the four bytes that it had, in order
unfoldable pub harvest_line : Harvested → List ℕ
harvest_line h =
    codes "harvest " ++ decimal h.object ++ codes " " ++ decimal h.word ++ codes " " ++
    hex_text (to_le_bytes w32 h.bits) ++ codes "\n"
