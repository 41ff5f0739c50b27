-- The words of a turn. Numbers are decimal.
use Rattle.std.specs.Prelude.{ℕ, Bool, nat_lt, if◌then◌else◌, List, [], ◌++◌, length, codes, decimal, Option, Some, None}
use Rattle.vub_model.specs.declared.ring_op.RingOp.{RingOp}
use Rattle.vub_model.specs.declared.ring_op.RingOp.TheVariants as op
use Rattle.vub_model.specs.declared.setup.Guest.{Guest}
use Rattle.vub_model.specs.declared.setup.Guest.TheVariants as action
use Rattle.vub_model.specs.declared.small.Small.{Small}
use Rattle.vub_model.specs.declared.small.Small.TheVariants as small
use Rattle.vub_model.specs.declared.small.TableOp.{TableOp}
use Rattle.vub_model.specs.declared.small.TableOp.TheVariants as table
use Rattle.vub_model.specs.declared.party.Party.{Party}
use Rattle.vub_model.specs.declared.party.Party.TheVariants as party
use Rattle.vub_text.specs.Answers.{object_text}
use Rattle.vub_text.specs.Words.{hex_text, yes_no}

-- a number behind a word
abbrev pub word_number : List ℕ → ℕ → List ℕ
word_number word n = word ++ decimal n

abbrev pub two_numbers : List ℕ → ℕ → List ℕ → ℕ → List ℕ
two_numbers word n between m = word ++ (decimal n ++ (between ++ decimal m))

abbrev pub three_numbers : List ℕ → ℕ → List ℕ → ℕ → List ℕ → ℕ → List ℕ
three_numbers word n between m last k = word ++ (decimal n ++ (between ++ (decimal m ++ (last ++ decimal k))))

-- parties as they are named
abbrev pub party_text : Party → List ℕ
party_text party.Guest = codes "guest"
party_text party.Control = codes "control"
party_text (party.Worker w) = codes "worker " ++ decimal w

-- an action of the guest
unfoldable pub action_text : Guest → List ℕ
action_text (action.Store object offset bytes) =
    two_numbers (codes "store ") object (codes " ") offset ++ (codes " " ++ hex_text bytes)
action_text (action.Signal object) = word_number (codes "signal ") object
action_text (action.Harvest object word) = two_numbers (codes "harvest ") object (codes " ") word

-- a change of a ring
unfoldable pub op_text : RingOp → List ℕ
op_text (op.SetEnabled b) = codes "enabled " ++ yes_no b
op_text (op.SetReady b) = codes "ready " ++ yes_no b
op_text (op.SetSize n) = word_number (codes "size ") n
op_text (op.SetInfo desc avail used next) = three_numbers (codes "addresses ") desc (codes " ") avail (codes " ") used
op_text (op.SetBase n) = word_number (codes "base ") n
op_text (op.SetEventIdx b) = codes "event_idx " ++ yes_no b
op_text (op.SetKick e) = codes "kick " ++ object_text e
op_text (op.SetCall e) = codes "call " ++ object_text e
op_text (op.SetErr e) = codes "err " ++ object_text e
op_text op.Taken = codes "taken"
op_text op.Put = codes "put"
op_text op.Hold = codes "hold"
op_text op.GetBase = codes "asked for its base"

-- a change of the table of guest memory
abbrev pub table_text : TableOp → List ℕ
table_text (table.Replace regions) = word_number (codes "table of regions: ") (length regions)
table_text (table.Insert region) = two_numbers (codes "region added: ") region.start (codes " length ") region.len
table_text (table.Remove start len) = two_numbers (codes "region removed: ") start (codes " length ") len

-- a small step of control that neither calls the device nor answers
unfoldable pub small_text : Small → List ℕ
small_text (small.Claim object queue) = two_numbers (codes "claim ") object (codes " queue ") queue
small_text (small.Release object) = word_number (codes "release ") object
small_text (small.Add worker object token) =
    three_numbers (codes "add ") object (codes " worker ") worker (codes " token ") token
small_text (small.Delete worker object) = two_numbers (codes "delete ") object (codes " worker ") worker
small_text (small.Listen worker object token) =
    three_numbers (codes "listen ") object (codes " worker ") worker (codes " token ") token
small_text (small.Unlisten worker object above) = two_numbers (codes "unlisten ") object (codes " worker ") worker
small_text (small.Bell object) = word_number (codes "ring ") object
small_text (small.Remove worker number) = two_numbers (codes "unpending ") number (codes " worker ") worker
small_text (small.Insert worker number) = two_numbers (codes "pending ") number (codes " worker ") worker
small_text (small.Set queue o) = word_number (codes "queue ") queue ++ (codes " " ++ op_text o)
small_text (small.Info queue desc avail used) =
    word_number (codes "queue ") queue ++ three_numbers (codes " addresses ") desc (codes " ") avail (codes " ") used
small_text (small.Table t) = table_text t
small_text (small.Log object offset size) =
    three_numbers (codes "log ") object (codes " offset ") offset (codes " size ") size
small_text (small.Device o) = []
small_text small.Answer = []

-- a poll of an object of the set-up, or of a bell, which has none of its numbers
unfoldable pub poll_text : ℕ → ℕ → List ℕ
poll_text objects object = if nat_lt object objects then word_number (codes "poll ") object else codes "poll bell"
