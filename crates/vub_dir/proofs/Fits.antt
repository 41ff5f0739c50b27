-- No reply is longer than its room.
use Rattle.std.proofs.Common.{◌≡◌, ◌∙◌, ℕ, ◌+◌, ◌≤◌, List, [], ◌∷◌, Bool, true, false, cond, nat_le, length, Result, Ok}
use Rattle.std.proofs.Common.{Err, refl, ap, arith, length-append}
use Rattle.vub_dir.specs.declared.fuse.TheConstants.{EIO}
use Rattle.vub_dir.specs.Node.{Node}
use Rattle.vub_dir.specs.declared.layout.Field.TheVariants.{U32, U64}
use Rattle.vub_dir.specs.Layout.{fields_bytes}
use Rattle.vub_dir.specs.Replies.{message, refusal, fitted, negative}
use Rattle.vub_dir.specs.Requests.{header_at}
use Rattle.vub_dir.specs.Directory.{is_replied, answer_to, reply_of}

header_length : (length_word errno_word unique : ℕ) → length (fields_bytes (U32 length_word ∷ U32 errno_word ∷ U64 unique ∷ [])) ≡ 16
unfolding fields_bytes
header_length length_word errno_word unique = refl

message_length : (unique errno : ℕ) (body : List ℕ) → length (message unique errno body) ≡ 16 + length body
unfolding message
message_length unique errno body =
    length-append (fields_bytes (U32 (16 + length body) ∷ U32 (negative errno) ∷ U64 unique ∷ [])) body
    ∙ ap (λ n. n + length body) (header_length (16 + length body) (negative errno) unique)

-- a choice by a comparison with the room
chosen : (b : Bool) (room n : ℕ) (these others : List ℕ) → nat_le n room ≡ b → length these ≡ n → length others ≤ room → length (cond b these others) ≤ room
chosen true room n these others test e h = grind arith
chosen false room n these others test e h = h

refusal_fits : (room unique errno : ℕ) → length (refusal room unique errno) ≤ room
unfolding refusal
refusal_fits room unique errno = chosen (nat_le 16 room) room 16 (message unique errno []) [] refl (message_length unique errno []) (omega arith)

fitted_fits : (room unique : ℕ) (answer : Result (List ℕ) ℕ) → length (fitted room unique answer) ≤ room
unfolding fitted
fitted_fits room unique (Ok body) =
    chosen (nat_le (16 + length body) room) room (16 + length body) (message unique 0 body) (refusal room unique EIO) refl (message_length unique 0 body) (refusal_fits room unique EIO)
fitted_fits room unique (Err errno) = refusal_fits room unique errno

either_fits : (b : Bool) (room : ℕ) (these : List ℕ) → length these ≤ room → length (cond b these []) ≤ room
either_fits true room these h = h
either_fits false room these h = omega arith

pub reply_fits : (nodes : List Node) (request : List ℕ) (room : ℕ) → length (reply_of nodes request room) ≤ room
unfolding reply_of
reply_fits nodes request room = either_fits (is_replied request) room _ (fitted_fits room (header_at request).unique (answer_to nodes request))
