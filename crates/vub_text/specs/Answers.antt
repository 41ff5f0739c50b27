-- The words of an answer.
use Rattle.std.specs.Prelude.{ℕ, List, [], ◌++◌, Option, Some, None, codes, decimal}
use Rattle.std.specs.Fmt.{signed_decimal}
use Rattle.vub_mem.specs.declared.errors.MemError.{MemError}
use Rattle.vub_mem.specs.declared.errors.MemError.TheVariants as mem
use Rattle.vub_mem.specs.declared.errors.LogError.{LogError}
use Rattle.vub_mem.specs.declared.errors.LogError.TheVariants as log
use Rattle.vub_proto.specs.Answer.{denied_text}
use Rattle.vub_proto.specs.declared.answer.Answer.{Answer}
use Rattle.vub_proto.specs.declared.answer.Answer.TheVariants as answer
use Rattle.vub_proto.specs.declared.answer.Cause.{Cause}
use Rattle.vub_proto.specs.declared.answer.Cause.TheVariants as cause
use Rattle.vub_proto.specs.declared.answer.ListenerError.{ListenerError}
use Rattle.vub_proto.specs.declared.answer.ListenerError.TheVariants as listener
use Rattle.vub_proto.specs.declared.answer.VhostUserError.{VhostUserError}
use Rattle.vub_proto.specs.declared.answer.VhostUserError.TheVariants as error
use Rattle.vub_text.specs.Words.{hex_text}

-- refusals of guest memory and of its log are told by number
abbrev pub memory_number : MemError → ℕ
memory_number mem.Empty = 1
memory_number mem.Order = 2
memory_number mem.Overlap = 3
memory_number mem.Wraps = 4
memory_number mem.PastObject = 5
memory_number mem.NoSuchRegion = 6
memory_number mem.Outside = 7
memory_number mem.MissingMemoryMapping = 8
memory_number mem.OutOfMemory = 9

abbrev pub log_number : LogError → ℕ
log_number log.EmptyLog = 1
log_number log.PastObject = 2
log_number log.NotPageAligned = 3
log_number log.TooSmall = 4
log_number log.Unsupported = 5
log_number log.GenerationsSpent = 6
log_number log.OutOfMemory = 7

-- what could not be done with a request; a host that failed is not told
unfoldable pub request_cause_text : Cause → List ℕ
request_cause_text (cause.Device n) = codes " device " ++ signed_decimal n
request_cause_text (cause.Memory e) = codes " memory " ++ decimal (memory_number e)
request_cause_text (cause.Log e) = codes " log " ++ decimal (log_number e)
request_cause_text cause.Host = []

-- a refusal is told by its variant's name
abbrev pub refusal_name : VhostUserError → List ℕ
refusal_name error.InvalidParam = codes "InvalidParam"
refusal_name (error.InvalidOperation why) = codes "InvalidOperation"
refusal_name error.InactiveFeature = codes "InactiveFeature"
refusal_name (error.ReqHandlerError why) = codes "ReqHandlerError"
refusal_name error.BackendInternalError = codes "BackendInternalError"
refusal_name error.Disconnected = codes "Disconnected"
refusal_name error.PartialMessage = codes "PartialMessage"
refusal_name error.SocketBroken = codes "SocketBroken"
refusal_name error.InvalidMessage = codes "InvalidMessage"
refusal_name error.OutOfMemory = codes "OutOfMemory"

-- two of them say more
abbrev pub detail_text : VhostUserError → List ℕ
detail_text error.InvalidParam = []
detail_text (error.InvalidOperation why) = codes " " ++ denied_text why
detail_text error.InactiveFeature = []
detail_text (error.ReqHandlerError why) = request_cause_text why
detail_text error.BackendInternalError = []
detail_text error.Disconnected = []
detail_text error.PartialMessage = []
detail_text error.SocketBroken = []
detail_text error.InvalidMessage = []
detail_text error.OutOfMemory = []

unfoldable pub refusal_text : VhostUserError → List ℕ
refusal_text e = refusal_name e ++ detail_text e

abbrev pub listener_name : ListenerError → List ℕ
listener_name listener.EINVAL = codes "EINVAL"
listener_name listener.AlreadyExists = codes "AlreadyExists"
listener_name listener.NotFound = codes "NotFound"

-- an object's number, and a dash for none
abbrev pub object_text : Option ℕ → List ℕ
object_text None = codes "-"
object_text (Some object) = decimal object

unfoldable pub answer_text : Answer → List ℕ
answer_text answer.Ok = codes "ok"
answer_text (answer.Number n) = codes "ok " ++ decimal n
answer_text (answer.Content bytes) = codes "content " ++ hex_text bytes
answer_text (answer.Object object) = codes "object " ++ object_text object
answer_text (answer.Base queue base) = codes "base " ++ decimal queue ++ codes " " ++ decimal base
answer_text (answer.Failed e) = refusal_text e
answer_text (answer.Listener e) = listener_name e
