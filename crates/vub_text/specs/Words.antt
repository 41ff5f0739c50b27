-- The words of a line: bytes as hexadecimal digits, `yes` or `no`, and the names of the causes of a stop.
use Rattle.std.specs.Prelude.{ℕ, Bool, true, false, List, [], ◌∷◌, ◌++◌, Option, Some, None, codes}
use Rattle.std.specs.Fmt.{signed_decimal}
use Rattle.hex.specs.Hex.{encode_lower}
use Rattle.vub_queue.specs.declared.damage.Damage.{Damage}
use Rattle.vub_queue.specs.declared.damage.Damage.TheVariants as damage
use Rattle.vub_model.specs.declared.cause.Why.{Why}
use Rattle.vub_model.specs.declared.cause.Why.TheVariants as why
use Rattle.vub_model.specs.declared.cause.VringEpollError.{VringEpollError}
use Rattle.vub_model.specs.declared.cause.VringEpollError.TheVariants as fault
use Rattle.vub_model.specs.declared.cause.StopCause.{StopCause}
use Rattle.vub_model.specs.declared.cause.StopCause.TheVariants as cause

-- two lower-case digits a byte, and a dash for no bytes
abbrev pub hex_text : List ℕ → List ℕ
hex_text [] = codes "-"
hex_text (b ∷ bs) = encode_lower (b ∷ bs)

abbrev pub yes_no : Bool → List ℕ
yes_no true = codes "yes"
yes_no false = codes "no"

-- a damage is told by its name
abbrev pub damage_name : Damage → List ℕ
damage_name damage.RingOutside = codes "RingOutside"
damage_name damage.IndexAhead = codes "IndexAhead"
damage_name damage.TooLong = codes "TooLong"
damage_name damage.BadNumber = codes "BadNumber"
damage_name damage.Indirect = codes "Indirect"
damage_name damage.TooBig = codes "TooBig"
damage_name damage.SegmentOutside = codes "SegmentOutside"

-- why an event could not be handled
unfoldable pub why_text : Why → List ℕ
why_text (why.Damage d) = damage_name d
why_text why.RoomOutside = codes "RoomOutside"
why_text why.RingOutside = codes "RingOutside"
why_text (why.Device n) = codes "device " ++ signed_decimal n

-- an error of a worker's loop is told by its variant's name
abbrev pub fault_name : VringEpollError → List ℕ
fault_name fault.EpollCreateFd = codes "EpollCreateFd"
fault_name fault.EpollWait = codes "EpollWait"
fault_name fault.RegisterExitEvent = codes "RegisterExitEvent"
fault_name fault.HandleEventReadKick = codes "HandleEventReadKick"
fault_name (fault.HandleEventBackendHandling w) = codes "HandleEventBackendHandling"
fault_name fault.NewEventConsumerNotifier = codes "NewEventConsumerNotifier"
fault_name fault.RegisterVringEnabledEvent = codes "RegisterVringEnabledEvent"
fault_name fault.HandleVringEnabledEventConsume = codes "HandleVringEnabledEventConsume"
fault_name fault.OutOfMemory = codes "OutOfMemory"
fault_name (fault.VringIndexOutOfRange n) = codes "VringIndexOutOfRange"

-- one of them says why an event could not be handled
abbrev pub reason_of : VringEpollError → Option Why
reason_of fault.EpollCreateFd = None
reason_of fault.EpollWait = None
reason_of fault.RegisterExitEvent = None
reason_of fault.HandleEventReadKick = None
reason_of (fault.HandleEventBackendHandling w) = Some w
reason_of fault.NewEventConsumerNotifier = None
reason_of fault.RegisterVringEnabledEvent = None
reason_of fault.HandleVringEnabledEventConsume = None
reason_of fault.OutOfMemory = None
reason_of (fault.VringIndexOutOfRange n) = None

abbrev pub reason_text : Option Why → List ℕ
reason_text None = []
reason_text (Some w) = codes " " ++ why_text w

unfoldable pub fault_text : VringEpollError → List ℕ
fault_text e = fault_name e ++ reason_text (reason_of e)

unfoldable pub cause_text : StopCause → List ℕ
cause_text cause.Exit = codes "exit"
cause_text (cause.Fault e) = fault_text e
