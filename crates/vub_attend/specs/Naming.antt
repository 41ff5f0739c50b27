-- What a request names, and whether it is there.
use Rattle.std.specs.Prelude.{ℕ, ◌==◌, Bool, true, ◌&&◌, ◌||◌, nat_lt, List, [], length, Option, Some, None}
use Rattle.std.specs.List.{list_all, list_any}
use Rattle.vub_mem.specs.Place.{is_numbered}
use Rattle.vub_event.specs.HostTable.{has_event}
use Rattle.vub_proto.specs.declared.request.Request.{Request}
use Rattle.vub_proto.specs.declared.request.Request.TheVariants as request
use Rattle.vub_model.specs.Shared.{Shared}
use Rattle.vub_model.specs.Wiring.{Wiring}
use Rattle.vub_attend.specs.declared.naming.Named.{Named}
use Rattle.vub_attend.specs.declared.naming.Named.TheVariants as named

-- the worker that a request names
abbrev pub worker_in : Request → Option ℕ
worker_in (request.RegisterListener worker event set token) = Some worker
worker_in (request.UnregisterListener worker event set token) = Some worker
worker_in r = None

-- the contents that a table of regions names
abbrev pub contents_in : Request → List ℕ
contents_in (request.SetMemTable parts contents postcopy) = contents
contents_in r = []

abbrev pub event_or_none : Option ℕ → Named
event_or_none None = named.Nothing
event_or_none (Some event) = named.Event event

-- the other object that a request names
abbrev pub named_in : Request → Named
named_in (request.AddMemRegion part content postcopy) = named.Content content
named_in (request.SetLogBase size offset object) = named.Log object
named_in (request.SetVringKick queue event) = event_or_none event
named_in (request.SetVringCall queue event) = event_or_none event
named_in (request.SetVringErr queue event) = event_or_none event
named_in (request.SetBackendReqFd object) = named.Object object
named_in (request.SetGpuSocket object) = named.Object object
named_in (request.SetDeviceStateFd direction phase object) = named.Object object
named_in (request.SetInflightFd object) = named.Object object
named_in (request.RegisterListener worker event set token) = named.Event event
named_in (request.UnregisterListener worker event set token) = named.Event event
named_in r = named.Nothing

-- a content has this number
abbrev pub has_content : {V : Type 0} → Shared V → ℕ → Bool
has_content h object = list_any (λ c. is_numbered c object) h.guest.contents

-- a log has this number
abbrev pub has_log : {V : Type 0} → Shared V → ℕ → Bool
has_log h object = list_any (λ s. s.object == object) h.logs

-- an object of this number is there
abbrev pub has_named : {V : Type 0} → Shared V → Named → Bool
has_named h named.Nothing = true
has_named h (named.Event object) = has_event h.table object
has_named h (named.Content object) = has_content h object
has_named h (named.Log object) = has_log h object
has_named h (named.Object object) = has_event h.table object || has_content h object || has_log h object

-- the objects that a request names are there, and of the right kind
abbrev pub has_objects : {V : Type 0} → Shared V → Request → Bool
has_objects h r = list_all (has_content h) (contents_in r) && has_named h (named_in r)

abbrev pub is_below : Option ℕ → ℕ → Bool
is_below None n = true
is_below (Some worker) n = nat_lt worker n

-- the worker that a request names was opened
abbrev pub has_worker : Wiring → Request → Bool
has_worker g r = is_below (worker_in r) (length g.opened)
