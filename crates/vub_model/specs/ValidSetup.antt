-- Which test a set-up fails first. A set-up that fails none is valid.
use Rattle.std.specs.Prelude.{◌≡◌, ℕ, ◌+◌, ◌*◌, ◌%◌, Bool, true, false, not, ◌&&◌, ◌==◌, nat_le, nat_lt, if◌then◌else◌, List}
use Rattle.std.specs.Prelude.{[], ◌∷◌, ◌++◌, length, take, map, Option, Some, None, is_some, option_map, position}
use Rattle.std.specs.Prelude.{slice_get}
use Rattle.std.specs.List.{list_all}
use Rattle.std.specs.Option.{option_map_or}
use Rattle.std.specs.Int.{is_power_of_two}
use Rattle.vub_mem.specs.declared.content.Content.{Content}
use Rattle.vub_mem.specs.declared.region.Region.{Region}
use Rattle.vub_mem.specs.Table.{table_fault}
use Rattle.vub_proto.specs.declared.request.Request.{Request}
use Rattle.vub_proto.specs.declared.request.Request.TheVariants as request
use Rattle.vub_model.specs.declared.run.SetupFault.{SetupFault}
use Rattle.vub_model.specs.declared.run.SetupFault.TheVariants as setup_fault
use Rattle.vub_model.specs.declared.setup.Object.{Object}
use Rattle.vub_model.specs.declared.setup.Object.TheVariants as object
use Rattle.vub_model.specs.declared.setup.Guest.{Guest}
use Rattle.vub_model.specs.declared.setup.Guest.TheVariants as action
use Rattle.vub_model.specs.declared.setup.GivenRegion.{GivenRegion}
use Rattle.vub_model.specs.declared.setup.GivenRing.{GivenRing}
use Rattle.vub_model.specs.declared.setup.Info.{Info}
use Rattle.vub_model.specs.declared.setup.Setup.{Setup}
use Rattle.vub_model.specs.declared.constants.Constants.{Constants}
use Rattle.vub_model.specs.Work.{is_object}

-- the first fault of the two
abbrev pub or_else : Option SetupFault → Option SetupFault → Option SetupFault
or_else None later = later
or_else (Some fault) later = Some fault

-- whether it is an event
abbrev pub is_event_object : Object → Bool
is_event_object (object.Event flags) = true
is_event_object (object.Content bytes) = false
is_event_object (object.Log len) = false

-- how many bytes it has, if it is a content
abbrev pub content_length : Object → Option ℕ
content_length (object.Event flags) = None
content_length (object.Content bytes) = Some (length bytes)
content_length (object.Log len) = None

-- how many bytes it has, if it is a log
abbrev pub log_length : Object → Option ℕ
log_length (object.Log len) = Some len
log_length o = None

-- whether the object with this number is an event of the set-up
unfoldable pub is_event : List Object → ℕ → Bool
is_event objects number = option_map_or is_event_object (slice_get objects number) false

-- whether it is one, if there is a number
abbrev pub is_event_or_none : List Object → Option ℕ → Bool
is_event_or_none objects None = true
is_event_or_none objects (Some number) = is_event objects number

abbrev pub length_in : Option Object → Option ℕ
length_in None = None
length_in (Some o) = content_length o

-- how many bytes the object with this number has, if it is a content of the set-up
unfoldable pub content_len : List Object → ℕ → Option ℕ
content_len objects number = length_in (slice_get objects number)

abbrev pub log_length_in : Option Object → Option ℕ
log_length_in None = None
log_length_in (Some o) = log_length o

-- how many bytes the object with this number has, if it is a log of the set-up
unfoldable pub log_size : List Object → ℕ → Option ℕ
log_size objects number = log_length_in (slice_get objects number)

-- the greatest size is a power of two, from 1 to 32768
unfoldable pub is_greatest_size : ℕ → Bool
is_greatest_size max = is_power_of_two max && nat_le max 32768

-- the first worker whose exit object is no event
unfoldable pub exit_fault : Constants → List Object → Option SetupFault
exit_fault constants objects =
    option_map (λ w. setup_fault.Exit w) (position (λ exit. not (is_event_or_none objects exit)) constants.exits)

-- the constants' first fault
unfoldable pub device_fault : Constants → List Object → Option SetupFault
device_fault constants objects =
    if nat_lt 64 constants.queues then Some setup_fault.Queues else
    if nat_lt 64 (length constants.masks) then Some setup_fault.Workers else
    if not (is_greatest_size constants.max) then Some setup_fault.QueueSize else
    exit_fault constants objects

-- the contents of a set-up, whose numbers are their places
abbrev pub contents_from : ℕ → List Object → List Content
contents_from n [] = []
contents_from n (object.Event flags ∷ objects) = contents_from (n + 1) objects
contents_from n (object.Log len ∷ objects) = contents_from (n + 1) objects
contents_from n (object.Content bytes ∷ objects) = record { object = n; bytes = bytes } ∷ contents_from (n + 1) objects

-- the region of a table that a set-up gives
abbrev pub given_region : GivenRegion → Region
given_region r = record { start = r.start; len = r.len; object = r.object; offset = r.offset; log = None }

-- the first region whose object is no content
unfoldable pub region_fault : List Object → List GivenRegion → Option SetupFault
region_fault objects regions =
    option_map (λ i. setup_fault.Region i) (position (λ r. not (is_some (content_len objects r.object))) regions)

-- a table that is refused; no table is given where there is no region
unfoldable pub given_table_fault : List Object → List GivenRegion → Option SetupFault
given_table_fault objects [] = None
given_table_fault objects (r ∷ rs) =
    if is_some (table_fault (contents_from 0 objects) (map given_region (r ∷ rs)))
    then Some (setup_fault.Region 0)
    else None

-- the addresses have their alignment (virtio 1.2, section 2.7)
abbrev pub is_aligned : Option Info → Bool
is_aligned None = true
is_aligned (Some info) = (info.desc % 16 == 0) && (info.avail % 2 == 0) && (info.used % 4 == 0)

-- whether the event is no kick of these rings and no exit object
unfoldable pub is_free : Constants → List GivenRing → ℕ → Bool
is_free constants earlier number =
    list_all (λ ring. not (is_object ring.kick number)) earlier
    && list_all (λ exit. not (is_object exit number)) constants.exits

abbrev pub is_free_or_none : Constants → List GivenRing → Option ℕ → Bool
is_free_or_none constants earlier None = true
is_free_or_none constants earlier (Some number) = is_free constants earlier number

-- whether none of these rings has this queue
abbrev pub is_first_of_queue : List GivenRing → ℕ → Bool
is_first_of_queue earlier queue = list_all (λ other. not (other.queue == queue)) earlier

-- whether a ring passes its tests behind these
unfoldable pub ring_is_sound : Constants → List Object → List GivenRing → GivenRing → Bool
ring_is_sound constants objects earlier ring =
    nat_lt ring.queue constants.queues
    && is_first_of_queue earlier ring.queue
    && is_power_of_two ring.size
    && nat_le ring.size constants.max
    && is_aligned ring.info
    && is_event_or_none objects ring.kick
    && is_event_or_none objects ring.call
    && is_free_or_none constants earlier ring.kick

-- the first ring that fails a test, behind these
unfoldable pub ring_fault : Constants → List Object → List GivenRing → List GivenRing → Option SetupFault
ring_fault constants objects earlier [] = None
ring_fault constants objects earlier (ring ∷ rings) =
    if ring_is_sound constants objects earlier ring
    then ring_fault constants objects (earlier ++ ring ∷ []) rings
    else Some (setup_fault.Ring (length earlier))

-- whether the objects and the worker that a request names are there, and of the right kind
unfoldable pub is_answerable : Constants → List Object → Request → Bool
is_answerable constants objects (request.SetMemTable parts contents flag) =
    list_all (λ content. is_some (content_len objects content)) contents
is_answerable constants objects (request.AddMemRegion part content flag) = is_some (content_len objects content)
is_answerable constants objects (request.SetLogBase size offset object) = is_some (log_size objects object)
is_answerable constants objects (request.SetVringKick queue event) = is_event_or_none objects event
is_answerable constants objects (request.SetVringCall queue event) = is_event_or_none objects event
is_answerable constants objects (request.SetVringErr queue event) = is_event_or_none objects event
is_answerable constants objects (request.SetBackendReqFd object) = nat_lt object (length objects)
is_answerable constants objects (request.SetGpuSocket object) = nat_lt object (length objects)
is_answerable constants objects (request.SetDeviceStateFd direction phase object) = nat_lt object (length objects)
is_answerable constants objects (request.SetInflightFd object) = nat_lt object (length objects)
is_answerable constants objects (request.RegisterListener worker event set token) =
    is_event objects event && nat_lt worker (length constants.masks)
is_answerable constants objects (request.UnregisterListener worker event set token) =
    is_event objects event && nat_lt worker (length constants.masks)
is_answerable constants objects r = true

-- the first request that names what is not there
unfoldable pub request_fault : Constants → List Object → List Request → Option SetupFault
request_fault constants objects requests =
    option_map (λ i. setup_fault.Request i) (position (λ r. not (is_answerable constants objects r)) requests)

abbrev pub fits_in : Option ℕ → ℕ → Bool
fits_in None n = false
fits_in (Some len) n = nat_le n len

-- a log of this many bytes has the word
abbrev pub has_word : Option ℕ → ℕ → Bool
has_word None word = false
has_word (Some len) word = nat_lt (4 * word) len

-- whether the guest can do this action
unfoldable pub is_possible : List Object → Guest → Bool
is_possible objects (action.Store number offset bytes) = fits_in (content_len objects number) (offset + length bytes)
is_possible objects (action.Signal number) = is_event objects number
is_possible objects (action.Harvest number word) = has_word (log_size objects number) word

-- the first of these actions that the guest can't do
abbrev pub first_impossible : List Object → List Guest → Option ℕ
first_impossible objects guest = position (λ a. not (is_possible objects a)) guest

-- the first action that the guest can't do, of those that a list may have; or the list is longer
unfoldable pub guest_fault : List Object → List Guest → Option SetupFault
guest_fault objects guest =
    or_else (option_map (λ i. setup_fault.Guest i) (first_impossible objects (take 1048576 guest)))
    (if nat_lt 1048576 (length guest) then Some (setup_fault.Guest 1048576) else None)

-- whether it is a log of length 0
abbrev pub is_empty_log : Object → Bool
is_empty_log (object.Log len) = len == 0
is_empty_log o = false

-- the first log of length 0
unfoldable pub log_object_fault : List Object → Option SetupFault
log_object_fault objects = option_map (λ i. setup_fault.Log i) (position is_empty_log objects)

-- the first test that a set-up fails, for a device with these constants
unfoldable pub fault_of : Constants → Setup → Option SetupFault
fault_of constants setup =
    or_else (device_fault constants setup.objects)
    (or_else (region_fault setup.objects setup.regions)
    (or_else (given_table_fault setup.objects setup.regions)
    (or_else (ring_fault constants setup.objects [] setup.rings)
    (or_else (request_fault constants setup.objects setup.requests)
    (or_else (guest_fault setup.objects setup.guest)
    (log_object_fault setup.objects))))))

abbrev pub IsValid : Constants → Setup → Type 0
IsValid constants setup = fault_of constants setup ≡ None
