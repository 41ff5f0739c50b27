-- The state in which a run of a set-up begins. A given ring that is ready and enabled, with a kick and a worker, is
-- registered: its kick is claimed and joins its worker's interest list, the queue is pending, and the bell is rung. The
-- kick of any other given ring is claimed alone.
use Rattle.std.specs.Prelude.{ℕ, ◌+◌, ◌%◌, ◌^◌, Bool, false, ◌&&◌, ◌==◌, if◌then◌else◌, List, [], ◌∷◌, ◌++◌, length}
use Rattle.std.specs.Prelude.{map, replicate, slice_index_or, Option, Some, None, is_some, find, fold}
use Rattle.std.specs.List.{range_with_len}
use Rattle.vub_log.specs.Plain.{Plain, fresh}
use Rattle.vub_mem.specs.declared.dirty.Stored.{Stored}
use Rattle.vub_queue.specs.Ring.{Ring}
use Rattle.vub_queue.specs.declared.addresses.Addresses.{Addresses}
use Rattle.vub_event.specs.declared.event.Event.{Event}
use Rattle.vub_event.specs.declared.member.Member.{Member}
use Rattle.vub_event.specs.HostTable.{HostTable, event_at, with_event, members_at, with_members}
use Rattle.vub_event.specs.HostCalls.{new_event, member_for}
use Rattle.vub_event.specs.InterestList.{with_member}
use Rattle.vub_model.specs.declared.constants.Constants.{Constants}
use Rattle.vub_model.specs.declared.flight.Flight.TheVariants as flight
use Rattle.vub_model.specs.declared.phase.Phase.TheVariants.{Idle}
use Rattle.vub_model.specs.declared.setup.GivenRing.{GivenRing}
use Rattle.vub_model.specs.declared.setup.Info.{Info}
use Rattle.vub_model.specs.declared.setup.Object.{Object}
use Rattle.vub_model.specs.declared.setup.Object.TheVariants as object
use Rattle.vub_model.specs.declared.setup.Setup.{Setup}
use Rattle.vub_model.specs.declared.wiring.Opened.{Opened}
use Rattle.vub_model.specs.declared.wiring.Place.{Place}
use Rattle.vub_model.specs.RingRecord.{Vring, closed_ring, closed_queue}
use Rattle.vub_model.specs.ValidSetup.{contents_from, given_region}
use Rattle.vub_model.specs.Shared.{Shared, raised, inserted}
use Rattle.vub_mem.specs.declared.mapping.Mapping.{Mapping}
use Rattle.vub_proto.specs.declared.answer.Answer.TheVariants as answer
use Rattle.vub_model.specs.declared.session.Session.{Session}
use Rattle.vub_model.specs.declared.setup.GivenRegion.{GivenRegion}
use Rattle.vub_model.specs.Plans.{says}
use Rattle.vub_model.specs.Control.{Control, begun}
use Rattle.vub_model.specs.Wiring.{Wiring, opened_at, place_of}
use Rattle.vub_model.specs.World.{World}

-- Events: one for each object, whose flags are those of an event; and then a bell for each worker

abbrev pub flags_of : Object → ℕ
flags_of (object.Event flags) = flags
flags_of (object.Content bytes) = 0
flags_of (object.Log len) = 0

abbrev pub opening_events : List Object → List ℕ → List (Option Event)
opening_events objects masks =
    map (λ o. Some (new_event (flags_of o))) objects ++ map (λ mask. Some (new_event 0)) masks

-- Workers: worker w has interest list w, and the bell after the w before it

abbrev pub opened_worker : ℕ → List (Option ℕ) → ℕ → Opened
opened_worker count exits w = record { worker = w; list = w; bell = count + w; exit = slice_index_or exits w None }

abbrev pub wiring_of : Constants → ℕ → Wiring
wiring_of constants count =
    record {
      queues = constants.queues;
      max = constants.max;
      features = constants.features;
      protocol = constants.protocol;
      tracks = constants.tracks;
      masks = constants.masks;
      opened = map (λ w. opened_worker count constants.exits w) (range_with_len 0 (length constants.masks));
    }

-- IN, of the events that a member may ask for (epoll(7))
abbrev pub listed : ℕ → ℕ → Member
listed object token = member_for object (record { 0 = 1 }) token

abbrev pub exit_member : Option ℕ → ℕ → List Member
exit_member None token = []
exit_member (Some exit) token = listed exit token ∷ []

-- a new worker's list: its exit object and its bell, under the number of queues
abbrev pub opening_members : ℕ → Opened → List Member
opening_members queues w = with_member (exit_member w.exit queues) (listed w.bell queues)

-- Rings

abbrev pub addresses_of : Option Info → Option Addresses
addresses_of None = None
addresses_of (Some info) = Some (record { desc = info.desc; avail = info.avail; used = info.used })

abbrev pub given_queue : ℕ → GivenRing → Ring
given_queue max r =
    record {
      max = max;
      size = r.size;
      ready = r.ready;
      event_idx = false;
      addresses = addresses_of r.info;
      next_avail = r.base % 2 ^ 16;
      next_used = r.next_used;
      told = r.next_used;
    }

abbrev pub given_vring : ℕ → GivenRing → Vring
given_vring max r =
    record {
      queue = given_queue max r;
      kick = r.kick;
      call = r.call;
      err = None;
      enabled = r.enabled;
      flight = flight.None;
      epoch = 0;
      base = r.base % 2 ^ 16;
      taken = 0;
    }

-- a ring of which nothing is given has the greatest size
abbrev pub new_vring : ℕ → Vring
new_vring max = record closed_ring { queue = record closed_queue { max = max; size = max } }

abbrev pub ring_from : ℕ → Option GivenRing → Vring
ring_from max None = new_vring max
ring_from max (Some r) = given_vring max r

abbrev pub opening_rings : Constants → List GivenRing → List Vring
opening_rings constants rings =
    map (λ q. ring_from constants.max (find (λ r. r.queue == q) rings)) (range_with_len 0 constants.queues)

-- Registration

abbrev pub claimed_event : ℕ → Option Event → Option Event
claimed_event queue None = None
claimed_event queue (Some event) = Some (record event { claim = Some queue })

abbrev pub claimed : {V : Type 0} → Shared V → ℕ → ℕ → Shared V
claimed h kick queue = record h { table = with_event h.table kick (claimed_event queue (event_at h.table kick)) }

-- the kick joins a worker's interest list
abbrev pub joined : {V : Type 0} → Shared V → ℕ → ℕ → ℕ → Shared V
joined h list kick number =
    record h { table = with_members h.table list (with_member (members_at h.table list) (listed kick number)) }

abbrev pub placed : {V : Type 0} → Wiring → Shared V → ℕ → Option Place → Shared V
placed g h kick None = h
placed g h kick (Some p) =
    raised (inserted (joined h (opened_at g p.worker).list kick p.number) p.worker p.number) (opened_at g p.worker).bell

abbrev pub registered_kick : {V : Type 0} → Wiring → Shared V → GivenRing → Option ℕ → Shared V
registered_kick g h r None = h
registered_kick g h r (Some kick) =
    if r.ready && r.enabled
    then placed g (claimed h kick r.queue) kick (place_of g r.queue)
    else claimed h kick r.queue

abbrev pub registered : {V : Type 0} → Wiring → Shared V → GivenRing → Shared V
registered g h r = registered_kick g h r r.kick

-- The opening

-- the logs of a set-up, whose numbers are their places: no page is marked
abbrev pub logs_from : ℕ → List Object → List (Stored Plain)
logs_from n [] = []
logs_from n (object.Event flags ∷ objects) = logs_from (n + 1) objects
logs_from n (object.Content bytes ∷ objects) = logs_from (n + 1) objects
logs_from n (object.Log len ∷ objects) = record { object = n; log = fresh len } ∷ logs_from (n + 1) objects

-- none of an object's bytes was written
abbrev pub unwritten : Object → List Bool
unwritten (object.Event flags) = []
unwritten (object.Content bytes) = replicate (length bytes) false
unwritten (object.Log len) = []

abbrev pub opening_table : Constants → List Object → HostTable
opening_table constants objects =
    record {
      objects = opening_events objects constants.masks;
      lists = map (λ w. opening_members constants.queues w) (wiring_of constants (length objects)).opened;
    }

abbrev pub before_rings : {V : Type 0} → Constants → Setup → V → Shared V
before_rings constants setup service =
    record {
      guest = record { regions = map given_region setup.regions; contents = contents_from 0 setup.objects };
      rings = opening_rings constants setup.rings;
      logs = logs_from 0 setup.objects;
      table = opening_table constants setup.objects;
      pending = map (λ mask. []) constants.masks;
      service = service;
    }

-- what is held when all given rings are registered
abbrev pub opening_held : {V : Type 0} → Constants → Setup → V → Shared V
opening_held constants setup service =
    fold (λ h r. registered (wiring_of constants (length setup.objects)) h r) (before_rings constants setup service)
    setup.rings

abbrev pub mapping_of : GivenRegion → Mapping
mapping_of r = record { user = r.user; len = r.len; start = r.start }

-- no request was begun, and the session has the mappings of the given regions
abbrev pub new_control : Setup → Control
new_control setup =
    let s : Session = record { owned = false; features = 0; protocol = 0; mappings = map mapping_of setup.regions } in
    record {
      session = s;
      plan = record { steps = []; reply = says answer.Ok; session = s };
      requests = setup.requests;
      answers = [];
    }

-- the first request begins
abbrev pub opening_control : {V : Type 0} → Constants → Setup → V → Control
opening_control constants setup service =
    begun (wiring_of constants (length setup.objects)) (opening_held constants setup service) (new_control setup)

unfoldable pub opening : {V : Type 0} → Constants → Setup → V → World V
opening constants setup service =
    record {
      shared = opening_held constants setup service;
      wiring = wiring_of constants (length setup.objects);
      phases = map (λ mask. Idle) constants.masks;
      guest = setup.guest;
      control = opening_control constants setup service;
      takes = [];
      uses = [];
      harvests = [];
      written = map unwritten setup.objects;
    }

-- the ring is registered where it is ready and enabled, and has a kick and a worker
abbrev pub is_registered_ring : Wiring → Option GivenRing → Bool
is_registered_ring g None = false
is_registered_ring g (Some r) = r.ready && r.enabled && is_some r.kick && is_some (place_of g r.queue)

-- the opening counts as the registration of the rings that it registers
abbrev pub is_registered : Constants → Setup → ℕ → Bool
is_registered constants setup queue =
    is_registered_ring (wiring_of constants (length setup.objects)) (find (λ r. r.queue == queue) setup.rings)
