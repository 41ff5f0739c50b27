-- Two runs of an echo service, worked out: what is left to do after each turn of one, and what another serves in two
-- schedules.
use Rattle.std.specs.Prelude.{◌≡◌, ℕ, ◌+◌, true, false, List, [], ◌∷◌, ◌++◌, take, replicate, Some, None}
use Rattle.vub_proto.specs.declared.used.Used.{Used}
use Rattle.vub_model.specs.declared.constants.Constants.{Constants}
use Rattle.vub_model.specs.declared.play.Play.{Play}
use Rattle.vub_model.specs.declared.play.Play.TheVariants as play
use Rattle.vub_model.specs.declared.setup.GivenRing.{GivenRing}
use Rattle.vub_model.specs.declared.setup.Guest.TheVariants.{Store, Signal}
use Rattle.vub_model.specs.declared.setup.Object.TheVariants as object
use Rattle.vub_model.specs.declared.setup.Setup.{Setup}
use Rattle.vub_model.specs.Opening.{opening}
use Rattle.vub_model.specs.RunOf.{party_of, next, EachTurn}
use Rattle.vub_model.specs.Service.{Meaning}
use Rattle.vub_model.specs.World.{World, May}
use Rattle.vub_laws.specs.Draining.{measure}
use Rattle.vub_laws.specs.Stretches.{world_after}

-- the reply is as much of the request as there is room for
unfoldable pub echo : Meaning ℕ
echo = record { reply_of = λ v request room. take room request; after = λ v request room. v }

-- a device with so many queues, all of one worker
unfoldable pub one_worker : ℕ → ℕ → Constants
one_worker queues mask =
    record {
      queues = queues;
      max = 256;
      features = 0;
      protocol = 0;
      tracks = false;
      masks = mask ∷ [];
      exits = None ∷ [];
    }

-- A queue of two descriptors in 96 bytes of memory from a base on: the table at 0, the available ring at 32, the used
-- ring at 44, a request of five bytes at 72, and room for sixteen at 80.

unfoldable pub ring_from : ℕ → ℕ → ℕ → ℕ → GivenRing
ring_from base queue kick call =
    record {
      queue = queue;
      size = 2;
      info = Some (record { desc = base; avail = base + 32; used = base + 44 });
      kick = Some kick;
      call = Some call;
      base = 0;
      next_used = 0;
      ready = true;
      enabled = true;
    }

-- one chain: the request, and then the room
unfoldable pub table_from : ℕ → List ℕ
table_from base =
    ((base + 72) ∷ 0 ∷ 0 ∷ 0 ∷ 0 ∷ 0 ∷ 0 ∷ 0 ∷ []) ++ (5 ∷ 0 ∷ 0 ∷ 0 ∷ 1 ∷ 0 ∷ 1 ∷ 0 ∷ [])
    ++ ((base + 80) ∷ 0 ∷ 0 ∷ 0 ∷ 0 ∷ 0 ∷ 0 ∷ 0 ∷ []) ++ (16 ∷ 0 ∷ 0 ∷ 0 ∷ 2 ∷ 0 ∷ 0 ∷ 0 ∷ [])

-- flags 0, index 1, and entry 0, whose chain begins at descriptor 0
abbrev pub one_available : List ℕ
one_available = 0 ∷ 0 ∷ 1 ∷ 0 ∷ 0 ∷ 0 ∷ []

-- "hello" and "world"

abbrev pub hello : List ℕ
hello = 104 ∷ 101 ∷ 108 ∷ 108 ∷ 111 ∷ []

abbrev pub world : List ℕ
world = 119 ∷ 111 ∷ 114 ∷ 108 ∷ 100 ∷ []

-- What is left to do: a guest publishes one entry, and the worker serves it.

unfoldable pub one_entry : Setup
one_entry =
    record {
      objects = object.Content (replicate 96 0) ∷ object.Event 0 ∷ object.Event 0 ∷ [];
      regions = record { start = 0; len = 96; user = 0; offset = 0; object = 0 } ∷ [];
      rings = ring_from 0 0 1 2 ∷ [];
      requests = [];
      guest = Store 0 0 (table_from 0) ∷ Store 0 72 hello ∷ Store 0 32 one_available ∷ Signal 1 ∷ [];
    }

-- four turns of the guest, and ten of the worker: its kick, the entry, nothing more, its bell, and nothing more

unfoldable pub turns_of_one : List ℕ
turns_of_one = 0 ∷ 0 ∷ 0 ∷ 0 ∷ replicate 10 2

unfoldable pub plays_of_one : List Play
plays_of_one =
    play.Guest ∷ play.Guest ∷ play.Guest ∷ play.Guest ∷ play.Poll 1 ∷ play.Event ∷ play.Take ∷ play.Serve ∷ play.Put
    ∷ play.Take ∷ play.Poll 3 ∷ play.Event ∷ play.Sweep ∷ play.Take ∷ []

-- the measure at the beginning of a run and after each of its turns
abbrev pub measures : {V : Type 0} → Meaning V → List ℕ → List Play → World V → List ℕ
measures m [] plays w = measure w ∷ []
measures m (turn ∷ turns) [] w = measure w ∷ []
measures m (turn ∷ turns) (l ∷ plays) w = measure w ∷ measures m turns plays (next m w (party_of turn) l)

-- each play may be made in its turn
abbrev pub MayBePlayed : {V : Type 0} → Meaning V → List ℕ → List Play → World V → Type 0
MayBePlayed m turns plays w = EachTurn (λ old p l new. May old p l) m turns plays w

-- It rises to 23 where the guest publishes and signals, and then falls with each step of the worker, to 0.
abbrev pub WorkFallsToNothing : Type 0
WorkFallsToNothing =
    let begins = opening (one_worker 1 1) one_entry 0 in
    MayBePlayed echo turns_of_one plays_of_one begins
    × (measures echo turns_of_one plays_of_one begins
    ≡ 8 ∷ 8 ∷ 8 ∷ 17 ∷ 23 ∷ 22 ∷ 20 ∷ 19 ∷ 18 ∷ 11 ∷ 8 ∷ 7 ∷ 6 ∷ 3 ∷ 0 ∷ [])

-- Two schedules: two queues have an entry each, and the guest signals the second queue's kick and then the first's.

-- the memory of a queue with one entry
unfoldable pub memory_from : ℕ → List ℕ → List ℕ
memory_from base request =
    table_from base ++ one_available ++ replicate 34 0 ++ request ++ replicate 19 0

unfoldable pub two_queues : Setup
two_queues =
    record {
      objects =
          object.Content (memory_from 0 hello ++ memory_from 96 world) ∷ object.Event 0 ∷ object.Event 0
          ∷ object.Event 0 ∷ [];
      regions = record { start = 0; len = 192; user = 0; offset = 0; object = 0 } ∷ [];
      rings = ring_from 0 0 1 3 ∷ ring_from 96 1 2 3 ∷ [];
      requests = [];
      guest = Signal 2 ∷ Signal 1 ∷ [];
    }

-- the worker polls this kick and serves its queue
abbrev pub serves : ℕ → List Play
serves kick = play.Poll kick ∷ play.Event ∷ play.Take ∷ play.Serve ∷ play.Put ∷ play.Take ∷ []

-- both signals come first, and the worker polls the kick with the least number

unfoldable pub signals_first : List ℕ
signals_first = 0 ∷ 0 ∷ replicate 12 2

unfoldable pub plays_by_number : List Play
plays_by_number = play.Guest ∷ play.Guest ∷ serves 1 ++ serves 2

-- the worker serves the second queue before the guest signals the first

unfoldable pub signals_between : List ℕ
signals_between = 0 ∷ replicate 6 2 ++ 0 ∷ replicate 6 2

unfoldable pub plays_by_signal : List Play
plays_by_signal = play.Guest ∷ serves 2 ++ play.Guest ∷ serves 1

-- the first entry of a queue, used with this reply
abbrev pub first_use : ℕ → List ℕ → Used
first_use queue reply = record { queue = queue; epoch = 0; number = 0; head = 0; reply = reply }

-- The order differs, and each queue is answered the same.
abbrev pub RepliesAreTheSame : Type 0
RepliesAreTheSame =
    let begins = opening (one_worker 2 3) two_queues 0 in
    MayBePlayed echo signals_first plays_by_number begins
    × MayBePlayed echo signals_between plays_by_signal begins
    × ((world_after echo signals_first plays_by_number begins).uses ≡ first_use 0 hello ∷ first_use 1 world ∷ [])
    × ((world_after echo signals_between plays_by_signal begins).uses ≡ first_use 1 world ∷ first_use 0 hello ∷ [])
