-- Where the bytes that different queues touch are disjoint, and the guest stores none of them, no take reads a byte
-- that another wrote.
use Rattle.std.specs.Prelude.{◌≢◌, ℕ, if◌then◌else◌, List, [], ◌∷◌, ◌++◌}
use Rattle.vub_queue.specs.Layout.{used_event_at}
use Rattle.vub_model.specs.declared.party.Party.{Party}
use Rattle.vub_model.specs.declared.party.Party.TheVariants as party
use Rattle.vub_model.specs.declared.phase.Phase.{Phase}
use Rattle.vub_model.specs.declared.phase.Phase.TheVariants.{Served}
use Rattle.vub_model.specs.declared.play.Play.{Play}
use Rattle.vub_model.specs.declared.play.Play.TheVariants as play
use Rattle.vub_model.specs.Headline.{IsSpot}
use Rattle.vub_model.specs.RunOf.{party_of, next}
use Rattle.vub_model.specs.Service.{Meaning}
use Rattle.vub_model.specs.Shared.{Shared, ring_at}
use Rattle.vub_model.specs.World.{World, phase_at, written_by}
use Rattle.vub_model.specs.Written.{Spot, spots_of}
use Rattle.vub_laws.specs.Alone.{read_by, is_of, stored_spots, taken_bytes, others_bytes}

-- a put with EVENT_IDX reads used_event (virtio 1.2, section 2.7.7)
abbrev pub tested_by : {V : Type 0} → Shared V → Play → Phase → List Spot
tested_by h play.Put (Served e reply queues) =
    if (ring_at h e.queue).queue.event_idx
    then spots_of h.guest.regions (used_event_at (ring_at h e.queue).queue) 2
    else []
tested_by h l phase = []

-- what a take or a put of the queue reads and writes
abbrev pub touched_at : {V : Type 0} → World V → ℕ → Party → Play → List Spot
touched_at w queue (party.Worker k) l =
    if is_of l (phase_at w.phases k) queue
    then read_by w.shared l (phase_at w.phases k)
    ++ (written_by w.shared l (phase_at w.phases k) ++ tested_by w.shared l (phase_at w.phases k))
    else []
touched_at w queue p l = []

abbrev pub touched : {V : Type 0} → Meaning V → ℕ → List ℕ → List Play → World V → List Spot
touched m queue [] plays w = []
touched m queue (turn ∷ turns) [] w = []
touched m queue (turn ∷ turns) (l ∷ plays) w =
    touched_at w queue (party_of turn) l ++ touched m queue turns plays (next m w (party_of turn) l)

-- what the guest stores
abbrev pub guest_wrote : {V : Type 0} → World V → Party → Play → List Spot
guest_wrote w party.Guest play.Guest = stored_spots w.guest
guest_wrote w p l = []

abbrev pub guest_bytes : {V : Type 0} → Meaning V → List ℕ → List Play → World V → List Spot
guest_bytes m [] plays w = []
guest_bytes m (turn ∷ turns) [] w = []
guest_bytes m (turn ∷ turns) (l ∷ plays) w =
    guest_wrote w (party_of turn) l ++ guest_bytes m turns plays (next m w (party_of turn) l)

-- no byte is in both
abbrev pub AreDisjoint : List Spot → List Spot → Type 0
AreDisjoint xs ys = (object offset : ℕ) → IsSpot xs object offset → IsSpot ys object offset → ⊥

-- different queues touch different bytes, and the guest stores none that a queue touches
pub record AreApart {V : Type 0} (m : Meaning V) (turns : List ℕ) (plays : List Play) (w : World V) : Type 0 where
  pub queues : (p q : ℕ) → p ≢ q → AreDisjoint (touched m p turns plays w) (touched m q turns plays w)
  pub guest : (q : ℕ) → AreDisjoint (guest_bytes m turns plays w) (touched m q turns plays w)

-- then no take of a queue reads a byte that the guest or a step for another queue wrote
abbrev pub ApartQueuesAreUndisturbed : Type 0 → Type 0
ApartQueuesAreUndisturbed V =
    (m : Meaning V) (turns : List ℕ) (plays : List Play) (w : World V) (queue : ℕ) →
    AreApart m turns plays w →
    AreDisjoint (others_bytes m queue turns plays w) (taken_bytes m queue turns plays w)
