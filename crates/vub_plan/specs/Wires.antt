-- The wiring of a session, and what it knows of its rings.
use Rattle.std.specs.Prelude.{ℕ, List, [], slice_index_or}
use Rattle.vub_model.specs.declared.constants.Constants.{Constants}
use Rattle.vub_model.specs.declared.wiring.Known.{Known}
use Rattle.vub_model.specs.declared.wiring.Opened.{Opened}
use Rattle.vub_model.specs.Frame.{Frame, known_of}
use Rattle.vub_model.specs.RingRecord.{closed_ring}
use Rattle.vub_model.specs.Wiring.{Wiring}

-- a device of these constants, whose workers were opened so
abbrev pub wires_of : Constants → List Opened → Wiring
wires_of constants opened =
    record {
      queues = constants.queues;
      max = constants.max;
      features = constants.features;
      protocol = constants.protocol;
      tracks = constants.tracks;
      masks = constants.masks;
      opened = opened;
    }

-- kick and flags of a queue; a queue that is not there is as a closed ring
abbrev pub known_in : List Known → ℕ → Known
known_in known queue = slice_index_or known queue (known_of closed_ring)

-- a frame of which the rings alone are known
abbrev pub rings_known : List Known → Frame
rings_known known = record { known = known; lists = []; claims = []; events = [] }
