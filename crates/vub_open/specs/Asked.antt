-- What a device never changes, by the contract that it meets.
use Rattle.std.specs.Prelude.{Bool}
use Rattle.vub_model.specs.declared.constants.Constants.{Constants}
use Rattle.vub_model.specs.Constants.{constants_of}
use Rattle.vub_proto.specs.declared.device.VhostUserBackendMut.{Ghosts as Device}

abbrev pub constants_by : {D B I : Type 0} → Device D B I → Bool → D → Constants
constants_by d tracks device =
    constants_of (d.queue_count device) (d.greatest_size device) (d.offered device) (d.protocol_offered device)
    tracks (d.masks device) (d.exit_of device)
