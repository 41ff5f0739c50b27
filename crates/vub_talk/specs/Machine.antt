-- The device that a conversation has: it has the constants of the device that was asked, and nothing else.
use Rattle.std.specs.Prelude.{◌++◌, false, List, [], ◌∷◌}
use Rattle.vub_mem.specs.Memory.{Guest}
use Rattle.vub_mem.specs.Place.{content_of}
use Rattle.vub_proto.specs.Fixed.{fixed_exit}
use Rattle.vub_proto.specs.declared.fixed.FixedDevice.{FixedDevice}
use Rattle.vub_model.specs.Constants.{constants_of}
use Rattle.vub_model.specs.declared.constants.Constants.{Constants}
use Rattle.vub_model.specs.declared.setup.Guest.TheVariants.{Signal}
use Rattle.vub_model.specs.declared.setup.Setup.{Setup}
use Rattle.vub_driver.specs.State.{State}
use Rattle.vub_talk.specs.Batches.{asks_stored, batch_setup}
use Rattle.vub_talk.specs.declared.ask.Ask.{Ask}

abbrev pub fixed : Constants → FixedDevice
fixed k = record {
  queues = k.queues;
  max = k.max;
  features = k.features;
  protocol = k.protocol;
  masks = k.masks;
  exits = k.exits;
  refusals = 0;
}

-- the constants of such a device, which tracks no dirty pages
abbrev pub constants_in : FixedDevice → Constants
constants_in d = constants_of d.queues d.max d.features d.protocol false d.masks (λ worker. fixed_exit d worker)

-- the set-up of a batch of these asks: its memory and its numbers go on from those of driver and memory
abbrev pub setup_for : State → Guest → List Ask → Setup
setup_for s g asks =
    batch_setup s.layout s.submitted (content_of g.contents 0) (asks_stored s.layout s.submitted asks ++ Signal 1 ∷ [])
