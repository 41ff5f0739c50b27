-- The device of constants: what it says, and its value after a call.
use Rattle.std.specs.Prelude.{ℕ, [], Option, slice_get, pos}
use Rattle.std.specs.Option.{option_flatten}
use Rattle.vub_base.specs.Causes.{one_more}
use Rattle.vub_proto.specs.declared.device_op.DeviceOp.{DeviceOp}
use Rattle.vub_proto.specs.declared.device_op.DeviceOp.TheVariants as device
use Rattle.vub_proto.specs.declared.device_said.DeviceSaid.{DeviceSaid}
use Rattle.vub_proto.specs.declared.device_said.DeviceSaid.TheVariants as outcome
use Rattle.vub_proto.specs.declared.fixed.FixedDevice.{FixedDevice}

abbrev pub fixed_exit : FixedDevice → ℕ → Option ℕ
fixed_exit d worker = option_flatten (slice_get d.exits worker)

abbrev pub fixed_said : DeviceOp → DeviceSaid
fixed_said (device.GetConfig offset size) = outcome.Content []
fixed_said (device.SetConfig offset bytes) = outcome.Refused (pos 22)
fixed_said (device.GetSharedObject uuid) = outcome.Refused (pos 95)
fixed_said (device.SetGpuSocket object) = outcome.Refused (pos 95)
fixed_said (device.SetDeviceStateFd direction phase object) = outcome.Refused (pos 95)
fixed_said device.CheckDeviceState = outcome.Refused (pos 95)
fixed_said device.GetShmemConfig = outcome.Refused (pos 95)
fixed_said op = outcome.Done

-- a refusal is counted
abbrev pub counted : DeviceSaid → FixedDevice → FixedDevice
counted (outcome.Refused n) d = record d { refusals = one_more d.refusals }
counted said d = d

abbrev pub fixed_moved : FixedDevice → DeviceOp → FixedDevice
fixed_moved d op = counted (fixed_said op) d
