-- The device of a script: what it says at a call, and what the call leaves of it.
use Rattle.std.specs.Prelude.{ℕ, ◌+◌, ◌++◌, Bool, if◌then◌else◌, nat_le, List, length, take, drop, Option}
use Rattle.std.specs.Prelude.{slice_get, pos}
use Rattle.std.specs.Option.{option_flatten}
use Rattle.vub_base.specs.Causes.{one_more, is_listed}
use Rattle.vub_proto.specs.declared.device_op.DeviceOp.{DeviceOp}
use Rattle.vub_proto.specs.declared.device_op.DeviceOp.TheVariants as device
use Rattle.vub_proto.specs.declared.device_said.DeviceSaid.{DeviceSaid}
use Rattle.vub_proto.specs.declared.device_said.DeviceSaid.TheVariants as outcome
use Rattle.vub_script.specs.declared.device_form.DeviceForm.{DeviceForm}

-- the exit objects of a device, worker by worker; a worker past the end of the list has none
abbrev pub exit_at : List (Option ℕ) → ℕ → Option ℕ
exit_at exits worker = option_flatten (slice_get exits worker)

-- The device as it stands: what the script says of it, with the bytes that its config space has now, and how many calls
-- that it may refuse there were, and how many calls it refused. Each count stands still at 2^64 - 1.
pub record ScriptState : Type 0 where
  pub form : DeviceForm
  pub calls : ℕ
  pub refusals : ℕ

-- before its first call
abbrev pub new_device : DeviceForm → ScriptState
new_device form = record { form = form; calls = 0; refusals = 0 }

-- a call that may be refused says this, unless its number is one of those that the script refuses
abbrev pub unless_listed : ScriptState → DeviceSaid → DeviceSaid
unless_listed d said = if is_listed d.form.refuse d.calls then outcome.Refused (pos 5) else said

-- so many bytes from this offset on lie inside the config space
abbrev pub lies_inside : ScriptState → ℕ → ℕ → Bool
lies_inside d offset count = nat_le (offset + count) (length d.form.config)

abbrev pub script_said : ScriptState → DeviceOp → DeviceSaid
script_said d (device.GetConfig offset size) = outcome.Content (take size (drop offset d.form.config))
script_said d (device.SetConfig offset bytes) =
    unless_listed d (if lies_inside d offset (length bytes) then outcome.Done else outcome.Refused (pos 22))
script_said d (device.UpdateMemory regions) = unless_listed d outcome.Done
script_said d (device.StopVring queue) = unless_listed d outcome.Done
script_said d (device.HandleEvent token worker) = unless_listed d outcome.Done
script_said d (device.GetSharedObject uuid) = unless_listed d (outcome.Refused (pos 95))
script_said d (device.SetGpuSocket object) = unless_listed d (outcome.Refused (pos 95))
script_said d (device.SetDeviceStateFd direction phase object) = unless_listed d (outcome.Refused (pos 95))
script_said d device.CheckDeviceState = unless_listed d (outcome.Refused (pos 95))
script_said d device.GetShmemConfig = unless_listed d (outcome.Refused (pos 95))
script_said d op = outcome.Done

-- a refusal is counted
abbrev pub with_refusal : ScriptState → DeviceSaid → ScriptState
with_refusal d (outcome.Refused n) = record d { refusals = one_more d.refusals }
with_refusal d said = d

-- a call that may be refused and says this has a number of its own
abbrev pub numbered : ScriptState → DeviceSaid → ScriptState
numbered d said = with_refusal (record d { calls = one_more d.calls }) said

-- the config space with these bytes at this offset, where the call that brings them is done
abbrev pub with_config : ScriptState → ℕ → List ℕ → DeviceSaid → ScriptState
with_config d offset bytes outcome.Done =
    record d {
      form = record d.form {
        config = take offset d.form.config ++ (bytes ++ drop (offset + length bytes) d.form.config);
      };
    }
with_config d offset bytes said = d

abbrev pub script_moved : ScriptState → DeviceOp → ScriptState
script_moved d (device.AckedFeatures features) = d
script_moved d device.ResetDevice = d
script_moved d (device.SetEventIdx enabled) = d
script_moved d (device.GetConfig offset size) = d
script_moved d (device.SetBackendReqFd backend) = d
script_moved d (device.SetConfig offset bytes) =
    let said = script_said d (device.SetConfig offset bytes) in
    with_config (numbered d said) offset bytes said
script_moved d op = numbered d (script_said d op)
