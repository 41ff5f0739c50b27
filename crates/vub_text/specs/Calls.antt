-- The words of a call of the device.
use Rattle.std.specs.Prelude.{ℕ, Bool, true, false, List, codes}
use Rattle.vub_proto.specs.declared.device_op.DeviceOp.{DeviceOp}
use Rattle.vub_proto.specs.declared.device_op.DeviceOp.TheVariants as device

abbrev pub device_name : DeviceOp → List ℕ
device_name (device.AckedFeatures bits) = codes "acked_features"
device_name device.ResetDevice = codes "reset_device"
device_name (device.SetEventIdx enabled) = codes "set_event_idx"
device_name (device.GetConfig offset size) = codes "get_config"
device_name (device.SetBackendReqFd backend) = codes "set_backend_req_fd"
device_name (device.SetConfig offset bytes) = codes "set_config"
device_name (device.UpdateMemory regions) = codes "update_memory"
device_name (device.StopVring queue) = codes "stop_vring"
device_name (device.HandleEvent token worker) = codes "handle_event"
device_name (device.GetSharedObject uuid) = codes "get_shared_object"
device_name (device.SetGpuSocket object) = codes "set_gpu_socket"
device_name (device.SetDeviceStateFd direction phase object) = codes "set_device_state_fd"
device_name device.CheckDeviceState = codes "check_device_state"
device_name device.GetShmemConfig = codes "get_shmem_config"

abbrev pub outcome_text : Bool → List ℕ
outcome_text true = codes "refused"
outcome_text false = codes "ok"
