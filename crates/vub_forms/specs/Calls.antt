-- The names of requests.
use Rattle.std.specs.Prelude.{ℕ, List, codes, if◌then◌else◌, Option, Some, None}
use Rattle.std.specs.Str.{bytes_eq}
use Rattle.vub_forms.specs.declared.calls.Call.{Call}
use Rattle.vub_forms.specs.declared.calls.Call.TheVariants as call

-- about the session
abbrev pub session_call_named : List ℕ → Option Call
session_call_named n =
    if bytes_eq n (codes "set_owner") then Some call.SetOwner
    else if bytes_eq n (codes "reset_owner") then Some call.ResetOwner
    else if bytes_eq n (codes "reset_device") then Some call.ResetDevice
    else if bytes_eq n (codes "get_queue_num") then Some call.GetQueueNum
    else if bytes_eq n (codes "get_max_mem_slots") then Some call.GetMaxMemSlots
    else None

-- about features
abbrev pub feature_call_named : List ℕ → Option Call
feature_call_named n =
    if bytes_eq n (codes "get_features") then Some call.GetFeatures
    else if bytes_eq n (codes "set_features") then Some call.SetFeatures
    else if bytes_eq n (codes "get_protocol_features") then Some call.GetProtocolFeatures
    else if bytes_eq n (codes "set_protocol_features") then Some call.SetProtocolFeatures
    else None

-- about guest memory and its log
abbrev pub memory_call_named : List ℕ → Option Call
memory_call_named n =
    if bytes_eq n (codes "set_mem_table") then Some call.SetMemTable
    else if bytes_eq n (codes "add_mem_region") then Some call.AddMemRegion
    else if bytes_eq n (codes "remove_mem_region") then Some call.RemoveMemRegion
    else if bytes_eq n (codes "set_log_base") then Some call.SetLogBase
    else None

-- about a ring
abbrev pub ring_call_named : List ℕ → Option Call
ring_call_named n =
    if bytes_eq n (codes "set_vring_num") then Some call.SetVringNum
    else if bytes_eq n (codes "set_vring_addr") then Some call.SetVringAddr
    else if bytes_eq n (codes "set_vring_base") then Some call.SetVringBase
    else if bytes_eq n (codes "get_vring_base") then Some call.GetVringBase
    else None

-- about a ring's events and its flag
abbrev pub event_call_named : List ℕ → Option Call
event_call_named n =
    if bytes_eq n (codes "set_vring_kick") then Some call.SetVringKick
    else if bytes_eq n (codes "set_vring_call") then Some call.SetVringCall
    else if bytes_eq n (codes "set_vring_err") then Some call.SetVringErr
    else if bytes_eq n (codes "set_vring_enable") then Some call.SetVringEnable
    else None

-- about what the device has
abbrev pub device_call_named : List ℕ → Option Call
device_call_named n =
    if bytes_eq n (codes "get_config") then Some call.GetConfig
    else if bytes_eq n (codes "set_config") then Some call.SetConfig
    else if bytes_eq n (codes "set_backend_req_fd") then Some call.SetBackendReqFd
    else if bytes_eq n (codes "set_gpu_socket") then Some call.SetGpuSocket
    else if bytes_eq n (codes "get_shared_object") then Some call.GetSharedObject
    else if bytes_eq n (codes "get_shmem_config") then Some call.GetShmemConfig
    else None

-- about the device's state and its records of entries in flight
abbrev pub state_call_named : List ℕ → Option Call
state_call_named n =
    if bytes_eq n (codes "check_device_state") then Some call.CheckDeviceState
    else if bytes_eq n (codes "set_device_state_fd") then Some call.SetDeviceStateFd
    else if bytes_eq n (codes "get_inflight_fd") then Some call.GetInflightFd
    else if bytes_eq n (codes "set_inflight_fd") then Some call.SetInflightFd
    else None

-- about workers
abbrev pub worker_call_named : List ℕ → Option Call
worker_call_named n =
    if bytes_eq n (codes "register_listener") then Some call.RegisterListener
    else if bytes_eq n (codes "unregister_listener") then Some call.UnregisterListener
    else if bytes_eq n (codes "send_exit") then Some call.SendExit
    else None

abbrev pub or_else : Option Call → Option Call → Option Call
or_else (Some c) other = Some c
or_else None other = other

abbrev pub call_named : List ℕ → Option Call
call_named n =
    or_else (session_call_named n)
    (or_else (feature_call_named n)
    (or_else (memory_call_named n)
    (or_else (ring_call_named n)
    (or_else (event_call_named n)
    (or_else (device_call_named n)
    (or_else (state_call_named n)
    (worker_call_named n)))))))
