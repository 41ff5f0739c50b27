-- A control request: an array of the call's name and of its arguments in order.
use Rattle.std.specs.Prelude.{List, [], ◌∷◌, Option, Some, None}
use Rattle.serde_json.specs.Data.{Data}
use Rattle.serde_json.specs.Find.{as_array, as_str}
use Rattle.vub_proto.specs.declared.request.Request.{Request}
use Rattle.vub_proto.specs.declared.request.Request.TheVariants as request
use Rattle.vub_forms.specs.declared.calls.Call.{Call}
use Rattle.vub_forms.specs.declared.calls.Call.TheVariants as call
use Rattle.vub_forms.specs.Reading.{◌>>=◌}
use Rattle.vub_forms.specs.Numbers.{number_of, u32_of}
use Rattle.vub_forms.specs.Hexadecimal.{bytes_of}
use Rattle.vub_forms.specs.Leaves.{bool_of, or_null}
use Rattle.vub_forms.specs.Lists.{items_list, list_of}
use Rattle.vub_forms.specs.Parts.{part_of}
use Rattle.vub_forms.specs.Arguments.{none, one, two, three, four, two_or_three}
use Rattle.vub_forms.specs.Calls.{call_named}

-- queue, flags, and the addresses of descriptor table, used ring, available ring and log
abbrev pub addresses_parts : Data → Data → Data → Data → Data → Data → Option Request
addresses_parts a b c d e f = do
  queue ← u32_of a
  flags ← u32_of b
  desc ← number_of c
  used ← number_of d
  avail ← number_of e
  log ← number_of f
  Some (request.SetVringAddr queue flags desc used avail log)

abbrev pub addresses_form : List Data → Option Request
addresses_form [] = None
addresses_form (a ∷ []) = None
addresses_form (a ∷ b ∷ []) = None
addresses_form (a ∷ b ∷ c ∷ []) = None
addresses_form (a ∷ b ∷ c ∷ d ∷ []) = None
addresses_form (a ∷ b ∷ c ∷ d ∷ e ∷ []) = None
addresses_form (a ∷ b ∷ c ∷ d ∷ e ∷ f ∷ []) = addresses_parts a b c d e f
addresses_form (a ∷ b ∷ c ∷ d ∷ e ∷ f ∷ g ∷ more) = None

-- this request with these arguments
abbrev pub request_called : Call → List Data → Option Request
request_called call.SetOwner ds = none ds >>= λ x. Some request.SetOwner
request_called call.ResetOwner ds = none ds >>= λ x. Some request.ResetOwner
request_called call.ResetDevice ds = none ds >>= λ x. Some request.ResetDevice
request_called call.GetQueueNum ds = none ds >>= λ x. Some request.GetQueueNum
request_called call.GetMaxMemSlots ds = none ds >>= λ x. Some request.GetMaxMemSlots
request_called call.GetFeatures ds = none ds >>= λ x. Some request.GetFeatures
request_called call.SetFeatures ds = one number_of ds >>= λ x. Some (request.SetFeatures x)
request_called call.GetProtocolFeatures ds = none ds >>= λ x. Some request.GetProtocolFeatures
request_called call.SetProtocolFeatures ds = one number_of ds >>= λ x. Some (request.SetProtocolFeatures x)
request_called call.SetMemTable ds =
    two_or_three (list_of part_of) (list_of u32_of) bool_of ds >>= λ x. Some (request.SetMemTable x.0 x.1 x.2)
request_called call.AddMemRegion ds =
    two_or_three part_of u32_of bool_of ds >>= λ x. Some (request.AddMemRegion x.0 x.1 x.2)
request_called call.RemoveMemRegion ds = two number_of number_of ds >>= λ x. Some (request.RemoveMemRegion x.0 x.1)
request_called call.SetLogBase ds = three number_of number_of u32_of ds >>= λ x. Some (request.SetLogBase x.0 x.1 x.2)
request_called call.SetVringNum ds = two u32_of u32_of ds >>= λ x. Some (request.SetVringNum x.0 x.1)
request_called call.SetVringAddr ds = addresses_form ds
request_called call.SetVringBase ds = two u32_of u32_of ds >>= λ x. Some (request.SetVringBase x.0 x.1)
request_called call.GetVringBase ds = one u32_of ds >>= λ x. Some (request.GetVringBase x)
request_called call.SetVringKick ds = two u32_of (or_null u32_of) ds >>= λ x. Some (request.SetVringKick x.0 x.1)
request_called call.SetVringCall ds = two u32_of (or_null u32_of) ds >>= λ x. Some (request.SetVringCall x.0 x.1)
request_called call.SetVringErr ds = two u32_of (or_null u32_of) ds >>= λ x. Some (request.SetVringErr x.0 x.1)
request_called call.SetVringEnable ds = two u32_of bool_of ds >>= λ x. Some (request.SetVringEnable x.0 x.1)
request_called call.GetConfig ds = three u32_of u32_of u32_of ds >>= λ x. Some (request.GetConfig x.0 x.1 x.2)
request_called call.SetConfig ds = three u32_of bytes_of u32_of ds >>= λ x. Some (request.SetConfig x.0 x.1 x.2)
request_called call.SetBackendReqFd ds = one u32_of ds >>= λ x. Some (request.SetBackendReqFd x)
request_called call.SetGpuSocket ds = one u32_of ds >>= λ x. Some (request.SetGpuSocket x)
request_called call.GetSharedObject ds = one number_of ds >>= λ x. Some (request.GetSharedObject x)
request_called call.GetShmemConfig ds = none ds >>= λ x. Some request.GetShmemConfig
request_called call.CheckDeviceState ds = none ds >>= λ x. Some request.CheckDeviceState
request_called call.SetDeviceStateFd ds =
    three u32_of u32_of u32_of ds >>= λ x. Some (request.SetDeviceStateFd x.0 x.1 x.2)
request_called call.GetInflightFd ds = none ds >>= λ x. Some request.GetInflightFd
request_called call.SetInflightFd ds = one u32_of ds >>= λ x. Some (request.SetInflightFd x)
request_called call.RegisterListener ds =
    four u32_of u32_of u32_of number_of ds >>= λ x. Some (request.RegisterListener x.0 x.1 x.2 x.3)
request_called call.UnregisterListener ds =
    four u32_of u32_of u32_of number_of ds >>= λ x. Some (request.UnregisterListener x.0 x.1 x.2 x.3)
request_called call.SendExit ds = none ds >>= λ x. Some request.SendExit

abbrev pub request_form : List Data → Option Request
request_form [] = None
request_form (d ∷ ds) = as_str d >>= λ name. call_named name >>= λ call. request_called call ds

unfoldable pub request_of : Data → Option Request
request_of d = as_array d >>= λ ds. request_form (items_list ds)
