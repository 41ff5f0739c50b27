-- What a worker reads in the answer to a call of the host. A poll that is refused gives no member, a counter that is
-- refused is at 0, and a listener that is refused is none of the list.
use Rattle.std.specs.Prelude.{Bool, true, false, Option, None}
use Rattle.vub_event.specs.declared.ready.Ready.{Ready}
use Rattle.vub_vring.specs.declared.ops.HostSaid.{HostSaid}
use Rattle.vub_vring.specs.declared.ops.HostSaid.TheVariants as said

abbrev pub member_in : HostSaid → Option Ready
member_in (said.Ready found) = found
member_in s = None

abbrev pub has_count : HostSaid → Bool
has_count (said.Count n) = true
has_count s = false

abbrev pub is_member : HostSaid → Bool
is_member (said.Member b) = b
is_member s = false
