-- A take answers what the function of memory and ring says, and what it finds in a ring that is live or not.
use Rattle.std.proofs.Common.{◌≡◌, true, false, if◌then◌else◌, Result, Ok, Err, IfOk, refl, sym, ap, ◌∙◌}
use Rattle.vub_base.specs.declared.memory.OutOfMemory.{OutOfMemory}
use Rattle.vub_mem.specs.Memory.{Guest}
use Rattle.vub_queue.specs.Ring.{Ring}
use Rattle.vub_queue.specs.Take.{Taken}
use Rattle.vub_queue.specs.Function.{took_of}
use Rattle.vub_queue.specs.Take.{guest_taken}
use Rattle.vub_queue.specs.declared.took.Took.{Took}
use Rattle.vub_queue.specs.declared.took.Took.TheVariants as took
use Rattle.vub_queue.proofs.Walks as walks
use Rattle.vub_model.specs.RingRecord.{Vring}
use Rattle.vub_model.specs.Work.{may_take}
use Rattle.vub_ring.specs.Play.{found, guest_none, guest_found}

pub takes_some : (g : Guest) (r : Ring) → Taken g r (took_of g r)
takes_some g r = walks.takes_some g r

pub found_on : (g : Guest) (r : Vring) → may_take r ≡ true → took_of g r.queue ≡ found g r
unfolding found
found_on g r live = ap (λ b. if b then took_of g r.queue else took.None) (sym live)

pub found_off : (g : Guest) (r : Vring) → may_take r ≡ false → took.None ≡ found g r
unfolding found
found_off g r live = ap (λ b. if b then took_of g r.queue else took.None) (sym live)

none_on : (g : Guest) (r : Vring) → may_take r ≡ true → guest_taken g r.queue took.None ≡ guest_none g r
unfolding guest_none
none_on g r live = ap (λ b. if b then guest_taken g r.queue took.None else g) (sym live)

pub guest_on : (g : Guest) (r : Vring) (t : Took) → may_take r ≡ true → guest_taken g r.queue t ≡ guest_found g r t
guest_on g r (took.Entry c) live = refl
guest_on g r took.None live = none_on g r live
guest_on g r (took.Damaged d) live = refl

pub guest_off : (g : Guest) (r : Vring) → may_take r ≡ false → g ≡ guest_none g r
unfolding guest_none
guest_off g r live = ap (λ b. if b then guest_taken g r.queue took.None else g) (sym live)

pub found_in : (g : Guest) (r : Vring) (q : Ring) (result : Result Took OutOfMemory) → may_take r ≡ true → q ≡ r.queue → IfOk result (λ t. t ≡ took_of g q) → IfOk result (λ t. t ≡ found g r)
found_in g r q (Ok t) live is h = h ∙ (ap (λ queue. took_of g queue) is ∙ found_on g r live)
found_in g r q (Err e) live is h = h

pub guest_in : (g after : Guest) (r : Vring) (q : Ring) (result : Result Took OutOfMemory) → may_take r ≡ true → q ≡ r.queue → IfOk result (λ t. after ≡ guest_taken g q t) → IfOk result (λ t. after ≡ guest_found g r t)
guest_in g after r q (Ok t) live is h = h ∙ (ap (λ queue. guest_taken g queue t) is ∙ guest_on g r t live)
guest_in g after r q (Err e) live is h = h
