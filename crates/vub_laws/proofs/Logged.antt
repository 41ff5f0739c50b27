-- A step of control that gives the regions a log disturbs no queue.
use Rattle.std.proofs.Common.{ℕ, List, [], ◌∷◌, map, Option, Some, None, refl, ap}
use Rattle.std.specs.Int.{w16}
use Rattle.vub_mem.specs.declared.errors.LogError.{LogError}
use Rattle.vub_mem.specs.declared.region.Region.{Region}
use Rattle.vub_mem.specs.Track.{with_log}
use Rattle.vub_queue.specs.Layout.{avail_index_at}
use Rattle.vub_model.specs.Control.{log_refusal, logged_unless, small_after}
use Rattle.vub_model.specs.declared.small.Small.TheVariants.{Log}
use Rattle.vub_model.specs.Shared.{ring_at}
use Rattle.vub_laws.specs.Alone.{SameTable}
use Rattle.vub_laws.specs.Orderly.{LogsDisturbNoQueue}
use Rattle.vub_laws.proofs.Agreeing.{Agree, number-same}

all-logged : (object offset : ℕ) (rs : List Region) → SameTable (map (λ r. with_log object offset r) rs) rs
all-logged object offset [] = refl
all-logged object offset (r ∷ rs) = ap (λ l. record r { log = None } ∷ l) (all-logged object offset rs)

logged-same : (refusal : Option LogError) (object offset : ℕ) (rs : List Region) → SameTable (logged_unless refusal object offset rs) rs
logged-same None object offset rs = all-logged object offset rs
logged-same (Some e) object offset rs = refl

pub logs-disturb-none : (V : Type 0) → LogsDisturbNoQueue V
logs-disturb-none V w queue object offset size said =
    let same = logged-same (log_refusal w.wiring w.shared object offset size) object offset w.shared.guest.regions in
    let none : ℕ → ℕ → Type 0 = λ o i. ⊥ in
    let agree : Agree none w.shared.guest (small_after w.wiring w.shared (Log object offset size)).guest = record { regions = same; lengths = λ o. refl; bytes = λ o i apart. refl } in
    ((refl, same), number-same none w16 w.shared.guest (small_after w.wiring w.shared (Log object offset size)).guest (avail_index_at (ring_at w.shared queue).queue) (λ k below o i lies is. is) agree)
