-- When the calls may be made, by what their tests answer.
use Rattle.std.proofs.Common.{◌≡◌, ◌<◌, ◌≤◌, ◌-◌, ◌^◌, ℕ, true, List, length, subst, sym}
use Rattle.std.specs.Prelude.{sum_by}
use Rattle.vub_queue.specs.declared.chain.Chain.{Chain}
use Rattle.vub_inflight.specs.State.{State, in_flight}
use Rattle.vub_inflight.specs.Steps.{IsWhole, MayMark, MayPublish, MayTake}
use Rattle.vub_inflight.specs.declared.stage.Stage.TheVariants.{Settled, Marked, Cleared}

settled_not_cleared : Settled ≡ Cleared → ⊥
settled_not_cleared e = cc

pub may_take : (s : State) → s.stage ≡ Settled → s.next < 2 ^ 64 - 1 → MayTake s
may_take s e left = record { settled = subst (λ t. t ≡ Cleared → ⊥) (sym e) settled_not_cleared; left = left }

pub may_mark : (s : State) (h : ℕ) → s.stage ≡ Settled → in_flight s h ≡ true → MayMark s h
may_mark s h e flies = record { whole = subst IsWhole (sym e) tt; flies = flies }

pub may_publish : (s : State) (c : Chain) (reply : List ℕ) → s.stage ≡ Marked c.head → length reply ≤ c.room → c.room ≡ sum_by (λ x. x.len) c.segments → MayPublish s c reply
may_publish s c reply e fits room = record { marked = e; put = record { fits = fits; room = room } }
