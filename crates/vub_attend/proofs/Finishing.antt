-- A request that is played to its end, where a step that has to wait is tried again.
use Rattle.std.proofs.Common.{◌≡◌, ◌⊎◌, inl, inr, Option, Some, None, Ok, Err, refl, subst}
use Rattle.vub_proto.specs.declared.answer.Answer.{Answer}
use Rattle.vub_model.specs.DeviceCalls.{Telling}
use Rattle.vub_vring.specs.PartsState.{PartsState, Lasts}
use Rattle.vub_plan.specs.Halves.{Begun}
use Rattle.vub_handler.specs.Player.{Player}
use Rattle.vub_handler.specs.declared.played.Progress.TheVariants as progress
use Rattle.vub_requests.specs.Handling.{PlaysAll, Finishes}
use Rattle.vub_requests.proofs.Plays.{plays-going, finishes-done, finishes-waits}
use Rattle.vub_attend.specs.Attending.{CameBy}

module _ {V D : Type 0} (t : Telling D) (before mid now : Player) (was halfway left : Begun) (old between new : PartsState V D) (first : PlaysAll t None before mid was halfway old between) where
  by-step : CameBy t None mid now halfway left between new → now.wiring ≡ mid.wiring → Lasts between new → PlaysAll t None before now was left old new
  by-step (inl going) wiring lasts = plays-going t before mid now was halfway left old between new first progress.Going refl going wiring lasts
  by-step (inr waits) wiring lasts = (finishes-waits t before mid now was halfway left old between new first progress.Waits refl waits lasts).plays

  pub plays-on : (x : Option Answer) → x ≡ None → CameBy t x mid now halfway left between new → now.wiring ≡ mid.wiring → Lasts between new → PlaysAll t None before now was left old new
  plays-on x is came wiring lasts =
      let C : Option Answer → Type 0 = λ y. CameBy t y mid now halfway left between new in
      by-step (subst C is came) wiring lasts

  pub finishes-on : (x : Option Answer) (a : Answer) → x ≡ Some a → CameBy t x mid now halfway left between new → now.wiring ≡ mid.wiring → Lasts between new → Finishes t before now was left old new (Ok a)
  finishes-on x a is came wiring lasts =
      let C : Option Answer → Type 0 = λ y. CameBy t y mid now halfway left between new in
      let done : CameBy t (Some a) mid now halfway left between new = subst C is came in
      finishes-done t before mid now was halfway left old between new first (progress.Done a) a refl done.0 done.1 wiring lasts
