-- The step of an event, by what the read of its counter left.
use Rattle.std.proofs.Common.{◌≡◌, ℕ, true, inl, inr, refl, sym, subst}
use Rattle.vub_model.specs.declared.phase.Phase.{Phase}
use Rattle.vub_model.specs.declared.phase.Phase.TheVariants.{Polled}
use Rattle.vub_model.specs.declared.play.Play.TheVariants as play
use Rattle.vub_model.specs.Shared.{Shared}
use Rattle.vub_model.specs.Service.{Meaning}
use Rattle.vub_model.specs.Wiring.{Wiring}
use Rattle.vub_model.specs.Work.{after_event}
use Rattle.vub_loop.specs.Faults.{Reads, Steps, read_error}

pub event-step : {V : Type 0} (Sound Rise : Type 0) (m : Meaning V) (g : Wiring) (worker object token : ℕ) (before phase now : Phase) (a b : Shared V) → before ≡ Polled object token → now ≡ phase
    → Reads Sound Rise (after_event g worker a object token) (read_error g worker token) phase a b → Steps Sound Rise m g worker play.Event true before now a b
event-step Sound Rise m g worker object token before phase now a b is at reads =
    subst (λ p. Steps Sound Rise m g worker play.Event true p now a b) (sym is) (subst (λ p. Steps Sound Rise m g worker play.Event true (Polled object token) p a b) (sym at) (record {
      row = elim reads.row [ inl row ↦ inl (tt, row) | inr fault ↦ inr (fault.0, (refl, fault.1)) ];
      sound = λ sound. (tt, reads.sound sound);
    }))
