-- A worker's turn, told by its play.
use Rattle.std.proofs.Common.{◌≡◌, ℕ, refl}
use Rattle.vub_model.specs.declared.phase.Phase.{Phase}
use Rattle.vub_model.specs.declared.phase.Phase.TheVariants.{Idle, Polled, Sweep, Heard, Serving, Taken, Served, Stopped}
use Rattle.vub_model.specs.declared.play.Play.TheVariants as play
use Rattle.vub_model.specs.Shared.{Shared}
use Rattle.vub_model.specs.Service.{Meaning}
use Rattle.vub_model.specs.RunOf.{IsLeastPoll}
use Rattle.vub_model.specs.Wiring.{Wiring}
use Rattle.vub_model.specs.Work.{MayWork}
use Rattle.vub_loop.specs.declared.turned.Turned.{Turned}
use Rattle.vub_loop.specs.declared.turned.Turned.TheVariants as turned
use Rattle.vub_loop.specs.Finished.{finished_by, finished_in}
use Rattle.vub_loop.specs.Plays.{Turns}
use Rattle.vub_loop.specs.Stepping.{LeastTurned}
use Rattle.vub_core.specs.Stepped.{play_of, IsTurn}

-- no worker's step is Pass
no-pass : {V : Type 0} (g : Wiring) (k : ℕ) (h : Shared V) (phase : Phase) → MayWork g k h phase play.Pass → ⊥
no-pass g k h Idle may = may
no-pass g k h (Polled object token) may = may
no-pass g k h Sweep may = may
no-pass g k h (Heard token) may = may
no-pass g k h (Serving queues) may = may
no-pass g k h (Taken e queues) may = may
no-pass g k h (Served e reply queues) may = may
no-pass g k h (Stopped cause) may = may

pub turn-of : {V : Type 0} (m : Meaning V) (g : Wiring) (k : ℕ) (t : Turned) (before now : Phase) (old new : Shared V) → Turns m g k t before now old new → IsTurn m g k (play_of t) before now old new
turn-of m g k turned.Pass before now old new row = row
turn-of m g k (turned.Played play.Pass) before now old new row = absurd (no-pass g k old before row.0)
turn-of m g k (turned.Played l) before now old new row = row
turn-of m g k turned.Failed before now old new row = absurd row

pub finished-of : (t : Turned) (before now : Phase) → finished_in t before now ≡ finished_by (play_of t) before now
finished-of turned.Pass before now = refl
finished-of (turned.Played l) before now = refl
finished-of turned.Failed before now = refl

pub least-of : {V : Type 0} (g : Wiring) (k : ℕ) (h : Shared V) (t : Turned) → LeastTurned g k h t → IsLeastPoll g k h (play_of t)
least-of g k h turned.Pass least = tt
least-of g k h (turned.Played l) least = least
least-of g k h turned.Failed least = tt
