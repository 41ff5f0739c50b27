-- The workers of an opening.
use Rattle.std.proofs.Common.{◌≡◌, ℕ, zero, suc, ◌+◌, ◌<◌, ◌≤◌, List, [], ◌∷◌, length, map, refl, sym, ap, subst, ◌∙◌, arith}
use Rattle.std.specs.List.{range_with_len}
use Rattle.vub_model.specs.declared.constants.Constants.{Constants}
use Rattle.vub_model.specs.declared.phase.Phase.{Phase}
use Rattle.vub_model.specs.declared.phase.Phase.TheVariants.{Idle}
use Rattle.vub_model.specs.Opening.{opened_worker, wiring_of}
use Rattle.vub_model.specs.Wiring.{queues_of}
use Rattle.vub_loop.specs.Worker.{Worker}
use Rattle.vub_loop.specs.Handler.{IsHandler, phase_of, new_handler}
use Rattle.vub_core.specs.Workers.{AreHandlers}
use Rattle.vub_open.proofs.Placing.{opened_is}

module _ (k : Constants) (count : ℕ) where
  abbrev handler_of : ℕ → Worker
  handler_of w = new_handler k (opened_worker count k.exits w)

  is_handler : (w : ℕ) → w < length k.masks → IsHandler (wiring_of k count) w (handler_of w)
  unfolding queues_of
  is_handler w there = record { number = refl; opened = sym (opened_is k count w there); queues = refl; count = refl }

  are_handlers : (a n : ℕ) → a + n ≤ length k.masks → AreHandlers (wiring_of k count) a (map handler_of (range_with_len a n))
  are_handlers a zero fits = tt
  are_handlers a (suc n) fits = (is_handler a (omega arith), are_handlers (a + 1) n (omega arith))

  phases_idle : (a : ℕ) (masks : List ℕ) → map (λ h. phase_of h) (map handler_of (range_with_len a (length masks))) ≡ map (λ mask. Idle) masks
  phases_idle a [] = refl
  phases_idle a (m ∷ ms) = ap (λ (l : List Phase). Idle ∷ l) (phases_idle (a + 1) ms)

  -- all workers are made
  pub workers_made : (n : ℕ) (hs : List Worker) → hs ≡ map handler_of (range_with_len 0 n) → n ≡ length k.masks → AreHandlers (wiring_of k count) 0 hs
  workers_made n hs made all =
      let Are : List Worker → Type 0 = λ l. AreHandlers (wiring_of k count) 0 l in
      subst Are (sym made) (are_handlers 0 n (omega arith))

  pub phases_made : (n : ℕ) (hs : List Worker) → hs ≡ map handler_of (range_with_len 0 n) → n ≡ length k.masks → map (λ h. phase_of h) hs ≡ map (λ mask. Idle) k.masks
  phases_made n hs made all =
      ap (λ l. map (λ h. phase_of h) l) made
      ∙ ap (λ m. map (λ h. phase_of h) (map handler_of (range_with_len 0 m))) all
      ∙ phases_idle 0 k.masks
