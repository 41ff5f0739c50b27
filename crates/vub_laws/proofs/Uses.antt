-- What a run used of a queue stands in the uses.
use Rattle.std.proofs.Common.{◌≡◌, ℕ, Bool, true, false, cond, ◌==◌, eqb, List, [], ◌∷◌, ◌++◌, map, Result, Ok, Err, refl, sym, ap, ap₂, ◌∙◌, append_assoc, append-nil}
use Rattle.std.proofs.lemmas.List.Elements.{filter-append}
use Rattle.vub_proto.specs.declared.used.Used.{Used}
use Rattle.vub_queue.specs.declared.putting.PutFault.{PutFault}
use Rattle.vub_model.specs.declared.entry.Entry.{Entry}
use Rattle.vub_model.specs.declared.party.Party.{Party}
use Rattle.vub_model.specs.declared.party.Party.TheVariants as party
use Rattle.vub_model.specs.declared.phase.Phase.{Phase}
use Rattle.vub_model.specs.declared.play.Play.{Play}
use Rattle.vub_model.specs.declared.play.Play.TheVariants as play
use Rattle.vub_model.specs.declared.setup.Guest.{Guest as GuestAction}
use Rattle.vub_model.specs.Headline.{uses_of}
use Rattle.vub_model.specs.RunOf.{Turn, IsRun, party_of, next}
use Rattle.vub_model.specs.Service.{Meaning}
use Rattle.vub_model.specs.Shared.{Shared, ring_at}
use Rattle.vub_model.specs.Wiring.{Wiring}
use Rattle.vub_model.specs.Work.{MayWork, put_said}
use Rattle.vub_model.specs.World.{World, May, after, after_guest, phase_at, if_used, uses_by, used_of}
use Rattle.vub_model.proofs.Cases.{work-cases}
use Rattle.vub_model.proofs.Turns.{turn-cases, turn-next}
use Rattle.vub_laws.specs.Alone.{Placing, placing, placed_in, placed_at, placings}

module _ {V : Type 0} (m : Meaning V) (q : ℕ) where
  abbrev its : List Used → List Used
  its = uses_of q

  used-if : (h : Shared V) (e : Entry) (reply : List ℕ) (b : Bool) (said : Result Bool PutFault) → eqb e.queue q ≡ b
      → its (if_used said (used_of e reply ∷ [])) ≡ map (λ (p : Placing). p.used) (cond b (if_used said (placing h.guest.regions (ring_at h q).queue e reply ∷ [])) [])
  used-if h e reply true (Ok wanted) is = ap (λ b. cond b (used_of e reply ∷ []) []) is
  used-if h e reply false (Ok wanted) is = ap (λ b. cond b (used_of e reply ∷ []) []) is
  used-if h e reply true (Err fault) is = refl
  used-if h e reply false (Err fault) is = refl

  used-by : (g : Wiring) (k : ℕ) (h : Shared V) (phase : Phase) (l : Play) → MayWork g k h phase l → its (uses_by h l phase) ≡ map (λ (p : Placing). p.used) (placed_in h q l phase)
  used-by g k h =
      work-cases g k h (λ phase l. its (uses_by h l phase) ≡ map (λ (p : Placing). p.used) (placed_in h q l phase))
      (λ object ready. refl) (λ object token. refl) refl (λ token said. refl) (λ queues. refl) (λ e queues. refl)
      (λ e reply queues. used-if h e reply (eqb e.queue q) (put_said h e reply) refl)

  guest-uses : (w : World V) (actions : List GuestAction) → (after_guest w actions).uses ≡ w.uses
  guest-uses w [] = refl
  guest-uses w (action ∷ actions) = refl

  used-step : (w : World V) (p : Party) (l : Play) → May w p l → its (after m w p l).uses ≡ its w.uses ++ map (λ (p : Placing). p.used) (placed_at w q p l)
  used-step w party.Guest play.Guest may = ap its (guest-uses w w.guest) ∙ sym (append-nil (its w.uses))
  used-step w (party.Worker k) l may =
      filter-append (λ (u : Used). u.queue == q) w.uses (uses_by w.shared l (phase_at w.phases k)) ∙ ap (λ x. its w.uses ++ x) (used-by w.wiring k w.shared (phase_at w.phases k) l may)
  used-step w party.Control (play.Control s said) may = sym (append-nil (its w.uses))
  used-step w p l may = absurd may

  pass-placed : (w : World V) (p : Party) → placed_at w q p play.Pass ≡ []
  pass-placed w party.Guest = refl
  pass-placed w party.Control = refl
  pass-placed w (party.Worker j) = refl

  used-turn : (w : World V) (p : Party) (z : World V) (l : Play) → Turn m w p l z → its z.uses ≡ its w.uses ++ map (λ (p : Placing). p.used) (placed_at w q p l)
  used-turn w p z =
      turn-cases m w p z (λ l. its z.uses ≡ its w.uses ++ map (λ (p : Placing). p.used) (placed_at w q p l))
      (λ same. ap (λ (x : World V). its x.uses) same ∙ sym (ap (λ x. its w.uses ++ map (λ (p : Placing). p.used) x) (pass-placed w p) ∙ append-nil (its w.uses)))
      (λ l may is. ap (λ (x : World V). its x.uses) is ∙ used-step w p l may)

  map-two : (xs ys : List Placing) → map (λ (p : Placing). p.used) (xs ++ ys) ≡ map (λ (p : Placing). p.used) xs ++ map (λ (p : Placing). p.used) ys
  map-two [] ys = refl
  map-two (x ∷ xs) ys = ap (λ l. x.used ∷ l) (map-two xs ys)

  pub used-run : (turns : List ℕ) (plays : List Play) (w z : World V) → IsRun m turns plays w z → its z.uses ≡ its w.uses ++ map (λ (p : Placing). p.used) (placings m q turns plays w)
  used-run [] [] w z run = ap (λ (x : World V). its x.uses) run ∙ sym (append-nil (its w.uses))
  used-run [] (l ∷ plays) w z run = absurd run
  used-run (turn ∷ turns) [] w z run = absurd run
  used-run (turn ∷ turns) (l ∷ plays) w z run =
      let p = party_of turn in
      let U : List Placing → List Used = λ x. map (λ (p : Placing). p.used) x in
      used-run turns plays run.0 z run.2
      ∙ ap₂ (λ a x. a ++ U (placings m q turns plays x)) (used-turn w p run.0 l run.1) (turn-next m w p l run.0 run.1)
      ∙ append_assoc (its w.uses) (U (placed_at w q p l)) (U (placings m q turns plays (next m w p l)))
      ∙ ap (λ x. its w.uses ++ x) (sym (map-two (placed_at w q p l) (placings m q turns plays (next m w p l))))
