use Rattle.std.proofs.Common.{◌≡◌, inl, inr, [], ◌∷◌, ◌++◌, map, Option, Some, Result, Ok, Err, sym, ap, subst, ◌∙◌}
use Rattle.std.proofs.lemmas.List.{map_push}
use Rattle.vub_driver.specs.declared.done.Done.{Done}
use Rattle.vub_driver.specs.declared.error.DriverError.{DriverError}
use Rattle.vub_driver.specs.declared.error.DriverError.TheVariants.{OutOfMemory}
use Rattle.vub_talk.specs.Late.{IsLate, refusal_of}
use Rattle.vub_talk.specs.Talks.{IsSlow}
use Rattle.vub_talk.proofs.Ending.{trusted}
use Rattle.vub_talk.proofs.Pushed.{slow}
use Rattle.vub_talk.proofs.Collected.{number_is, late_is, late}
use Rattle.vub_talk.proofs.conversation.Conversation.collect.Goals as goal

not-refused : (d : Done) → ◌≡◌ {A = Result (Option Done) DriverError} (Ok (Some d)) (Err OutOfMemory) → ⊥
not-refused d is = (let no : ⊥ = cc in no)

pub returns-in_ok-push-in-Ok-Some-clause-answers : goal.returns-in_ok-push-in-Ok-Some-clause-answers
returns-in_ok-push-in-Ok-Some-clause-answers c =
    let d : Done = c.in-Ok-Some.done in
    let s = c.args.self.now in
    let some : c.in-Ok-Some.field-0 ≡ Some d = c.in-Ok-Some.field-0-is in
    let given : ◌≡◌ {A = Result (Option Done) DriverError} c.collect.result (Ok (Some d)) = c.in-Ok-Some.is ∙ ap (λ o. Ok o) some in
    let number : d.number ≡ s.driver.collected =
    elim c.collect.ensures.answer as (λ _. d.number ≡ s.driver.collected) [
      | inl is ↦ number_is s.driver s.memory.guest d (sym is ∙ given)
      | inr none ↦ absurd (not-refused d (sym given ∙ none))
    ] in
    ap (map (λ (x : Done). x.number)) c.in_ok-push-in-Ok-Some.ensures.ok
    ∙ map_push (λ (x : Done). x.number) c.args.answers.now d
    ∙ ap (λ n. map (λ (x : Done). x.number) c.args.answers.now ++ n ∷ []) number

pub returns-in-Err-clause-only : goal.returns-in-Err-clause-only
returns-in-Err-clause-only c =
    let s = c.args.self.now in
    subst IsLate (sym c.refusal.ensures) (elim c.collect.ensures.answer as (λ _. IsLate (refusal_of c.in-Err.fault)) [
      | inl is ↦ late_is s.driver s.memory.guest c.in-Err.fault (sym is ∙ c.in-Err.is)
      | inr none ↦ late OutOfMemory c.in-Err.fault (sym none ∙ c.in-Err.is) tt
    ])

pub returns-in-Err-clause-trusted : goal.returns-in-Err-clause-trusted
returns-in-Err-clause-trusted c trust =
    let s = c.args.self.now in
    subst IsSlow (sym c.refusal.ensures) (elim c.collect.ensures.answer as (λ _. IsSlow (refusal_of c.in-Err.fault)) [
      | inl is ↦ absurd (trusted s.driver s.memory.guest c.in-Err.fault trust.0 trust.1 trust.2 trust.3 (sym is ∙ c.in-Err.is))
      | inr none ↦ slow c.in-Err.fault (sym none ∙ c.in-Err.is)
    ])
