use Rattle.std.proofs.Common.{rules, ◌≡◌, ◌∙◌, ◌⊎◌, inl, inr, ℕ, List, Some, None, sym, ap}
use Rattle.vub_share.specs.Asked.{asked}
use Rattle.vub_share.specs.Inputs.{HasRun}
use Rattle.vub_share.specs.declared.command.Command.TheVariants.{Play, Make}
use Rattle.vub_share.proofs.OneRunOf.{one-of-input, one-of-script, if-some, not-played, front-for, only-run-for}
use Rattle.vub_share.specs.Generator.{made}
use Rattle.vub_share.proofs.program.run_script.Goals as goal

pub returns-in-Ok-clause-only_run : goal.returns-in-Ok-clause-only_run
returns-in-Ok-clause-only_run g c =
    let is : asked c.args.words.now ≡ Some Play = sym c.command_of.ensures.asked ∙ c.in-Some-Play.is ∙ ap Some c.in-Some-Play.field-0-is in
    let there : (c.write_run.result.run ≡ Some c.in-Ok.run') ⊎ (c.write_run.result.run ≡ None) =
    elim c.write_run.ensures.statuses [
      | inl done ↦ inl (c.write_run.ensures.done done).0
      | inr other ↦ elim other [
        | inl failed ↦ inl (c.write_run.ensures.failed failed).0
        | inr memory ↦ inr (c.write_run.ensures.memory memory).0
      ]
    ] in
    only-run-for c.write_run.result.run c.in-Ok.run' (asked c.args.words.now) (Some Play) (g.S.Source.left c.args.source.now) is there
    (if-some (g.S.Source.left c.args.source.now) (λ input. HasRun input c.in-Ok.run') _ c.in-Ok.ensures.calls
    (λ input is other are. one-of-input input c.in-Ok.run' other is are))

pub returns-in-Ok-clause-front : goal.returns-in-Ok-clause-front
returns-in-Ok-clause-front g c =
    let is : asked c.args.words.now ≡ Some Play = sym c.command_of.ensures.asked ∙ c.in-Some-Play.is ∙ ap Some c.in-Some-Play.field-0-is in
    front-for c.write_run.result.status c.write_run.result.run c.in-Ok.run' (asked c.args.words.now) (Some Play) _ _ is c.write_run.ensures.failed

pub returns-in-Ok-run_of_make-clause-only_long : goal.returns-in-Ok-run_of_make-clause-only_long
returns-in-Ok-run_of_make-clause-only_long g c =
    let is : asked c.args.words.now ≡ Some (Make c.in-Some-Make.count) = sym c.command_of.ensures.asked ∙ c.in-Some-Make.is ∙ ap Some c.in-Some-Make.field-0-is in
    not-played _ _ (g.S.Source.left c.args.source.now) (asked c.args.words.now) c.in-Some-Make.count is

pub returns-in-Ok-run_of_make-clause-only_script : goal.returns-in-Ok-run_of_make-clause-only_script
returns-in-Ok-run_of_make-clause-only_script g c =
    let is : asked c.args.words.now ≡ Some (Make c.in-Some-Make.count) = sym c.command_of.ensures.asked ∙ c.in-Some-Make.is ∙ ap Some c.in-Some-Make.field-0-is in
    not-played _ _ (g.S.Source.left c.args.source.now) (asked c.args.words.now) c.in-Some-Make.count is

pub returns-in-Ok-run_of_make-clause-only_set_up : goal.returns-in-Ok-run_of_make-clause-only_set_up
returns-in-Ok-run_of_make-clause-only_set_up g c =
    let is : asked c.args.words.now ≡ Some (Make c.in-Some-Make.count) = sym c.command_of.ensures.asked ∙ c.in-Some-Make.is ∙ ap Some c.in-Some-Make.field-0-is in
    not-played _ _ (g.S.Source.left c.args.source.now) (asked c.args.words.now) c.in-Some-Make.count is

pub returns-in-Ok-run_of_make-clause-front : goal.returns-in-Ok-run_of_make-clause-front
returns-in-Ok-run_of_make-clause-front g c =
    let is : asked c.args.words.now ≡ Some (Make c.in-Some-Make.count) = sym c.command_of.ensures.asked ∙ c.in-Some-Make.is ∙ ap Some c.in-Some-Make.field-0-is in
    front-for c.write_summary.result.status c.write_summary.result.run c.in-Ok-run_of_make.run' (asked c.args.words.now) (Some (Make c.in-Some-Make.count)) _ _ is c.write_summary.ensures.failed

pub returns-in-Ok-run_of_make-clause-only_run : goal.returns-in-Ok-run_of_make-clause-only_run
returns-in-Ok-run_of_make-clause-only_run g c =
    let is : asked c.args.words.now ≡ Some (Make c.in-Some-Make.count) = sym c.command_of.ensures.asked ∙ c.in-Some-Make.is ∙ ap Some c.in-Some-Make.field-0-is in
    let there : (c.write_summary.result.run ≡ Some c.in-Ok-run_of_make.run') ⊎ (c.write_summary.result.run ≡ None) =
    elim c.write_summary.ensures.statuses [
      | inl done ↦ inl (c.write_summary.ensures.done done).0
      | inr other ↦ elim other [
        | inl failed ↦ inl (c.write_summary.ensures.failed failed).0
        | inr memory ↦ inr (c.write_summary.ensures.memory memory).0
      ]
    ] in
    only-run-for c.write_summary.result.run c.in-Ok-run_of_make.run' (asked c.args.words.now) (Some (Make c.in-Some-Make.count)) (g.S.Source.left c.args.source.now) is there
    (λ other are. one-of-script (made c.in-Some-Make.count) c.in-Ok-run_of_make.run' other c.in-Ok-run_of_make.ensures are)
