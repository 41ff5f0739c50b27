use Rattle.serde_json.specs.View.{view}
use Rattle.vub_script.proofs.Served.{a_draft, is_read_served}
use Rattle.vub_script.proofs.whole.draft_from.Goals as goal

pub returns-then-is_in_form-clause-service : goal.returns-then-is_in_form-clause-service
returns-then-is_in_form-clause-service c = is_read_served c.fields_from.result _ c.fields_from.ensures (a_draft (view c.args.value.now))
