use Rattle.std.proofs.Common.{rules, not, nat_eq, List, filter, ◌∙◌, ap}
use Rattle.std.proofs.lemmas.Fn.{filter_same}
use Rattle.vub_mem.specs.declared.mapping.Mapping.{Mapping}
use Rattle.vub_plan.proofs.memory.mappings_without.Goals as goal

pub returns : goal.returns
returns c =
    filter_same _ (λ (m : Mapping). not (nat_eq m.start c.args.start)) _ (λ x b f' k. search rules) _ _ c.retain.ensures.filtered
    ∙ ap (λ (ms : List Mapping). filter (λ (m : Mapping). not (nat_eq m.start c.args.start)) ms) c.in_ok-kept.ensures.items
