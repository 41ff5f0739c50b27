use Rattle.std.proofs.Common.{◌≡◌, ◌++◌, List, Ok, IfOk, subst}
use Rattle.vub_dir.specs.Layout.{fields_bytes}
use Rattle.vub_dir.specs.Replies.{fitted}
use Rattle.vub_dir.specs.declared.layout.Field.{Field}
use Rattle.vub_dir.proofs.answers.with_attributes.Goals as goal

pub returns : goal.returns
returns c =
    subst
    (λ (tail : List Field). IfOk c.succeed_with.result (λ reply. reply ≡ fitted c.args.slot.room c.args.slot.unique (Ok (fields_bytes c.args.head.now ++ fields_bytes tail))))
    c.attributes.ensures c.succeed_with.ensures
