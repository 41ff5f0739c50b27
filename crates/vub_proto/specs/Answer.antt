-- The texts of a denied operation.
use Rattle.std.specs.Prelude.{ℕ, List, codes}
use Rattle.vub_proto.specs.declared.answer.Denied.{Denied}
use Rattle.vub_proto.specs.declared.answer.Denied.TheVariants.{AlreadyClaimed, PostcopyNotEnabled, NotSupported}

abbrev pub denied_text : Denied → List ℕ
denied_text AlreadyClaimed = codes "already claimed"
denied_text PostcopyNotEnabled = codes "postcopy not enabled"
denied_text NotSupported = codes "not supported"
