use Rattle.std.proofs.Common.{◌∙◌, sym}
use Rattle.vub_core.proofs.Flags.{flag_view}
use Rattle.vub_core.proofs.written.Written.flag.Goals as goal

pub returns-then-object-len : goal.returns-then-object-len
returns-then-object-len c = flag_view _ _ _ c.args.offset c.args.len _ _ _ _ (sym c.self.view_is) c.if-object-len.true (c.len.ensures ∙ c.self.inside.objects.ok.0) c.index_mut.ensures.value c.deref_mut.ensures.value c.deref_mut.ensures.len c.fill.ensures
