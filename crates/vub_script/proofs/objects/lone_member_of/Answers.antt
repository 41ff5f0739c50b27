use Rattle.std.proofs.Common.{sym, ◌∙◌}
use Rattle.vub_script.proofs.LoneMember.{lone_none, lone_some}
use Rattle.vub_script.proofs.objects.lone_member_of.Goals as goal

pub returns-then-len-ne1 : goal.returns-then-len-ne1
returns-then-len-ne1 c = lone_none _ (λ e. c.if-len-ne1.true (c.len.ensures.len ∙ e))

pub returns-in-Some : goal.returns-in-Some
returns-in-Some c = rw c.as_str.ensures.value (lone_some _ _ _ (sym c.len.ensures.len ∙ c.if-len-ne1.false) c.in-Some.ensures.first)
