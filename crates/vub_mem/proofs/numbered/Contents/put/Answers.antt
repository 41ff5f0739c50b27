use Rattle.std.proofs.Common.{rules, length, ◌≡◌}
use Rattle.vub_mem.proofs.Numbers.{indexed_push}
use Rattle.vub_mem.proofs.numbered.Contents.put.Goals as goal

pub invariant_of-self-in-Ok : goal.invariant_of-self-in-Ok
invariant_of-self-in-Ok c =
    let end : c.len-place.result ≡ length c.self.inside.list.items = search rules in
    rw c.in_ok-push.ensures.items
    (indexed_push _ _ c.self.inside.places c.insert.new.self _ end (rw c.self.view_is c.requires) c.in-Ok.ensures.updates.1 c.in-Ok.ensures.updates.2 c.self.invariant)
