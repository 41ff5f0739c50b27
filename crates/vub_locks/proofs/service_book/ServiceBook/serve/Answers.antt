use Rattle.std.proofs.Common.{◌≡◌, ◌++◌, ◌∷◌, [], length, refl, rules}
use Rattle.vub_model.specs.Service.{meaning}
use Rattle.vub_locks.specs.Replays.{call_for}
use Rattle.vub_locks.specs.declared.records.Served.{Served}
use Rattle.vub_locks.proofs.Replaying.{replay_as}
use Rattle.vub_locks.proofs.service_book.ServiceBook.serve.Goals as goal

pub invariant_of-self-2 : goal.invariant_of-self-2
invariant_of-self-2 g c =
    let book = c.self.inside in
    let m = meaning g.V.Service.reply_of g.V.Service.after in
    let x : Served = call_for c.args.entry.now (length book.calls.items) c.in_ok-reply.reply in
    let reply : x.reply ≡ m.reply_of book.service x.request x.room = search rules in
    let after : c.serve.new.self ≡ m.after book.service x.request x.room = search rules in
    let list : c.push_reserved.new.self.items ≡ book.calls.items ++ x ∷ [] = search rules in
    replay_as m book.opening.value c.push_reserved.new.self.items book.calls.items book.service c.serve.new.self x c.self.invariant refl reply after list
