use Rattle.vub_share.proofs.Generated.{five}
use Rattle.vub_share.proofs.generator.push_published_in.Goals as goal

pub returns : goal.returns
returns c =
    five c.push-5.result c.args.guest.now _ _ _ _ c.push-5.new.self _ _ _ _ _ _ _ _ _
    c.in_ok-request_stored.ensures c.in_ok-table_stored.ensures c.in_ok-available_stored.ensures c.in_ok-index_stored.ensures
    c.in_ok-push.ensures.ok c.in_ok-push-2.ensures.ok c.in_ok-push-3.ensures.ok c.in_ok-push-4.ensures.ok c.push-5.ensures.ok
