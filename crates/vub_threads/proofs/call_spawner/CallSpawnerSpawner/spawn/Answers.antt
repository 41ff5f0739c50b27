use Rattle.vub_threads.proofs.call_spawner.CallSpawnerSpawner.spawn.Goals as goal

pub call_with-requires-clause-post : goal.call_with-requires-clause-post
call_with-requires-clause-post g c = (c.requires c.args.job).1
