use Rattle.vub_memory_rows.proofs.inflight_device.advance.Given as goal

abbrev pub ghosts-publish_with : goal.ghosts-publish_with
ghosts-publish_with a = record { name = a.blank.name; parts = a.blank.parts }
