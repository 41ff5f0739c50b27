use Rattle.vub_memory_rows.proofs.inflight_device.finish.Given as goal

abbrev pub ghosts-finish_with : goal.ghosts-finish_with
ghosts-finish_with a = record { name = a.blank.name; parts = a.blank.parts }
