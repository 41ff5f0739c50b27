use Rattle.vub_memory_rows.proofs.queue_echo.take_uncounted.Given as goal

abbrev pub ghosts-take_with : goal.ghosts-take_with
ghosts-take_with a = record { name = a.blank.name; parts = a.blank.parts }
