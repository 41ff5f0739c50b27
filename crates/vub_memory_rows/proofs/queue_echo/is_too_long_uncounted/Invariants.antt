use Rattle.vub_memory_rows.proofs.queue_echo.is_too_long_uncounted.Given as goal

abbrev pub ghosts-is_too_long_with : goal.ghosts-is_too_long_with
ghosts-is_too_long_with a = record { name = a.blank.name; parts = a.blank.parts }
