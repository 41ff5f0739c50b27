use Rattle.vub_memory_rows.proofs.queue_echo.echo_uncounted.Given as goal

abbrev pub ghosts-echo_with : goal.ghosts-echo_with
ghosts-echo_with a = record { name = a.blank.name; parts = a.blank.parts }
