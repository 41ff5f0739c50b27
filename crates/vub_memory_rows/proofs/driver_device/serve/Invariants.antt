use Rattle.vub_memory_rows.proofs.driver_device.serve.Given as goal

abbrev pub ghosts-serve_with : goal.ghosts-serve_with
ghosts-serve_with a = record { name = a.blank.name; parts = a.blank.parts }
