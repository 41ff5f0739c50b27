use Rattle.vub_host_rows.proofs.event.ready_last.Given as goal

abbrev pub ghosts-ready_with : goal.ghosts-ready_with
ghosts-ready_with a = record { name = a.blank.name; parts = a.blank.parts }
