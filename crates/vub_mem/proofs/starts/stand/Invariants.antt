use Rattle.vub_mem.proofs.starts.stand.Given as goal

abbrev pub ghosts-stand_with : goal.ghosts-stand_with
ghosts-stand_with a = record { name = a.blank.name; parts = a.blank.parts }
