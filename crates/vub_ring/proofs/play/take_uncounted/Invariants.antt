use Rattle.vub_ring.proofs.play.take_uncounted.Given as goal

abbrev pub ghosts-take_with : goal.ghosts-take_with
ghosts-take_with g a = record { name = a.blank.name; parts = a.blank.parts }
