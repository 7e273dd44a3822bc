use Rattle.test_scripts.proofs.scripts.show.Given as goal

abbrev pub ghosts-by_numbers : goal.ghosts-by_numbers
ghosts-by_numbers g a = record { name = a.blank.name; parts = a.blank.parts }
