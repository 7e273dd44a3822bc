use Rattle.kembura_uses.proofs.deep_sum.Given as goal

abbrev pub ghosts-script_of : goal.ghosts-script_of
ghosts-script_of a = record { name = a.blank.name; parts = a.blank.parts }
