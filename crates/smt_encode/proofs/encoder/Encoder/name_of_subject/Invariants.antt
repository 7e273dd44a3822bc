use Rattle.smt_encode.proofs.encoder.Encoder.name_of_subject.Given as goal

abbrev pub ghosts-name_by : goal.ghosts-name_by
ghosts-name_by g a = record { name = a.blank.name; parts = a.blank.parts }
