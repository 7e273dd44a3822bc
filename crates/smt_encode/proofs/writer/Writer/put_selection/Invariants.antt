use Rattle.smt_encode.proofs.writer.Writer.put_selection.Given as goal

abbrev pub ghosts-selector_by : goal.ghosts-selector_by
ghosts-selector_by g a = record { name = a.blank.name; parts = a.blank.parts }
