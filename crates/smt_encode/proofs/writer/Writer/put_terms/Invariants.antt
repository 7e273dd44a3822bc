use Rattle.smt_encode.proofs.writer.Writer.put_terms.Given as goal

abbrev pub ghosts-put_uncounted : goal.ghosts-put_uncounted
ghosts-put_uncounted g a = record { name = a.blank.name; parts = a.blank.parts }
