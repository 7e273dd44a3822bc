use Rattle.smt_encode.proofs.writer.Writer.put_subject.Given as goal

abbrev pub ghosts-put_node : goal.ghosts-put_node
ghosts-put_node g a = record { name = a.blank.name; parts = a.blank.parts }
