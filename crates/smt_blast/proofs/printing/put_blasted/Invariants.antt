use Rattle.smt_blast.proofs.printing.put_blasted.Given as goal

abbrev pub ghosts-encode_roots : goal.ghosts-encode_roots
ghosts-encode_roots g a = record { name = a.blank.name; parts = a.blank.parts }
