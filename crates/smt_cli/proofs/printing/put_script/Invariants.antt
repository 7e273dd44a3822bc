use Rattle.smt_cli.proofs.printing.put_script.Given as goal

abbrev pub ghosts-encode_job : goal.ghosts-encode_job
ghosts-encode_job g a = record { name = a.blank.name; parts = a.blank.parts }
