use Rattle.smt_cli.proofs.checking.put_verdicts.Given as goal

abbrev pub ghosts-ask_job : goal.ghosts-ask_job
ghosts-ask_job g a = record { name = a.blank.name; parts = a.blank.parts }
