use Rattle.smt_cli.proofs.generation.generated_summary.Given as goal

abbrev pub ghosts-count_script : goal.ghosts-count_script
ghosts-count_script a = record { name = a.blank.name; parts = a.blank.parts }
