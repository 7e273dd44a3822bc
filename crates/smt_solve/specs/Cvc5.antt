-- How cvc5 is started.
use Rattle.std.specs.Prelude.{ℕ, List, ◌∷◌, codes, Option, None, Some}
use Rattle.std.specs.Borrow.{Bor}
use Rattle.smt_solve.specs.Starter.{Command}

-- the program of cvc5: the one that the setting names, or `cvc5` where there is no setting
abbrev pub cvc5_program : (setting : Option (Bor (List ℕ))) → List ℕ
cvc5_program None = codes "cvc5"
cvc5_program (Some program) = program.now

-- the command that starts cvc5, which is to read SMT-LIB, with these further arguments
abbrev pub cvc5_command : (setting : Option (Bor (List ℕ))) → (args : List (List ℕ)) → Command
cvc5_command setting args = record { program = cvc5_program setting; args = codes "--lang" ∷ codes "smt" ∷ args }

-- the argument that gives cvc5 a time limit of 60000 milliseconds
abbrev pub cvc5_limit : List ℕ
cvc5_limit = codes "--tlimit=60000"
