-- What words ask for, and the texts that some of them print.
use Rattle.std.specs.Prelude.{ℕ, if◌then◌else◌, bytes_eq, codes, List, [], ◌∷◌, Option, Some, None, ◌++◌}
use Rattle.smt_stream.specs.declared.command.Command.{Command}
use Rattle.smt_stream.specs.declared.command.Command.TheVariants.{Solve, Help, Version}

-- what one word asks for; None where it is no command
abbrev pub word_asks : List ℕ → Option Command
word_asks w = if bytes_eq w (codes "--help") then Some Help else (if bytes_eq w (codes "--version") then Some Version else None)

-- what words ask for: without words it is the replies to a script
abbrev pub commanded : List (List ℕ) → Option Command
commanded [] = Some Solve
commanded (w ∷ []) = word_asks w
commanded (w ∷ v ∷ words) = None

-- what `--help` prints: what a script may be, an example, and the statuses
abbrev pub help_text : List ℕ
help_text =
    codes "usage: smtmini < FILE\n\n"
    ++ codes "Reads a script in SMT-LIB 2.7 from standard input, command by command, and prints its replies: sat, "
    ++ codes "unsat or unknown for each\n"
    ++ codes "check-sat, and the first model for a get-model behind sat. It decides scripts of at most 20 Boolean "
    ++ codes "constants, and tells the truth.\n\n"
    ++ codes "commands: declare-const of sort Bool, define-fun of sort Bool without parameters, assert, push 1, "
    ++ codes "pop 1, check-sat, get-model,\n"
    ++ codes "          reset, set-logic, set-option and exit, and the datatype Option as smtcli writes it\n"
    ++ codes "terms:    true, false, names, not of one, and, or and = of two, and ite of three of these\n"
    ++ codes "          Behind any other command or term each check-sat is unknown.\n\n"
    ++ codes "example:  (declare-const x Bool) (assert (not x)) (check-sat) (get-model)\n"
    ++ codes "prints    sat and a model in which x is false\n\n"
    ++ codes "status: 0 the end of the script, or exit; 2 there are words; 3 the script broke a rule, and the "
    ++ codes "last line tells which:\n"
    ++ codes "        not a script, too long (a command of more than 16777216 bytes, or 2^40 in all) or too deep "
    ++ codes "(more than 1024 brackets);\n        5 source fault, 6 sink fault, 7 out of memory\n"

-- what `--version` prints
abbrev pub version_text : List ℕ
version_text = codes "smtmini 0.1.0 (rattle-kit-13f logic dac8208d650f15bf)\n"
