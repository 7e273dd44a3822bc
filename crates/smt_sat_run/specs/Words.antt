-- What words ask for, and the texts that some of them print.
use Rattle.std.specs.Prelude.{ℕ, ◌^◌, ◌-◌, ◌&&◌, ◌||◌, nat_lt, if◌then◌else◌, bytes_eq, codes, List, [], ◌∷◌, Option, Some, None, ◌++◌}
use Rattle.law_texts.specs.Digits.{decimal_number, is_numeral}
use Rattle.smt_sat_run.specs.declared.command.Command.{Command}
use Rattle.smt_sat_run.specs.declared.command.Command.TheVariants.{Search, Check, Help, Version}

-- what one word asks for; None where it is no command
abbrev pub word_asks : List ℕ → Option Command
word_asks w =
    if bytes_eq w (codes "--help") then Some Help
    else (if bytes_eq w (codes "-h") then Some Help else (if bytes_eq w (codes "--version") then Some Version else None))

-- a search over at most this many conflicts, which are below 2^64
abbrev pub limit_of : List ℕ → Option Command
limit_of w = if is_numeral w && nat_lt (decimal_number w) (2 ^ 64) then Some (Search (decimal_number w)) else None

-- what an option with a value asks for
abbrev pub option_asks : (option value : List ℕ) → Option Command
option_asks option value =
    if bytes_eq option (codes "--conflicts") then limit_of value else (if bytes_eq option (codes "--proof") then Some Check else None)

-- what words ask for: without words it is a search without a limit but the greatest
abbrev pub commanded : List (List ℕ) → Option Command
commanded [] = Some (Search (2 ^ 64 - 1))
commanded (word ∷ []) = word_asks word
commanded (option ∷ value ∷ []) = option_asks option value
commanded (u ∷ v ∷ w ∷ words) = None

-- the file that words name: a proof is checked where there is one
abbrev pub file_of : List (List ℕ) → Option (List ℕ)
file_of (option ∷ file ∷ []) = if bytes_eq option (codes "--proof") then Some file else None
file_of words = None

-- what `--help` prints: the options, the form of a formula, an example, and the statuses
abbrev pub help_text : List ℕ
help_text =
    codes "usage: smtsat [--conflicts N | --proof FILE] < FORMULA\n\n"
    ++ codes "Reads a formula in conjunctive normal form from standard input, in the format DIMACS, and searches "
    ++ codes "for truths of its variables that\n" ++ codes "make all clauses true. Prints what was found, as solvers print it:\n\n"
    ++ codes "  s SATISFIABLE     and lines that begin with v: the literals that are true, of all variables in "
    ++ codes "order, and a 0 behind them\n  s UNSATISFIABLE   no truths of the variables make all clauses true\n"
    ++ codes "  s UNKNOWN         neither was found\n\n" ++ codes "--conflicts N    searches over at most N conflicts, below 2^64\n"
    ++ codes "--proof FILE     checks a proof in place of searching: DRAT as text, as `cadical -q --no-binary "
    ++ codes "FORMULA FILE` writes it; where a\n"
    ++ codes "                 step does not follow, or the proof ends before the empty clause, that is said on "
    ++ codes "standard error\n\n"
    ++ codes "The lines that begin with c are comments, wherever they stand. The first line of the others is `p "
    ++ codes "cnf VARIABLES CLAUSES`, and behind it\n"
    ++ codes "are the literals of the clauses, each clause ended by 0. A line of % at the end, as some files have "
    ++ codes "it, is refused: take it away first.\n\nexample:  printf 'p cnf 2 2\\n1 -2 0\\n2 0\\n' | smtsat\n"
    ++ codes "prints    s SATISFIABLE\n          v 1 2 0\n\n"
    ++ codes "status: 10 satisfiable; 20 unsatisfiable; 0 unknown; 2 the words are no command; 3 the formula is "
    ++ codes "refused; 5 source fault; 6 sink\n        fault; 7 out of memory\n"

-- what `--version` prints
abbrev pub version_text : List ℕ
version_text = codes "smtsat 0.1.0 (rattle-kit-13f logic dac8208d650f15bf)\n"
