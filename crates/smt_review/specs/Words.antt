-- What words ask for.
use Rattle.std.specs.Prelude.{ℕ, if◌then◌else◌, bytes_eq, codes, option_map, List, [], ◌∷◌, Option, Some, None}
use Rattle.smt_solve.specs.Starter.{Command as SolverCall}
use Rattle.smt_review.specs.declared.command.Command.{Command}
use Rattle.smt_review.specs.declared.command.Command.TheVariants.{Review}
use Rattle.smt_review.specs.declared.relation.Relation.{Relation}
use Rattle.smt_review.specs.declared.relation.Relation.TheVariants.{Equivalent, Implies, Disjoint}

-- the relation of this name; None where it names none
abbrev pub relation_named : List ℕ → Option Relation
relation_named w =
    if bytes_eq w (codes "equivalent") then Some Equivalent
    else (if bytes_eq w (codes "implies") then Some Implies else (if bytes_eq w (codes "disjoint") then Some Disjoint else None))

-- what words ask for: the name of a relation has at least the path of a solver behind it
abbrev pub commanded : List (List ℕ) → Option Command
commanded [] = None
commanded (w ∷ []) = None
commanded (w ∷ path ∷ args) = option_map Review (relation_named w)

-- the line that is said of other words
abbrev pub usage_line : List ℕ
usage_line = codes "usage: smtreview equivalent or implies or disjoint PATH ARGS..\n"

-- the solver that stands behind the first word, with its arguments
abbrev pub solver_named : List (List ℕ) → SolverCall
solver_named (w ∷ path ∷ args) = record { program = path; args = args }
solver_named words = record { program = []; args = [] }
