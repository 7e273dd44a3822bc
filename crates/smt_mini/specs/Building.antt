-- What building the gates of formulas leaves.
use Rattle.std.specs.Prelude.{◌≡◌, ℕ, false, List, Option, Some, None}
use Rattle.std.specs.declared.alloc.Global.{Global}
use Rattle.std.specs.declared.vec.Vec.{Vec}
use Rattle.law_texts.specs.Lexicon.{Name}
use Rattle.law_texts.specs.Reading.{Expression, Leaf, Node, Cons, expressions}
use Rattle.law_scripts.specs.Script.{State, are_all, each_stated, has_name, has_sort, knows}
use Rattle.smt_sexpr.specs.View.{plain_list}
use Rattle.smt_sexpr.specs.declared.expression.SExpr.{SExpr}
use Rattle.smt_mini.specs.declared.gate.Gate.{Gate}
use Rattle.smt_mini.specs.Tables.{HasValue, HaveValues, Table, gained}

-- a name in front of expressions of the program, in brackets
abbrev pub applied : List ℕ → List SExpr → Expression
applied n es = Node (Cons (Leaf (Name n)) (plain_list es))

-- Gates were gained alone, and one of them has the value of the expression; or a name in the expression is not there.
abbrev pub Built : Table → Table → State → Expression → Option ℕ → Type 0
Built t u s e None = knows s e ≡ false
Built t u s e (Some p) = ((gs : List Gate) × (u ≡ gained t gs)) × HasValue u s e p

-- So it is for each of these expressions.
abbrev pub BuiltEach : Table → Table → State → List Expression → Option (List ℕ) → Type 0
BuiltEach t u s es None = are_all (each_stated (has_sort s) (has_name s) (expressions es)) ≡ false
BuiltEach t u s es (Some ps) = ((gs : List Gate) × (u ≡ gained t gs)) × HaveValues u s es ps

-- So it is for each of these expressions.
abbrev pub BuiltAll : Table → Table → State → List Expression → Option (Vec ℕ Global) → Type 0
BuiltAll t u s es None = BuiltEach t u s es None
BuiltAll t u s es (Some v) = BuiltEach t u s es (Some v.items)
