-- Scripts of Boolean constants: the commands that a small solver takes, and the expressions in them (SMT-LIB 2.7, theory Core).
use Rattle.std.specs.Prelude.{◌≡◌, ℕ, Bool, true, false, not, ◌&&◌, ◌||◌, ◌==◌, IsTrue, if◌then◌else◌, codes, bytes_eq, List, [], ◌∷◌, ◌++◌}
use Rattle.std.specs.Prelude.{Option, Some, None}
use Rattle.std.specs.List.{list_any}
use Rattle.law_texts.specs.Lexicon.{Number, Name}
use Rattle.law_texts.specs.Reading.{Expression, Leaf, Node, Expressions, Nil, Cons, expressions}
use Rattle.law_scripts.specs.Script.{Command, DeclareDatatype, DeclareConst, DefineFun, Assert, DeclareFun, SetLogic, SetOption, CheckSat}
use Rattle.law_scripts.specs.Script.{GetModel, Reset, Exit, Push, Pop, Entry, Constant, Defined, State, stated, operands, count, has_name}
use Rattle.law_scripts.specs.Script.{start, step}
use Rattle.law_scripts.specs.Sorts.{bool_sort, entries, same_sort, same_sorts}
use Rattle.law_scripts.specs.Written.{is_name, option_command}

-- ---- formulas

-- the connectives of the theory Core that are taken, each with the number of its arguments: `and`, `or` and `=` take two here
abbrev pub connectives : List (List ℕ × ℕ)
connectives = (codes "not", 1) ∷ (codes "and", 2) ∷ (codes "or", 2) ∷ (codes "=", 2) ∷ (codes "ite", 3) ∷ []

-- a connective with so many arguments
abbrev pub is_connective : List ℕ → ℕ → Bool
is_connective f n = list_any (λ p. bytes_eq f p.0 && (n == p.1)) connectives

abbrev mutual
  -- a formula: connectives over names of which the test holds
  pub is_formula : (List ℕ → Bool) → Expression → Bool
  is_formula has (Leaf (Name n)) = has n
  is_formula has (Leaf a) = false
  is_formula has (Node Nil) = false
  is_formula has (Node (Cons (Leaf (Name f)) es)) = is_connective f (count es) && are_formulas has es
  is_formula has (Node (Cons e es)) = false

  -- each expression is a formula over such names
  pub are_formulas : (List ℕ → Bool) → Expressions → Bool
  are_formulas has Nil = true
  are_formulas has (Cons e es) = is_formula has e && are_formulas has es

-- a constant or a definition of sort Bool
abbrev pub is_truth : Option Entry → Bool
is_truth (Some (Constant sort)) = same_sort sort bool_sort
is_truth (Some (Defined sort body)) = same_sort sort bool_sort
is_truth x = false

-- A name of sort Bool: `true`, `false`, what is declared or defined so, and a name that nothing has. A script with the last is
-- none, but it lies in the fragment.
abbrev pub is_truth_name : State → List ℕ → Bool
is_truth_name s n =
    is_name n && ((bytes_eq n (codes "true") || bytes_eq n (codes "false")) || (not (has_name s n) || is_truth (entries s n)))

-- ---- commands

abbrev mutual
  -- every name in an expression is one that a script may have
  pub has_names_alone : Expression → Bool
  has_names_alone (Leaf (Name n)) = is_name n
  has_names_alone (Leaf a) = true
  has_names_alone (Node es) = have_names_alone es

  -- so it is in each expression
  pub have_names_alone : Expressions → Bool
  have_names_alone Nil = true
  have_names_alone (Cons e es) = has_names_alone e && have_names_alone es

-- The command lies in the fragment, in this state: constants and definitions of sort Bool, assertions of formulas, the datatype
-- `Option` as the first lines of a script declare it, and commands that declare and assert nothing. Whether it can be obeyed is another
-- question.
abbrev pub is_within : State → Command → Bool
is_within s (DeclareDatatype d ps cs) = same_sort (stated (DeclareDatatype d ps cs)) (stated option_command)
is_within s (DeclareConst n sort) = is_name n && same_sort sort bool_sort
is_within s (DefineFun n sort body) = is_name n && (same_sort sort bool_sort && is_formula (is_truth_name s) body)
is_within s (Assert e) = is_formula (is_truth_name s) e
is_within s (DeclareFun f argument sort) = false
is_within s (SetLogic l) = is_name l
is_within s (SetOption o v) = is_name (codes ":" ++ o) && has_names_alone v
is_within s CheckSat = true
is_within s GetModel = true
is_within s Reset = true
is_within s Exit = true
is_within s Push = true
is_within s Pop = true

-- ---- commands as they are read

-- this command, if no operand stands behind its keyword
abbrev pub alone : Command → Expressions → Option Command
alone c Nil = Some c
alone c (Cons e es) = None

-- the command of `(push 1)` or `(pop 1)`, which take one level alone here
abbrev pub by_one : Command → Expressions → Option Command
by_one c (Cons (Leaf (Number n)) Nil) = if n == 1 then Some c else None
by_one c es = None

-- `(assert e)`
abbrev pub assertion : Expressions → Option Command
assertion (Cons e Nil) = Some (Assert e)
assertion es = None

-- `(declare-const n sort)`
abbrev pub declaration : Expressions → Option Command
declaration (Cons (Leaf (Name n)) (Cons sort Nil)) = Some (DeclareConst n sort)
declaration es = None

-- `(define-fun n () sort body)`
abbrev pub definition : Expressions → Option Command
definition (Cons (Leaf (Name n)) (Cons (Node Nil) (Cons sort (Cons body Nil)))) = Some (DefineFun n sort body)
definition es = None

-- `(set-logic l)`
abbrev pub logic : Expressions → Option Command
logic (Cons (Leaf (Name l)) Nil) = Some (SetLogic l)
logic es = None

-- the option of a name that begins with a colon, set to a value
abbrev pub option_named : List ℕ → Expression → Option Command
option_named [] v = None
option_named (b ∷ o) v = if b == 58 then Some (SetOption o v) else None

-- `(set-option o v)`
abbrev pub option : Expressions → Option Command
option (Cons (Leaf (Name n)) (Cons v Nil)) = option_named n v
option es = None

-- the datatype Option as the first lines of a script declare it
abbrev pub options : Expressions → Option Command
options es = if same_sorts es (expressions (operands option_command)) then Some option_command else None

-- the command of this keyword with these operands
abbrev pub command_with : List ℕ → Expressions → Option Command
command_with k es =
    if bytes_eq k (codes "assert") then assertion es
    else (if bytes_eq k (codes "define-fun") then definition es
    else (if bytes_eq k (codes "declare-const") then declaration es
    else (if bytes_eq k (codes "declare-datatype") then options es
    else (if bytes_eq k (codes "set-logic") then logic es
    else (if bytes_eq k (codes "set-option") then option es
    else (if bytes_eq k (codes "check-sat") then alone CheckSat es
    else (if bytes_eq k (codes "get-model") then alone GetModel es
    else (if bytes_eq k (codes "reset") then alone Reset es
    else (if bytes_eq k (codes "exit") then alone Exit es
    else (if bytes_eq k (codes "push") then by_one Push es
    else (if bytes_eq k (codes "pop") then by_one Pop es else None)))))))))))

-- the command that an expression states, among those of which some lie in the fragment
abbrev pub command_of : Expression → Option Command
command_of (Node (Cons (Leaf (Name k)) es)) = command_with k es
command_of e = None

-- the command, if it lies in the fragment
abbrev pub if_within : State → Option Command → Option Command
if_within s (Some c) = if is_within s c then Some c else None
if_within s None = None

-- the command of the fragment that an expression states in a state
abbrev pub command_in : State → Expression → Option Command
command_in s e = if_within s (command_of e)

-- ---- scripts

-- Each of these commands lies in the fragment where it stands and can be obeyed there, and they lead from one state to the other.
abbrev pub Lead : List Command → State → State → Type 0
Lead [] s t = s ≡ t
Lead (c ∷ cs) s t = IsTrue (is_within s c) × (u : State) × (step c s ≡ Some u) × Lead cs u t

-- A script of the fragment comes to this state.
abbrev pub IsSmall : State → Type 0
IsSmall s = (cs : List Command) × Lead cs start s

-- ---- the laws

-- An expression is a command of the fragment exactly where it states one that lies in it, and then it is that one.
abbrev pub CommandsAreFound : Type 0
CommandsAreFound =
    (s : State) (c : Command) (e : Expression) →
    (command_in s e ≡ Some c → (stated c ≡ e) × IsTrue (is_within s c)) × (stated c ≡ e → IsTrue (is_within s c) → command_in s e ≡ Some c)
