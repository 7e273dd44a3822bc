-- Commands, what they declare, and what a script comes to.
use Rattle.std.specs.Prelude.{◌≡◌, ℕ, suc, Bool, true, false, not, ◌&&◌, ◌||◌, ◌==◌, IsTrue, if◌then◌else◌, codes, bytes_eq, take, drop}
use Rattle.std.specs.Prelude.{length, map, List, [], ◌∷◌, ◌++◌, Option, Some, None}
use Rattle.std.specs.List.{list_all, list_any}
use Rattle.std.specs.Map.{lookup}
use Rattle.std.specs.Option.{option_or}
use Rattle.law_terms.specs.Plain.{PatternPart, Character, Wildcard, PlainOp}
use Rattle.law_texts.specs.Lexicon.{Number, Text, some_all, is_digit, is_symbol, number_in, Name, in_script}
use Rattle.law_texts.specs.Reading.{Expression, Leaf, Node, Expressions, Nil, Cons, Reads, expressions}
use Rattle.law_numbers.specs.Widths.{is_width}
use Rattle.law_scripts.specs.ScriptOperators.{script_name, theory_operators}
use Rattle.law_texts.specs.Options.{◌>>=◌}

-- ---- commands, as the grammar writes them

-- a constructor, and its selectors with their sorts
pub record Constructor : Type 0 where
  pub name : List ℕ
  pub selectors : List (List ℕ × Expression)

-- A command of our profile (SMT-LIB 2.7, chapter 3, "Scripts"). `declare-fun` has one argument sort, and `define-fun` has no
-- parameters. A text with any other command is no script, nor is one with `let`, a quantifier or a recursive datatype.
pub data Command : Type 0 where
  DeclareDatatype : (name : List ℕ) → (parameters : List (List ℕ)) → (constructors : List Constructor) → Command
  DeclareConst : (name : List ℕ) → (sort : Expression) → Command
  DefineFun : (name : List ℕ) → (sort : Expression) → (body : Expression) → Command
  Assert : Expression → Command
  DeclareFun : (name : List ℕ) → (argument : Expression) → (sort : Expression) → Command
  SetLogic : (logic : List ℕ) → Command
  SetOption : (option : List ℕ) → (value : Expression) → Command
  CheckSat : Command
  GetModel : Command
  Reset : Command
  Exit : Command
  -- `(push 1)` and `(pop 1)`
  Push : Command
  Pop : Command

-- the expression that is this name alone
abbrev pub name : List ℕ → Expression
name text = Leaf (Name text)

-- these expressions between brackets
abbrev pub group : List Expression → Expression
group es = Node (expressions es)

-- `(c (s S) ..)`, a constructor with its selectors and their sorts
abbrev pub constructor : Constructor → Expression
constructor c = group (name c.name ∷ map (λ s. group (name s.0 ∷ s.1 ∷ [])) c.selectors)

-- `((c ..) ..)`, the constructors of a datatype, or `(par (X ..) ((c ..) ..))` where it has parameters
abbrev pub datatype : List (List ℕ) → List Constructor → Expression
datatype [] cs = group (map constructor cs)
datatype (p ∷ ps) cs = group (name (codes "par") ∷ group (map name (p ∷ ps)) ∷ group (map constructor cs) ∷ [])

-- the word that a command begins with
abbrev pub keyword : Command → List ℕ
keyword (DeclareDatatype d ps cs) = codes "declare-datatype"
keyword (DeclareConst c sort) = codes "declare-const"
keyword (DefineFun f sort body) = codes "define-fun"
keyword (Assert e) = codes "assert"
keyword (DeclareFun f argument sort) = codes "declare-fun"
keyword (SetLogic l) = codes "set-logic"
keyword (SetOption o v) = codes "set-option"
keyword CheckSat = codes "check-sat"
keyword GetModel = codes "get-model"
keyword Reset = codes "reset"
keyword Exit = codes "exit"
keyword Push = codes "push"
keyword Pop = codes "pop"

-- what a command has behind its word
abbrev pub operands : Command → List Expression
operands (DeclareDatatype d ps cs) = name d ∷ datatype ps cs ∷ []
operands (DeclareConst c sort) = name c ∷ sort ∷ []
operands (DefineFun f sort body) = name f ∷ group [] ∷ sort ∷ body ∷ []
operands (Assert e) = e ∷ []
operands (DeclareFun f argument sort) = name f ∷ group (argument ∷ []) ∷ sort ∷ []
operands (SetLogic l) = name l ∷ []
operands (SetOption o v) = name (codes ":" ++ o) ∷ v ∷ []
operands CheckSat = []
operands GetModel = []
operands Reset = []
operands Exit = []
operands Push = Leaf (Number 1) ∷ []
operands Pop = Leaf (Number 1) ∷ []

-- The expression that a command is by the grammar (SMT-LIB 2.7, chapter 3, "Scripts").
abbrev pub stated : Command → Expression
stated c = group (name (keyword c) ∷ operands c)

-- ---- declarations

-- What a name is declared as: a constant, a function of one argument, a defined name, a constructor or a selector.
pub data Entry : Type 0 where
  Constant : (sort : Expression) → Entry
  Function : (argument : Expression) → (sort : Expression) → Entry
  Defined : (sort : Expression) → (body : Expression) → Entry
  -- a constructor: its datatype, the datatype's parameters, its place, and the sorts of its arguments
  Builds : (datatype : List ℕ) → (parameters : List (List ℕ)) → (place : ℕ) → (fields : List Expression) → Entry
  -- a selector: the datatype, its parameters, the constructor that it belongs to, its place there, and its sort
  Selects : (datatype : List ℕ) → (parameters : List (List ℕ)) → (constructor : List ℕ) → (place : ℕ) → (field : Expression) → Entry

-- What is declared and asserted at one level of a script (SMT-LIB 2.7, chapter 4, "The Assertion Stack").
pub record Level : Type 0 where
  -- each with the number of its parameters
  pub sorts : List (List ℕ × ℕ)
  -- the newest first
  pub names : List (List ℕ × Entry)
  -- in order
  pub assertions : List Expression

-- What the commands of a script come to: its levels, and whether `exit` was read.
pub record State : Type 0 where
  pub last : Level
  -- the levels below, the newest first
  pub below : List Level
  -- behind `exit`
  pub ended : Bool

-- a level at which nothing is declared or asserted
abbrev pub empty_level : Level
empty_level = record { sorts = []; names = []; assertions = [] }

-- the state before the first command: level 0 alone, with nothing
abbrev pub start : State
start = record { last = empty_level; below = []; ended = false }

-- the sorts that are declared at levels, the newest first
abbrev pub sorts_below : List Level → List (List ℕ × ℕ)
sorts_below [] = []
sorts_below (l ∷ ls) = l.sorts ++ sorts_below ls

-- the names that are declared at levels, the newest first
abbrev pub names_below : List Level → List (List ℕ × Entry)
names_below [] = []
names_below (l ∷ ls) = l.names ++ names_below ls

-- the assertions of levels, in the order of the script
abbrev pub assertions_below : List Level → List Expression
assertions_below [] = []
assertions_below (l ∷ ls) = assertions_below ls ++ l.assertions

-- the sorts that are declared in all levels, each with the number of its parameters, the newest first
abbrev pub declared_sorts : State → List (List ℕ × ℕ)
declared_sorts s = s.last.sorts ++ sorts_below s.below

-- the names that are declared in all levels, the newest first
abbrev pub names_of : State → List (List ℕ × Entry)
names_of s = s.last.names ++ names_below s.below

-- the assertions of all levels, in order
abbrev pub assertions_of : State → List Expression
assertions_of s = assertions_below s.below ++ s.last.assertions

-- the text is one of these
abbrev pub is_in : List ℕ → List (List ℕ) → Bool
is_in n ns = list_any (bytes_eq n) ns

-- the operators that a name stands for, each with its name
abbrev pub script_operators : List (List ℕ × PlainOp)
script_operators = map (λ op. (script_name op, op)) theory_operators

-- the first thing that a table has for a name
abbrev pub look_up : {A : Type 0} → List ℕ → List (List ℕ × A) → Option A
look_up n table = lookup (bytes_eq n) table

-- the operator that a name stands for, if it stands for one
abbrev pub operator_of : List ℕ → Option PlainOp
operator_of n = look_up n script_operators

-- The names that a script has and can't declare. Names of the theories that are not here can be declared, as `xor`.
abbrev pub built_in_names : List (List ℕ)
built_in_names =
    codes "true" ∷ codes "false" ∷ codes "set.insert" ∷ codes "set.empty" ∷ codes "zero_extend"
    ∷ codes "str.in_re" ∷ codes "str.to_re" ∷ codes "re.++" ∷ codes "re.*" ∷ codes "re.allchar" ∷ map (λ p. p.0) script_operators

-- The sorts that a script has and can't declare, each with the number of its arguments; `Set` is that of cvc5's finite sets.
-- The sorts of bits have an index, and `is_sort` has them.
abbrev pub built_in_sorts : List (List ℕ × ℕ)
built_in_sorts = (codes "Bool", 0) ∷ (codes "String", 0) ∷ (codes "Set", 1) ∷ []

-- The reserved words of SMT-LIB 2.7 (chapter "The SMT-LIB Language", "Lexicon"): the general ones, and the commands' names.
abbrev pub reserved_words : List (List ℕ)
reserved_words =
    codes "_" ∷ codes "as" ∷ codes "!" ∷ codes "BINARY" ∷ codes "DECIMAL" ∷ codes "HEXADECIMAL" ∷ codes "NUMERAL" ∷ codes "STRING"
    ∷ codes "exists" ∷ codes "forall" ∷ codes "lambda" ∷ codes "let" ∷ codes "match" ∷ codes "par"
    ∷ codes "assert" ∷ codes "check-sat" ∷ codes "check-sat-assuming" ∷ codes "declare-const" ∷ codes "declare-datatype"
    ∷ codes "declare-datatypes"
    ∷ codes "declare-fun" ∷ codes "declare-sort" ∷ codes "declare-sort-parameter" ∷ codes "define-const" ∷ codes "define-fun"
    ∷ codes "define-fun-rec"
    ∷ codes "define-funs-rec" ∷ codes "define-sort" ∷ codes "echo" ∷ codes "exit" ∷ codes "get-assertions" ∷ codes "get-assignment"
    ∷ codes "get-info"
    ∷ codes "get-model" ∷ codes "get-option" ∷ codes "get-proof" ∷ codes "get-unsat-assumptions" ∷ codes "get-unsat-core"
    ∷ codes "get-value" ∷ codes "pop"
    ∷ codes "push" ∷ codes "reset" ∷ codes "reset-assertions" ∷ codes "set-info" ∷ codes "set-logic" ∷ codes "set-option" ∷ []

-- a keyword begins with a colon
abbrev pub is_keyword : List ℕ → Bool
is_keyword n = bytes_eq (take 1 n) (codes ":")

-- a symbol that is kept for solvers begins with a dot or an at sign
abbrev pub is_for_solvers : List ℕ → Bool
is_for_solvers n = bytes_eq (take 1 n) (codes ".") || bytes_eq (take 1 n) (codes "@")

-- a name that no script may declare, in any kind
abbrev pub is_reserved : List ℕ → Bool
is_reserved n = is_in n reserved_words || (is_keyword n || is_for_solvers n)

-- a symbol that is neither a reserved word nor a keyword
abbrev pub is_simple_symbol : List ℕ → Bool
is_simple_symbol n = is_symbol n && not (is_in n reserved_words || is_keyword n)

-- The value of an attribute is a constant, a simple symbol, or an S-expression in brackets.
abbrev pub is_attribute_value : Expression → Bool
is_attribute_value (Leaf (Name n)) = is_simple_symbol n
is_attribute_value e = true

-- a name that is built in or declared at an open level
abbrev pub has_name : State → List ℕ → Bool
has_name s n = is_in n built_in_names || is_in n (map (λ p. p.0) (names_of s))

-- a sort of this many parameters is there
abbrev pub has_sort : State → List ℕ → ℕ → Bool
has_sort s n count = list_any (λ p. bytes_eq n p.0 && (p.1 == count)) (declared_sorts s ++ built_in_sorts)

-- a name that can't be declared, in its kind: sorts are one kind of names, and all else that is declared the other
abbrev pub is_taken : State → List ℕ → Bool
is_taken s n = has_name s n || is_reserved n

-- a sort that can't be declared, since it is built in, declared at an open level, or reserved
abbrev pub is_taken_sort : State → List ℕ → Bool
is_taken_sort s n = is_in n (codes "BitVec" ∷ map (λ p. p.0) (declared_sorts s ++ built_in_sorts)) || is_reserved n

-- no name stands twice
abbrev pub are_distinct : List (List ℕ) → Bool
are_distinct [] = true
are_distinct (n ∷ ns) = not (is_in n ns) && are_distinct ns

-- a datatype has at least one
abbrev pub has_constructor : List Constructor → Bool
has_constructor [] = false
has_constructor (c ∷ cs) = true

-- a datatype that can be declared: its name and its parameters are not taken, no parameter stands twice, and it has a constructor
abbrev pub is_new_datatype : State → List ℕ → List (List ℕ) → List Constructor → Bool
is_new_datatype s d ps cs = not (is_taken_sort s d || list_any (is_taken_sort s) ps) && (are_distinct ps && has_constructor cs)

-- how many expressions these are
abbrev pub count : Expressions → ℕ
count Nil = 0
count (Cons e es) = suc (count es)

-- `BitVec n`, what stands behind `_` in a sort of bits (theory FixedSizeBitVectors); our profile has the widths 1 to 128
abbrev pub is_bit_sort : Expressions → Bool
is_bit_sort (Cons (Leaf (Name n)) (Cons (Leaf (Number width)) Nil)) = bytes_eq n (codes "BitVec") && is_width width
is_bit_sort es = false

abbrev mutual
  -- a sort of which each name is there, by `has` with the number of its arguments (SMT-LIB 2.7, chapter 3, "Sorts")
  pub is_sort : (List ℕ → ℕ → Bool) → Expression → Bool
  is_sort has (Leaf (Name n)) = has n 0
  is_sort has (Node (Cons (Leaf (Name n)) (Cons e es))) =
      (bytes_eq n (codes "_") && is_bit_sort (Cons e es)) || (has n (count (Cons e es)) && are_sorts has (Cons e es))
  is_sort has e = false

  -- expressions each of which is a sort of names that are there
  pub are_sorts : (List ℕ → ℕ → Bool) → Expressions → Bool
  are_sorts has Nil = true
  are_sorts has (Cons e es) = is_sort has e && are_sorts has es

-- ---- patterns

-- a string of one character as a part of a pattern; no other string is one
abbrev pub character_in : List ℕ → Option (List PatternPart)
character_in (c ∷ []) = Some (Character c ∷ [])
character_in cs = None

-- `(str.to_re "c")` or `(re.* re.allchar)`
abbrev pub pattern_part : Expression → Option (List PatternPart)
pattern_part (Node (Cons (Leaf (Name f)) (Cons (Leaf (Text text)) Nil))) =
    if bytes_eq f (codes "str.to_re") then character_in text else None
pattern_part (Node (Cons (Leaf (Name f)) (Cons (Leaf (Name g)) Nil))) =
    if bytes_eq f (codes "re.*") && bytes_eq g (codes "re.allchar") then Some (Wildcard ∷ []) else None
pattern_part e = None

-- the parts that these expressions write, one behind the other
abbrev pub pattern_parts : Expressions → Option (List PatternPart)
pattern_parts Nil = Some []
pattern_parts (Cons e es) = pattern_part e >>= λ p. pattern_parts es >>= λ ps. Some (p ++ ps)

-- `(str.to_re "")`, which the empty text alone matches
abbrev pub is_empty_pattern : Expression → Bool
is_empty_pattern (Node (Cons (Leaf (Name f)) (Cons (Leaf (Text text)) Nil))) = bytes_eq f (codes "str.to_re") && bytes_eq text []
is_empty_pattern e = false

-- `(re.++ p q ..)`, with at least two parts
abbrev pub joined_parts : Expression → Option (List PatternPart)
joined_parts (Node (Cons (Leaf (Name f)) (Cons e (Cons d es)))) =
    if bytes_eq f (codes "re.++") then pattern_parts (Cons e (Cons d es)) else None
joined_parts e = None

-- The pattern that an expression writes (theory UnicodeStrings): `(str.to_re "")`, one part, or `(re.++ p q ..)`. Our profile has no
-- other regular expressions.
abbrev pub pattern : Expression → Option (List PatternPart)
pattern e = if is_empty_pattern e then Some [] else option_or (pattern_part e) (joined_parts e)

-- ---- expressions

-- what stands in brackets, by its head
pub data Shape : Type 0 where
  -- `(_ bvN n)`
  BitLiteral : (width number : ℕ) → Shape
  -- `(as c S)`
  Qualified : (constructor : List ℕ) → (sort : Expression) → Shape
  -- `(f x ..)`
  Applied : (function : List ℕ) → Shape
  -- `((_ zero_extend k) x)`
  Extended : (bits : ℕ) → Shape
  -- `((_ is c) x)`
  Tested : (constructor : List ℕ) → Shape
  -- `(str.in_re x R)`
  Matched : List PatternPart → Shape
  Unformed : Shape

-- `bvX n` behind `_`: the number X at n bits (logic QF_BV)
abbrev pub bit_literal : Expressions → Shape
bit_literal (Cons (Leaf (Name n)) (Cons (Leaf (Number width)) Nil)) =
    if bytes_eq (take 2 n) (codes "bv") && some_all is_digit (drop 2 n) then BitLiteral width (number_in 10 (drop 2 n)) else Unformed
bit_literal es = Unformed

-- `c S` behind `as`: a name at a sort
abbrev pub qualified : Expressions → Shape
qualified (Cons (Leaf (Name c)) (Cons sort Nil)) = Qualified c sort
qualified es = Unformed

-- the form of a test of this pattern; where there is no pattern, no known form
abbrev pub matched_by : Option (List PatternPart) → Shape
matched_by (Some p) = Matched p
matched_by None = Unformed

-- `x R` behind `str.in_re`
abbrev pub matched : Expressions → Shape
matched (Cons e (Cons r Nil)) = matched_by (pattern r)
matched es = Unformed

-- a head `(_ zero_extend k)` or `(_ is c)`, by what stands behind its `_`
abbrev pub indexed : Expressions → Shape
indexed (Cons (Leaf (Name f)) (Cons (Leaf (Number bits)) Nil)) = if bytes_eq f (codes "zero_extend") then Extended bits else Unformed
indexed (Cons (Leaf (Name f)) (Cons (Leaf (Name c)) Nil)) = if bytes_eq f (codes "is") then Tested c else Unformed
indexed es = Unformed

-- `(set.insert x .. s)` behind its first argument: an element and a set are the least
abbrev pub insertion : Expressions → Shape
insertion Nil = Unformed
insertion (Cons e es) = Applied (codes "set.insert")

-- The form of what stands in brackets, by its head and the expressions behind it. A head stands before at least one more expression.
abbrev pub shape : Expression → Expressions → Shape
shape head Nil = Unformed
shape (Leaf (Name f)) (Cons e es) =
    if bytes_eq f (codes "_") then bit_literal (Cons e es)
    else (if bytes_eq f (codes "as") then qualified (Cons e es)
    else
    (if bytes_eq f (codes "str.in_re") then matched (Cons e es) else (if bytes_eq f (codes "set.insert") then insertion es else Applied f)))
shape (Node (Cons (Leaf (Name f)) fs)) (Cons e es) = if bytes_eq f (codes "_") then indexed fs else Unformed
shape e es = Unformed

-- there is a first truth, and it is true
abbrev pub is_first : List Bool → Bool
is_first [] = false
is_first (b ∷ bs) = b

-- each of these truths is true
abbrev pub are_all : List Bool → Bool
are_all bs = list_all (λ b. b) bs

-- each name in an expression of this form is there; `arguments` says it of the expressions behind the head
abbrev pub shape_is_known : (List ℕ → ℕ → Bool) → (List ℕ → Bool) → Shape → List Bool → Bool
shape_is_known sorts names (BitLiteral width number) arguments = true
shape_is_known sorts names (Qualified c sort) arguments = names c && is_sort sorts sort
shape_is_known sorts names (Applied f) arguments = names f && are_all arguments
shape_is_known sorts names (Extended bits) arguments = are_all arguments
shape_is_known sorts names (Tested c) arguments = names c && are_all arguments
shape_is_known sorts names (Matched p) arguments = is_first arguments
shape_is_known sorts names Unformed arguments = false

abbrev mutual
  -- each name in an expression is there, in its kind
  pub is_stated : (List ℕ → ℕ → Bool) → (List ℕ → Bool) → Expression → Bool
  is_stated sorts names (Leaf (Name n)) = names n
  is_stated sorts names (Leaf a) = true
  is_stated sorts names (Node Nil) = false
  is_stated sorts names (Node (Cons e es)) = shape_is_known sorts names (shape e es) (each_stated sorts names es)

  -- for each of these expressions, whether each name in it is there
  pub each_stated : (List ℕ → ℕ → Bool) → (List ℕ → Bool) → Expressions → List Bool
  each_stated sorts names Nil = []
  each_stated sorts names (Cons e es) = is_stated sorts names e ∷ each_stated sorts names es

-- Each name in the expression is declared before or built in, so that it may be asserted or be the body of a definition.
abbrev pub knows : State → Expression → Bool
knows s e = is_stated (has_sort s) (has_name s) e

-- ---- what commands leave

-- a state, with one more name at its last level
abbrev pub with_name : List ℕ → Entry → State → State
with_name n entry s = record s { last = record s.last { names = (n, entry) ∷ s.last.names } }

-- a state, with one more sort of so many parameters at its last level
abbrev pub with_sort : List ℕ → ℕ → State → State
with_sort n parameters s = record s { last = record s.last { sorts = (n, parameters) ∷ s.last.sorts } }

-- a state, with one more assertion behind those of its last level
abbrev pub with_assertion : Expression → State → State
with_assertion e s = record s { last = record s.last { assertions = s.last.assertions ++ e ∷ [] } }

-- a state, with an empty level above the last one
abbrev pub with_level : State → State
with_level s = record s { last = empty_level; below = s.last ∷ s.below }

-- a name is declared where it is neither taken nor reserved
abbrev pub declare : List ℕ → Entry → State → Option State
declare n entry s = if is_taken s n then None else Some (with_name n entry s)

-- selectors of one constructor, from a place on
abbrev pub declare_selectors : List ℕ → List (List ℕ) → List ℕ → ℕ → List (List ℕ × Expression) → State → Option State
declare_selectors d ps c place [] s = Some s
declare_selectors d ps c place (x ∷ xs) s =
    if is_sort (λ n k. has_sort s n k || (is_in n ps && (k == 0))) x.1
    then (declare x.0 (Selects d ps c place x.1) s >>= declare_selectors d ps c (suc place) xs)
    else None

-- constructors of one datatype, from a place on, each before its selectors
abbrev pub declare_constructors : List ℕ → List (List ℕ) → ℕ → List Constructor → State → Option State
declare_constructors d ps place [] s = Some s
declare_constructors d ps place (c ∷ cs) s =
    declare c.name (Builds d ps place (map (λ x. x.1) c.selectors)) s >>=
    λ t. declare_selectors d ps c.name 0 c.selectors t >>= declare_constructors d ps (suc place) cs

-- the last level goes with all that it has; level 0 stays
abbrev pub without_level : State → List Level → Option State
without_level s [] = None
without_level s (l ∷ ls) = Some (record s { last = l; below = ls })

-- What a command leaves, or nothing where it breaks the rules of declarations (SMT-LIB 2.7, chapter 4, "Commands"). What a name was
-- declared as stands until its level goes. `check-sat` and `get-model` leave the state as it is, and a logic restricts nothing.
abbrev pub obey : Command → State → Option State
obey (DeclareDatatype d ps cs) s =
    if is_new_datatype s d ps cs then (declare_constructors d ps 0 cs s >>= λ t. Some (with_sort d (length ps) t)) else None
obey (DeclareConst c sort) s = if is_sort (has_sort s) sort then declare c (Constant sort) s else None
obey (DefineFun f sort body) s =
    if is_sort (has_sort s) sort && knows s body then declare f (Defined sort body) s else None
obey (Assert e) s = if knows s e then Some (with_assertion e s) else None
obey (DeclareFun f argument sort) s =
    if is_sort (has_sort s) argument && is_sort (has_sort s) sort then declare f (Function argument sort) s else None
-- a logic is a simple symbol, and an option a colon before one, with the value of an attribute
obey (SetLogic l) s = if is_simple_symbol l then Some s else None
obey (SetOption o v) s = if is_simple_symbol o && is_attribute_value v then Some s else None
obey CheckSat s = Some s
obey GetModel s = Some s
obey Reset s = Some start
obey Exit s = Some (record s { ended = true })
obey Push s = Some (with_level s)
obey Pop s = without_level s s.below

-- nothing behind an `exit` is obeyed
abbrev pub step : Command → State → Option State
step c s = if s.ended then Some s else obey c s

-- what commands come to from a state on, or nothing where one of them breaks a rule
abbrev pub run : List Command → State → Option State
run [] s = Some s
run (c ∷ cs) s = step c s >>= run cs

-- The text is these commands.
pub record Holds (bytes : List ℕ) (commands : List Command) : Type 0 where
  pub reads : Reads bytes (map stated commands)
  pub plain : IsTrue (list_all in_script reads.pieces)

-- The text is a script, and this is what it comes to. It need not be well sorted: `SortedScript` says that.
pub record Script (bytes : List ℕ) (state : State) : Type 0 where
  pub commands : List Command
  pub holds : Holds bytes commands
  pub runs : run commands start ≡ Some state

-- Each line of the text ends with a line feed: the text is empty, or ends with one.
abbrev pub HasWholeLines : List ℕ → Type 0
HasWholeLines [] = Unit {0}
HasWholeLines (b ∷ bs) = (front : List ℕ) × (b ∷ bs ≡ front ++ 10 ∷ [])

-- The text is read as S-expressions, and its lines are whole.
pub record IsWhole (bytes : List ℕ) : Type 0 where
  pub expressions_in : List Expression
  pub reads : Reads bytes expressions_in
  pub lines : HasWholeLines bytes
