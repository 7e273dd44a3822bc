-- The values of expressions in a script.
use Rattle.std.specs.Prelude.{◌≡◌, ℕ, zero, suc, ◌+◌, Bool, true, false, not, ◌&&◌, ◌||◌, ◌==◌, nat_le, if◌then◌else◌, codes, bytes_eq}
use Rattle.std.specs.Prelude.{length, List, [], ◌∷◌, ◌++◌, Option, Some, None, All, IsTrue}
use Rattle.law_terms.specs.Plain.{PlainOp, AndOp, BvnegOp, EqOp, IteOp, NotOp, OrOp, SetInterOp, SetMemberOp, SetSubsetOp, StringLikeOp}
use Rattle.law_terms.specs.Plain.{ZeroExtendOp}
use Rattle.law_scripts.specs.ScriptValues.{ScriptValue, TruthOf, BitsOf, TextOf, ConstructorOf, SetOf, ScriptValues, no_script_values}
use Rattle.law_scripts.specs.ScriptValues.{one_script_value}
use Rattle.law_texts.specs.Lexicon.{Text, Name}
use Rattle.law_texts.specs.Reading.{Expression, Leaf, Node, Expressions, Nil, Cons}
use Rattle.law_numbers.specs.BitVectors.{bvneg}
use Rattle.law_numbers.specs.Widths.{are_bits}
use Rattle.law_scripts.specs.Arithmetic.{bit_function, bit_test}
use Rattle.law_terms.specs.Patterns.{matches}
use Rattle.law_scripts.specs.ScriptOrder.{same, put, is_member, is_subset, intersection}
use Rattle.law_scripts.specs.Script.{DefineFun, DeclareConst, name, knows, is_in, Shape, BitLiteral, Qualified, Applied, Extended, Tested}
use Rattle.law_scripts.specs.Script.{Matched, Unformed, shape, Entry, Constant, Function, Defined, Builds, Selects, Reset, Pop, State}
use Rattle.law_scripts.specs.Script.{names_of, assertions_of, look_up, operator_of, step, Command}
use Rattle.law_texts.specs.Options.{◌>>=◌}
use Rattle.law_scripts.specs.Sorts.{Entries, entries, sort_in, expression_sort, arguments_of, each_there, first_there, instance, paired}
use Rattle.law_scripts.specs.Sorts.{has_sort_in}

-- ---- operators

-- a connective of one Boolean
abbrev pub on_truth : (Bool → Bool) → List ScriptValue → Option ScriptValue
on_truth f (TruthOf a ∷ []) = Some (TruthOf (f a))
on_truth f vs = None

-- a connective of two Booleans
abbrev pub on_truths : (Bool → Bool → Bool) → List ScriptValue → Option ScriptValue
on_truths f (TruthOf a ∷ TruthOf b ∷ []) = Some (TruthOf (f a b))
on_truths f vs = None

-- `=`: two values are one
abbrev pub on_two : List ScriptValue → Option ScriptValue
on_two (a ∷ b ∷ []) = Some (TruthOf (same a b))
on_two vs = None

-- `ite`: the second of three values or the last one, by the first
abbrev pub choice : List ScriptValue → Option ScriptValue
choice (TruthOf b ∷ v ∷ w ∷ []) = Some (if b then v else w)
choice vs = None

-- an operator from bits to bits of the same width
abbrev pub on_bits : (ℕ → ℕ → ℕ) → List ScriptValue → Option ScriptValue
on_bits f (BitsOf width a ∷ []) = Some (BitsOf width (f width a))
on_bits f vs = None

-- `zero_extend`: the same number at a width that is greater by k, up to 128 bits
abbrev pub extended : ℕ → List ScriptValue → Option ScriptValue
extended k (BitsOf width a ∷ []) = if nat_le (width + k) 128 then Some (BitsOf (width + k) a) else None
extended k vs = None

-- what an operator gives for two numbers of a width: bits where it has such a function, or else the truth of its test
abbrev pub bits_result : Option (ℕ → ℕ → ℕ → ℕ) → Option (ℕ → ℕ → ℕ → Bool) → ℕ → ℕ → ℕ → Option ScriptValue
bits_result (Some f) test width a b = Some (BitsOf width (f width a b))
bits_result None (Some test) width a b = Some (TruthOf (test width a b))
bits_result None None width a b = None

-- an operator on two numbers, which has no value where they are of two widths
abbrev pub on_two_bits : Option (ℕ → ℕ → ℕ → ℕ) → Option (ℕ → ℕ → ℕ → Bool) → List ScriptValue → Option ScriptValue
on_two_bits f test (BitsOf v a ∷ BitsOf w b ∷ []) = if v == w then bits_result f test v a b else None
on_two_bits f test vs = None

-- `set.member`: the first value is an element of the set behind it
abbrev pub in_set : List ScriptValue → Option ScriptValue
in_set (x ∷ SetOf ys ∷ []) = Some (TruthOf (is_member x ys))
in_set vs = None

-- an operator on two sets
abbrev pub on_sets : (ScriptValues → ScriptValues → ScriptValue) → List ScriptValue → Option ScriptValue
on_sets f (SetOf xs ∷ SetOf ys ∷ []) = Some (f xs ys)
on_sets f vs = None

-- a test of a text
abbrev pub on_text : (List ℕ → Bool) → List ScriptValue → Option ScriptValue
on_text f (TextOf text ∷ []) = Some (TruthOf (f text))
on_text f vs = None

-- What an operator gives for values (theories Core, FixedSizeBitVectors and UnicodeStrings, logic QF_BV, cvc5's finite sets).
-- It has no value at another number of arguments than our profile has, nor at arguments of another kind.
abbrev pub operator_value : PlainOp → List ScriptValue → Option ScriptValue
operator_value NotOp vs = on_truth not vs
operator_value AndOp vs = on_truths (λ a b. a && b) vs
operator_value OrOp vs = on_truths (λ a b. a || b) vs
operator_value EqOp vs = on_two vs
operator_value IteOp vs = choice vs
operator_value BvnegOp vs = on_bits bvneg vs
operator_value (ZeroExtendOp k) vs = extended k vs
operator_value SetMemberOp vs = in_set vs
operator_value SetSubsetOp vs = on_sets (λ xs ys. TruthOf (is_subset xs ys)) vs
operator_value SetInterOp vs = on_sets (λ xs ys. SetOf (intersection xs ys)) vs
operator_value (StringLikeOp p) vs = on_text (matches p) vs
operator_value op vs = on_two_bits (bit_function op) (bit_test op) vs

-- a set with this value as one more element; nothing where the other value is no set
abbrev pub put_into : ScriptValue → ScriptValue → Option ScriptValue
put_into x (SetOf ys) = Some (SetOf (put x ys))
put_into x v = None

-- the value, if it is a set
abbrev pub itself_if_set : ScriptValue → Option ScriptValue
itself_if_set (SetOf ys) = Some (SetOf ys)
itself_if_set v = None

-- the values of all arguments but the last, put into the last one's set
abbrev pub inserted : List ScriptValue → Option ScriptValue
inserted [] = None
inserted (s ∷ []) = itself_if_set s
inserted (x ∷ y ∷ vs) = inserted (y ∷ vs) >>= put_into x

-- ---- interpretations

-- A finite table with a default, which is what a function is here. An `unsat` over all functions covers these; a `sat` may rest on
-- a function that is no such table.
pub record Table : Type 0 where
  pub pairs : List (ScriptValue × ScriptValue)
  pub default : ScriptValue

-- What a script leaves open. Only what it gives to a script's free names counts.
pub record ScriptInterpretation : Type 0 where
  pub constants : List ℕ → ScriptValue
  pub functions : List ℕ → Table
  -- what `val` gives of `none`, the only other value that it meets: by the sort that it is applied to
  pub options : Expression → ScriptValue
  -- what a selector of IP ranges gives of the other family's values: by the selector
  pub selectors : List ℕ → Table

-- what the first pair with this key gives, and the default where there is none
abbrev pub in_pairs : ScriptValue → List (ScriptValue × ScriptValue) → ScriptValue → ScriptValue
in_pairs x [] otherwise = otherwise
in_pairs x (p ∷ ps) otherwise = if same x p.0 then p.1 else in_pairs x ps otherwise

-- what a table gives for a value
abbrev pub in_table : Table → ScriptValue → ScriptValue
in_table table x = in_pairs x table.pairs table.default

-- ---- names

-- the values of a list as the arguments of a constructor
abbrev pub script_values : List ScriptValue → ScriptValues
script_values [] = no_script_values
script_values (v ∷ vs) = one_script_value v (script_values vs)

-- the value at a place, if there is one
abbrev pub value_at : ℕ → ScriptValues → Option ScriptValue
value_at place no_script_values = None
value_at zero (one_script_value v vs) = Some v
value_at (suc place) (one_script_value v vs) = value_at place vs

-- the value, where no arguments stand behind the name
abbrev pub if_alone : List ScriptValue → Option ScriptValue → Option ScriptValue
if_alone [] v = v
if_alone (x ∷ xs) v = None

-- what is given for one argument, and nothing for another number of them
abbrev pub of_one : (ScriptValue → Option ScriptValue) → List ScriptValue → Option ScriptValue
of_one f (v ∷ []) = f v
of_one f vs = None

-- ---- selectors at values of other constructors

-- What an interpretation gives for a selector at another constructor's value.
pub data OpenSelector : Type 0 where
  -- one value for each sort that the selector is applied to
  ValueOfSort : OpenSelector
  -- a table of the selector's own
  TableOfSelector : OpenSelector

-- the selectors of IP ranges
abbrev pub range_selectors : List (List ℕ)
range_selectors = codes "addrV4" ∷ codes "prefixV4" ∷ codes "addrV6" ∷ codes "prefixV6" ∷ []

-- `val` of the datatype `Option` and the selectors of IP ranges are left open, by the selector's name, its datatype and
-- that one's parameters. Any other selector has no value there. The standard leaves more to an interpretation, but nothing more of the
-- scripts of terms: each of their other datatypes has one constructor alone, or no selector.
abbrev pub open_selector : (selector datatype : List ℕ) → (parameters : List (List ℕ)) → Option OpenSelector
open_selector f d [] = if bytes_eq d (codes "IPAddr") && is_in f range_selectors then Some TableOfSelector else None
open_selector f d (p ∷ ps) = if bytes_eq d (codes "Option") && bytes_eq f (codes "val") then Some ValueOfSort else None

-- what an interpretation gives for a selector that is applied to another constructor's value, of this sort
abbrev pub other_value : ScriptInterpretation → List ℕ → Option OpenSelector → Option Expression → ScriptValue → Option ScriptValue
other_value j n (Some ValueOfSort) (Some sort) v = Some (j.options sort)
other_value j n (Some TableOfSelector) (Some sort) v = Some (in_table (j.selectors n) v)
other_value j n o sort v = None

-- a selector of this datatype and constructor, at an argument of this sort
abbrev pub selected : ScriptInterpretation → (selector datatype : List ℕ) → (parameters : List (List ℕ)) → (constructor : List ℕ) →
    (place : ℕ) → Option Expression → ScriptValue → Option ScriptValue
selected j n d ps c place sort (ConstructorOf p e vs) =
    if bytes_eq c e then value_at place vs else other_value j n (open_selector n d ps) sort (ConstructorOf p e vs)
selected j n d ps c place sort v = None

-- Names, applied to arguments: the name, the first argument's sort, the arguments.
abbrev pub Meaning : Type 0
Meaning = List ℕ → Option Expression → List ScriptValue → Option ScriptValue

-- an operator, `set.insert`, or else what is declared
abbrev pub by_operator : Option PlainOp → List ℕ → List ScriptValue → Option ScriptValue → Option ScriptValue
by_operator (Some op) f vs declared = operator_value op vs
by_operator None f vs declared = if bytes_eq f (codes "set.insert") then inserted vs else declared

-- the value of `(f x ..)`, by the values of its arguments and the sort of the first one
abbrev pub applied_value : Meaning → List ℕ → Option Expression → List ScriptValue → Option ScriptValue
applied_value env f sort vs = by_operator (operator_of f) f vs (env f sort vs)

-- what a built-in name or a declared one stands for
abbrev pub constant : Meaning → List ℕ → Option ScriptValue
constant env n =
    if bytes_eq n (codes "true") then Some (TruthOf true)
    else (if bytes_eq n (codes "false") then Some (TruthOf false) else env n None [])

-- the value of `(as set.empty S)` and `(as none S)`
abbrev pub qualified_value : Meaning → List ℕ → Option ScriptValue
qualified_value env c =
    if bytes_eq c (codes "set.empty") then Some (SetOf no_script_values) else (if bytes_eq c (codes "none") then env c None [] else None)

-- whether a value is of this constructor
abbrev pub is_built : Option Entry → List ℕ → ScriptValue → Option ScriptValue
is_built (Some (Builds d ps place fields)) c (ConstructorOf p n vs) = Some (TruthOf (bytes_eq c n))
is_built x c v = None

-- the value of an expression of this form, by the values of the expressions behind its head and the sort of the first one
abbrev pub shape_value : Entries → Meaning → Shape → Option Expression → List (Option ScriptValue) → Option ScriptValue
shape_value here env (BitLiteral width number) sort vs = if are_bits width number then Some (BitsOf width number) else None
shape_value here env (Qualified c s) sort vs = qualified_value env c
shape_value here env (Applied f) sort vs = each_there vs >>= applied_value env f sort
shape_value here env (Extended bits) sort vs = each_there vs >>= operator_value (ZeroExtendOp bits)
shape_value here env (Tested c) sort vs = each_there vs >>= of_one (is_built (here c) c)
shape_value here env (Matched p) sort vs = first_there vs >>= λ v. operator_value (StringLikeOp p) (v ∷ [])
shape_value here env Unformed sort vs = None

-- the sort of the first expression, if there is one and it has one
abbrev pub first_sort : Entries → Expressions → Option Expression
first_sort here Nil = None
first_sort here (Cons e es) = sort_in here e

abbrev mutual
  -- The value of an expression, by what names are declared as and what they stand for (SMT-LIB 2.7, chapter 5, "Logical Semantics").
  -- An expression of no known form has none.
  pub evaluate : Entries → Meaning → Expression → Option ScriptValue
  evaluate here env (Leaf (Name n)) = constant env n
  evaluate here env (Leaf (Text text)) = Some (TextOf text)
  evaluate here env (Leaf a) = None
  evaluate here env (Node Nil) = None
  evaluate here env (Node (Cons e es)) = shape_value here env (shape e es) (first_sort here es) (evaluate_each here env es)

  -- the values of several expressions, of each that has one
  pub evaluate_each : Entries → Meaning → Expressions → List (Option ScriptValue)
  evaluate_each here env Nil = []
  evaluate_each here env (Cons e es) = evaluate here env e ∷ evaluate_each here env es

-- What a declared name gives for arguments: a constant and a function by the interpretation, a defined name its body's value,
-- a constructor the value that it builds of them, and a selector what it selects.
abbrev pub entry_meaning : ScriptInterpretation → List ℕ → Option ScriptValue → Entry → Option Expression → List ScriptValue →
    Option ScriptValue
entry_meaning j n body (Constant sort) s vs = if_alone vs (Some (j.constants n))
entry_meaning j n body (Defined sort e) s vs = if_alone vs body
entry_meaning j n body (Function argument sort) s vs = of_one (λ v. Some (in_table (j.functions n) v)) vs
entry_meaning j n body (Builds d ps place fields) s vs =
    if length vs == length fields then Some (ConstructorOf place n (script_values vs)) else None
entry_meaning j n body (Selects d ps c place field) s vs = of_one (selected j n d ps c place s) vs

-- the body of a defined name; any other name has none, and empty brackets stand for it
abbrev pub body_of : Entry → Expression
body_of (Defined sort body) = body
body_of x = Node Nil

-- What a declared name stands for, the constants and functions by J: a defined name is its body's value.
abbrev pub meaning : ScriptInterpretation → List (List ℕ × Entry) → Meaning
meaning j [] n s vs = None
meaning j (d ∷ older) n s vs =
    if bytes_eq n d.0 then entry_meaning j n (evaluate (λ m. look_up m older) (meaning j older) (body_of d.1)) d.1 s vs
    else meaning j older n s vs

-- The value of an expression in a state of a script, by an interpretation (SMT-LIB 2.7, chapter 5, "Logical Semantics").
abbrev pub expression_value : ScriptInterpretation → State → Expression → Option ScriptValue
expression_value j s e = evaluate (entries s) (meaning j (names_of s)) e

-- The interpretation is a model: each assertion of the state has the value true. `IsScriptInterpretation` says apart that what it
-- gives is of the sorts that the script declares.
abbrev pub IsModel : ScriptInterpretation → State → Type 0
IsModel j s = All (λ e. expression_value j s e ≡ Some (TruthOf true)) (assertions_of s)

-- ---- interpretations of a script

-- the declared constants and functions, the newest first
abbrev pub free_in : List (List ℕ × Entry) → List (List ℕ)
free_in [] = []
free_in (d ∷ ds) = elim d.1 [ Constant sort ↦ d.0 ∷ free_in ds | Function argument sort ↦ d.0 ∷ free_in ds | x ↦ free_in ds ]

-- the constants and functions that are declared in a state, the newest first
abbrev pub free_names : State → List (List ℕ)
free_names s = free_in (names_of s)

-- a selector, what is declared of it, and the sort that it is applied to
pub record Selection : Type 0 where
  pub selector : List ℕ
  pub entry : Entry
  pub sort : Expression

-- a selector that is left open
abbrev pub selection_if : Option OpenSelector → Selection → List Selection
selection_if (Some o) x = x ∷ []
selection_if None x = []

-- a name that stands for such a selector
abbrev pub selection_of : List ℕ → Expression → Option Entry → List Selection
selection_of f sort (Some (Selects d ps c place field)) =
    selection_if (open_selector f d ps) (record { selector = f; entry = Selects d ps c place field; sort = sort })
selection_of f sort x = []

-- the selector that is left open, if this name, applied to an argument of this sort, is one
abbrev pub selection : List ℕ → Option Expression → Option Entry → List Selection
selection f (Some sort) x = selection_of f sort x
selection f None x = []

-- the selector that is left open, if an expression of this form applies one
abbrev pub shape_selection : Entries → Shape → Option Expression → List Selection
shape_selection here (Applied f) sort = selection f sort (here f)
shape_selection here x sort = []

abbrev mutual
  -- the selectors left open that an expression and its parts apply, each with the sort that it is applied to
  pub selections : Entries → Expression → List Selection
  selections here (Leaf a) = []
  selections here (Node Nil) = []
  selections here (Node (Cons e es)) = shape_selection here (shape e es) (first_sort here es) ++ each_selections here es

  -- the selectors left open that several expressions apply
  pub each_selections : Entries → Expressions → List Selection
  each_selections here Nil = []
  each_selections here (Cons e es) = selections here e ++ each_selections here es

-- the selectors left open that the expressions of a list apply
abbrev pub selections_in : Entries → List Expression → List Selection
selections_in here [] = []
selections_in here (e ∷ es) = selections here e ++ selections_in here es

-- each body by the names that were there before it
abbrev pub body_selections : List (List ℕ × Entry) → List Selection
body_selections [] = []
body_selections (d ∷ older) = selections (λ m. look_up m older) (body_of d.1) ++ body_selections older

-- the open selectors that a defined or asserted expression applies, each with the sort that it is applied to
abbrev pub applied_selectors : State → List Selection
applied_selectors s = body_selections (names_of s) ++ selections_in (entries s) (assertions_of s)

-- the value is the key of one of these pairs
abbrev pub is_key : ScriptValue → List (ScriptValue × ScriptValue) → Bool
is_key x [] = false
is_key x (p ∷ ps) = same x p.0 || is_key x ps

-- keys and values of these sorts, no key twice
abbrev pub are_pairs : Entries → Expression → Expression → List (ScriptValue × ScriptValue) → Bool
are_pairs here argument sort [] = true
are_pairs here argument sort (p ∷ ps) =
    has_sort_in here argument p.0 && has_sort_in here sort p.1 && not (is_key p.0 ps) && are_pairs here argument sort ps

-- a table from values of one sort to values of another: keys and values of these sorts, no key twice, and such a default
abbrev pub is_table : Entries → Expression → Expression → Table → Bool
is_table here argument sort table = are_pairs here argument sort table.pairs && has_sort_in here sort table.default

-- a constant is given a value of its sort, and a function a table of its sorts
abbrev pub is_entry_given : ScriptInterpretation → Entries → List ℕ → Entry → Bool
is_entry_given j here n (Constant sort) = has_sort_in here sort (j.constants n)
is_entry_given j here n (Function argument sort) = is_table here argument sort (j.functions n)
is_entry_given j here n x = true

-- the value is of another constructor
abbrev pub is_other : List ℕ → ScriptValue → Bool
is_other c (ConstructorOf place d vs) = not (bytes_eq c d)
is_other c v = false

-- each key is a value of another constructor
abbrev pub are_others : List ℕ → List (ScriptValue × ScriptValue) → Bool
are_others c [] = true
are_others c (p ∷ ps) = is_other c p.0 && are_others c ps

-- a value or a table is given for a selector that is left open
abbrev pub is_open_given : ScriptInterpretation → Entries → List ℕ → Expression → Entry → Option OpenSelector → Bool
is_open_given j here n sort (Selects d ps c place field) (Some ValueOfSort) =
    elim (arguments_of d sort) [ Some es ↦ has_sort_in here (instance (paired ps es) field) (j.options sort) | None ↦ true ]
is_open_given j here n sort (Selects d ps c place field) (Some TableOfSelector) =
    is_table here sort field (j.selectors n) && are_others c (j.selectors n).pairs
is_open_given j here n sort x o = true

-- a selector that is left open is given a value or a table of its sort
abbrev pub is_selector_given : ScriptInterpretation → Entries → List ℕ → Expression → Entry → Bool
is_selector_given j here n sort (Selects d ps c place field) =
    is_open_given j here n sort (Selects d ps c place field) (open_selector n d ps)
is_selector_given j here n sort x = true

-- J gives each free name of the script a value or a table of its sort.
pub record IsScriptInterpretation (j : ScriptInterpretation) (s : State) : Type 0 where
  pub declared : All (λ p. IsTrue (is_entry_given j (entries s) p.0 p.1)) (names_of s)
  pub selected : All (λ p. IsTrue (is_selector_given j (entries s) p.selector p.sort p.entry)) (applied_selectors s)

-- ---- interpretations that agree

-- Both give the same for a declared constant or function.
abbrev pub AgreeAt : ScriptInterpretation → ScriptInterpretation → List ℕ → Entry → Type 0
AgreeAt j k n (Constant sort) = j.constants n ≡ k.constants n
AgreeAt j k n (Function argument sort) = j.functions n ≡ k.functions n
AgreeAt j k n x = Unit {0}

-- both give the same for a selector that is left open
abbrev pub AgreeOnOpen : ScriptInterpretation → ScriptInterpretation → List ℕ → Expression → Option OpenSelector → Type 0
AgreeOnOpen j k n sort (Some ValueOfSort) = j.options sort ≡ k.options sort
AgreeOnOpen j k n sort (Some TableOfSelector) = j.selectors n ≡ k.selectors n
AgreeOnOpen j k n sort None = Unit {0}

-- Both give the same for a selector, by what it is declared as, where it is left open.
abbrev pub AgreeOn : ScriptInterpretation → ScriptInterpretation → List ℕ → Expression → Entry → Type 0
AgreeOn j k n sort (Selects d ps c place field) = AgreeOnOpen j k n sort (open_selector n d ps)
AgreeOn j k n sort x = Unit {0}

-- Both give the script's free names the same.
pub record AgreeFor (j k : ScriptInterpretation) (s : State) : Type 0 where
  pub declared : All (λ p. AgreeAt j k p.0 p.1) (names_of s)
  pub selected : All (λ p. AgreeOn j k p.selector p.sort p.entry) (applied_selectors s)

-- ---- the laws

-- What a command but `reset` and `(pop 1)` leaves has the values and the sorts of what was there before it.
abbrev pub StepsKeepValues : Type 0
StepsKeepValues =
    (j : ScriptInterpretation) (c : Command) (s t : State) (e : Expression) → (c ≡ Reset → ⊥) → (c ≡ Pop → ⊥) → step c s ≡ Some t →
    knows s e ≡ true
    → (knows t e ≡ true) × (expression_value j t e ≡ expression_value j s e) × (expression_sort t e ≡ expression_sort s e)

-- A defined name has its body's value, a declared one the value that the interpretation gives it.
abbrev pub NamesHaveValues : Type 0
NamesHaveValues = (j : ScriptInterpretation) (n : List ℕ) (sort body : Expression) (s t : State) → s.ended ≡ false
    → (step (DefineFun n sort body) s ≡ Some t →
    (knows t (name n) ≡ true) × (expression_value j t (name n) ≡ expression_value j s body) × (expression_sort t (name n) ≡ Some sort))
    × (step (DeclareConst n sort) s ≡ Some t →
    (knows t (name n) ≡ true) × (expression_value j t (name n) ≡ Some (j.constants n)) × (expression_sort t (name n) ≡ Some sort))

-- What a script's assertions are worth lies in its free names.
abbrev pub FreeNamesDecide : Type 0
FreeNamesDecide =
    (j k : ScriptInterpretation) (s : State) → AgreeFor j k s →
    All (λ e. expression_value j s e ≡ expression_value k s e) (assertions_of s) × (IsModel j s → IsModel k s)
