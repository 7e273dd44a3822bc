-- The sorts of expressions, and of values. A sort is an expression.
use Rattle.std.specs.Prelude.{ℕ, ◌+◌, Bool, true, false, ◌&&◌, ◌==◌, nat_le, if◌then◌else◌, codes, bytes_eq, length, map, List, [], ◌∷◌}
use Rattle.std.specs.Prelude.{Option, Some, None, is_some}
use Rattle.std.specs.List.{list_all}
use Rattle.law_terms.specs.Plain.{PlainOp, AndOp, BvnegOp, EqOp, IteOp, NotOp, OrOp, SetInterOp, SetMemberOp, SetSubsetOp, StringLikeOp}
use Rattle.law_terms.specs.Plain.{ZeroExtendOp}
use Rattle.law_terms.specs.TypeValues.{is_code_point}
use Rattle.law_scripts.specs.ScriptValues.{ScriptValue, TruthOf, BitsOf, TextOf, ConstructorOf, SetOf, ScriptValues, no_script_values}
use Rattle.law_scripts.specs.ScriptValues.{one_script_value}
use Rattle.law_texts.specs.Lexicon.{Atom, Bits, Number, Text, Name}
use Rattle.law_texts.specs.Reading.{Expression, Leaf, Node, Expressions, Nil, Cons, expressions}
use Rattle.law_scripts.specs.Script.{name, group, Entry, Constant, Function, Defined, Builds, Selects, Shape, BitLiteral, Qualified}
use Rattle.law_scripts.specs.Script.{Applied, Extended, Tested, Matched, Unformed, shape, look_up, operator_of, is_in, names_of, State}
use Rattle.law_texts.specs.Options.{◌>>=◌}
use Rattle.law_numbers.specs.Widths.{are_bits}
use Rattle.law_scripts.specs.Arithmetic.{bit_function, bit_test}
use Rattle.law_scripts.specs.ScriptOrder.{ascends}
use Rattle.std.specs.Option.{unwrap_or}

-- ---- sorts as they are written

-- two atoms are one, as a test
abbrev pub same_atom : Atom → Atom → Bool
same_atom (Bits v m) (Bits w n) = (v == w) && (m == n)
same_atom (Number m) (Number n) = m == n
same_atom (Text s) (Text t) = bytes_eq s t
same_atom (Name m) (Name n) = bytes_eq m n
same_atom a b = false

abbrev mutual
  -- two sorts are one, as they are written, as a test
  pub same_sort : Expression → Expression → Bool
  same_sort (Leaf a) (Leaf b) = same_atom a b
  same_sort (Node es) (Node fs) = same_sorts es fs
  same_sort e f = false

  -- two lists of sorts are one, as a test
  pub same_sorts : Expressions → Expressions → Bool
  same_sorts Nil Nil = true
  same_sorts (Cons e es) (Cons f fs) = same_sort e f && same_sorts es fs
  same_sorts es fs = false

-- `Bool` (theory Core)
abbrev pub bool_sort : Expression
bool_sort = name (codes "Bool")

-- `String` (theory UnicodeStrings)
abbrev pub string_sort : Expression
string_sort = name (codes "String")

-- `(_ BitVec n)` (theory FixedSizeBitVectors)
abbrev pub bit_sort : ℕ → Expression
bit_sort width = group (name (codes "_") ∷ name (codes "BitVec") ∷ Leaf (Number width) ∷ [])

-- `(Set S)` (cvc5's finite sets)
abbrev pub set_sort : Expression → Expression
set_sort s = group (name (codes "Set") ∷ s ∷ [])

-- `(Option S)`, the datatype that each script of terms declares first
abbrev pub option_sort : Expression → Expression
option_sort s = group (name (codes "Option") ∷ s ∷ [])

-- a datatype's sort: its name, or its name with its arguments
abbrev pub datatype_sort : List ℕ → List Expression → Expression
datatype_sort d [] = name d
datatype_sort d (s ∷ ss) = group (name d ∷ s ∷ ss)

-- the width of a sort of bits, if the sort is one
abbrev pub sort_width : Expression → Option ℕ
sort_width (Node (Cons (Leaf (Name u)) (Cons (Leaf (Name b)) (Cons (Leaf (Number width)) Nil)))) =
    if bytes_eq u (codes "_") && bytes_eq b (codes "BitVec") then Some width else None
sort_width e = None

-- the sort of the elements of a sort of sets, if the sort is one
abbrev pub element_of : Expression → Option Expression
element_of (Node (Cons (Leaf (Name f)) (Cons e Nil))) = if bytes_eq f (codes "Set") then Some e else None
element_of e = None

-- these sorts as a list
abbrev pub listed_sorts : Expressions → List Expression
listed_sorts Nil = []
listed_sorts (Cons e es) = e ∷ listed_sorts es

-- the arguments of a sort of this datatype
abbrev pub arguments_of : List ℕ → Expression → Option (List Expression)
arguments_of d (Leaf (Name n)) = if bytes_eq d n then Some [] else None
arguments_of d (Node (Cons (Leaf (Name n)) (Cons e es))) = if bytes_eq d n then Some (e ∷ listed_sorts es) else None
arguments_of d e = None

-- parameters with what stands for them
abbrev pub paired : List (List ℕ) → List Expression → List (List ℕ × Expression)
paired [] es = []
paired (p ∷ ps) [] = []
paired (p ∷ ps) (e ∷ es) = (p, e) ∷ paired ps es

abbrev mutual
  -- a sort with its parameters replaced
  pub instance : List (List ℕ × Expression) → Expression → Expression
  instance table (Leaf (Name n)) = unwrap_or (look_up n table) (name n)
  instance table (Leaf a) = Leaf a
  instance table (Node es) = Node (instances table es)

  -- sorts with their parameters replaced
  pub instances : List (List ℕ × Expression) → Expressions → Expressions
  instances table Nil = Nil
  instances table (Cons e es) = Cons (instance table e) (instances table es)

-- the field sorts of a constructor, or of a selector, at a sort of its datatype
abbrev pub fields_at : List ℕ → List (List ℕ) → List Expression → Expression → Option (List Expression)
fields_at d ps fields sort =
    arguments_of d sort >>= λ es. if length es == length ps then Some (map (instance (paired ps es)) fields) else None

-- the table in which the parameter n is the sort s, unless it is another one already
abbrev pub bound : List ℕ → Expression → List (List ℕ × Expression) → Option Expression → Option (List (List ℕ × Expression))
bound n s table None = Some ((n, s) ∷ table)
bound n s table (Some t) = if same_sort s t then Some table else None

abbrev mutual
  -- what each parameter has to be for a field's sort to be the sort given, besides what the table has
  pub match_sort : List (List ℕ) → Expression → Expression → List (List ℕ × Expression) → Option (List (List ℕ × Expression))
  match_sort ps (Leaf (Name n)) s table =
      if is_in n ps then bound n s table (look_up n table) else (if same_sort (name n) s then Some table else None)
  match_sort ps (Leaf a) s table = if same_sort (Leaf a) s then Some table else None
  match_sort ps (Node es) (Leaf b) table = None
  match_sort ps (Node es) (Node fs) table = match_sorts ps es fs table

  -- what each parameter has to be for the sorts of fields to be the sorts given, besides what the table has
  pub match_sorts : List (List ℕ) → Expressions → Expressions → List (List ℕ × Expression) → Option (List (List ℕ × Expression))
  match_sorts ps Nil Nil table = Some table
  match_sorts ps (Cons e es) (Cons f fs) table = match_sort ps e f table >>= match_sorts ps es fs
  match_sorts ps es fs table = None

-- the sorts that parameters are, where each is one
abbrev pub all_bound : List (List ℕ) → List (List ℕ × Expression) → Option (List Expression)
all_bound [] table = Some []
all_bound (p ∷ ps) table = look_up p table >>= λ e. all_bound ps table >>= λ es. Some (e ∷ es)

-- ---- the sorts of expressions

-- for each name, what it is declared as, if it is
abbrev pub Entries : Type 0
Entries = List ℕ → Option Entry

-- what names are declared as in a state
abbrev pub entries : State → Entries
entries s n = look_up n (names_of s)

-- the width, where both are there and are one
abbrev pub two_widths : Option ℕ → Option ℕ → Option ℕ
two_widths v w = v >>= λ m. w >>= λ n. if m == n then Some m else None

-- an operator on two numbers of one width gives bits of that width, or a Boolean (theory FixedSizeBitVectors)
abbrev pub bits_sort : Bool → Bool → List Expression → Option Expression
bits_sort result_bits result_truth (s ∷ t ∷ []) =
    two_widths (sort_width s) (sort_width t) >>=
    λ w. if result_bits then Some (bit_sort w) else (if result_truth then Some bool_sort else None)
bits_sort result_bits result_truth ss = None

-- this sort where the test holds, and else none
abbrev pub if_sort : Bool → Expression → Option Expression
if_sort b s = if b then Some s else None

-- `not` takes a Boolean to a Boolean (theory Core)
abbrev pub not_sort : List Expression → Option Expression
not_sort (s ∷ []) = if_sort (same_sort s bool_sort) bool_sort
not_sort ss = None

-- `and` and `or` take two Booleans to a Boolean (theory Core); our profile has no other number of arguments
abbrev pub two_truths_sort : List Expression → Option Expression
two_truths_sort (s ∷ t ∷ []) = if_sort (same_sort s bool_sort && same_sort t bool_sort) bool_sort
two_truths_sort ss = None

-- `=` takes two arguments of one sort to a Boolean (theory Core)
abbrev pub equal_sort : List Expression → Option Expression
equal_sort (s ∷ t ∷ []) = if_sort (same_sort s t) bool_sort
equal_sort ss = None

-- `ite` takes a Boolean and two arguments of one sort to that sort (theory Core)
abbrev pub choice_sort : List Expression → Option Expression
choice_sort (b ∷ s ∷ t ∷ []) = if_sort (same_sort b bool_sort && same_sort s t) s
choice_sort ss = None

-- `bvneg` takes bits to bits of the same width (theory FixedSizeBitVectors)
abbrev pub negated_sort : List Expression → Option Expression
negated_sort (s ∷ []) = sort_width s >>= λ w. Some s
negated_sort ss = None

-- `zero_extend` takes bits to bits that are wider by k (logic QF_BV), of at most 128 bits in our profile
abbrev pub extended_sort : ℕ → List Expression → Option Expression
extended_sort k (s ∷ []) = sort_width s >>= λ w. if_sort (nat_le (w + k) 128) (bit_sort (w + k))
extended_sort k ss = None

-- `set.member` takes an element and a set of its sort to a Boolean (cvc5's finite sets)
abbrev pub member_sort : List Expression → Option Expression
member_sort (s ∷ t ∷ []) = element_of t >>= λ e. if_sort (same_sort s e) bool_sort
member_sort ss = None

-- `set.subset` and `set.inter` take two sets of one sort, to a Boolean and to that sort (cvc5's finite sets)
abbrev pub two_sets_sort : Bool → List Expression → Option Expression
two_sets_sort result_set (s ∷ t ∷ []) = element_of s >>= λ e. if_sort (same_sort s t) (if result_set then s else bool_sort)
two_sets_sort result_set ss = None

-- `str.in_re` takes a string, beside its pattern, to a Boolean (theory UnicodeStrings)
abbrev pub text_sort : List Expression → Option Expression
text_sort (s ∷ []) = if_sort (same_sort s string_sort) bool_sort
text_sort ss = None

-- The sort that an operator gives to arguments of these sorts, or none where it does not take them: its rank in its theory.
abbrev pub operator_sort : PlainOp → List Expression → Option Expression
operator_sort NotOp ss = not_sort ss
operator_sort AndOp ss = two_truths_sort ss
operator_sort OrOp ss = two_truths_sort ss
operator_sort EqOp ss = equal_sort ss
operator_sort IteOp ss = choice_sort ss
operator_sort BvnegOp ss = negated_sort ss
operator_sort (ZeroExtendOp k) ss = extended_sort k ss
operator_sort SetMemberOp ss = member_sort ss
operator_sort SetSubsetOp ss = two_sets_sort false ss
operator_sort SetInterOp ss = two_sets_sort true ss
operator_sort (StringLikeOp p) ss = text_sort ss
operator_sort op ss = bits_sort (is_some (bit_function op)) (is_some (bit_test op)) ss

-- elements of one sort, and last a set of it
abbrev pub insert_sort : List Expression → Option Expression
insert_sort [] = None
insert_sort (s ∷ []) = element_of s >>= λ e. Some s
insert_sort (s ∷ t ∷ ss) = insert_sort (t ∷ ss) >>= λ u. if_sort (same_sort u (set_sort s)) u

-- The sort that a declared name gives to arguments of these sorts. A constructor's sort has for each parameter what the arguments
-- say of it, so `none` alone has no sort.
abbrev pub entry_sort : Entry → List Expression → Option Expression
entry_sort (Constant sort) ss = if_sort (length ss == 0) sort
entry_sort (Defined sort body) ss = if_sort (length ss == 0) sort
entry_sort (Function argument sort) ss = if_sort (same_sorts (expressions ss) (expressions (argument ∷ []))) sort
entry_sort (Builds d ps place fields) ss =
    match_sorts ps (expressions fields) (expressions ss) [] >>= λ table. all_bound ps table >>= λ es. Some (datatype_sort d es)
entry_sort (Selects d ps c place field) [] = None
entry_sort (Selects d ps c place field) (s ∷ t ∷ ss) = None
entry_sort (Selects d ps c place field) (s ∷ []) =
    arguments_of d s >>= λ es. if_sort (length es == length ps) (instance (paired ps es) field)

-- `(as none S)`: a constructor of S's datatype without arguments
abbrev pub is_constant_at : Option Entry → Expression → Bool
is_constant_at (Some (Builds d ps place [])) sort = is_some (fields_at d ps [] sort)
is_constant_at x sort = false

-- `((_ is c) x)`
abbrev pub tested_sort : Option Entry → List Expression → Option Expression
tested_sort (Some (Builds d ps place fields)) (s ∷ []) = fields_at d ps fields s >>= λ fs. Some bool_sort
tested_sort x ss = None

-- the sort of an application: by its operator, as `set.insert`, or else by what the name is declared as
abbrev pub sort_by_operator : Option PlainOp → List ℕ → List Expression → Option Expression → Option Expression
sort_by_operator (Some op) f ss declared = operator_sort op ss
sort_by_operator None f ss declared = if bytes_eq f (codes "set.insert") then insert_sort ss else declared

-- the sort of `(f x ..)`, by what f is declared as and the sorts of the arguments
abbrev pub applied_sort : Option Entry → List ℕ → List Expression → Option Expression
applied_sort x f ss = sort_by_operator (operator_of f) f ss (x >>= λ y. entry_sort y ss)

-- the sort of a name alone: `true`, `false`, or by what it is declared as
abbrev pub named_sort : Option Entry → List ℕ → Option Expression
named_sort x n =
    if bytes_eq n (codes "true") then Some bool_sort
    else (if bytes_eq n (codes "false") then Some bool_sort else (x >>= λ y. entry_sort y []))

-- the sort of `(as set.empty S)` and `(as none S)`, which is S where S is one of sets, or of the datatype of `none`
abbrev pub qualified_sort : Option Entry → List ℕ → Expression → Option Expression
qualified_sort x c sort =
    if bytes_eq c (codes "set.empty") then (element_of sort >>= λ e. Some sort)
    else if_sort (bytes_eq c (codes "none") && is_constant_at x sort) sort

-- all of these, where each is there
abbrev pub each_there : {A : Type 0} → List (Option A) → Option (List A)
each_there [] = Some []
each_there (x ∷ xs) = x >>= λ a. each_there xs >>= λ as'. Some (a ∷ as')

-- the first of these, if it is there
abbrev pub first_there : {A : Type 0} → List (Option A) → Option A
first_there [] = None
first_there (x ∷ xs) = x

-- the sort of an expression of this form, by the sorts of the expressions behind its head
abbrev pub shape_sort : Entries → Shape → List (Option Expression) → Option Expression
shape_sort here (BitLiteral width number) ss = if_sort (are_bits width number) (bit_sort width)
shape_sort here (Qualified c sort) ss = qualified_sort (here c) c sort
shape_sort here (Applied f) ss = each_there ss >>= applied_sort (here f) f
shape_sort here (Extended bits) ss = each_there ss >>= operator_sort (ZeroExtendOp bits)
shape_sort here (Tested c) ss = each_there ss >>= tested_sort (here c)
shape_sort here (Matched p) ss = first_there ss >>= λ s. operator_sort (StringLikeOp p) (s ∷ [])
shape_sort here Unformed ss = None

abbrev mutual
  -- The sort of an expression, or none where it is not well sorted (SMT-LIB 2.7, chapter 3, "Terms and Formulas").
  pub sort_in : Entries → Expression → Option Expression
  sort_in here (Leaf (Name n)) = named_sort (here n) n
  sort_in here (Leaf (Text t)) = Some string_sort
  sort_in here (Leaf a) = None
  sort_in here (Node Nil) = None
  sort_in here (Node (Cons e es)) = shape_sort here (shape e es) (sorts_in here es)

  -- the sorts of several expressions, of each that has one
  pub sorts_in : Entries → Expressions → List (Option Expression)
  sorts_in here Nil = []
  sorts_in here (Cons e es) = sort_in here e ∷ sorts_in here es

-- the sort of an expression in a state, if it has one
abbrev pub expression_sort : State → Expression → Option Expression
expression_sort s e = sort_in (entries s) e

-- ---- the sorts of values

-- the sorts of a constructor's fields at a sort of its datatype, where it is declared at this place
abbrev pub constructor_fields : Option Entry → ℕ → Expression → Option (List Expression)
constructor_fields (Some (Builds d ps p fields)) place sort = if p == place then fields_at d ps fields sort else None
constructor_fields x place sort = None

abbrev mutual
  -- the value is one of the sort: a string has code points up to 196607, a set ascends strictly
  pub has_sort_in : Entries → Expression → ScriptValue → Bool
  has_sort_in here sort (TruthOf b) = same_sort sort bool_sort
  has_sort_in here sort (BitsOf width number) = same_sort sort (bit_sort width) && are_bits width number
  has_sort_in here sort (TextOf text) = same_sort sort string_sort && list_all is_code_point text
  has_sort_in here sort (ConstructorOf place c values) =
      elim (constructor_fields (here c) place sort) [ Some fields ↦ have_sorts_in here fields values | None ↦ false ]
  has_sort_in here sort (SetOf values) =
      elim (element_of sort) [ Some element ↦ all_have_sort_in here element values && ascends values | None ↦ false ]

  -- as many values as sorts, each of the sort at its place
  pub have_sorts_in : Entries → List Expression → ScriptValues → Bool
  have_sorts_in here [] no_script_values = true
  have_sorts_in here [] (one_script_value v vs) = false
  have_sorts_in here (s ∷ ss) no_script_values = false
  have_sorts_in here (s ∷ ss) (one_script_value v vs) = has_sort_in here s v && have_sorts_in here ss vs

  -- each of these values is of the sort
  pub all_have_sort_in : Entries → Expression → ScriptValues → Bool
  all_have_sort_in here s no_script_values = true
  all_have_sort_in here s (one_script_value v vs) = has_sort_in here s v && all_have_sort_in here s vs
