-- What declared names and operators give where they are applied, and what a datatype leaves.
use Rattle.std.specs.Prelude.{◌≡◌, ℕ, suc, Bool, true, not, ◌&&◌, ◌||◌, ◌==◌, codes, bytes_eq, length, map, List, [], ◌∷◌, ◌++◌, Option}
use Rattle.std.specs.Prelude.{Some}
use Rattle.std.specs.List.{list_all, AllByRecursion}
use Rattle.law_terms.specs.Plain.{PatternPart, PlainOp, StringLikeOp, ZeroExtendOp}
use Rattle.law_scripts.specs.ScriptValues.{ScriptValue, TruthOf, ConstructorOf, SetOf, ScriptValues, no_script_values}
use Rattle.law_texts.specs.Reading.{Expression, Leaf, expressions}
use Rattle.law_texts.specs.Lexicon.{Number}
use Rattle.law_scripts.specs.ScriptOperators.{script_name, theory_operators}
use Rattle.law_scripts.specs.Script.{Command, DeclareDatatype, Reset, Push, Pop, Constructor, Entry, Function, Builds, Selects, State}
use Rattle.law_scripts.specs.Script.{group, name, built_in_names, is_in, is_reserved, is_taken, is_new_datatype, is_sort, has_sort}
use Rattle.law_scripts.specs.Script.{names_of, pattern, operator_of, with_sort, obey, step}
use Rattle.law_texts.specs.Options.{◌>>=◌}
use Rattle.law_scripts.specs.Sorts.{entries, entry_sort, each_there, sorts_in, expression_sort, operator_sort, insert_sort}
use Rattle.law_scripts.specs.Value.{ScriptInterpretation, expression_value, meaning, evaluate_each, operator_value, script_values, in_table}
use Rattle.law_scripts.specs.Value.{selected, inserted}

-- neither built in nor reserved
abbrev pub is_own : List ℕ → Bool
is_own n = not (is_in n built_in_names || is_reserved n)

-- the values of arguments, where each has one
abbrev pub argument_values : ScriptInterpretation → State → List Expression → Option (List ScriptValue)
argument_values j s es = each_there (evaluate_each (entries s) (meaning j (names_of s)) (expressions es))

-- the sorts of arguments, where each has one
abbrev pub argument_sorts : State → List Expression → Option (List Expression)
argument_sorts s es = each_there (sorts_in (entries s) (expressions es))

-- Each operator of a theory is found by its name, and what is found by a name has that name.
pub record OperatorsAreFoundBySpelling : Type 0 where
  pub found : AllByRecursion (λ op. operator_of (script_name op) ≡ Some op) theory_operators
  pub spelled : (n : List ℕ) (op : PlainOp) → operator_of n ≡ Some op → n ≡ script_name op

-- `(op x ..)`
abbrev pub OperatorsApply : Type 0
OperatorsApply = (j : ScriptInterpretation) (s : State) (f : List ℕ) (op : PlainOp) (es : List Expression) → operator_of f ≡ Some op
    → (expression_value j s (group (name f ∷ es)) ≡ (argument_values j s es >>= operator_value op))
    × (expression_sort s (group (name f ∷ es)) ≡ (argument_sorts s es >>= operator_sort op))

-- `(c x ..)` for a constructor: its value has the arguments' values, where there are as many as it has fields
abbrev pub ConstructorsApply : Type 0
ConstructorsApply =
    (j : ScriptInterpretation) (s : State) (c d : List ℕ) (ps : List (List ℕ)) (place : ℕ) (fields : List Expression) (e : Expression)
    (es : List Expression) (vs : List ScriptValue) → is_own c ≡ true
    → entries s c ≡ Some (Builds d ps place fields) → argument_values j s (e ∷ es) ≡ Some vs → (length vs == length fields) ≡ true
    → expression_value j s (group (name c ∷ e ∷ es)) ≡ Some (ConstructorOf place c (script_values vs))

-- a constructor without arguments, by its name alone
abbrev pub BareConstructorsHaveValues : Type 0
BareConstructorsHaveValues = (j : ScriptInterpretation) (s : State) (c d : List ℕ) (ps : List (List ℕ)) (place : ℕ) → is_own c ≡ true
    → entries s c ≡ Some (Builds d ps place []) → expression_value j s (name c) ≡ Some (ConstructorOf place c (script_values []))

-- `(f x)` for a function: what its table in the interpretation gives for the argument's value
abbrev pub FunctionsApply : Type 0
FunctionsApply = (j : ScriptInterpretation) (s : State) (f : List ℕ) (argument sort e : Expression) (v : ScriptValue) → is_own f ≡ true
    → entries s f ≡ Some (Function argument sort) → expression_value j s e ≡ Some v →
    expression_value j s (group (name f ∷ e ∷ [])) ≡ Some (in_table (j.functions f) v)

-- `(s x)` for a selector: what it selects of the argument's value
abbrev pub SelectorsApply : Type 0
SelectorsApply =
    (j : ScriptInterpretation) (s : State) (f d : List ℕ) (ps : List (List ℕ)) (c : List ℕ) (place : ℕ) (field e : Expression)
    (v : ScriptValue) → is_own f ≡ true
    → entries s f ≡ Some (Selects d ps c place field) → expression_value j s e ≡ Some v →
    expression_value j s (group (name f ∷ e ∷ [])) ≡ selected j f d ps c place (expression_sort s e) v

-- the sort of an application
abbrev pub ApplicationsHaveSorts : Type 0
ApplicationsHaveSorts =
    (s : State) (f : List ℕ) (x : Entry) (e : Expression) (es : List Expression) → is_own f ≡ true → entries s f ≡ Some x
    → expression_sort s (group (name f ∷ e ∷ es)) ≡ (argument_sorts s (e ∷ es) >>= entry_sort x)

-- ---- what a datatype leaves

-- names, with the selectors of a constructor in front of them, from a place on, the newest first
abbrev pub selectors_named : List ℕ → List (List ℕ) → List ℕ → ℕ → List (List ℕ × Expression) → List (List ℕ × Entry) →
    List (List ℕ × Entry)
selectors_named d ps c place [] names = names
selectors_named d ps c place (x ∷ xs) names = selectors_named d ps c (suc place) xs ((x.0, Selects d ps c place x.1) ∷ names)

-- names, with the constructors of a datatype and their selectors in front of them, from a place on, the newest first
abbrev pub constructors_named : List ℕ → List (List ℕ) → ℕ → List Constructor → List (List ℕ × Entry) → List (List ℕ × Entry)
constructors_named d ps place [] names = names
constructors_named d ps place (c ∷ cs) names =
    constructors_named d ps (suc place) cs
    (selectors_named d ps c.name 0 c.selectors ((c.name, Builds d ps place (map (λ x. x.1) c.selectors)) ∷ names))

-- the state with these names in place of those of its last level
abbrev pub with_names : List (List ℕ × Entry) → State → State
with_names names s = record s { last = record s.last { names = names } }

-- names that a datatype declares
abbrev pub names_in : List Constructor → List (List ℕ)
names_in [] = []
names_in (c ∷ cs) = c.name ∷ (map (λ x. x.0) c.selectors ++ names_in cs)

-- none is taken, and none stands twice
abbrev pub are_new : State → List (List ℕ) → Bool
are_new s [] = true
are_new s (n ∷ ns) = not (is_taken s n) && (not (is_in n ns) && are_new s ns)

-- each field has a sort that is there, where the datatype's parameters count as sorts
abbrev pub are_fields : State → List (List ℕ) → List (List ℕ × Expression) → Bool
are_fields s ps xs = list_all (λ x. is_sort (λ n k. has_sort s n k || (is_in n ps && (k == 0))) x.1) xs

-- A datatype of new names, with fields of sorts that are there, is obeyed. It leaves its names and its sort, and nothing else.
abbrev pub DatatypesLeave : Type 0
DatatypesLeave = (d : List ℕ) (ps : List (List ℕ)) (cs : List Constructor) (s : State)
    → is_new_datatype s d ps cs ≡ true → are_new s (names_in cs) ≡ true → list_all (λ c. are_fields s ps c.selectors) cs ≡ true
    → obey (DeclareDatatype d ps cs) s ≡ Some (with_sort d (length ps) (with_names (constructors_named d ps 0 cs s.last.names) s))

-- ---- levels

-- A command within a level leaves the levels below as they are.
abbrev pub StepsKeepLevels : Type 0
StepsKeepLevels = (c : Command) (s t : State) → (c ≡ Reset → ⊥) → (c ≡ Push → ⊥) → (c ≡ Pop → ⊥) → step c s ≡ Some t → t.below ≡ s.below

-- `(pop 1)` gives back what stood before the `(push 1)`.
abbrev pub PopsGiveBack : Type 0
PopsGiveBack = (s t : State) → t.below ≡ s.last ∷ s.below → t.ended ≡ s.ended → obey Pop t ≡ Some s

-- ---- the other forms

-- `(_ f index)`
abbrev pub indexed_name : List ℕ → Expression → Expression
indexed_name f index = group (name (codes "_") ∷ name f ∷ index ∷ [])

-- `((_ f index) e)`
abbrev pub indexed_by : List ℕ → Expression → Expression → Expression
indexed_by f index e = group (indexed_name f index ∷ e ∷ [])

-- `(as c sort)`
abbrev pub as_sort : List ℕ → Expression → Expression
as_sort c sort = group (name (codes "as") ∷ name c ∷ sort ∷ [])

-- `((_ zero_extend k) x)`
abbrev pub ExtensionsApply : Type 0
ExtensionsApply = (j : ScriptInterpretation) (s : State) (k : ℕ) (e : Expression)
    → (expression_value j s (indexed_by (codes "zero_extend") (Leaf (Number k)) e)
    ≡ (expression_value j s e >>= λ v. operator_value (ZeroExtendOp k) (v ∷ [])))
    × (expression_sort s (indexed_by (codes "zero_extend") (Leaf (Number k)) e)
    ≡ (expression_sort s e >>= λ t. operator_sort (ZeroExtendOp k) (t ∷ [])))

-- `((_ is c) x)`
abbrev pub TestsApply : Type 0
TestsApply =
    (j : ScriptInterpretation) (s : State) (c d : List ℕ) (ps : List (List ℕ)) (place : ℕ) (fields : List Expression) (e : Expression)
    (p : ℕ) (n : List ℕ) (vs : ScriptValues)
    → entries s c ≡ Some (Builds d ps place fields) → expression_value j s e ≡ Some (ConstructorOf p n vs) →
    expression_value j s (indexed_by (codes "is") (name c) e) ≡ Some (TruthOf (bytes_eq c n))

-- `(str.in_re x R)`
abbrev pub MatchesApply : Type 0
MatchesApply = (j : ScriptInterpretation) (s : State) (e r : Expression) (p : List PatternPart) → pattern r ≡ Some p
    → (expression_value j s (group (name (codes "str.in_re") ∷ e ∷ r ∷ []))
    ≡ (expression_value j s e >>= λ v. operator_value (StringLikeOp p) (v ∷ [])))
    × (expression_sort s (group (name (codes "str.in_re") ∷ e ∷ r ∷ []))
    ≡ (expression_sort s e >>= λ t. operator_sort (StringLikeOp p) (t ∷ [])))

-- `(as none S)` has the value `none`, where a constructor of that name without fields is declared
abbrev pub NonesHaveValues : Type 0
NonesHaveValues = (j : ScriptInterpretation) (s : State) (d : List ℕ) (ps : List (List ℕ)) (place : ℕ) (sort : Expression)
    → entries s (codes "none") ≡ Some (Builds d ps place []) →
    expression_value j s (as_sort (codes "none") sort) ≡ Some (ConstructorOf place (codes "none") no_script_values)

-- `(as set.empty S)` is the empty set, and `(set.insert x .. s)` puts the elements into the set
abbrev pub SetsHaveValues : Type 0
SetsHaveValues = (j : ScriptInterpretation) (s : State) (sort x y : Expression) (es : List Expression)
    → (expression_value j s (as_sort (codes "set.empty") sort) ≡ Some (SetOf no_script_values))
    × (expression_value j s (group (name (codes "set.insert") ∷ x ∷ y ∷ es)) ≡ (argument_values j s (x ∷ y ∷ es) >>= inserted))
    × (expression_sort s (group (name (codes "set.insert") ∷ x ∷ y ∷ es)) ≡ (argument_sorts s (x ∷ y ∷ es) >>= insert_sort))
