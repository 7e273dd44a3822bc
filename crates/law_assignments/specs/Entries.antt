-- The assignment that the entries of an input state, from the left. In an entry its name is looked at first, then whether it was
-- given before, and then its values.
use Rattle.std.specs.Prelude.{ℕ, Bool, true, ◌&&◌, bytes_eq, map, List, [], ◌∷◌, ◌++◌, Option, Ok, is_none}
use Rattle.std.specs.Bool.{then_some}
use Rattle.std.specs.List.{list_all}
use Rattle.std.specs.Map.{lookup}
use Rattle.std.specs.Option.{option_and_then}
use Rattle.std.specs.Result.{result_ok}
use Rattle.law_assignments.specs.Assignments.{PlainAssignment, is_of_other_family}
use Rattle.law_folding.specs.Built.{built}
use Rattle.law_texts.specs.Reading.{Expression}
use Rattle.law_jobs.specs.Declarations.{Declared, declared}
use Rattle.law_jobs.specs.Terms.{term_of}
use Rattle.law_terms.specs.Faults.{literal_fault}
use Rattle.law_terms.specs.Functions.{PlainDefinition}
use Rattle.law_terms.specs.Interpretations.{selector_eq}
use Rattle.law_terms.specs.Literals.{is_literal}
use Rattle.law_terms.specs.Names.{extension_op_name, op_name}
use Rattle.law_terms.specs.Plain.{IpAddrKind, PlainType, ExtensionType, ExtensionOp, IpAddrV4Op, IpAddrV6Op, IpPrefixV4Op, IpPrefixV6Op}
use Rattle.law_terms.specs.Plain.{OptionGetOp, PlainTerm, LiteralTerm}
use Rattle.law_terms.specs.Reached.{subterms}
use Rattle.law_terms.specs.TermOrder.{term_cmp, term_eq}
use Rattle.law_terms.specs.Types.{extension_signature, type_eq, type_of}
use Rattle.law_terms.specs.TypeValues.{Enums}
use Rattle.law_terms.specs.ValueOrder.{sorted}
use Rattle.law_assignments.specs.Outcomes.{InputOutcome, unless_given, NoValue, UnknownEntry}
use Rattle.law_texts.specs.Outcomes.{◌>>=◌, demanded}
use Rattle.law_assignments.specs.Written.{WrittenInput, WrittenTable}

-- one term by itself: a literal in which an entity of an enum type is a member, and each text one that strings can have
abbrev pub is_faultless_leaf : Enums → PlainTerm → Bool
is_faultless_leaf enums (LiteralTerm l) = is_none (literal_fault enums l)
is_faultless_leaf enums t = true

-- a term is a value of a type: a literal of it, each of whose parts is faultless
abbrev pub is_value : Enums → PlainType → PlainTerm → Bool
is_value enums ty t = is_literal t && (type_eq (type_of t) ty && list_all (is_faultless_leaf enums) (subterms t))

-- entries one behind the other, where each is read in view of those before it; or the first fault
abbrev pub given_by : {A W : Type 0} → (List A → W → InputOutcome A) → List A → List W → InputOutcome (List A)
given_by of before [] = Ok before
given_by of before (w ∷ ws) = of before w >>= λ a. given_by of (before ++ a ∷ []) ws

-- the selectors of IP ranges, by their names
abbrev pub selector_named : List ℕ → Option ExtensionOp
selector_named n = lookup (bytes_eq n) (map (λ o. (extension_op_name o, o)) (IpAddrV4Op ∷ IpAddrV6Op ∷ IpPrefixV4Op ∷ IpPrefixV6Op ∷ []))

module _ (ds : Declared) where
  -- the value that an expression states: its term, as it is built, where that is a value of the type and passes a test
  abbrev pub value_in : PlainType → (PlainTerm → Bool) → Expression → Option PlainTerm
  value_in ty test e =
      option_and_then (λ t. then_some (is_value ds.enums ty (built t) && test (built t)) (built t)) (result_ok (term_of ds e))

  -- the value of a type that an expression states in the entry of a name, or the fault that it states none
  abbrev pub value_of : (name : List ℕ) → PlainType → Expression → InputOutcome PlainTerm
  value_of name ty e = demanded (NoValue name) (value_in ty (λ t. true) e)

  -- a key and its value, where no key is given twice
  abbrev pub pair_of : (name : List ℕ) → (argument output : PlainType) → (PlainTerm → Bool) → List (PlainTerm × PlainTerm) →
      Expression × Expression → InputOutcome (PlainTerm × PlainTerm)
  pair_of name argument output test before w =
      demanded (NoValue name) (value_in argument test w.0) >>=
      λ k. unless_given (lookup (term_eq k) before) name >>= λ n. value_of name output w.1 >>= λ v. Ok (k, v)

  -- a table whose keys pass a test, with its pairs in the order of their keys
  abbrev pub table_of : (argument output : PlainType) → (PlainTerm → Bool) → WrittenTable → InputOutcome PlainDefinition
  table_of argument output test w =
      value_of w.name output w.elsewhere >>= λ d. given_by (pair_of w.name argument output test) [] w.entries >>= λ es.
      Ok (record { argument = argument; output = output; entries = sorted (λ p q. term_cmp p.0 q.0) es; elsewhere = d })

  -- the value of a variable of the job, which must have none yet
  abbrev pub assigned_variable : List (List ℕ × PlainTerm) → List ℕ × Expression → InputOutcome (List ℕ × PlainTerm)
  assigned_variable before w =
      demanded (UnknownEntry w.0) (declared ds.variables w.0) >>=
      λ ty. unless_given (lookup (bytes_eq w.0) before) w.0 >>= λ id. value_of id ty w.1 >>= λ v. Ok (id, v)

  -- the table of a function of the job, which must have none yet, with the function's types
  abbrev pub assigned_function : List (List ℕ × PlainDefinition) → WrittenTable → InputOutcome (List ℕ × PlainDefinition)
  assigned_function before w =
      demanded (UnknownEntry w.name) (declared ds.functions w.name) >>=
      λ f.
      unless_given (lookup (bytes_eq w.name) before) w.name >>= λ id. table_of f.argument f.output (λ k. true) w >>= λ d. Ok (id, d)

  -- what `option.get` of none gives at an inner type, which must have nothing yet
  abbrev pub get_of : List (PlainType × PlainTerm) → PlainType × Expression → InputOutcome (PlainType × PlainTerm)
  get_of before w = unless_given (lookup (type_eq w.0) before) (op_name OptionGetOp) >>= λ name. value_of name w.0 w.1 >>= λ v. Ok (w.0, v)

  -- the table of a selector of IP ranges, which must have none yet: its keys are ranges of the other family
  abbrev pub selector_of : List (ExtensionOp × PlainDefinition) → WrittenTable → InputOutcome (ExtensionOp × PlainDefinition)
  selector_of before w =
      demanded (UnknownEntry w.name) (selector_named w.name) >>= λ o. unless_given (lookup (selector_eq o) before) w.name >>= λ n.
      table_of (ExtensionType IpAddrKind) (extension_signature o).1 (is_of_other_family o) w >>= λ d. Ok (o, d)

  -- the assignment that an input states for what a job declares: its variables, functions, inner types and selectors, in this order
  abbrev pub assignment_of : WrittenInput → InputOutcome PlainAssignment
  assignment_of w =
      given_by assigned_variable [] w.variables >>=
      λ vs.
      given_by assigned_function [] w.functions >>= λ fs. given_by get_of [] w.gets >>= λ gs. given_by selector_of [] w.selectors >>= λ ss.
      Ok (record { variables = vs; functions = fs; gets = gs; selectors = ss })
