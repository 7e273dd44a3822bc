-- What the tables of the program say, and for which states of a script they stand.
use Rattle.std.specs.Prelude.{◌≡◌, ◌<◌, ◌≤◌, ℕ, Bool, true, false, codes, if◌then◌else◌, length, map, reverse, take, List, [], ◌∷◌, ◌++◌}
use Rattle.std.specs.Prelude.{Option, Some, None, is_some, slice_index_or}
use Rattle.std.specs.Rc.{rc_str_bytes}
use Rattle.law_texts.specs.Reading.{Expression}
use Rattle.law_scripts.specs.ScriptValues.{TruthOf}
use Rattle.law_scripts.specs.Script.{Entry, State, are_distinct, assertions_of, declared_sorts, knows, look_up, name}
use Rattle.law_scripts.specs.Sorts.{entries}
use Rattle.law_scripts.specs.Value.{ScriptInterpretation, expression_value}
use Rattle.law_verdicts.specs.FirstModel.{constants_of}
use Rattle.law_verdicts.specs.Fragment.{is_truth}
use Rattle.smt_mini.specs.declared.gate.Gate.{Gate}
use Rattle.smt_mini.specs.declared.gate.Gate.TheVariants.{Input}
use Rattle.smt_mini.specs.declared.tables.Mark.{Mark}
use Rattle.smt_mini.specs.declared.names.Name.{Name}
use Rattle.smt_mini.specs.declared.tables.Tables.{Tables}
use Rattle.smt_mini.specs.Gates.{gate_truth}

-- ---- without memory

-- a name with its gate
abbrev pub plain_name : Name → List ℕ × Option ℕ
plain_name n = (rc_str_bytes n.text, n.gate)

-- gates, names, constants and assertions, each in order, and whether the datatype Option is declared
pub record Table : Type 0 where
  pub gates : List Gate
  pub names : List (List ℕ × Option ℕ)
  pub constants : List (List ℕ)
  pub assertions : List ℕ
  pub options : Bool

-- what the tables say
abbrev pub table_of : Tables → Table
table_of t = record {
  gates = t.gates.items;
  names = map plain_name t.names.items;
  constants = map rc_str_bytes t.constants.items;
  assertions = t.assertions.items;
  options = t.options;
}

-- what was declared of a name last
abbrev pub found_in : Table → List ℕ → Option (Option ℕ)
found_in t n = look_up n (reverse t.names)

-- nothing declared or asserted
abbrev pub empty_table : Table
empty_table = record { gates = []; names = []; constants = []; assertions = []; options = false }

-- the table with more gates
abbrev pub gained : Table → List Gate → Table
gained t gs = record t { gates = t.gates ++ gs }

-- the table with one more name
abbrev pub with_name : Table → List ℕ → Option ℕ → Table
with_name t n gate = record t { names = t.names ++ (n, gate) ∷ [] }

-- the table with one more constant, whose gate is an input
abbrev pub with_constant : Table → List ℕ → Table
with_constant t n =
    record t {
      gates = t.gates ++ Input (length t.constants) ∷ [];
      names = t.names ++ (n, Some (length t.gates)) ∷ [];
      constants = t.constants ++ n ∷ [];
    }

-- the table with the constructors and the selector of the datatype Option, which have no gates
abbrev pub with_options : Table → Table
with_options t = record (with_name (with_name (with_name t (codes "none") None) (codes "some") None) (codes "val") None) { options = true }

-- the table with one more assertion
abbrev pub with_assertion : Table → ℕ → Table
with_assertion t p = record t { assertions = t.assertions ++ p ∷ [] }

-- how much there is
abbrev pub mark_of : Table → Mark
mark_of t =
    record {
      gates = length t.gates;
      names = length t.names;
      constants = length t.constants;
      assertions = length t.assertions;
      options = t.options;
    }

-- the table without what came behind a mark
abbrev pub cut : Mark → Table → Table
cut m t =
    record {
      gates = take m.gates t.gates;
      names = take m.names t.names;
      constants = take m.constants t.constants;
      assertions = take m.assertions t.assertions;
      options = m.options;
    }

-- The mark was set in a table of which this one has all.
pub record IsMarked (m : Mark) (t : Table) : Type 0 where
  pub gates : m.gates ≤ length t.gates
  pub names : m.names ≤ length t.names
  pub constants : m.constants ≤ length t.constants
  pub assertions : m.assertions ≤ length t.assertions

-- ---- what gates stand for

-- the interpretation that gives each constant its truth by name; what it gives of all else does not matter
abbrev pub by_name : (List ℕ → Bool) → ScriptInterpretation
by_name f = record {
  constants = λ n. TruthOf (f n);
  functions = λ n. record { pairs = []; default = TruthOf false };
  options = λ sort. TruthOf false;
  selectors = λ n. record { pairs = []; default = TruthOf false };
}

-- Each of these constants has the truth of the input of its place.
abbrev pub Agrees : (List ℕ → Bool) → (ℕ → Bool) → List (List ℕ) → Type 0
Agrees f at cs = (k : ℕ) → k < length cs → f (slice_index_or cs k []) ≡ at k

-- The names of the expression are there, and the gate has its truth, whatever the constants have.
pub record HasValue (t : Table) (s : State) (e : Expression) (p : ℕ) : Type 0 where
  pub within : p < length t.gates
  pub known : knows s e ≡ true
  pub value : (f : List ℕ → Bool) (at : ℕ → Bool) → Agrees f at t.constants →
      expression_value (by_name f) s e ≡ Some (TruthOf (gate_truth at t.gates p))

-- So it is for each expression and its gate.
abbrev pub HaveValues : Table → State → List Expression → List ℕ → Type 0
HaveValues t s [] [] = Unit {0}
HaveValues t s [] (p ∷ ps) = ⊥
HaveValues t s (e ∷ es) [] = ⊥
HaveValues t s (e ∷ es) (p ∷ ps) = HasValue t s e p × HaveValues t s es ps

-- A name has a gate exactly where it is a constant or a definition of sort Bool, and none where it is declared as something else.
abbrev pub FitsEntry : Option (Option ℕ) → Option Entry → Type 0
FitsEntry None x = x ≡ None
FitsEntry (Some None) x = (is_some x ≡ true) × (is_truth x ≡ false)
FitsEntry (Some (Some p)) x = is_truth x ≡ true

-- The tables stand for what this state of a script declares and asserts.
pub record Fits (t : Table) (s : State) : Type 0 where
  pub names : (n : List ℕ) → FitsEntry (found_in t n) (entries s n)
  pub values : (n : List ℕ) (p : ℕ) → found_in t n ≡ Some (Some p) → HasValue t s (name n) p
  pub assertions : HaveValues t s (assertions_of s) t.assertions
  pub constants : t.constants ≡ constants_of s
  pub distinct : are_distinct t.constants ≡ true
  pub sorts : declared_sorts s ≡ (if t.options then (codes "Option", 1) ∷ [] else [])
