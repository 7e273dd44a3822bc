-- The first model of a script of Boolean constants: in order of declaration, false before true.
use Rattle.std.specs.Prelude.{◌≡◌, ℕ, zero, suc, Bool, true, false, IsTrue, if◌then◌else◌, bytes_eq, map, length, List, [], ◌∷◌, ◌++◌}
use Rattle.std.specs.Prelude.{Option, Some, None}
use Rattle.std.specs.List.{list_all}
use Rattle.std.specs.Option.{option_or}
use Rattle.law_scripts.specs.ScriptValues.{ScriptValue, TruthOf}
use Rattle.law_scripts.specs.Script.{Entry, Constant, State, names_of, assertions_of}
use Rattle.law_texts.specs.Options.{◌>>=◌}
use Rattle.law_scripts.specs.Value.{ScriptInterpretation, IsModel, IsScriptInterpretation, expression_value}
use Rattle.law_verdicts.specs.Fragment.{IsSmall}

-- ---- truths of constants

-- the declared constants among names with their entries, of which the latest stands first: here in order of declaration
abbrev pub constants_in : List (List ℕ × Entry) → List (List ℕ)
constants_in [] = []
constants_in (d ∷ older) = elim d.1 [ Constant sort ↦ constants_in older ++ d.0 ∷ [] | x ↦ constants_in older ]

-- the declared constants of all levels of a state, in order of declaration
abbrev pub constants_of : State → List (List ℕ)
constants_of s = constants_in (names_of s)

-- the truth that a list of truths gives a name by its place among these names; any other name is false
abbrev pub truth_at : List (List ℕ) → List Bool → List ℕ → Bool
truth_at [] bs m = false
truth_at (n ∷ ns) [] m = false
truth_at (n ∷ ns) (b ∷ bs) m = if bytes_eq m n then b else truth_at ns bs m

-- the interpretation that gives the constants these truths; what it gives of all else does not matter
abbrev pub given : List (List ℕ) → List Bool → ScriptInterpretation
given ns bs = record {
  constants = λ n. TruthOf (truth_at ns bs n);
  functions = λ n. record { pairs = []; default = TruthOf false };
  options = λ sort. TruthOf false;
  selectors = λ n. record { pairs = []; default = TruthOf false };
}

-- the interpretation that gives the constants of a state these truths
abbrev pub model_of : State → List Bool → ScriptInterpretation
model_of s bs = given (constants_of s) bs

-- the truth of a value; what is no truth value is false
abbrev pub truth_of : ScriptValue → Bool
truth_of (TruthOf b) = b
truth_of v = false

-- what an interpretation gives the constants
abbrev pub truths_of : ScriptInterpretation → State → List Bool
truths_of j s = map (λ n. truth_of (j.constants n)) (constants_of s)

-- ---- the search

-- there is a value, and it is true
abbrev pub is_true : Option ScriptValue → Bool
is_true (Some (TruthOf b)) = b
is_true v = false

-- every assertion of a state is true in an interpretation
abbrev pub is_model : ScriptInterpretation → State → Bool
is_model j s = list_all (λ e. is_true (expression_value j s e)) (assertions_of s)

-- The first list of so many truths of which the test holds. Lists are tried in the order of counting, false before true, the first
-- place counting most.
abbrev pub first_such : ℕ → (List Bool → Bool) → Option (List Bool)
first_such zero holds = if holds [] then Some [] else None
first_such (suc n) holds =
    option_or (first_such n (λ bs. holds (false ∷ bs)) >>= λ bs. Some (false ∷ bs))
    (first_such n (λ bs. holds (true ∷ bs)) >>= λ bs. Some (true ∷ bs))

-- the truths that the first model gives the constants
abbrev pub first_model : State → Option (List Bool)
first_model s = first_such (length (constants_of s)) (λ bs. is_model (model_of s bs) s)

-- The truths are the same, or the first has false where they first differ.
abbrev pub comes_no_later : List Bool → List Bool → Bool
comes_no_later [] bs = true
comes_no_later (a ∷ as') [] = false
comes_no_later (false ∷ as') (true ∷ bs) = true
comes_no_later (true ∷ as') (false ∷ bs) = false
comes_no_later (true ∷ as') (true ∷ bs) = comes_no_later as' bs
comes_no_later (false ∷ as') (false ∷ bs) = comes_no_later as' bs

-- ---- the laws

-- No interpretation of the script is a model.
abbrev pub HasNone : State → Type 0
HasNone s = (j : ScriptInterpretation) → IsScriptInterpretation j s → IsModel j s → ⊥

-- These truths give a model, and each model gives the same truths or later ones.
pub record IsFirst (s : State) (bs : List Bool) : Type 0 where
  pub interprets : IsScriptInterpretation (model_of s bs) s
  pub model : IsModel (model_of s bs) s
  pub first : (j : ScriptInterpretation) → IsScriptInterpretation j s → IsModel j s → IsTrue (comes_no_later bs (truths_of j s))

-- A script of the fragment has no model exactly where the search finds none, and what it finds is the first model.
abbrev pub ModelsAreFound : Type 0
ModelsAreFound =
    (s : State) → IsSmall s →
    (first_model s ≡ None → HasNone s) × (HasNone s → first_model s ≡ None) × ((bs : List Bool) → first_model s ≡ Some bs → IsFirst s bs)
