-- One term in place of another: what a call that folds gives, in place of the application that it was asked for.
use Rattle.std.specs.Prelude.{◌≡◌, List, [], ◌∷◌, Contains, ⊤}
use Rattle.law_terms.specs.Formed.{IsFormed}
use Rattle.law_terms.specs.Interpretations.{IsInterpretation}
use Rattle.law_terms.specs.Meaning.{term_value}
use Rattle.law_terms.specs.Reached.{reached_variables, reached_functions, reached_options, reached_selectors}
use Rattle.law_terms.specs.Tables.{Interpretation}
use Rattle.law_terms.specs.Typing.{Typed}
use Rattle.law_terms.specs.TypeValues.{Enums}
use Rattle.law_terms.specs.Plain.{PlainType, PlainTerm, PlainFields, no_fields, one_field}

-- each member of the first list is a member of the second
abbrev pub AreAmong : {X : Type 0} → List X → List X → Type 0
AreAmong {X} xs ys = (x : X) → Contains xs x → Contains ys x

-- The first terms reach nothing that is open to interpretation and that the second do not reach.
pub record ReachNoMore (ts us : List PlainTerm) : Type 0 where
  pub variables : AreAmong (reached_variables ts) (reached_variables us)
  pub functions : AreAmong (reached_functions ts) (reached_functions us)
  pub options : AreAmong (reached_options ts) (reached_options us)
  pub selectors : AreAmong (reached_selectors ts) (reached_selectors us)

-- The first term stands for the second and may be put in its place: it is formed and typed where the original is, with the same
-- type, reaches no variable, function, option or selector that the original does not reach, and has the original's value in every
-- interpretation of it. The other way round nothing is said: the folded term may reach less, and then leaves more free.
pub record Refines (folded original : PlainTerm) : Type 0 where
  pub formed : IsFormed original → IsFormed folded
  pub type : (ty : PlainType) → Typed original ty → Typed folded ty
  pub variables : AreAmong (reached_variables (folded ∷ [])) (reached_variables (original ∷ []))
  pub functions : AreAmong (reached_functions (folded ∷ [])) (reached_functions (original ∷ []))
  pub options : AreAmong (reached_options (folded ∷ [])) (reached_options (original ∷ []))
  pub selectors : AreAmong (reached_selectors (folded ∷ [])) (reached_selectors (original ∷ []))
  pub value : (ty : PlainType) (enums : Enums) (I : Interpretation) → IsFormed original → Typed original ty →
      IsInterpretation enums (original ∷ []) I → term_value I folded ≡ term_value I original

-- fields of two records, name by name, whose terms stand for one another
abbrev pub FieldsRefine : PlainFields → PlainFields → Type 0
FieldsRefine no_fields no_fields = ⊤
FieldsRefine (one_field a t fs) (one_field b u gs) = (a ≡ b) × Refines t u × FieldsRefine fs gs
FieldsRefine fs gs = ⊥
