-- A worked example: the negation of the negation of a variable, and small scripts beside it.
use Rattle.std.specs.Prelude.{◌≡◌, ℕ, codes, List, [], ◌∷◌, ◌++◌}
use Rattle.law_terms.specs.Plain.{BoolType, NotOp, PlainTerm}
use Rattle.law_scripts.specs.CommandLines.{SortedScript}
use Rattle.law_scripts.specs.Rows.{IsIllSorted}
use Rattle.law_scripts.specs.Script.{State}
use Rattle.law_lines.specs.NameTables.{Tables}
use Rattle.law_lines.specs.Rows.{not_b, unary}
use Rattle.law_scripts.specs.Written.{option_lines}
use Rattle.law_lines.specs.Text.{names, text}
use Rattle.law_theorem.specs.Conditions.{AreConditions}
use Rattle.law_theorem.specs.FlatScripts.{IsFlatState}
use Rattle.law_theorem.specs.WellWritten.{IsWellWritten}

-- the negation of the negation of the variable b
abbrev pub doubly_negated : PlainTerm
doubly_negated = unary NotOp not_b BoolType

-- a truth t0, and a definition t1 of this sort with this body
abbrev pub small_script : (sort body : List ℕ) → List ℕ
small_script sort body = codes "(declare-const t0 Bool)\n(define-fun t1 () " ++ (sort ++ (codes " " ++ (body ++ codes ")\n")))

-- That the script of the doubly negated variable is well written, which small scripts beside it are well sorted, and that one of
-- these is not flat.
pub record DoubleNegationIsWellWritten : Type 0 where
  pub condition : AreConditions [] (doubly_negated ∷ [])
  -- The text, byte for byte: each of the two negations is defined by the name of its part.
  pub bytes : text [] (doubly_negated ∷ [])
      ≡ option_lines ++ codes "; \"b\"\n(declare-const t0 Bool)\n(define-fun t1 () Bool (not t0))\n"
      ++ codes "(define-fun t2 () Bool (not t1))\n(assert t2)\n"
  -- It is well written with five commands: for `Option`, for three terms, and an assertion.
  pub well_written : IsWellWritten [] (text [] (doubly_negated ∷ [])) (doubly_negated ∷ []) (names [] (doubly_negated ∷ [])) 5
  -- With four it is not.
  pub shorter : IsWellWritten [] (text [] (doubly_negated ∷ [])) (doubly_negated ∷ []) (names [] (doubly_negated ∷ [])) 4 → ⊥
  -- A script is well sorted where the definition of a negation has the sort Bool, and is not where it has the sort String.
  pub sorted : (state : State) × SortedScript (small_script (codes "Bool") (codes "(not t0)")) state
  pub ill_sorted : (state : State) × IsIllSorted (small_script (codes "String") (codes "(not t0)")) state
  -- With the inner negation written inline the script is well sorted, but it is flat under no names.
  pub nested : (state : State) × SortedScript (small_script (codes "Bool") (codes "(not (not t0))")) state
      × ((s : Tables) → IsFlatState [] (doubly_negated ∷ []) s state → ⊥)
