-- The set of typed elements.
use Rattle.std.specs.Prelude.{◌≡◌, List, [], ◌∷◌, map}
use Rattle.law_folding.specs.Refinement.{ReachNoMore}
use Rattle.law_terms.specs.Meaning.{term_value}
use Rattle.law_terms.specs.Plain.{PlainType, SetType, PlainTerm}
use Rattle.law_terms.specs.Tables.{Interpretation}
use Rattle.law_terms.specs.Typing.{Typed}
use Rattle.law_terms.specs.ValueOrder.{set_of}

-- r is a typed set of elements of this type. In each interpretation its value is the set of the values of the terms: these in
-- the order of values, each once. It reaches no more than they do.
pub record IsSetOf (element : PlainType) (ts : List PlainTerm) (r : PlainTerm) : Type 0 where
  pub type : Typed r (SetType element)
  pub value : (I : Interpretation) → term_value I r ≡ set_of (map (term_value I) ts)
  pub reached : ReachNoMore (r ∷ []) ts
