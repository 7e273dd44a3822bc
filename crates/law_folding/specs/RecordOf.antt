-- The record of typed terms.
use Rattle.std.specs.Prelude.{◌≡◌, ℕ, false, bytes_eq, IsTrue, List, [], ◌∷◌, map, option_map, Option, reverse}
use Rattle.std.specs.Map.{lookup}
use Rattle.std.specs.Option.{option_map_or}
use Rattle.law_folding.specs.Refinement.{ReachNoMore}
use Rattle.law_terms.specs.Meaning.{term_value}
use Rattle.law_terms.specs.Operators.{attribute_value}
use Rattle.law_terms.specs.Plain.{PlainTerm}
use Rattle.law_terms.specs.Tables.{Interpretation}
use Rattle.law_terms.specs.Types.{attribute_type, type_of}
use Rattle.law_terms.specs.Typing.{typed}
use Rattle.law_terms.specs.Values.{BoolValue}

-- the term that stands last with an attribute among pairs
abbrev pub last_given : List (List ℕ × PlainTerm) → List ℕ → Option PlainTerm
last_given ps x = lookup (bytes_eq x) (reverse ps)

-- r is a typed record that has the attributes of the pairs and no other, each with the type of the term that was given last with
-- it. In each interpretation an attribute's value is the value of that term. It reaches no more than the terms do.
pub record IsRecordOf (ps : List (List ℕ × PlainTerm)) (r : PlainTerm) : Type 0 where
  pub typed : IsTrue (typed r)
  pub types : (x : List ℕ) → attribute_type x (type_of r) ≡ option_map type_of (last_given ps x)
  pub value : (I : Interpretation) (x : List ℕ) →
      attribute_value x (term_value I r) ≡ option_map_or (term_value I) (last_given ps x) (BoolValue false)
  pub reached : ReachNoMore (r ∷ []) (map (λ p. p.1) ps)
