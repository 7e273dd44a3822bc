-- Rules on IP ranges: a test whether a range is of a family, and its lowest and highest address. What they promise, and what is
-- known then of a range and a list.
use Rattle.std.specs.Prelude.{◌≡◌, ◌⊎◌, ℕ, ◌≤◌, true, List, [], ◌∷◌}
use Rattle.std.specs.List.{AllByRecursion, AllZip}
use Rattle.smt_ext.specs.IpRanges.{Range}
use Rattle.law_extensions.specs.ExtensionFunctions.{in_range_v, is_ipv4, is_ipv6, range_v4, range_v6}
use Rattle.law_extensions.specs.Values.{HasRange, Tells}
use Rattle.law_folding.specs.Builder.{applied}
use Rattle.law_folding.specs.Refinement.{Refines}
use Rattle.law_terms.specs.Formed.{IsFormed}
use Rattle.law_terms.specs.Interpretations.{IsInterpretation}
use Rattle.law_terms.specs.Meaning.{term_value}
use Rattle.law_terms.specs.Operators.{number}
use Rattle.law_terms.specs.Plain.{BitVecType, BoolType, PlainTerm, PlainType}
use Rattle.law_terms.specs.Tables.{Interpretation}
use Rattle.law_terms.specs.TypeValues.{Enums}
use Rattle.law_terms.specs.Typing.{Typed}
use Rattle.law_terms.specs.Values.{BoolValue}

-- a Boolean term is true
abbrev pub HoldsIn : Interpretation → PlainTerm → Type 0
HoldsIn I t = term_value I t ≡ BoolValue true

-- the number of a term of bits
abbrev pub number_in : Interpretation → PlainTerm → ℕ
number_in I t = number (term_value I t)

-- an address is one of those from the first to the second
abbrev pub LiesBetween : Interpretation → ℕ → (PlainTerm × PlainTerm) → Type 0
LiesBetween I a p = (number_in I p.0 ≤ a) × (a ≤ number_in I p.1)

-- Of every term with a range for its value: the test is a Boolean term, the bounds are terms of bits of one width, which is the
-- same for every term, and where the test is true, they bound a block: the lowest address is at most the highest.
pub record IsRangeRule (test : PlainTerm → PlainTerm) (bounds : PlainTerm → (PlainTerm × PlainTerm)) : Type 0 where
  pub width : ℕ
  pub tested : (I : Interpretation) (t : PlainTerm) (r : Range) → HasRange I t r → Typed (test t) BoolType
  pub bounded : (I : Interpretation) (t : PlainTerm) (r : Range) → HasRange I t r →
      Typed (bounds t).0 (BitVecType width) × Typed (bounds t).1 (BitVecType width)
  pub block : (enums : Enums) (I : Interpretation) (t : PlainTerm) (r : Range) → HasRange I t r →
      IsInterpretation enums (test t ∷ (bounds t).0 ∷ (bounds t).1 ∷ []) I → HoldsIn I (test t) →
      number_in I (bounds t).0 ≤ number_in I (bounds t).1

-- every address of the first's block is one of the second's
abbrev pub BlockLiesIn : Interpretation → (PlainTerm × PlainTerm) → (PlainTerm × PlainTerm) → Type 0
BlockLiesIn I p q = (a : ℕ) → LiesBetween I a p → LiesBetween I a q

-- one of a list is of the family, and its block contains the first's
abbrev pub LiesInOneOfFamily : Interpretation → (test : PlainTerm → PlainTerm) → (bounds : PlainTerm → (PlainTerm × PlainTerm)) →
    PlainTerm → List PlainTerm → Type 0
LiesInOneOfFamily I test bounds t [] = ⊥
LiesInOneOfFamily I test bounds t (x ∷ xs) =
    (HoldsIn I (test x) × BlockLiesIn I (bounds t) (bounds x)) ⊎ LiesInOneOfFamily I test bounds t xs

-- By a rule, what is built of a term and a list, where that is formed, and what stands for it, is true in every interpretation of
-- what is built exactly where the term is of the family and lies in one of the list that is.
abbrev pub RuleTells : (test : PlainTerm → PlainTerm) → (bounds : PlainTerm → (PlainTerm × PlainTerm)) → PlainTerm → List PlainTerm →
    PlainTerm → Type 0
RuleTells test bounds t ts u =
    (enums : Enums) (I : Interpretation) (r : Range) (rs : List Range) → HasRange I t r → AllZip (HasRange I) ts rs →
    IsInterpretation enums (in_range_v applied test bounds t ts ∷ []) I → IsFormed (in_range_v applied test bounds t ts)
    → Tells I u (HoldsIn I (test t) × LiesInOneOfFamily I test bounds t ts)

-- the test and the bounds of a term are formed, as every term of the program is
pub record AreFormedAt (test : PlainTerm → PlainTerm) (bounds : PlainTerm → (PlainTerm × PlainTerm)) (t : PlainTerm) : Type 0 where
  pub tested : IsFormed (test t)
  pub lowest : IsFormed (bounds t).0
  pub highest : IsFormed (bounds t).1

-- the rules of both families, which give formed terms, and what is known by any rule
pub record RulesAreKept : Type 0 where
  pub v4 : IsRangeRule (is_ipv4 applied) (range_v4 applied)
  pub v6 : IsRangeRule (is_ipv6 applied) (range_v6 applied)
  pub formed_v4 : (I : Interpretation) (t : PlainTerm) (r : Range) → HasRange I t r → AreFormedAt (is_ipv4 applied) (range_v4 applied) t
  pub formed_v6 : (I : Interpretation) (t : PlainTerm) (r : Range) → HasRange I t r → AreFormedAt (is_ipv6 applied) (range_v6 applied) t
  -- what is built of formed terms is formed
  pub formed : (test : PlainTerm → PlainTerm) (bounds : PlainTerm → (PlainTerm × PlainTerm)) (t : PlainTerm) (ts : List PlainTerm) →
      AllByRecursion (AreFormedAt test bounds) (t ∷ ts) → IsFormed (in_range_v applied test bounds t ts)
  pub in_range_v : (test : PlainTerm → PlainTerm) (bounds : PlainTerm → (PlainTerm × PlainTerm)) (t : PlainTerm) (ts : List PlainTerm)
      (u : PlainTerm) → IsRangeRule test bounds → Refines u (in_range_v applied test bounds t ts) → RuleTells test bounds t ts u
