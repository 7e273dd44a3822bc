-- Worked examples of numbers, variables and terms.
use Rattle.std.specs.Prelude.{◌≡◌, codes, map, [], ◌∷◌}
use Rattle.law_numbers.specs.BitOperators.{BvaddOp, BvsltOp}
use Rattle.law_terms.specs.Plain.{BitVecLiteral, BitVecType, BitsOp, BoolType, Application, LiteralTerm, TestOp, VariableTerm, terms}
use Rattle.smt_cli.specs.Generated.{generated_term, generated_terms, generated_variables, number_after}

-- the numbers behind some seeds, the ids of the variables, and terms at chosen places
pub record GeneratedRows : Type 0 where
  -- the first two numbers behind 0, and the first behind the greatest seed
  pub first_number : number_after 0 1 ≡ 1442695040888963407
  pub second_number : number_after 0 2 ≡ 1876011003808476466
  pub behind_greatest : number_after 18446744073709551615 1 ≡ 13525302890751722018
  -- the ids of the variables
  pub ids :
      map (λ v. v.0) generated_variables
      ≡ codes "x0" ∷ codes "x1" ∷ codes "x2" ∷ codes "x3" ∷ codes "x4" ∷ codes "x5" ∷ codes "x6" ∷ codes "x7" ∷ []
  -- `(bvslt (bvadd x7 x0) C)` stands at place 7
  pub eighth :
      generated_term 0 7
      ≡ Application (TestOp BvsltOp)
      (terms (Application (BitsOp BvaddOp)
      (terms (VariableTerm (codes "x7") (BitVecType 64) ∷ VariableTerm (codes "x0") (BitVecType 64) ∷ [])) (BitVecType 64)
      ∷ LiteralTerm (BitVecLiteral 64 (number_after 0 8)) ∷ []))
      BoolType
  -- a job of one term more has these and one behind them
  pub two_terms : generated_terms 5 2 ≡ generated_term 5 0 ∷ generated_term 5 1 ∷ []
