-- Choices, equalities and connectives of literals, as they are folded.
use Rattle.std.proofs.Common.{◌≡◌, ℕ, ◌<◌, Bool, true, false, refl, arith}
use Rattle.std.specs.Prelude.{cond, ◌&&◌, ◌||◌}
use Rattle.law_folding.specs.Applications.{bits_literal, false_term, true_term, truth_literal}
use Rattle.law_folding.specs.Builder.{folding}
use Rattle.law_folding.specs.FoldEquality.{folded_ite_inside}
use Rattle.law_folding.proofs.ConnectivesStand.{same_term}
use Rattle.law_terms.specs.Plain.{Application, LiteralTerm, NoneTerm, PlainTerm, RecordTerm, SetTerm, SomeTerm, VariableTerm}
use Rattle.law_terms.specs.TermOrder.{term_eq}

-- a choice with the guard false is the second, also where both are equal
pub chosen_otherwise : (t u : PlainTerm) → folded_ite_inside false_term t u ≡ u
chosen_otherwise t u = by (term_eq t u) refl
  where
    by : (b : Bool) → term_eq t u ≡ b → cond b t u ≡ u
    by true e = same_term t u e
    by false e = refl

-- bits that are not zero
pub is_not_zero : (v : ℕ) → 0 < v → folding.eq (bits_literal 64 v) (bits_literal 64 0) ≡ false_term
is_not_zero v h = by (term_eq (bits_literal 64 v) (bits_literal 64 0)) refl
  where
    by : (b : Bool) → term_eq (bits_literal 64 v) (bits_literal 64 0) ≡ b → cond b true_term false_term ≡ false_term
    by true e =
        let same : bits_literal 64 v ≡ bits_literal 64 0 = same_term (bits_literal 64 v) (bits_literal 64 0) e in
        let zero : v ≡ 0 = cc in
        absurd (omega arith)
    by false e = refl

-- ---- literals of truth values

pub truth_and : (x y : Bool) → folding.and (truth_literal x) (truth_literal y) ≡ truth_literal (x && y)
truth_and true true = refl
truth_and true false = refl
truth_and false true = refl
truth_and false false = refl

pub truth_or : (x y : Bool) → folding.or (truth_literal x) (truth_literal y) ≡ truth_literal (x || y)
truth_or true true = refl
truth_or true false = refl
truth_or false true = refl
truth_or false false = refl

-- what is false in a conjunction makes it false, whatever the other is
pub false_and : (u : PlainTerm) → folding.and false_term u ≡ false_term
false_and u = by (term_eq false_term u || term_eq u true_term)
  where
    by : (b : Bool) → cond b false_term false_term ≡ false_term
    by true = refl
    by false = refl

-- a choice with the guard known, between a literal of a truth value and another term
pub chosen_first : (b : Bool) (u : PlainTerm) → folding.ite true_term (truth_literal b) u ≡ truth_literal b
chosen_first b u = refl

pub chosen_second : (t : PlainTerm) (b : Bool) → folding.ite false_term t (truth_literal b) ≡ truth_literal b
chosen_second (Application o ts ty) b = chosen_otherwise (Application o ts ty) (truth_literal b)
chosen_second (NoneTerm ty) b = chosen_otherwise (NoneTerm ty) (truth_literal b)
chosen_second (LiteralTerm l) b = chosen_otherwise (LiteralTerm l) (truth_literal b)
chosen_second (RecordTerm fs) b = chosen_otherwise (RecordTerm fs) (truth_literal b)
chosen_second (SetTerm ty ts) b = chosen_otherwise (SetTerm ty ts) (truth_literal b)
chosen_second (SomeTerm t) b = chosen_otherwise (SomeTerm t) (truth_literal b)
chosen_second (VariableTerm x ty) b = chosen_otherwise (VariableTerm x ty) (truth_literal b)
