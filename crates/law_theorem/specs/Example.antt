-- A worked example: a Boolean variable b, and the condition that it is false.
use Rattle.std.specs.Prelude.{◌≡◌, ◌↔◌, ℕ, codes, true, false, List, [], ◌∷◌, IsTrue}
use Rattle.law_terms.specs.Plain.{BoolType, BoolLiteral, PlainTerm, LiteralTerm}
use Rattle.law_terms.specs.Interpretations.{IsInterpretation}
use Rattle.law_terms.specs.Tables.{Interpretation}
use Rattle.law_terms.specs.Values.{BoolValue}
use Rattle.law_scripts.specs.ScriptValues.{TruthOf}
use Rattle.law_scripts.specs.Script.{start, name, is_in}
use Rattle.law_scripts.specs.Value.{ScriptInterpretation, IsScriptInterpretation, IsModel, free_names}
use Rattle.law_lines.specs.Naming.{HasDistinctNames}
use Rattle.law_lines.specs.Rows.{bool_variable, not_b, Negation}
use Rattle.law_lines.specs.Text.{names, text}
use Rattle.law_theorem.specs.CarriedInterpretations.{carry_interpretation, back_interpretation}
use Rattle.law_theorem.specs.Conditions.{AreConditions}
use Rattle.law_theorem.specs.Headline.{AreTexts, HaveTermValues, Headline}
use Rattle.law_terms.specs.Meaning.{AreTrue}

-- the literal `true`
abbrev pub true_term : PlainTerm
true_term = LiteralTerm (BoolLiteral true)

-- The main theorem at the one condition `not b`, with what its words come to there.
pub record NegationIsItsScript : Type 0 where
  pub condition : AreConditions [] (not_b ∷ [])
  -- The text, byte for byte: b is t0, and its negation t1, which is asserted.
  pub bytes : Negation
  pub headline : Headline [] (names [] (not_b ∷ [])) (not_b ∷ []) (text [] (not_b ∷ []))
  -- The models are exactly the script's interpretations that give t0 the value false,
  pub models : (J : ScriptInterpretation) → IsScriptInterpretation J headline.state →
      IsModel J headline.state ↔ (J.constants (codes "t0") ≡ TruthOf false)
  -- and the term is true in exactly the interpretations that give b the value false.
  pub true_in : (I : Interpretation) → IsInterpretation [] (not_b ∷ []) I →
      AreTrue I (not_b ∷ []) ↔ (I.variable (codes "b") BoolType ≡ BoolValue false)
  -- Its one free name is t0, and b goes there and comes back from there.
  pub free : (n : List ℕ) → IsTrue (is_in n (free_names headline.state)) ↔ IsTrue (is_in n (codes "t0" ∷ []))
  pub goes : (I : Interpretation) → I.variable (codes "b") BoolType ≡ BoolValue true →
      (carry_interpretation [] (names [] (not_b ∷ [])) I).constants (codes "t0") ≡ TruthOf true
  pub comes : (J : ScriptInterpretation) → J.constants (codes "t0") ≡ TruthOf true →
      (back_interpretation [] (names [] (not_b ∷ [])) J).variable (codes "b") BoolType ≡ BoolValue true
  -- The texts of two terms are these in this order, and no fewer.
  pub in_order : AreTexts (names [] (not_b ∷ [])) (not_b ∷ bool_variable (codes "b") ∷ []) (name (codes "t1") ∷ name (codes "t0") ∷ [])
  pub turned : AreTexts (names [] (not_b ∷ [])) (not_b ∷ bool_variable (codes "b") ∷ []) (name (codes "t0") ∷ name (codes "t1") ∷ []) → ⊥
  pub fewer : AreTexts (names [] (not_b ∷ [])) (not_b ∷ bool_variable (codes "b") ∷ []) (name (codes "t1") ∷ []) → ⊥
  -- Two keys with one name are not one to one.
  pub one_name : HasDistinctNames {K = ℕ} ((1, codes "t0") ∷ (2, codes "t0") ∷ []) → ⊥
  -- An expression has a term's value where the two truths are one.
  pub worth : (I : Interpretation) (J : ScriptInterpretation) → HaveTermValues I J start (true_term ∷ []) (name (codes "true") ∷ [])
  pub other_worth : (I : Interpretation) (J : ScriptInterpretation) →
      HaveTermValues I J start (true_term ∷ []) (name (codes "false") ∷ []) → ⊥
