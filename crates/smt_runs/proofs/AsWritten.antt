-- What a script says of terms as they are written, and not as they are built.
use Rattle.std.proofs.Common.{ℕ, List, map}
use Rattle.std.specs.List.{AllByRecursion}
use Rattle.std.specs.Prelude.{◌↔◌}
use Rattle.law_terms.specs.Interpretations.{IsInterpretation, restrict}
use Rattle.law_terms.specs.Meaning.{AreTrue}
use Rattle.law_terms.specs.Plain.{PlainTerm}
use Rattle.law_terms.specs.Tables.{Interpretation}
use Rattle.law_terms.specs.TypeValues.{Enums}
use Rattle.law_terms.proofs.Agreement.{agreeing, restricted, same_values, true_before, true_too}
use Rattle.law_folding.specs.Built.{built}
use Rattle.law_scripts.specs.Value.{IsModel}
use Rattle.law_lines.specs.NameTables.{Tables}
use Rattle.law_theorem.specs.CarriedInterpretations.{carry_interpretation}
use Rattle.law_theorem.specs.Headline.{Headline}
use Rattle.law_jobs.specs.Laws.{IsCondition}
use Rattle.law_jobs.proofs.BuiltConditions.{as_built}

module _ (enums : Enums) (I : Interpretation) where
  -- an interpretation that makes the written terms true is one of the built terms, and makes these true
  pub true_as_built : (ts : List PlainTerm) → AllByRecursion IsCondition ts → IsInterpretation enums ts I → AreTrue I ts → IsInterpretation enums (map built ts) I × AreTrue I (map built ts)
  true_as_built ts h given hold =
      let both = as_built enums I ts h given in
      (both.0, both.1.0 hold)

  pub as_written : (names : Tables) (bytes : List ℕ) (ts : List PlainTerm) (headline : Headline enums names (map built ts) bytes) → AllByRecursion IsCondition ts → IsInterpretation enums ts I
      → AreTrue I ts ↔ IsModel (carry_interpretation enums names (restrict I (map built ts))) headline.state
  as_written names bytes ts headline h given =
      let both = as_built enums I ts h given in
      let kept = restrict I (map built ts) in
      let agree = restricted (map built ts) I in
      let alike = same_values I kept (map built ts) agree in
      let models = headline.represents.true_in kept (agreeing enums I kept (map built ts) agree both.0) in
      (λ true. models.0 (true_too I kept (map built ts) alike (both.1.0 true)), λ model. both.1.1 (true_before I kept (map built ts) alike (models.1 model)))
