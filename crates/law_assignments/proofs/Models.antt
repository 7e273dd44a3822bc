-- What terms reach of an assignment is a model of their script where they all evaluate to true.
use Rattle.std.proofs.Common.{◌≡◌}
use Rattle.std.specs.List.{AllByRecursion}
use Rattle.law_assignments.specs.Assignments.{interpretation}
use Rattle.law_assignments.proofs.Given.{covered_is_interpretation}
use Rattle.law_assignments.proofs.Holding.{true_in_all_is_evaluated}
use Rattle.law_assignments.specs.Models.{HoldsMeansModel, RestrictionsAreInterpretations}
use Rattle.law_terms.specs.Interpretations.{IsInterpretation, restrict}
use Rattle.law_terms.specs.Meaning.{term_value}
use Rattle.law_terms.specs.Tables.{Interpretation}
use Rattle.law_terms.proofs.Agreement.{agreeing, restricted, same_values, true_before, true_too}

pub restrictions_are_interpretations : RestrictionsAreInterpretations
restrictions_are_interpretations enums ts I h = agreeing enums I (restrict I ts) ts (restricted ts I) h

pub holds_means_model : HoldsMeansModel
holds_means_model enums s a ts bytes script k c y f =
    let I : Interpretation = interpretation a in
    let i : IsInterpretation enums ts (restrict I ts) = restrictions_are_interpretations enums ts I (covered_is_interpretation enums a ts k c) in
    let same : AllByRecursion (λ t. term_value I t ≡ term_value (restrict I ts) t) ts = same_values I (restrict I ts) ts (restricted ts I) in
    let holds = true_in_all_is_evaluated enums a ts k c y f in
    let model = script.represents.true_in (restrict I ts) i in
    (λ h. model.0 (true_too I (restrict I ts) ts same (holds.0 h)), λ h. holds.1 (true_before I (restrict I ts) ts same (model.1 h)))
