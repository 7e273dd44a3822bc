use Rattle.std.proofs.Common.{false, [], sym, subst}
use Rattle.std.specs.Prelude.{cond}
use Rattle.law_terms.specs.Interpretations.{IsGiven}
use Rattle.law_terms.specs.Meaning.{meaning}
use Rattle.law_terms.specs.Reached.{subterms}
use Rattle.law_terms.specs.Shapes.{IsShaped}
use Rattle.law_terms.specs.Types.{type_of}
use Rattle.law_terms.specs.Typing.{typed}
use Rattle.law_terms.proofs.Shapes.{shaped, term_shaped}
use Rattle.law_terms.proofs.Soundness.{all-front}
use Rattle.law_terms.proofs.laws.typed_terms_have_shapes.Goals as goal
use Rattle.law_terms.specs.Values.{BoolValue}

pub returns-clause-values : goal.returns-clause-values
returns-clause-values c enums ty v h = shaped enums ty v h

pub returns-clause-terms : goal.returns-clause-terms
returns-clause-terms c enums I t ty h w g =
    subst (λ x. IsShaped x (cond (typed t) (meaning I t) (BoolValue false))) h.type (subst (λ b. IsShaped (type_of t) (cond b (meaning I t) (BoolValue false))) (sym h.parts) (term_shaped enums I t h.parts w.literals (all-front (IsGiven enums I) (subterms t) [] g)))
