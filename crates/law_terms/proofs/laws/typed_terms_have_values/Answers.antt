use Rattle.std.proofs.Common.{false, [], sym, subst}
use Rattle.std.specs.Prelude.{cond, None}
use Rattle.law_terms.specs.Faults.{term_fault}
use Rattle.law_terms.specs.Interpretations.{IsGiven}
use Rattle.law_terms.specs.Meaning.{meaning}
use Rattle.law_terms.specs.Reached.{subterms}
use Rattle.law_terms.specs.Types.{type_of}
use Rattle.law_terms.specs.Typing.{typed}
use Rattle.law_terms.specs.TypeValues.{IsValue}
use Rattle.law_terms.proofs.Soundness.{all-front, none-first, valued}
use Rattle.law_terms.proofs.laws.typed_terms_have_values.Goals as goal
use Rattle.law_terms.specs.Values.{BoolValue}

pub returns : goal.returns
returns c enums I t ty h w f g =
    subst (λ x. IsValue enums x (cond (typed t) (meaning I t) (BoolValue false))) h.type (subst (λ b. IsValue enums (type_of t) (cond b (meaning I t) (BoolValue false))) (sym h.parts) (valued enums I t h.parts (none-first (term_fault enums t) None f) w.literals (all-front (IsGiven enums I) (subterms t) [] g)))
