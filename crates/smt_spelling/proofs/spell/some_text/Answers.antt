use Rattle.std.proofs.Common.{refl, ◌∙◌}
use Rattle.std.specs.Prelude.{codes}
use Rattle.std.proofs.lemmas.Result.{IfOk-weaker}
use Rattle.law_scripts.specs.Script.{name}
use Rattle.law_texts.specs.SharedTexts.{texts}
use Rattle.smt_spelling.proofs.Bracketed.{bracketed}
use Rattle.smt_spelling.proofs.spell.some_text.Goals as goal

pub returns : goal.returns
returns c es shown = IfOk-weaker c.application_text.result _ _ (λ t f. f ∙ bracketed (codes "some") (name (codes "some")) (texts c.args.operands.now) es refl shown) c.application_text.ensures
