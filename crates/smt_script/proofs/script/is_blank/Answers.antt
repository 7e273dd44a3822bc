use Rattle.std.proofs.lemmas.List.{length-map}
use Rattle.law_texts.specs.SharedTexts.{texts}
use Rattle.law_texts.proofs.LineTexts.{spaced-two}
use Rattle.smt_script.proofs.script.is_blank.Goals as goal

pub returns-in-len2-up : goal.returns-in-len2-up
returns-in-len2-up c = (λ h. absurd (cc), λ e. absurd (spaced-two (texts c.args.params.now) (simp length-map c.in-len2-up.len_at_least) e))
