use Rattle.std.proofs.Common.{◌∷◌, ◌++◌, [], map, ap, ◌∙◌}
use Rattle.std.specs.Rc.{rc_str_bytes}
use Rattle.law_texts.specs.SharedTexts.{texts}
use Rattle.smt_spelling.proofs.Members.{entity_bracketed}
use Rattle.smt_spelling.proofs.entity.entity_constructors.Goals as goal

pub returns : goal.returns
returns c =
    let made = c.in_ok-constructor.ensures.ok ∙ c.in_ok-text.ensures ∙ entity_bracketed c.args.name.now in
    ap texts c.in_ok-push.ensures.items
    ∙ ap (λ l. map rc_str_bytes (l ++ c.in_ok-constructor.constructor ∷ [])) c.in_ok-constructors.ensures.items
    ∙ ap (λ t. t ∷ []) made
