use Rattle.std.proofs.Common.{sym, ◌∙◌}
use Rattle.std.specs.Option.{option_and_then}
use Rattle.law_verdicts.specs.Fragment.{option_named}
use Rattle.smt_mini.proofs.Shapes.{option_by, found}
use Rattle.law_texts.specs.Parts.{both, name_in}
use Rattle.smt_sexpr.specs.View.{plain_list}
use Rattle.smt_mini.proofs.command.option.Goals as goal

pub returns : goal.returns
returns c = c.option_named.ensures ∙ sym (option_by (plain_list c.args.operands.now)
    ∙ found (λ p. option_and_then (λ n. option_named n p.1) (name_in p.0)) (both (plain_list c.args.operands.now)) _ c.in_ok-option.ensures
    ∙ found (λ n. option_named n _) _ _ c.in_ok-name_in.ensures)
