use Rattle.std.proofs.Common.{sym, ap, ◌∙◌}
use Rattle.std.specs.Option.{option_and_then}
use Rattle.law_verdicts.specs.Fragment.{command_with}
use Rattle.smt_mini.proofs.Shapes.{command_by, found}
use Rattle.law_texts.specs.Parts.{first_apart, inside_of, name_in}
use Rattle.smt_sexpr.specs.View.{plain, plain_list}
use Rattle.smt_mini.proofs.command.command_of.Goals as goal

pub returns : goal.returns
returns c = c.command_with.ensures ∙ ap (λ n. command_with n (plain_list c.in_ok-head.operands.now)) c.as_str.ensures.value ∙ sym (command_by (plain c.args.expression.now)
    ∙ found (λ es. option_and_then (λ p. option_and_then (λ n. command_with n p.1) (name_in p.0)) (first_apart es)) (inside_of (plain c.args.expression.now)) _ c.in_ok-inside_of.ensures
    ∙ found (λ p. option_and_then (λ n. command_with n p.1) (name_in p.0)) (first_apart _) _ c.in_ok-head.ensures
    ∙ found (λ n. command_with n (plain_list c.in_ok-head.operands.now)) _ _ c.in_ok-name_in.ensures)
