use Rattle.std.proofs.Common.{option_map, sym, ap, ◌∙◌}
use Rattle.law_scripts.specs.Script.{DefineFun}
use Rattle.smt_mini.proofs.Shapes.{definition_by, found}
use Rattle.law_texts.specs.Parts.{both}
use Rattle.smt_sexpr.specs.View.{plain_list}
use Rattle.smt_mini.specs.Commands.{signature_of}
use Rattle.smt_mini.proofs.command.definition.Goals as goal

pub returns : goal.returns
returns c = sym (definition_by (plain_list c.args.operands.now)
    ∙ found (λ p. option_map (λ q. DefineFun p.0 q.0 q.1) (both p.1)) (signature_of (plain_list c.args.operands.now)) _ c.in_ok-name.ensures
    ∙ ap (option_map (λ q. DefineFun _ q.0 q.1)) (sym c.in_ok-sort.ensures))
