use Rattle.std.proofs.Common.{ap, sym, ◌∙◌}
use Rattle.std.specs.Prelude.{is_some}
use Rattle.law_terms.specs.Nodes.{TypeMeaning}
use Rattle.law_lines.specs.NameTables.{name_of_type}
use Rattle.smt_nodes.specs.Interned.{meaning_in}
use Rattle.smt_term.specs.View.{plain_type}
use Rattle.smt_spelling.specs.Names.{nodes_under, texts_under}
use Rattle.smt_spelling.proofs.Selecting.{name_of_none, named_type, same_finding}
use Rattle.smt_spelling.proofs.names.Names.written_type.Goals as goal

pub returns-in_err-id-clause-named : goal.returns-in_err-id-clause-named
returns-in_err-id-clause-named g c s are has =
    let t = plain_type c.args.ty.now in
    ap is_some c.from_residual.ensures ∙ ap is_some (name_of_none (nodes_under c.args.self.now) c.nodes.result.now (texts_under c.args.self.now) (TypeMeaning t) (name_of_type s t) c.nodes.ensures c.in_err-id.ensures.none (are.names (TypeMeaning t)))

pub returns-in-Some-clause-named : goal.returns-in-Some-clause-named
returns-in-Some-clause-named g c s are has =
    let t = plain_type c.args.ty.now in
    let meant = ap (λ i. meaning_in i c.in_ok-id.id) (sym c.nodes.ensures) ∙ c.in_ok-id.ensures.found in
    ap is_some (sym c.in-Some.is) ∙ same_finding _ c.text.result (name_of_type s t) (c.text.ensures.text ∙ named_type c.args.self.now s c.in_ok-id.id t are meant has)

pub returns-in-None-clause-named : goal.returns-in-None-clause-named
returns-in-None-clause-named g c s are has =
    let t = plain_type c.args.ty.now in
    let meant = ap (λ i. meaning_in i c.in_ok-id.id) (sym c.nodes.ensures) ∙ c.in_ok-id.ensures.found in
    ap is_some (sym c.in-None.is) ∙ same_finding _ c.text.result (name_of_type s t) (c.text.ensures.text ∙ named_type c.args.self.now s c.in_ok-id.id t are meant has)
