use Rattle.std.proofs.Common.{ℕ, List, [], ap, refl, subst, sym, ◌∙◌}
use Rattle.law_terms.specs.Nodes.{ExtensionLabel, TypeMeaning}
use Rattle.smt_term.specs.ExtensionView.{plain_kind}
use Rattle.law_terms.specs.Plain.{ExtensionType}
use Rattle.smt_nodes.specs.Interned.{meaning_in}
use Rattle.smt_spelling.specs.Names.{enums_under, nodes_under, KeepTables}
use Rattle.smt_spelling.specs.NodeEntries.{declare_by}
use Rattle.smt_spelling.specs.Spelled.{IsSpelled}
use Rattle.smt_spelling.specs.NodeLines.{with_name}
use Rattle.smt_spelling.specs.declared.names.Names.{Names}
use Rattle.smt_encode.proofs.Stopping.{all_of_it, own_part, own_stops}
use Rattle.smt_encode.proofs.writer.Writer.declare_extension.Goals as goal

pub enter_type-requires-clause-meant : goal.enter_type-requires-clause-meant
enter_type-requires-clause-meant g c = (_, ap (λ n. meaning_in (nodes_under n) c.args.id) c.in_ok-name.ensures.alone.names ∙ c.requires.meant)

pub returns-clause-lines : goal.returns-clause-lines
returns-clause-lines g c s has =
    let e = plain_kind c.args.xty in
    let same = c.in_ok-name.ensures.alone.names in
    let put = c.in_ok-name.ensures.lines in
    let keeps = subst (λ (n : Names). KeepTables n s) (sym same) has in
    let meant = ap (λ n. meaning_in (nodes_under n) c.args.id) same ∙ c.requires.meant in
    let names = subst (λ (n : List ℕ). KeepTables c.enter_type.new.self (with_name s (TypeMeaning (ExtensionType e)) n)) (c.in_ok-clone.ensures.cases ∙ put.named) (c.enter_type.ensures.tables s (ExtensionType e) keeps meant refl) in
    (record { names = names; contents_are = put.got }, put.named)

pub returns-in_err-name-clause-lines : goal.returns-in_err-name-clause-lines
returns-in_err-name-clause-lines g c s has =
    own_stops (declare_by (enums_under c.args.self.now.names) (ExtensionLabel (plain_kind c.args.xty)) (ExtensionType (plain_kind c.args.xty)) [] s) IsSpelled _ c.from_residual.result c.from_residual.ensures.1
    (own_part c.args.self.now c.put_ext_type.new.self _ s c.in_err-name.ensures.part (subst (λ (n : Names). KeepTables n s) (sym c.in_err-name.ensures.alone.names) has))

pub returns-in_err-clone-clause-lines : goal.returns-in_err-clone-clause-lines
returns-in_err-clone-clause-lines g c s has =
    own_stops (declare_by (enums_under c.args.self.now.names) (ExtensionLabel (plain_kind c.args.xty)) (ExtensionType (plain_kind c.args.xty)) [] s) IsSpelled _ c.from_residual-in_err-clone.result c.from_residual-in_err-clone.ensures.1
    (own_part c.args.self.now c.put_ext_type.new.self _ s (all_of_it _ _ _ c.in_ok-name.ensures.lines.got) (subst (λ (n : Names). KeepTables n s) (sym c.in_ok-name.ensures.alone.names) has))
