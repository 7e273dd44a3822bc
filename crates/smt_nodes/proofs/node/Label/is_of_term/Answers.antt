use Rattle.std.proofs.Common.{sym, ap, ◌∙◌}
use Rattle.std.specs.Rc.{rc_str_bytes}
use Rattle.law_terms.specs.Parts.{term_label}
use Rattle.law_terms.specs.Plain.{terms}
use Rattle.law_texts.specs.SharedTexts.{texts}
use Rattle.smt_term.specs.Pairs.{attributes_in}
use Rattle.smt_nodes.proofs.MapNames.{term_names}
use Rattle.smt_term.specs.View.{fields_of, plain_items, plain_term, plain_type, plain_term-App, plain_term-None, plain_term-Prim, plain_term-Record, plain_term-Set, plain_term-Some, plain_term-Var}
use Rattle.smt_nodes.proofs.Matching.{at_label, label_is, literal_is, no_literal, no_record, no_variable, record_of_is, text_is}
use Rattle.smt_nodes.specs.declared.node.Label.TheVariants.{NoneOf, SetOf, SomeOf}
use Rattle.smt_nodes.proofs.node.Label.is_of_term.Goals as goal

pub returns-in-App : goal.returns-in-App
returns-in-App c =
    at_label c.is_of_operator.result c.args.self.now _ _ (ap plain_term c.in-App.is ∙ plain_term-App c.in-App.op c.in-App.args c.in-App.ret_ty) (c.is_of_operator.ensures (terms (plain_items c.in-App.args)) (plain_type c.in-App.ret_ty))

pub returns-in-None : goal.returns-in-None
returns-in-None c = label_is _ c.args.self.now NoneOf _ c.eq.ensures (sym (ap term_label (ap plain_term c.in-None.is ∙ plain_term-None c.in-None.field-0)))

pub returns-in-Prim-self : goal.returns-in-Prim-self
returns-in-Prim-self c =
    at_label c.eq-in-Prim-self.result c.args.self.now _ _ (ap plain_term c.in-Prim.is ∙ plain_term-Prim c.in-Prim.literal) (literal_is c.eq-in-Prim-self.result c.args.self.now c.in-Prim-self.own c.in-Prim.literal c.eq-in-Prim-self.ensures c.in-Prim-self.is)

pub returns-in_default : goal.returns-in_default
returns-in_default c = at_label _ c.args.self.now _ _ (ap plain_term c.in-Prim.is ∙ plain_term-Prim c.in-Prim.literal) (no_literal c.args.self.now _ c.in_default.not-Prim)

pub returns-in-Set : goal.returns-in-Set
returns-in-Set c = label_is _ c.args.self.now SetOf _ c.eq-in-Set.ensures (sym (ap term_label (ap plain_term c.in-Set.is ∙ plain_term-Set c.in-Set.elts_ty c.in-Set.elts)))

pub returns-in-Some : goal.returns-in-Some
returns-in-Some c = label_is _ c.args.self.now SomeOf _ c.eq-in-Some.ensures (sym (ap term_label (ap plain_term c.in-Some.is ∙ plain_term-Some c.in-Some.field-0)))

pub returns-in-Var-self : goal.returns-in-Var-self
returns-in-Var-self c =
    at_label c.eq-in-Var-self.result c.args.self.now _ _ (ap plain_term c.in-Var.is ∙ plain_term-Var c.in-Var.variable) (text_is c.eq-in-Var-self.result c.args.self.now c.in-Var-self.own (rc_str_bytes c.in-Var.variable.id) c.eq-in-Var-self.ensures c.in-Var-self.is)

pub returns-in_default-self-2 : goal.returns-in_default-self-2
returns-in_default-self-2 c = at_label _ c.args.self.now _ _ (ap plain_term c.in-Var.is ∙ plain_term-Var c.in-Var.variable) (no_variable c.args.self.now (rc_str_bytes c.in-Var.variable.id) c.in_default-self-2.not-Var)

pub returns-in-RecordOf : goal.returns-in-RecordOf
returns-in-RecordOf c =
    at_label c.are_attributes_of.result c.args.self.now _ _ (ap plain_term c.in-Record.is ∙ plain_term-Record c.in-Record.fields)
    (record_of_is c.are_attributes_of.result c.args.self.now c.in-RecordOf.own _ _ _ c.in-RecordOf.is (ap texts c.items.ensures) c.are_attributes_of.ensures (ap attributes_in c.items-in-RecordOf.ensures.same ∙ term_names (fields_of c.in-Record.fields)))

pub returns-in_default-self : goal.returns-in_default-self
returns-in_default-self c = at_label _ c.args.self.now _ _ (ap plain_term c.in-Record.is ∙ plain_term-Record c.in-Record.fields) (no_record c.args.self.now _ c.in_default-self.not-RecordOf)
