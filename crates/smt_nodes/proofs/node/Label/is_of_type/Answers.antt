use Rattle.std.proofs.Common.{sym, ap, ◌∙◌}
use Rattle.law_terms.specs.Parts.{type_label}
use Rattle.smt_term.specs.Entities.{bytes_of_type}
use Rattle.law_texts.specs.SharedTexts.{texts}
use Rattle.smt_term.specs.Pairs.{attributes_in}
use Rattle.smt_nodes.proofs.MapNames.{type_names}
use Rattle.smt_term.specs.View.{attributes_held, plain_type, plain_type-Option, plain_type-Bitvec, plain_type-Bool, plain_type-Entity, plain_type-Ext, plain_type-Record, plain_type-String, plain_type-Set}
use Rattle.smt_nodes.proofs.Matching.{at_type_label, entity_type_is, label_is, no_entity_type, no_record_label, record_type_is}
use Rattle.smt_nodes.specs.declared.node.Label.TheVariants.{TOption, TBitvec, TBool, TExt, TString, TSet}
use Rattle.smt_nodes.proofs.node.Label.is_of_type.Goals as goal

pub returns-in-Option : goal.returns-in-Option
returns-in-Option c = label_is _ c.args.self.now TOption _ c.eq.ensures (sym (ap type_label (ap plain_type c.in-Option.is ∙ plain_type-Option c.in-Option.ty)))

pub returns-in-Bitvec : goal.returns-in-Bitvec
returns-in-Bitvec c = label_is _ c.args.self.now (TBitvec c.in-Bitvec.n) _ c.eq-in-Bitvec.ensures (sym (ap type_label (ap plain_type c.in-Bitvec.is ∙ plain_type-Bitvec c.in-Bitvec.n)))

pub returns-in-Bool : goal.returns-in-Bool
returns-in-Bool c = label_is _ c.args.self.now TBool _ c.eq-in-Bool.ensures (sym (ap type_label (ap plain_type c.in-Bool.is ∙ plain_type-Bool)))

pub returns-in-TEntity : goal.returns-in-TEntity
returns-in-TEntity c = at_type_label c.eq-in-TEntity.result c.args.self.now _ _ (ap plain_type c.in-Entity.is ∙ plain_type-Entity c.in-Entity.ety) (entity_type_is c.eq-in-TEntity.result c.args.self.now c.in-TEntity.own c.in-Entity.ety c.eq-in-TEntity.ensures c.in-TEntity.is)

pub returns-in_default : goal.returns-in_default
returns-in_default c = at_type_label _ c.args.self.now _ _ (ap plain_type c.in-Entity.is ∙ plain_type-Entity c.in-Entity.ety) (no_entity_type c.args.self.now (bytes_of_type c.in-Entity.ety) c.in_default.not-TEntity)

pub returns-in-Ext : goal.returns-in-Ext
returns-in-Ext c = label_is _ c.args.self.now (TExt c.in-Ext.xty) _ c.eq-in-Ext.ensures (sym (ap type_label (ap plain_type c.in-Ext.is ∙ plain_type-Ext c.in-Ext.xty)))

pub returns-in-String : goal.returns-in-String
returns-in-String c = label_is _ c.args.self.now TString _ c.eq-in-String.ensures (sym (ap type_label (ap plain_type c.in-String.is ∙ plain_type-String)))

pub returns-in-Set : goal.returns-in-Set
returns-in-Set c = label_is _ c.args.self.now TSet _ c.eq-in-Set.ensures (sym (ap type_label (ap plain_type c.in-Set.is ∙ plain_type-Set c.in-Set.ty)))

pub returns-in-TRecord : goal.returns-in-TRecord
returns-in-TRecord c =
    at_type_label c.are_attributes_of.result c.args.self.now _ _ (ap plain_type c.in-Record.is ∙ plain_type-Record c.in-Record.rty)
    (record_type_is c.are_attributes_of.result c.args.self.now c.in-TRecord.own _ _ _ c.in-TRecord.is (ap texts c.items.ensures) c.are_attributes_of.ensures (ap attributes_in c.items-in-TRecord.ensures.same ∙ type_names (attributes_held c.in-Record.rty)))

pub returns-in_default-self : goal.returns-in_default-self
returns-in_default-self c = at_type_label _ c.args.self.now _ _ (ap plain_type c.in-Record.is ∙ plain_type-Record c.in-Record.rty) (no_record_label c.args.self.now _ c.in_default-self.not-TRecord)
