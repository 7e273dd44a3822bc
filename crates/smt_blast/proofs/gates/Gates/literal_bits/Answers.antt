use Rattle.std.proofs.Common.{◌∷◌, [], ◌++◌, ◌∙◌, ap, List, sym, subst}
use Rattle.law_blasting.specs.Blasted.{value_bits}
use Rattle.law_blasting.specs.Circuits.{number_bits}
use Rattle.law_blasting.specs.Passing.{none, one}
use Rattle.law_terms.specs.Meaning.{literal_value}
use Rattle.law_terms.specs.Plain.{PlainTerm}
use Rattle.law_terms.specs.Types.{literal_type}
use Rattle.smt_blast.specs.Standing.{AreBits}
use Rattle.smt_blast.specs.Tables.{literals}
use Rattle.smt_nodes.specs.declared.id.NodeId.{NodeId}
use Rattle.smt_term.specs.View.{plain_literal}
use Rattle.smt_term.specs.declared.term.TermPrim.{TermPrim}
use Rattle.smt_term.specs.declared.term.TermPrim.TheVariants.{Bool}
use Rattle.smt_blast.proofs.Operating.{nothing_stands}
use Rattle.smt_blast.proofs.gates.Gates.literal_bits.Goals as goal

bits_of : TermPrim → List PlainTerm
bits_of l = literals (value_bits (literal_type (plain_literal l)) (literal_value (plain_literal l)))

pub returns-in_ok-push_number-in-Bitvec : goal.returns-in_ok-push_number-in-Bitvec
unfolding bits_of
returns-in_ok-push_number-in-Bitvec c =
    let i = c.args.self.now.nodes in
    let start = subst (λ (l : List NodeId). AreBits i l []) (sym c.new-bits.ensures.items) none in
    subst (λ (l : List PlainTerm). AreBits i c.push_number.new.bits.items l)
    (ap (λ n. literals (number_bits n c.to_nat.result)) (c.get.ensures.value ∙ c.width.ensures) ∙ ap (λ a. literals (number_bits c.in-Bitvec.value.width.bits a)) c.to_nat.ensures.value ∙ sym (ap bits_of c.in-Bitvec.is)) (c.in_ok-push_number-in-Bitvec.ensures [] start)

pub returns-in_ok-push-in-Bool : goal.returns-in_ok-push-in-Bool
unfolding bits_of
returns-in_ok-push-in-Bool c =
    let i = c.args.self.now.nodes in
    subst (λ (l : List PlainTerm). AreBits i c.push.new.self.items l) (sym (ap bits_of c.in-Bool.is))
    (subst (λ (l : List NodeId). AreBits i l (bits_of (Bool c.in-Bool.truth))) (sym (c.in_ok-push-in-Bool.ensures.items ∙ ap (λ (l : List NodeId). l ++ c.literal.result ∷ []) c.new-bits.ensures.items)) (one c.literal.ensures none))

pub returns-in-Entity : goal.returns-in-Entity
unfolding bits_of
returns-in-Entity c = nothing_stands c.args.self.now.nodes c.new-bits.result.items (bits_of c.args.literal.now) c.new-bits.ensures.items (ap bits_of c.in-Entity.is)

pub returns-in-Ext : goal.returns-in-Ext
unfolding bits_of
returns-in-Ext c = nothing_stands c.args.self.now.nodes c.new-bits.result.items (bits_of c.args.literal.now) c.new-bits.ensures.items (ap bits_of c.in-Ext.is)

pub returns-in-String : goal.returns-in-String
unfolding bits_of
returns-in-String c = nothing_stands c.args.self.now.nodes c.new-bits.result.items (bits_of c.args.literal.now) c.new-bits.ensures.items (ap bits_of c.in-String.is)
