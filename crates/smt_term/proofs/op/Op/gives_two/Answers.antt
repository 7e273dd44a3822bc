use Rattle.std.proofs.Common.{◌∙◌, sym}
use Rattle.law_terms.specs.Types.{type_of}
use Rattle.smt_term.specs.View.{plain_op, plain_term, plain_type}
use Rattle.smt_term.proofs.TypedArguments.{bits_given, test_given, truth_given}
use Rattle.smt_term.proofs.op.Op.gives_two.Goals as goal

pub returns-in-Bits : goal.returns-in-Bits
returns-in-Bits c given =
    c.is_of_type.ensures.same ∙ bits_given (plain_op c.args.self.now) (type_of (plain_term c.args.a.now)) (type_of (plain_term c.args.b.now)) (plain_type c.args.ty.now) (sym c.class.ensures ∙ c.in-Bits.is) given

pub returns-in-Test : goal.returns-in-Test
unfolding plain_type
returns-in-Test c given =
    c.is_same_as.ensures.same ∙ test_given (plain_op c.args.self.now) (type_of (plain_term c.args.a.now)) (type_of (plain_term c.args.b.now)) (plain_type c.args.ty.now) (sym c.class.ensures ∙ c.in-Test.is) given

pub returns-in_default : goal.returns-in_default
unfolding plain_type
returns-in_default c given =
    c.is_same_as-in_default.ensures.same ∙ truth_given c.args.self.now (type_of (plain_term c.args.a.now)) (type_of (plain_term c.args.b.now)) (plain_type c.args.ty.now) (sym c.class.ensures ∙ c.in-Other.is) c.in_default.not-SetInter given
