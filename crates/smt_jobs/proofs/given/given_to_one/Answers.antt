use Rattle.std.proofs.Common.{◌≡◌, true, false, sym, subst, ap, ◌∙◌, [], ◌∷◌}
use Rattle.law_terms.specs.Plain.{BoolType}
use Rattle.law_terms.specs.Types.{result_type, type_of}
use Rattle.smt_jobs.specs.Applied.{IsGiven, takes}
use Rattle.smt_term.specs.View.{plain_op}
use Rattle.smt_jobs.proofs.Giving.{bvneg_given, bvnego_given, some_given}
use Rattle.smt_jobs.proofs.Plainly.{none_given, types_differ, untaken}
use Rattle.smt_jobs.proofs.given.given_to_one.Goals as goal

pub returns-in-Bvneg-clause-given : goal.returns-in-Bvneg-clause-given
returns-in-Bvneg-clause-given c t h k =
    some_given c.is_bits_type.result c.in_ok-own.own (IsGiven c.args.nodes.now (plain_op c.args.op.now) (t ∷ [])) _ c.then_some-in-Bvneg.ensures
    (λ b. (type_of t, ap (λ o. result_type (plain_op o) (type_of t ∷ [])) c.in-Bvneg.is ∙ bvneg_given (type_of t) (sym (c.is_bits_type.ensures (type_of t) (c.in_ok-own.ensures.found t k)) ∙ b), c.in_ok-own.ensures.found t k))

pub returns-in-Bvnego-clause-given : goal.returns-in-Bvnego-clause-given
returns-in-Bvnego-clause-given c t h k =
    some_given c.is_bits_type-in-Bvnego.result c.args.truth (IsGiven c.args.nodes.now (plain_op c.args.op.now) (t ∷ [])) _ c.then_some-in-Bvnego.ensures
    (λ b. (_, ap (λ o. result_type (plain_op o) (type_of t ∷ [])) c.in-Bvnego.is ∙ bvnego_given (type_of t) (sym (c.is_bits_type-in-Bvnego.ensures (type_of t) (c.in_ok-own.ensures.found t k)) ∙ b), h))

pub returns-in-Not-clause-none : goal.returns-in-Not-clause-none
returns-in-Not-clause-none c t h k =
    none_given c.eq.result c.args.truth (takes (plain_op c.args.op.now) (t ∷ []) ≡ false) c.then_some.result c.then_some.ensures
    (λ b. subst (λ o. takes (plain_op o) (t ∷ []) ≡ false) (sym c.in-Not.is) (untaken true _ BoolType (types_differ c.args.nodes.now c.in_ok-own.own c.args.truth (type_of t) BoolType (sym c.eq.ensures ∙ b) (c.in_ok-own.ensures.found t k) h)))
