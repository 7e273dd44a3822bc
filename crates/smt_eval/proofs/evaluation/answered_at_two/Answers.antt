use Rattle.std.proofs.Common.{[], ◌∷◌, option_map, sym, ap, subst}
use Rattle.law_numbers.specs.BitOperators.{BvlshrOp, BvshlOp}
use Rattle.law_terms.specs.Plain.{PlainOp}
use Rattle.smt_term.specs.View.{plain_op, plain_term}
use Rattle.smt_eval.specs.Evaluable.{Answers}
use Rattle.smt_eval.proofs.evaluation.answered_at_two.Goals as goal

pub returns-in-Bvshl : goal.returns-in-Bvshl
returns-in-Bvshl c a =
    subst (λ (o : PlainOp). Answers a o (plain_term c.args.left.now ∷ plain_term c.args.right.now ∷ []) (option_map plain_term c.far_shift.result)) (sym (ap plain_op c.in-Bvshl.is)) (c.far_shift.ensures a BvshlOp tt)

pub returns-in-Bvlshr : goal.returns-in-Bvlshr
returns-in-Bvlshr c a =
    subst (λ (o : PlainOp). Answers a o (plain_term c.args.left.now ∷ plain_term c.args.right.now ∷ []) (option_map plain_term c.far_shift-in-Bvlshr.result)) (sym (ap plain_op c.in-Bvlshr.is)) (c.far_shift-in-Bvlshr.ensures a BvlshrOp tt)
