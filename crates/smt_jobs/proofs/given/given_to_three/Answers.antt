use Rattle.std.proofs.Common.{sym, refl}
use Rattle.law_terms.specs.Plain.{BoolType}
use Rattle.law_terms.specs.Types.{type_of}
use Rattle.smt_term.specs.View.{plain_op}
use Rattle.smt_jobs.proofs.Giving.{choice_given, choice_no_function, types_same}
use Rattle.smt_jobs.proofs.Looking.{turned}
use Rattle.smt_jobs.proofs.Plainly.{choice_untaken, first_differs, no_choice, others_differ, types_differ}
use Rattle.smt_jobs.proofs.given.given_to_three.Goals.{else-is_choice-via-then-is_choice+in_ok-type_at+then-eq+in_ok-type_at-2+else-eq-2, else-is_choice-via-then-is_choice+in_ok-type_at+else-eq, else-is_choice-via-else-is_choice}
use Rattle.smt_jobs.proofs.given.given_to_three.Goals as goal

pub returns-then-eq-2-clause-given : goal.returns-then-eq-2-clause-given
returns-then-eq-2-clause-given c g t u h k l m = (
  type_of t,
  choice_given (plain_op c.args.op.now) (sym c.if-is_choice.ensures) (type_of g) (type_of t) (type_of u)
      (types_same c.args.nodes.now c.in_ok-type_at.field-0 c.args.truth (type_of g) BoolType (sym c.if-eq.ensures) (c.in_ok-type_at.ensures.found g k) h)
      (sym (types_same c.args.nodes.now c.in_ok-type_at-2.field-0 c.in_ok-own.own (type_of u) (type_of t) (sym c.if-eq-2.ensures) (c.in_ok-type_at-2.ensures.found u m) (c.in_ok-own.ensures.found t l))),
  c.in_ok-own.ensures.found t l,
)

pub returns-then-eq-2-clause-no_function : goal.returns-then-eq-2-clause-no_function
returns-then-eq-2-clause-no_function c = choice_no_function (plain_op c.args.op.now) (sym c.if-is_choice.ensures)

pub returns-else-is_choice-clause-none : goal.returns-else-is_choice-clause-none
returns-else-is_choice-clause-none c g t u h k l m = elim c.else-is_choice.branch [
  | else-is_choice-via-then-is_choice+in_ok-type_at+then-eq+in_ok-type_at-2+else-eq-2 w ↦
      choice_untaken (plain_op c.args.op.now) g t u
      (others_differ (type_of g) (type_of t) (type_of u) (types_differ c.args.nodes.now c.in_ok-own.own w.in_ok-type_at-2.field-0 (type_of t) (type_of u) (turned _ _ _ refl (sym w.if-eq-2.ensures)) (c.in_ok-own.ensures.found t l) (w.in_ok-type_at-2.ensures.found u m)))
  | else-is_choice-via-then-is_choice+in_ok-type_at+else-eq w ↦
      choice_untaken (plain_op c.args.op.now) g t u
      (first_differs (type_of g) (type_of t) (type_of u) (types_differ c.args.nodes.now w.in_ok-type_at.field-0 c.args.truth (type_of g) BoolType (sym w.if-eq.ensures) (w.in_ok-type_at.ensures.found g k) h))
  | else-is_choice-via-else-is_choice w ↦ no_choice (plain_op c.args.op.now) g t u (sym w.if-is_choice.ensures)
]
