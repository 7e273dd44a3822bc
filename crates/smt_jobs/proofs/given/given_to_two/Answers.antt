use Rattle.std.proofs.Common.{◌≡◌, false, sym, ◌∙◌, [], ◌∷◌}
use Rattle.std.proofs.lemmas.Bool.{not-true}
use Rattle.law_terms.specs.Plain.{BoolType}
use Rattle.law_terms.specs.Types.{type_of}
use Rattle.smt_jobs.specs.Applied.{IsGiven, takes}
use Rattle.smt_term.specs.View.{plain_op}
use Rattle.smt_jobs.proofs.Giving.{bits_given, bits_no_function, equality_given, equality_no_function, some_given, test_given, test_no_function, types_not_apart}
use Rattle.smt_jobs.proofs.Plainly.{connective_untaken, none_given, types_differ, unequal_types}
use Rattle.smt_jobs.proofs.given.given_to_two.Goals as goal

pub returns-then-is_equality-clause-given : goal.returns-then-is_equality-clause-given
returns-then-is_equality-clause-given c t u h k l =
    (_, equality_given (plain_op c.args.op.now) (sym c.if-is_equality.ensures) (type_of t) (type_of u) (types_not_apart c.args.nodes.now c.in_ok-own.own c.in_ok-type_at.field-0 (type_of t) (type_of u) c.if-ne.ensures (c.in_ok-own.ensures.found t k) (c.in_ok-type_at.ensures.found u l)), h)

pub returns-then-is_equality-clause-no_function : goal.returns-then-is_equality-clause-no_function
returns-then-is_equality-clause-no_function c = equality_no_function (plain_op c.args.op.now) (sym c.if-is_equality.ensures)

pub returns-then-is_bits_operator-clause-given : goal.returns-then-is_bits_operator-clause-given
returns-then-is_bits_operator-clause-given c t u h k l =
    let same = types_not_apart c.args.nodes.now c.in_ok-own.own c.in_ok-type_at.field-0 (type_of t) (type_of u) c.if-ne.ensures (c.in_ok-own.ensures.found t k) (c.in_ok-type_at.ensures.found u l) in
    some_given c.is_bits_type.result c.in_ok-own.own (IsGiven c.args.nodes.now (plain_op c.args.op.now) (t ∷ u ∷ [])) _ c.then_some-then-is_bits_operator.ensures
    (λ b. (type_of t, bits_given (plain_op c.args.op.now) (sym c.if-is_bits_operator.ensures) (type_of t) (type_of u) (sym (c.is_bits_type.ensures (type_of t) (c.in_ok-own.ensures.found t k)) ∙ b) same, c.in_ok-own.ensures.found t k))

pub returns-then-is_bits_operator-clause-no_function : goal.returns-then-is_bits_operator-clause-no_function
returns-then-is_bits_operator-clause-no_function c =
    some_given c.is_bits_type.result c.in_ok-own.own _ _ c.then_some-then-is_bits_operator.ensures (λ b. bits_no_function (plain_op c.args.op.now) (sym c.if-is_bits_operator.ensures))

pub returns-then-is_bits_test-clause-given : goal.returns-then-is_bits_test-clause-given
returns-then-is_bits_test-clause-given c t u h k l =
    let same = types_not_apart c.args.nodes.now c.in_ok-own.own c.in_ok-type_at.field-0 (type_of t) (type_of u) c.if-ne.ensures (c.in_ok-own.ensures.found t k) (c.in_ok-type_at.ensures.found u l) in
    some_given c.is_bits_type-then-is_bits_test.result c.args.truth (IsGiven c.args.nodes.now (plain_op c.args.op.now) (t ∷ u ∷ [])) _ c.then_some-then-is_bits_test.ensures
    (λ b. (_, test_given (plain_op c.args.op.now) (sym c.if-is_bits_test.ensures) (type_of t) (type_of u) (sym (c.is_bits_type-then-is_bits_test.ensures (type_of t) (c.in_ok-own.ensures.found t k)) ∙ b) same, h))

pub returns-then-is_bits_test-clause-no_function : goal.returns-then-is_bits_test-clause-no_function
returns-then-is_bits_test-clause-no_function c =
    some_given c.is_bits_type-then-is_bits_test.result c.args.truth _ _ c.then_some-then-is_bits_test.ensures (λ b. test_no_function (plain_op c.args.op.now) (sym c.if-is_bits_test.ensures))

pub returns-then-ne-clause-none : goal.returns-then-ne-clause-none
returns-then-ne-clause-none c t u h k l =
    unequal_types (plain_op c.args.op.now) t u (types_differ c.args.nodes.now c.in_ok-own.own c.in_ok-type_at.field-0 (type_of t) (type_of u) (not-true _ (sym c.if-ne.ensures)) (c.in_ok-own.ensures.found t k) (c.in_ok-type_at.ensures.found u l))

pub returns-then-is_connective-clause-none : goal.returns-then-is_connective-clause-none
returns-then-is_connective-clause-none c t u h k l =
    none_given c.eq.result c.args.truth (takes (plain_op c.args.op.now) (t ∷ u ∷ []) ≡ false) c.then_some.result c.then_some.ensures
    (λ b. connective_untaken (plain_op c.args.op.now) (sym c.if-is_connective.ensures) t u (types_differ c.args.nodes.now c.in_ok-own.own c.args.truth (type_of t) BoolType (sym c.eq.ensures ∙ b) (c.in_ok-own.ensures.found t k) h))
