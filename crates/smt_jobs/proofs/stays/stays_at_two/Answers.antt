use Rattle.std.proofs.Common.{refl, sym, ◌∙◌}
use Rattle.std.proofs.lemmas.Bool.{not-true}
use Rattle.smt_term.specs.View.{plain_op}
use Rattle.smt_jobs.proofs.Folding.{stays_connective, stays_equality, stays_on_bits}
use Rattle.smt_jobs.proofs.Plainly.{one_open}
use Rattle.smt_jobs.proofs.stays.stays_at_two.Goals as goal

pub returns-then-are_apart-clause-stays : goal.returns-then-are_apart-clause-stays
returns-then-are_apart-clause-stays c t u h k l = stays_connective t u (c.if-are_apart.ensures.apart t u h k refl) (plain_op c.args.op.now) (sym c.if-is_connective.ensures) (c.are_opposites.ensures.none t u h k (not-true _ l))

pub returns-then-are_apart-2-clause-stays : goal.returns-then-are_apart-2-clause-stays
returns-then-are_apart-2-clause-stays c t u h k l = stays_equality (plain_op c.args.op.now) (sym c.if-is_equality.ensures) t u (c.if-are_apart-2.ensures.apart t u h k refl) (sym (c.is_one_open.ensures t u h k) ∙ l)

pub returns-then-is_on_bits-clause-stays : goal.returns-then-is_on_bits-clause-stays
returns-then-is_on_bits-clause-stays c t u h k l = stays_on_bits (plain_op c.args.op.now) (sym c.if-is_on_bits.ensures) t u (sym (c.is_one_open-then-is_on_bits.ensures t u h k) ∙ l)

pub returns-then-are_apart-2-clause-plain : goal.returns-then-are_apart-2-clause-plain
returns-then-are_apart-2-clause-plain c t u h k o p q differ = c.is_one_open.ensures t u h k ∙ one_open t u p

pub returns-then-is_on_bits-clause-plain : goal.returns-then-is_on_bits-clause-plain
returns-then-is_on_bits-clause-plain c t u h k o p q differ = c.is_one_open-then-is_on_bits.ensures t u h k ∙ one_open t u p
