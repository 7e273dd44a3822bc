use Rattle.std.proofs.Common.{refl, sym, ◌∙◌}
use Rattle.smt_term.specs.View.{plain_op}
use Rattle.std.proofs.lemmas.Bool.{false≢true}
use Rattle.smt_jobs.proofs.Folding.{stays_choice}
use Rattle.smt_jobs.proofs.Plainly.{one_open, plain_no_truth}
use Rattle.smt_jobs.proofs.stays.stays_at_three.Goals as goal

pub returns-then-are_apart-clause-stays : goal.returns-then-are_apart-clause-stays
returns-then-are_apart-clause-stays c g t u h k l m =
    stays_choice (plain_op c.args.op.now) (sym c.if-not-is_choice.ensures) g t u (sym (c.if-is_truth.ensures g h)) (c.if-are_apart.ensures.apart t u k l refl) (sym (c.is_one_open.ensures t u k l) ∙ m)

pub returns-then-is_truth-clause-plain : goal.returns-then-is_truth-clause-plain
returns-then-is_truth-clause-plain c g t u h k l o p q r differ = absurd (false≢true (sym (plain_no_truth g p) ∙ sym (c.if-is_truth.ensures g h)))

pub returns-then-are_apart-clause-plain : goal.returns-then-are_apart-clause-plain
returns-then-are_apart-clause-plain c g t u h k l o p q r differ = c.is_one_open.ensures t u k l ∙ one_open t u q
