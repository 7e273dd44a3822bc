use Rattle.std.proofs.Common.{sym, ap, not, subst, ◌∙◌, ◌∷◌, []}
use Rattle.std.proofs.lemmas.Bool.{not-true}
use Rattle.smt_jobs.specs.Applied.{Stays}
use Rattle.smt_term.specs.View.{plain_op}
use Rattle.smt_jobs.proofs.Folding.{stays_bvneg, stays_bvnego, stays_not}
use Rattle.smt_jobs.proofs.Plainly.{plain_no_truth}
use Rattle.smt_jobs.proofs.stays.stays_at_one.Goals as goal

pub returns-then-not-is_truth-clause-stays : goal.returns-then-not-is_truth-clause-stays
returns-then-not-is_truth-clause-stays c t h k = subst (λ o. Stays (plain_op o) (t ∷ [])) (sym c.in-Not.is) (stays_not t (sym (c.if-not-is_truth.ensures t h)) (sym (c.is_negation.ensures t h) ∙ not-true _ k))

pub returns-then-is_open-clause-stays : goal.returns-then-is_open-clause-stays
returns-then-is_open-clause-stays c t h k = subst (λ o. Stays (plain_op o) (t ∷ [])) (sym c.in-Bvneg.is) (stays_bvneg t (sym (c.if-is_open.ensures t h)) (sym (c.is_bits_negation.ensures t h) ∙ not-true _ k))

pub returns-in-Bvnego-clause-stays : goal.returns-in-Bvnego-clause-stays
returns-in-Bvnego-clause-stays c t h k = subst (λ o. Stays (plain_op o) (t ∷ [])) (sym c.in-Bvnego.is) (stays_bvnego t (sym (c.is_open-in-Bvnego.ensures t h) ∙ k))

pub returns-else-not-is_truth-clause-plain : goal.returns-else-not-is_truth-clause-plain
returns-else-not-is_truth-clause-plain c t h k p = ap not (c.is_truth.ensures t h ∙ plain_no_truth t p)
