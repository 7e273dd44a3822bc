use Rattle.std.proofs.Common.{Some, sym, subst, ap, ◌∙◌}
use Rattle.std.specs.Prelude.{IfSome}
use Rattle.law_terms.specs.Nodes.{TypeMeaning}
use Rattle.smt_term.specs.View.{plain_type-Bool}
use Rattle.smt_jobs.specs.Direct.{IsNumbered, ReadsOf}
use Rattle.smt_jobs.proofs.DirectReads.{condition_there}
use Rattle.smt_jobs.proofs.direct.condition_at.Goals as goal

pub returns-in-len1-up-clause-read : goal.returns-in-len1-up-clause-read
returns-in-len1-up-clause-read c =
    condition_there c.args.declared.now c.term_at.new.nodes c.intern_subject.new.self c.in-Some.id c.in_ok-truth.truth c.parts.result.now _ c.args.src.now c.in-Some.rest.now c.args.depth
    (subst (λ o. IfSome o (λ x. ReadsOf (IsNumbered c.args.declared.now c.term_at.new.nodes x.0) c.args.src.now c.args.depth x.1.now)) c.in-Some.is c.in_ok-id.ensures.read)
    c.intern_subject.ensures.kept (c.in_ok-truth.ensures.meaning ∙ ap (λ t. Some (TypeMeaning t)) plain_type-Bool) c.parts.ensures.found (sym c.if-eq.ensures)
