use Rattle.std.proofs.Common.{drop}
use Rattle.law_jobs.specs.Declarations.{Declared}
use Rattle.smt_job_terms.specs.DeclarationView.{HasDeclared}
use Rattle.smt_jobs.proofs.ExpressedJobs.{ReadingConditions}
use Rattle.smt_jobs.proofs.expressed.conditions_from.Given as goal

abbrev pub invariant-loop-item : goal.invariant-loop-item
invariant-loop-item l = (ds : Declared) → HasDeclared l.declared ds → ReadingConditions ds l.terms.items (drop l.item-index l.items) l.items
