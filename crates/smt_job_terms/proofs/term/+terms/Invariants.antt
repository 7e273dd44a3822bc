use Rattle.std.proofs.Common.{drop}
use Rattle.law_jobs.specs.Declarations.{Declared}
use Rattle.smt_job_terms.specs.DeclarationView.{HasDeclared}
use Rattle.smt_job_terms.proofs.TermsRead.{ReadingSeconds, ReadingTerms}
use Rattle.smt_job_terms.proofs.term.+terms.Given as goal

abbrev pub invariant-terms_from-loop-item : goal.invariant-terms_from-loop-item
invariant-terms_from-loop-item l = (ds : Declared) → HasDeclared l.declared ds → ReadingTerms ds l.terms.items (drop l.item-index l.others) l.others

abbrev pub invariant-seconds_from-loop-item : goal.invariant-seconds_from-loop-item
invariant-seconds_from-loop-item l = (ds : Declared) → HasDeclared l.declared ds → ReadingSeconds ds l.terms.items (drop l.item-index l.items) l.items
