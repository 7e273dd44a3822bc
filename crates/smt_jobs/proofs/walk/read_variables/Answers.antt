use Rattle.std.proofs.Common.{codes, refl}
use Rattle.law_jobs.specs.Declarations.{variables_of}
use Rattle.smt_job_terms.specs.DeclarationView.{declarations}
use Rattle.smt_job_terms.specs.declared.declaration.Variables.{Variables}
use Rattle.smt_sexpr.specs.View.{plain}
use Rattle.law_jobs.specs.Jobs.{section_first, section_of}
use Rattle.smt_jobs.specs.Walk.{StandsFirst, first_and_others}
use Rattle.smt_jobs.proofs.Walking.{gives_passes, no_section, not_headed, not_stated, stated_there}
use Rattle.smt_jobs.proofs.walk.read_variables.Goals as goal

pub returns-clause-read : goal.returns-clause-read
returns-clause-read c = (plain c.in_ok-section.section, c.in_ok-section.ensures.read, c.in_ok-section.ensures.shallow)

pub returns-in_err-section-clause-stated : goal.returns-in_err-section-clause-stated
returns-in_err-section-clause-stated c es end begins =
    gives_passes (StandsFirst (λ (v : Variables). declarations v.vars) end) c.from_residual.result c.in_err-section.field-0.0 (section_first (codes "vars") variables_of es) (first_and_others es) c.from_residual.ensures.1 (c.in_err-section.ensures.stated es end begins)
    (no_section (codes "vars") variables_of es)

pub returns-in_err-section_of-clause-stated : goal.returns-in_err-section_of-clause-stated
returns-in_err-section_of-clause-stated c es end begins =
    let first = c.in_ok-section.ensures.stated es end begins in
    gives_passes (StandsFirst (λ (v : Variables). declarations v.vars) end) c.from_residual-in_err-section_of.result c.in_err-section_of.field-0.0 (section_first (codes "vars") variables_of es) (section_of (codes "vars") (plain c.in_ok-section.section)) c.from_residual-in_err-section_of.ensures.1 c.in_err-section_of.ensures
    (not_headed (codes "vars") variables_of es first.0 first.1 (plain c.in_ok-section.section) first.2.0)

pub returns-in_err-variables-clause-stated : goal.returns-in_err-variables-clause-stated
returns-in_err-variables-clause-stated c es end begins =
    let first = c.in_ok-section.ensures.stated es end begins in
    gives_passes (StandsFirst (λ (v : Variables). declarations v.vars) end) c.from_residual-in_err-variables.result c.in_err-variables.field-0.0 (section_first (codes "vars") variables_of es) _ c.from_residual-in_err-variables.ensures.1 c.in_err-variables.ensures.stated
    (not_stated (codes "vars") variables_of es first.0 first.1 (plain c.in_ok-section.section) first.2.0 _ c.in_ok-section_of.ensures)

pub returns-clause-stated : goal.returns-clause-stated
returns-clause-stated c es end begins =
    let first = c.in_ok-section.ensures.stated es end begins in
    let inner = c.in_ok-section_of.ensures in (
      ((λ (v : Variables). declarations v.vars) c.in_ok-variables.variables, first.0.1),
      stated_there (codes "vars") variables_of es first.0 first.1 (plain c.in_ok-section.section) first.2.0 _ inner ((λ (v : Variables). declarations v.vars) c.in_ok-variables.variables) c.in_ok-variables.ensures.stated,
      (refl, first.2.1),
    )
