use Rattle.std.proofs.Common.{codes}
use Rattle.smt_sexpr.specs.View.{plain_list}
use Rattle.smt_job_terms.proofs.Reading.{passes_on}
use Rattle.law_jobs.specs.Declarations.{functions_of, variables_of}
use Rattle.law_jobs.specs.Enums.{enums_in}
use Rattle.smt_jobs.proofs.ExpressedJobs.{section_fault, section_missing, section_stated}
use Rattle.smt_jobs.proofs.Walking.{all_declared, functions_refused, variables_refused}
use Rattle.smt_jobs.proofs.expressed.declarations_from.Goals as goal

pub returns-in_err-section-2-clause-stated : goal.returns-in_err-section-2-clause-stated
returns-in_err-section-2-clause-stated c =
    let es = plain_list c.args.items.now in
    let enums = section_stated (codes "enums") enums_in es _ _ c.in_ok-section.ensures _ c.in_ok-enums.ensures in
    passes_on _ c.from_residual-in_err-section-2.result c.in_err-section-2.field-0.0 _ _ c.from_residual-in_err-section-2.ensures.1 c.in_err-section-2.ensures
    (λ f h. variables_refused es _ enums f (section_missing (codes "vars") variables_of (plain_list c.in_ok-section.items.now) f h))

pub returns-in_err-variables-clause-stated : goal.returns-in_err-variables-clause-stated
returns-in_err-variables-clause-stated c =
    let es = plain_list c.args.items.now in
    let enums = section_stated (codes "enums") enums_in es _ _ c.in_ok-section.ensures _ c.in_ok-enums.ensures in
    passes_on _ c.from_residual-in_err-variables.result c.in_err-variables.field-0.0 _ _ c.from_residual-in_err-variables.ensures.1 c.in_err-variables.ensures.stated
    (λ f h. variables_refused es _ enums f (section_fault (codes "vars") variables_of (plain_list c.in_ok-section.items.now) _ _ c.in_ok-section-2.ensures f h))

pub returns-in_err-section-3-clause-stated : goal.returns-in_err-section-3-clause-stated
returns-in_err-section-3-clause-stated c =
    let es = plain_list c.args.items.now in
    let enums = section_stated (codes "enums") enums_in es _ _ c.in_ok-section.ensures _ c.in_ok-enums.ensures in
    let variables = section_stated (codes "vars") variables_of (plain_list c.in_ok-section.items.now) _ _ c.in_ok-section-2.ensures _ c.in_ok-variables.ensures.stated in
    passes_on _ c.from_residual-in_err-section-3.result c.in_err-section-3.field-0.0 _ _ c.from_residual-in_err-section-3.ensures.1 c.in_err-section-3.ensures
    (λ f h. functions_refused es _ enums _ variables f (section_missing (codes "funs") functions_of (plain_list c.in_ok-section-2.items.now) f h))

pub returns-in_err-functions-clause-stated : goal.returns-in_err-functions-clause-stated
returns-in_err-functions-clause-stated c =
    let es = plain_list c.args.items.now in
    let enums = section_stated (codes "enums") enums_in es _ _ c.in_ok-section.ensures _ c.in_ok-enums.ensures in
    let variables = section_stated (codes "vars") variables_of (plain_list c.in_ok-section.items.now) _ _ c.in_ok-section-2.ensures _ c.in_ok-variables.ensures.stated in
    passes_on _ c.from_residual-in_err-functions.result c.in_err-functions.field-0.0 _ _ c.from_residual-in_err-functions.ensures.1 c.in_err-functions.ensures.stated
    (λ f h. functions_refused es _ enums _ variables f (section_fault (codes "funs") functions_of (plain_list c.in_ok-section-2.items.now) _ _ c.in_ok-section-3.ensures f h))

pub returns-clause-stated : goal.returns-clause-stated
returns-clause-stated c =
    let es = plain_list c.args.items.now in
    let enums = section_stated (codes "enums") enums_in es _ _ c.in_ok-section.ensures _ c.in_ok-enums.ensures in
    let variables = section_stated (codes "vars") variables_of (plain_list c.in_ok-section.items.now) _ _ c.in_ok-section-2.ensures _ c.in_ok-variables.ensures.stated in
    all_declared es _ enums _ variables _ (section_stated (codes "funs") functions_of (plain_list c.in_ok-section-2.items.now) _ _ c.in_ok-section-3.ensures _ c.in_ok-functions.ensures.stated)
