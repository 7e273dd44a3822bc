use Rattle.std.proofs.Common.{[], codes, refl}
use Rattle.law_jobs.specs.Jobs.{declared_first, job_of, section_of}
use Rattle.law_jobs.specs.Steps.{nothing_more}
use Rattle.smt_job_terms.specs.DeclarationView.{stated_in}
use Rattle.smt_jobs.specs.Walk.{first_by, section_in}
use Rattle.smt_jobs.proofs.Walking.{IsSectioned, ended, gives_passes, job_read, no_job, no_steps, not_declared, not_ended, whole_begins, with_steps, without_steps}
use Rattle.smt_jobs.proofs.walk.walk_sections.Goals as goal

pub returns-clause-read : goal.returns-clause-read
returns-clause-read g c = job_read c.args.src.now c.in_ok-inside.inside.now c.in_ok-declared.rest.now c.in_ok-rest.rest.now c.in_ok-inside.ensures.read c.in_ok-declared.ensures.read c.in_ok-rest.ensures.read c.in_ok-finish.ensures.read

pub returns-in_err-inside-clause-stated : goal.returns-in_err-inside-clause-stated
returns-in_err-inside-clause-stated g c e read =
    gives_passes _ c.from_residual.result c.in_err-inside.field-0.0 (job_of e) (section_of (codes "job") e) c.from_residual.ensures.1 (c.in_err-inside.ensures.stated e [] (whole_begins c.args.src.now e read)) (no_job e)

pub returns-in_err-declared-clause-stated : goal.returns-in_err-declared-clause-stated
returns-in_err-declared-clause-stated g c e read =
    let job = c.in_ok-inside.ensures.stated e [] (whole_begins c.args.src.now e read) in
    gives_passes _ c.from_residual-in_err-declared.result c.in_err-declared.field-0.0 (job_of e) (declared_first job.0) c.from_residual-in_err-declared.ensures.1 (c.in_err-declared.ensures.stated job.0 [] job.2) (λ f h. not_declared e job.0 f job.1 h)

pub returns-in_err-rest-clause-stated : goal.returns-in_err-rest-clause-stated
returns-in_err-rest-clause-stated g c e read =
    let job = c.in_ok-inside.ensures.stated e [] (whole_begins c.args.src.now e read) in
    let first = c.in_ok-declared.ensures.stated job.0 [] job.2 in
    let ds = stated_in c.in_ok-declared.declared in
    let s : IsSectioned e ds first.0.1 = record { inside = job.0; is_job = job.1; p = first.0; declares = first.1; declared = first.2.0; others_are = refl } in
    gives_passes _ c.from_residual-in_err-rest.result c.in_err-rest.field-0.0 (job_of e) (first_by (section_in ds) first.0.1) c.from_residual-in_err-rest.ensures.1
    (c.in_err-rest.ensures.stated ds c.in_ok-declared.ensures.declares first.0.1 [] first.2.1)
    (λ f none. without_steps e ds first.0.1 s f (no_steps ds first.0.1 f none))

pub returns-in_err-finish-clause-stated : goal.returns-in_err-finish-clause-stated
returns-in_err-finish-clause-stated g c e read =
    let job = c.in_ok-inside.ensures.stated e [] (whole_begins c.args.src.now e read) in
    let first = c.in_ok-declared.ensures.stated job.0 [] job.2 in
    let ds = stated_in c.in_ok-declared.declared in
    let s : IsSectioned e ds first.0.1 = record { inside = job.0; is_job = job.1; p = first.0; declares = first.1; declared = first.2.0; others_are = refl } in
    let taken = c.in_ok-rest.ensures.stated ds c.in_ok-declared.ensures.declares first.0.1 [] first.2.1 in
    gives_passes _ c.from_residual-in_err-finish.result c.in_err-finish.field-0.0 (job_of e) (nothing_more taken.0.1) c.from_residual-in_err-finish.ensures.1 (c.in_err-finish.ensures.stated taken.0.1 taken.2.2)
    (λ f some. without_steps e ds first.0.1 s f (not_ended ds first.0.1 taken.0 taken.1 f some))

pub returns-clause-stated : goal.returns-clause-stated
returns-clause-stated g c e read =
    let job = c.in_ok-inside.ensures.stated e [] (whole_begins c.args.src.now e read) in
    let first = c.in_ok-declared.ensures.stated job.0 [] job.2 in
    let ds = stated_in c.in_ok-declared.declared in
    let s : IsSectioned e ds first.0.1 = record { inside = job.0; is_job = job.1; p = first.0; declares = first.1; declared = first.2.0; others_are = refl } in
    let taken = c.in_ok-rest.ensures.stated ds c.in_ok-declared.ensures.declares first.0.1 [] first.2.1 in (
      (taken.0.0.0, record { enums = ds.enums; variables = ds.variables; functions = ds.functions; steps = taken.0.0.1 }),
      with_steps e ds first.0.1 s taken.0.0 (ended ds first.0.1 taken.0 taken.1 (c.in_ok-finish.ensures.stated taken.0.1 taken.2.2)),
      record {
        enums = refl;
        variables = refl;
        functions = refl;
        by_section = taken.2.0;
        takes = taken.2.1;
      },
    )
